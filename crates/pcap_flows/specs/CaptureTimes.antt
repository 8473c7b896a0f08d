-- The steps of a capture's time from the latest time so far to that of the next UDP packet.
use Rattle.std.specs.Prelude.{ℕ, ◌+◌, ◌-◌, ◌*◌, ◌/◌, Bool, true, false, Option, Some, None, unwrap_or, max, nat_lt, if◌then◌else◌}
use Rattle.pcap_flows.specs.declared.capture_times.TimeStep.{TimeStep}
use Rattle.pcap_flows.specs.declared.capture_times.TimeJump.{TimeJump}
use Rattle.pcap_flows.specs.declared.capture_times.CaptureTimes.{CaptureTimes}
use Rattle.pcap_flows.specs.ReceivedNumbers.{one_more}

-- no step
abbrev pub no_step : TimeStep
no_step = record { packet = 0; nanoseconds = 0 }

-- no packet yet
abbrev pub times_begun : CaptureTimes
times_begun = record { packets = 0; latest = None; ahead = no_step; back = no_step }

-- the longer of two steps; the earlier one if they are as long
abbrev pub longer : TimeStep → TimeStep → TimeStep
longer step next = if nat_lt step.nanoseconds next.nanoseconds then next else step

-- the step of a packet, counted from 0, from one time to a later one
abbrev pub step_to : ℕ → ℕ → ℕ → TimeStep
step_to packet from time = record { packet = packet; nanoseconds = time - from }

-- the times after a packet with a time, if `latest` is the latest time so far
abbrev pub times_at : CaptureTimes → ℕ → ℕ → CaptureTimes
times_at t latest time = record {
  packets = one_more t.packets;
  latest = Some (max latest time);
  ahead = longer t.ahead (step_to t.packets latest time);
  back = longer t.back (step_to t.packets time latest);
}

-- the times after one more packet; a packet without a time makes no step
unfoldable pub times_with : CaptureTimes → Option ℕ → CaptureTimes
times_with t None = record { packets = one_more t.packets; latest = t.latest; ahead = t.ahead; back = t.back }
times_with t (Some time) = times_at t (unwrap_or t.latest time) time

-- nanoseconds in seconds, rounded up
abbrev pub seconds_in : ℕ → ℕ
seconds_in nanoseconds = (nanoseconds + 999_999_999) / 1_000_000_000

abbrev pub jump_by : TimeStep → Bool → TimeJump
jump_by step is_back = record { packet = step.packet; seconds = seconds_in step.nanoseconds; is_back = is_back }

-- the longest step back, if it is longer than a second, or else the longest step ahead, if it is longer than `gap`
-- seconds
unfoldable pub jump_of : CaptureTimes → ℕ → Option TimeJump
jump_of t gap =
    if nat_lt 1 (seconds_in t.back.nanoseconds)
    then Some (jump_by t.back true)
    else if nat_lt gap (seconds_in t.ahead.nanoseconds)
    then Some (jump_by t.ahead false)
    else None
