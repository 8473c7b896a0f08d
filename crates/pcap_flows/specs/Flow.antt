-- A flow's packets, counted.
use Rattle.std.specs.Prelude.{ℕ, ◌+◌, ◌-◌, ◌%◌, ◌^◌, Bool, true, false, min, max, Option, Some, None, unwrap_or, ◌==◌, not, ◌||◌, if◌then◌else◌}
use Rattle.pcap_flows.specs.declared.packet.FlowPacket.{FlowPacket}
use Rattle.pcap_flows.specs.declared.flow.Lengths.{Lengths}
use Rattle.pcap_flows.specs.declared.flow.Steps.{Steps}
use Rattle.pcap_flows.specs.declared.flow.Flow.{Flow}
use Rattle.pcap_flows.specs.ReceivedNumbers.{NumbersView, numbers_first, numbers_with, numbers_view, one_more, span_of}

pub record FlowView : Type 0 where
  pub packets : ℕ
  pub numbers : NumbersView
  pub lengths : Lengths
  pub steps : Steps

abbrev pub lengths_first : ℕ → Lengths
lengths_first len = record { least = len; greatest = len }

abbrev pub lengths_with : Lengths → ℕ → Lengths
lengths_with l len = record { least = min l.least len; greatest = max l.greatest len }

abbrev pub steps_first : ℕ → ℕ → Steps
steps_first seq ts = record { seq = seq; ts = ts; first = None; same = 0; varies = false }

-- the timestamp step from the last packet to this one
abbrev pub step_of : Steps → ℕ → ℕ
step_of s ts = (2 ^ 32 + ts - s.ts) % 2 ^ 32

-- the step is the first one, or equal to it
abbrev pub is_same_step : Option ℕ → ℕ → Bool
is_same_step None step = true
is_same_step (Some first) step = first == step

unfoldable pub steps_with : Steps → ℕ → ℕ → Steps
steps_with s seq ts =
    if seq == (s.seq + 1) % 2 ^ 16
    then record {
      seq = seq;
      ts = ts;
      first = Some (unwrap_or s.first (step_of s ts));
      same = if is_same_step s.first (step_of s ts) then one_more s.same else s.same;
      varies = s.varies || not (is_same_step s.first (step_of s ts));
    }
    else record { seq = seq; ts = ts; first = s.first; same = s.same; varies = s.varies }

-- a flow of one packet
abbrev pub flow_first : FlowPacket → FlowView
flow_first s = record {
  packets = 1;
  numbers = numbers_first s.seq s.ts;
  lengths = lengths_first s.len;
  steps = steps_first s.seq s.ts;
}

-- the flow after one more packet
abbrev pub flow_with : FlowView → FlowPacket → FlowView
flow_with f s = record {
  packets = one_more f.packets;
  numbers = numbers_with f.numbers s.seq s.ts;
  lengths = lengths_with f.lengths s.len;
  steps = steps_with f.steps s.seq s.ts;
}

-- the numbers from the least to the greatest that did not arrive
abbrev pub lost_of : FlowView → ℕ
lost_of f = span_of f.numbers - (f.packets - f.numbers.repeated)

-- the view of the value in the code
abbrev pub flow_view : Flow → FlowView
flow_view f = record { packets = f.packets; numbers = numbers_view f.numbers; lengths = f.lengths; steps = f.steps }
