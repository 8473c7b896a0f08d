-- The condition of a path, by what came on it in the last whole second.
use Rattle.std.specs.Prelude.{ℕ, ◌-◌, Bool, false, not, ◌&&◌, ◌==◌, nat_lt, ℤ, pos, ◌+ℤ◌, int_le, Option, Some, None, if◌then◌else◌}
use Rattle.status_page.specs.declared.snapshot.CopyCounts.{CopyCounts}
use Rattle.status_page.specs.declared.snapshot.PathCondition.{PathCondition}
use Rattle.status_page.specs.declared.snapshot.PathCondition.TheVariants.{GivenUp, NotJoined, NoDatagrams, Refused, Late, TooEarly, Losing, InTime}
use Rattle.status_page.specs.declared.snapshot.PathState.{PathState}
use Rattle.status_page.specs.declared.snapshot.SocketState.{SocketState}
use Rattle.live_status.specs.Counts.{count_after, in_time_of, is_unchanged_for, sum_in_64_bits}
use Rattle.live_status.specs.declared.reception_watch.count_watch.CountWatch.{CountWatch}
use Rattle.live_status.specs.declared.reception_watch.second_watch.PathTally.{PathTally}
use Rattle.live_status.specs.declared.reception_watch.second_watch.SecondWatch.{SecondWatch}

-- nothing came
abbrev pub no_tally : PathTally
no_tally = record { datagrams = 0; in_time = 0; late = 0; ahead = 0 }

-- the watch of a path on which nothing came by this time
abbrev pub new_second_watch : ℤ → SecondWatch
new_second_watch now = record { from = now; begun = no_tally; last = None; losses = record { count = 0; since = now } }

-- a number that isn't known counts as none
abbrev pub or_zero : Option ℕ → ℕ
or_zero None = 0
or_zero (Some n) = n

-- the datagrams that came to a socket and were not passed on: from unexpected sources, too long, and left out after a
-- hold-up
abbrev pub others_of : Option SocketState → ℕ
others_of None = 0
others_of (Some socket) = sum_in_64_bits (sum_in_64_bits (or_zero socket.unexpected) socket.too_long) socket.held_up

-- what has come on a path
abbrev pub tally_of : PathState → CopyCounts → PathTally
tally_of path copies = record {
  datagrams = sum_in_64_bits path.datagrams (others_of path.socket);
  in_time = in_time_of path.first copies;
  late = copies.late;
  ahead = copies.ahead;
}

-- what came since these earlier numbers
abbrev pub tally_since : PathTally → PathTally → PathTally
tally_since tally earlier = record {
  datagrams = tally.datagrams - earlier.datagrams;
  in_time = tally.in_time - earlier.in_time;
  late = tally.late - earlier.late;
  ahead = tally.ahead - earlier.ahead;
}

-- a second is over once 48000 sampling instants are past: the next one begins then
abbrev pub noted_second : PathTally → ℤ → SecondWatch → SecondWatch
noted_second tally now watch =
    if int_le (watch.from +ℤ pos 48000) now then record watch { from = now; begun = tally; last = Some (tally_since tally watch.begun) } else watch

-- the packets that were lost on a path or came late
abbrev pub losses_of : CopyCounts → ℕ
losses_of copies = sum_in_64_bits copies.lost copies.late

-- the watch, after the state of a path whose copies are counted was noted
abbrev pub watch_after : PathState → ℤ → Option CopyCounts → SecondWatch → SecondWatch
watch_after path now None watch = watch
watch_after path now (Some copies) watch =
    record (noted_second (tally_of path copies) now watch) { losses = count_after (losses_of copies) now watch.losses }

-- a packet was lost, or came late, in the last ten seconds
abbrev pub is_losing : CountWatch → ℤ → Bool
is_losing losses now = not (losses.count == 0) && not (is_unchanged_for 480000 losses now)

-- none of the stream's packets came
abbrev pub is_refused : PathTally → Bool
is_refused second = second.in_time == 0 && second.late == 0 && second.ahead == 0

-- most packets were late, or most were too early
abbrev pub is_late : PathTally → Bool
is_late second = nat_lt (sum_in_64_bits second.in_time second.ahead) second.late

abbrev pub is_too_early : PathTally → Bool
is_too_early second = nat_lt (sum_in_64_bits second.in_time second.late) second.ahead

-- the condition of a path that was not given up, by what came in a second
abbrev pub condition_in : Bool → Bool → PathTally → PathCondition
condition_in unjoined losing second =
    if second.datagrams == 0 then (if unjoined then NotJoined else NoDatagrams)
    else (if is_refused second then Refused
    else (if is_late second then Late
    else (if is_too_early second then TooEarly
    else (if losing then Losing else InTime))))

-- a path was given up because its socket failed again and again
abbrev pub is_given_up : Option SocketState → Bool
is_given_up None = false
is_given_up (Some socket) = socket.has_ended

-- a path is at a group that this machine is known not to have joined
abbrev pub is_unjoined : Option SocketState → Bool
is_unjoined None = false
is_unjoined (Some socket) = socket.is_unjoined

-- the condition of a path by the second before, once the first one is over
abbrev pub judged : Bool → Bool → Option PathTally → Option PathCondition
judged unjoined losing None = None
judged unjoined losing (Some second) = Some (condition_in unjoined losing second)

-- the condition of a path whose copies are counted
abbrev pub known_condition : SecondWatch → ℤ → Option SocketState → Option PathCondition
known_condition watch now socket = if is_given_up socket then Some GivenUp else judged (is_unjoined socket) (is_losing watch.losses now) watch.last

-- the condition of a path, by its watch
abbrev pub condition_at : SecondWatch → ℤ → Option SocketState → Option CopyCounts → Option PathCondition
condition_at watch now socket None = None
condition_at watch now socket (Some copies) = known_condition watch now socket
