-- Worked cases of the condition of a path.
use Rattle.std.specs.Prelude.{◌≡◌, ℕ, Bool, true, false, Some, None, pos, refl}
use Rattle.status_page.specs.declared.snapshot.PathCondition.TheVariants.{GivenUp, NotJoined, NoDatagrams, Refused, Late, TooEarly, Losing, InTime}
use Rattle.status_page.specs.declared.snapshot.SocketState.{SocketState}
use Rattle.live_status.specs.PathSeconds.{condition_in, is_losing, known_condition, no_tally, noted_second, others_of, tally_since}
use Rattle.live_status.specs.declared.reception_watch.second_watch.PathTally.{PathTally}
use Rattle.live_status.specs.declared.reception_watch.second_watch.SecondWatch.{SecondWatch}

-- datagrams, and of these the packets of the stream in time, late, and too early
abbrev second : ℕ → ℕ → ℕ → ℕ → PathTally
second datagrams in_time late ahead = record { datagrams = datagrams; in_time = in_time; late = late; ahead = ahead }

-- a thousand packets, all in time
in_time : condition_in false false (second 1000 1000 0 0) ≡ InTime
in_time = refl

-- none came
silent : condition_in false false (second 0 0 0 0) ≡ NoDatagrams
silent = refl

-- none came to a group that this machine has not joined; if any come, it is no matter who joined it
not_joined : condition_in true true (second 0 0 0 0) ≡ NotJoined
not_joined = refl

joined_elsewhere : condition_in true false (second 1000 1000 0 0) ≡ InTime
joined_elsewhere = refl

-- a thousand datagrams, none of which is of the stream
refused : condition_in false false (second 1000 0 0 0) ≡ Refused
refused = refl

-- all are late; 501 of a thousand are; 500 are not most
all_late : condition_in false true (second 1000 0 1000 0) ≡ Late
all_late = refl

most_late : condition_in false true (second 1000 499 501 0) ≡ Late
most_late = refl

half_late : condition_in false true (second 1000 500 500 0) ≡ Losing
half_late = refl

-- most are too early, next to datagrams of others
most_early : condition_in false false (second 2000 400 0 600) ≡ TooEarly
most_early = refl

-- a loss in the last ten seconds, by packets that were all in time in the last one
losing : condition_in false true (second 1000 1000 0 0) ≡ Losing
losing = refl

-- a count that never rose is no loss; one that rose nine seconds ago is, and ten seconds ago not
never : is_losing (record { count = 0; since = pos 0 }) (pos 0) ≡ false
never = refl

lately : is_losing (record { count = 3; since = pos 48000 }) (pos 480000) ≡ true
lately = refl

long_ago : is_losing (record { count = 3; since = pos 48000 }) (pos 528000) ≡ false
long_ago = refl

-- a watch that began at 0: the numbers of a second count once it is over
abbrev begun : SecondWatch
begun = record { from = pos 0; begun = no_tally; last = None; losses = record { count = 0; since = pos 0 } }

not_over : noted_second (second 900 900 0 0) (pos 47999) begun ≡ begun
not_over = refl

over : noted_second (second 1000 998 2 0) (pos 48000) begun
    ≡ record { from = pos 48000; begun = second 1000 998 2 0; last = Some (second 1000 998 2 0); losses = record { count = 0; since = pos 0 } }
over = refl

-- 2,000 datagrams by the end of the next second: 1,000 came in it
next : tally_since (second 2000 1990 10 0) (second 1000 998 2 0) ≡ second 1000 992 8 0
next = refl

-- a path has no condition before its first second is over, but for one that was given up
abbrev socket : Bool → Bool → SocketState
socket ended unjoined = record { faults = 1000; has_ended = ended; is_unjoined = unjoined; dropped = None; unexpected = None; too_long = 0; held_up = 0 }

not_judged : known_condition begun (pos 0) None ≡ None
not_judged = refl

given_up : known_condition begun (pos 0) (Some (socket true false)) ≡ Some GivenUp
given_up = refl

-- one without datagrams in its second, by its group
abbrev silent_second : SecondWatch
silent_second = record begun { last = Some no_tally }

without_datagrams : known_condition silent_second (pos 48000) (Some (socket false false)) ≡ Some NoDatagrams
without_datagrams = refl

without_group : known_condition silent_second (pos 48000) (Some (socket false true)) ≡ Some NotJoined
without_group = refl

-- datagrams that were left out after a hold-up came all the same
held_up : others_of (Some (record (socket false false) { held_up = 1000 })) ≡ 1000
held_up = refl
