-- Worked cases of the clock that follows its sender, computed.
use Rattle.std.specs.Prelude.{◌≡◌, ℕ, zero, suc, ◌+◌, ◌*◌, List, [], ◌∷◌, ◌++◌, ℤ, pos, Some, None, length, refl}
use Rattle.rtp_wire.specs.declared.encoding.Enc.TheVariants.{L24}
use Rattle.rtp_stream.specs.declared.stream_spec.Stream.{Stream}
use Rattle.rtp_stream.specs.declared.stream_spec.StreamClock.{StreamClock}
use Rattle.rtp_stream.specs.declared.stream_spec.StreamClock.TheVariants.{Arrival, Follow}
use Rattle.rtp_stream.specs.declared.packet.Packet.{Packet}
use Rattle.rtp_stream.specs.declared.event.Event.{Event}
use Rattle.rtp_stream.specs.declared.event.Event.TheVariants.{Arrive, Tick}
use Rattle.rtp_stream.specs.declared.fate.Fate.TheVariants.{Late, Ahead, OffGrid, Taken, Restarted}
use Rattle.rtp_stream.specs.declared.anchor.Anchor.{Anchor}
use Rattle.rtp_stream.specs.Epochs.{anchor_of, anchors_from, anchors_of}
use Rattle.rtp_stream.specs.Copies.{copies_of, copies_of_all}
use Rattle.rtp_stream.specs.History.{at_places}
use Rattle.rtp_stream.specs.Fate.{fate_of}
use Rattle.rtp_stream.specs.Follow.{standings_from}

-- L24, one channel, six sampling instants a packet, a latency of two packets, a window of eight
abbrev stream : StreamClock → Stream
stream clock = record { enc = L24; channels = 1; frames = 6; pt = 96; ssrc = None; clock = clock; latency = 12; window = 8; paths = 2 }

-- the packet of number 65536 + seq, after number 65537 with the timestamp 0
abbrev packet : ℕ → Packet
packet k = record { seq = k + 1; ts = k * 6; ssrc = 1; payload = record { items = [] } }

-- this many packets on a path, one after the other
abbrev packets : ℕ → ℕ → ℕ → List Event
packets path k zero = []
packets path k (suc count) = Arrive path (packet k) ∷ packets path (suc k) count

-- a sender is 15 packets late for good: from 65552 on each number is due when it sends the second one
abbrev late_for_good : ℕ → List Event
late_for_good count = Arrive 0 (packet 0) ∷ Tick (pos 100) ∷ packets 0 1 count

-- from the time 100 on eight packets are late: 20 ms later the next late one opens an epoch, and no sooner
abbrev then_at : List Event → ℤ → List Event
then_at events time = events ++ Tick time ∷ []

eight_late_ones_at_once_open_no_epoch : fate_of (stream Follow) (pos 0) (late_for_good 8) 0 (packet 9) ≡ Late
unfolding anchor_of anchors_of anchors_from copies_of copies_of_all at_places standings_from
eight_late_ones_at_once_open_no_epoch = refl

nor_do_they_before_20_ms : fate_of (stream Follow) (pos 0) (then_at (late_for_good 8) (pos 1059)) 0 (packet 9) ≡ Late
unfolding anchor_of anchors_of anchors_from copies_of copies_of_all at_places standings_from
nor_do_they_before_20_ms = refl

after_20_ms_a_late_one_opens_an_epoch : fate_of (stream Follow) (pos 0) (then_at (late_for_good 8) (pos 1060)) 0 (packet 9) ≡ Restarted
unfolding anchor_of anchors_of anchors_from copies_of copies_of_all at_places standings_from
after_20_ms_a_late_one_opens_an_epoch = refl

by_the_arrival_clock_it_is_late : fate_of (stream Arrival) (pos 0) (then_at (late_for_good 8) (pos 1060)) 0 (packet 9) ≡ Late
unfolding anchor_of anchors_of anchors_from copies_of copies_of_all at_places standings_from
by_the_arrival_clock_it_is_late = refl

-- seven were late at 100, so that the eighth begins the 20 ms
seven_late_ones_open_no_epoch : fate_of (stream Follow) (pos 0) (then_at (late_for_good 7) (pos 1060)) 0 (packet 8) ≡ Late
unfolding anchor_of anchors_of anchors_from copies_of copies_of_all at_places standings_from
seven_late_ones_open_no_epoch = refl

-- its media time is the time
the_epoch_of_a_late_sender : anchor_of (stream Follow) (pos 0) (then_at (late_for_good 8) (pos 1060) ++ Arrive 0 (packet 9) ∷ []) ≡ Some (record { epoch = 1; number = 65546; timestamp = 54; media = pos 1060; source = 1 })
unfolding anchor_of anchors_of anchors_from copies_of copies_of_all at_places standings_from
the_epoch_of_a_late_sender = refl

-- four on each path are not eight on one
four_late_ones_on_each_path : fate_of (stream Follow) (pos 0) (then_at (late_for_good 4 ++ packets 1 5 4) (pos 1060)) 1 (packet 9) ≡ Late
unfolding anchor_of anchors_of anchors_from copies_of copies_of_all at_places standings_from
four_late_ones_on_each_path = refl

-- the backlog of a receiver that was held up: 14 come late at one time, and those that follow are in time
after_a_backlog_packets_are_in_time : fate_of (stream Follow) (pos 0) (late_for_good 14) 0 (packet 15) ≡ Taken
unfolding anchor_of anchors_of anchors_from copies_of copies_of_all at_places standings_from
after_a_backlog_packets_are_in_time = refl

-- numbers that were heard, late on another path or sent again, open no epoch
abbrev heard_again : ℕ → List Event
heard_again path = packets 0 0 8 ++ Tick (pos 100) ∷ packets path 0 7

late_copies_open_no_epoch : fate_of (stream Follow) (pos 0) (heard_again 1) 1 (packet 7) ≡ Late
unfolding anchor_of anchors_of anchors_from copies_of copies_of_all at_places standings_from
late_copies_open_no_epoch = refl

repeated_numbers_open_no_epoch : fate_of (stream Follow) (pos 0) (heard_again 0) 0 (packet 7) ≡ Late
unfolding anchor_of anchors_of anchors_from copies_of copies_of_all at_places standings_from
repeated_numbers_open_no_epoch = refl

-- a sender is early for good: after 65538, which is held, come numbers beyond the window's end, 65546
abbrev early_for_good : ℕ → ℕ → List Event
early_for_good path count = Arrive 0 (packet 0) ∷ Tick (pos 12) ∷ Arrive 0 (packet 1) ∷ packets path 9 count

seven_early_ones_leave_the_window : fate_of (stream Follow) (pos 0) (early_for_good 0 7) 0 (packet 2) ≡ Taken
unfolding anchor_of anchors_of anchors_from copies_of copies_of_all at_places standings_from
seven_early_ones_leave_the_window = refl

eight_early_ones_empty_it : fate_of (stream Follow) (pos 0) (early_for_good 0 8) 0 (packet 2) ≡ Ahead
unfolding anchor_of anchors_of anchors_from copies_of copies_of_all at_places standings_from
eight_early_ones_empty_it = refl

no_epoch_while_one_is_held : fate_of (stream Follow) (pos 0) (early_for_good 0 8) 0 (packet 17) ≡ Ahead
unfolding anchor_of anchors_of anchors_from copies_of copies_of_all at_places standings_from
no_epoch_while_one_is_held = refl

nor_before_20_ms : fate_of (stream Follow) (pos 0) (then_at (early_for_good 0 8) (pos 971)) 0 (packet 162) ≡ Ahead
unfolding anchor_of anchors_of anchors_from copies_of copies_of_all at_places standings_from
nor_before_20_ms = refl

an_epoch_after_20_ms : fate_of (stream Follow) (pos 0) (then_at (early_for_good 0 8) (pos 972)) 0 (packet 162) ≡ Restarted
unfolding anchor_of anchors_of anchors_from copies_of copies_of_all at_places standings_from
an_epoch_after_20_ms = refl

-- beyond the window on one path, while the other is in time: nothing is emptied, and no epoch opens
early_ones_on_another_path : fate_of (stream Follow) (pos 0) (early_for_good 1 8) 0 (packet 2) ≡ Taken
unfolding anchor_of anchors_of anchors_from copies_of copies_of_all at_places standings_from
early_ones_on_another_path = refl

they_open_no_epoch : fate_of (stream Follow) (pos 0) (early_for_good 1 8) 1 (packet 17) ≡ Ahead
unfolding anchor_of anchors_of anchors_from copies_of copies_of_all at_places standings_from
they_open_no_epoch = refl

-- a path that brought eight early packets and is silent counts for a second, and no longer
early_ones_count_for_a_second : fate_of (stream Follow) (pos 0) (then_at (early_for_good 1 8) (pos 48012)) 0 (packet 8001) ≡ Ahead
unfolding anchor_of anchors_of anchors_from copies_of copies_of_all at_places standings_from
early_ones_count_for_a_second = refl

and_no_longer : fate_of (stream Follow) (pos 0) (then_at (early_for_good 1 8) (pos 48013)) 0 (packet 8001) ≡ Taken
unfolding anchor_of anchors_of anchors_from copies_of copies_of_all at_places standings_from
and_no_longer = refl

-- a restart by probation is as by the arrival clock: eight in sequence, off the grid
abbrev off_grid : ℕ → Packet
off_grid k = record { seq = 500 + k; ts = 100000 + k * 6; ssrc = 1; payload = record { items = [] } }

abbrev restarted : List Event
restarted = Arrive 0 (packet 0) ∷ Tick (pos 12) ∷ Arrive 0 (off_grid 0) ∷ Arrive 0 (off_grid 1) ∷ Arrive 0 (off_grid 2) ∷ Arrive 0 (off_grid 3) ∷ Arrive 0 (off_grid 4) ∷ Arrive 0 (off_grid 5) ∷ Arrive 0 (off_grid 6) ∷ []

restarts_by_probation : fate_of (stream Follow) (pos 0) restarted 0 (off_grid 7) ≡ Restarted
unfolding anchor_of anchors_of anchors_from copies_of copies_of_all at_places standings_from
restarts_by_probation = refl
