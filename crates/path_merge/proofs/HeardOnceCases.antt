-- Worked cases of the numbers that are heard over epochs, computed.
use Rattle.std.specs.Prelude.{◌≡◌, ℕ, zero, suc, ◌+◌, ◌*◌, ◌%◌, ◌^◌, true, false, List, [], ◌∷◌, ◌++◌, pos, None, refl}
use Rattle.rtp_wire.specs.declared.encoding.Enc.TheVariants.{L24}
use Rattle.rtp_stream.specs.declared.stream_spec.Stream.{Stream}
use Rattle.rtp_stream.specs.declared.stream_spec.StreamClock.TheVariants.{Follow}
use Rattle.rtp_stream.specs.declared.packet.Packet.{Packet}
use Rattle.rtp_stream.specs.declared.event.Event.{Event}
use Rattle.rtp_stream.specs.declared.event.Event.TheVariants.{Arrive, Tick}
use Rattle.rtp_stream.specs.declared.anchor.Anchor.{Anchor}
use Rattle.rtp_stream.specs.Anchor.{anchor_from}
use Rattle.rtp_stream.specs.Epochs.{anchor_of, anchors_from, anchors_of}
use Rattle.rtp_stream.specs.Copies.{copies_of, copies_of_all}
use Rattle.rtp_stream.specs.History.{at_places}
use Rattle.rtp_stream.specs.Marks.{marks_from, marks_of}
use Rattle.rtp_stream.specs.Follow.{standings_from}
use Rattle.path_merge.specs.HeardOnce.{goes_on, number_before, numbers_heard, shift_of}

-- L24, one channel, six sampling instants a packet, a latency of two packets, a window of eight
abbrev stream : Stream
stream = record { enc = L24; channels = 1; frames = 6; pt = 96; ssrc = None; clock = Follow; latency = 12; window = 8; paths = 2 }

-- the packets from number 131066 on, with six numbers left in their cycle
abbrev packet : ℕ → Packet
packet k = record { seq = (65530 + k) % 2 ^ 16; ts = k * 6; ssrc = 1; payload = record { items = [] } }

abbrev packets : ℕ → ℕ → List Event
packets k zero = []
packets k (suc count) = Arrive 0 (packet k) ∷ packets (suc k) count

-- a sender is 15 packets late for good; 20 ms after the eighth late one 131075, of the next cycle, opens epoch 1 as 65539
abbrev late_for_good : List Event
late_for_good = Arrive 0 (packet 0) ∷ Tick (pos 100) ∷ packets 1 8 ++ Tick (pos 1060) ∷ Arrive 0 (packet 9) ∷ Tick (pos 1072) ∷ []

numbers_go_on_over_an_epoch : numbers_heard stream (pos 0) late_for_good ≡ pos 131066 ∷ pos 131075 ∷ []
unfolding anchor_of anchors_of anchors_from copies_of copies_of_all at_places standings_from marks_of marks_from
numbers_go_on_over_an_epoch = refl

-- the numbers of epoch 1 are a cycle of 65,536 less than the sender's
a_cycle_less : shift_of stream (pos 0) late_for_good (record (anchor_from stream (pos 1060) (packet 9)) { epoch = 1 }) ≡ pos 65536
unfolding anchor_of anchors_of anchors_from copies_of copies_of_all at_places standings_from
a_cycle_less = refl

-- with 131241 due next, the packet of seq 3 is number 131075
its_number_in_the_epoch_before : number_before (anchor_from stream (pos 1060) (packet 9)) 131241 ≡ 131075
its_number_in_the_epoch_before = refl

-- a packet off the grid, or of another source, does not go on
abbrev first : Anchor
first = anchor_from stream (pos 0) (packet 0)

off_the_grid_none_goes_on : goes_on stream first 131241 (anchor_from stream (pos 1060) (record { seq = 3; ts = 55; ssrc = 1; payload = record { items = [] } })) ≡ false
off_the_grid_none_goes_on = refl

of_another_source_none_goes_on : goes_on stream first 131241 (anchor_from stream (pos 1060) (record { seq = 3; ts = 54; ssrc = 2; payload = record { items = [] } })) ≡ false
of_another_source_none_goes_on = refl

in_step_it_goes_on : goes_on stream first 131241 (anchor_from stream (pos 1060) (packet 9)) ≡ true
in_step_it_goes_on = refl
