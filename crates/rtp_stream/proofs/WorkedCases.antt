-- Worked cases of the definitions, computed.
use Rattle.std.specs.Prelude.{◌≡◌, ℕ, List, [], ◌∷◌, ◌++◌, ℤ, pos, negsuc, Some, None, true, refl}
use Rattle.rtp_wire.specs.declared.encoding.Enc.TheVariants.{L24}
use Rattle.rtp_stream.specs.declared.stream_spec.Stream.{Stream}
use Rattle.rtp_stream.specs.StreamSpecFacts.{format_of}
use Rattle.rtp_stream.specs.MarkFacts.{MarkView}
use Rattle.rtp_stream.specs.declared.stream_spec.StreamClock.{StreamClock}
use Rattle.rtp_stream.specs.declared.stream_spec.StreamClock.TheVariants.{Media, Arrival}
use Rattle.rtp_stream.specs.declared.packet.Packet.{Packet}
use Rattle.rtp_stream.specs.declared.mark.Body.TheVariants.{Got, Lost}
use Rattle.rtp_stream.specs.declared.mark.MarkKind.TheVariants.{Slot, Quiet, End}
use Rattle.rtp_stream.specs.declared.event.Event.{Event}
use Rattle.rtp_stream.specs.declared.event.Event.TheVariants.{Arrive, Tick, Close}
use Rattle.rtp_stream.specs.declared.fate.Fate.TheVariants.{Closed, WrongSource, OffGrid, Late, Ahead, Taken, Double, Unlike}
use Rattle.rtp_stream.specs.History.{at_places, first_clock_fault}
use Rattle.rtp_stream.specs.Epochs.{anchor_of, anchors_from, anchors_of}
use Rattle.rtp_stream.specs.Copies.{copies_of, copies_of_all}
use Rattle.rtp_stream.specs.Marks.{marks_of, marks_from}
use Rattle.rtp_stream.specs.MarkList.{is_mark_list}
use Rattle.rtp_stream.specs.Fate.{fate_of}
use Rattle.rtp_stream.specs.Counts.{fates_of, counts_of}
use Rattle.rtp_stream.specs.CountsFacts.{empty_tally}

-- L24, one channel, six sampling instants a packet, a latency of two packets, a window of eight
abbrev stream : StreamClock → Stream
stream clock = record { enc = L24; channels = 1; frames = 6; pt = 96; ssrc = None; clock = clock; latency = 12; window = 8; paths = 2 }

abbrev packet_of : ℕ → ℕ → ℕ → List ℕ → Packet
packet_of source seq ts octets = record { seq = seq; ts = ts; ssrc = source; payload = record { items = octets } }

abbrev packet : ℕ → ℕ → List ℕ → Packet
packet seq ts octets = packet_of 1 seq ts octets

abbrev got : ℕ → ℤ → List ℕ → MarkView
got number media octets = record { format = format_of (stream (Media 0)); kind = Slot 0 number media (Got (record { items = octets })) }

abbrev lost : ℕ → ℤ → MarkView
lost number media = record { format = format_of (stream (Media 0)); kind = Slot 0 number media Lost }

abbrev quiet : ℤ → MarkView
quiet until = record { format = format_of (stream (Media 0)); kind = Quiet until }

abbrev end : MarkView
end = record { format = format_of (stream (Media 0)); kind = End }

-- the sequence number wraps from 65535 to 0, and a packet that is missing at its deadline is late afterwards
abbrev wrapped : List Event
wrapped = Arrive 0 (packet 65535 0 (1 ∷ [])) ∷ Arrive 1 (packet 0 6 (2 ∷ [])) ∷ Tick (pos 12) ∷ Tick (pos 18) ∷ []

wraps_from_65535_to_0 : marks_of (stream (Media 0)) (pos 0) (wrapped ++ Tick (pos 24) ∷ []) ≡ got 131071 (pos 0) (1 ∷ []) ∷ got 131072 (pos 6) (2 ∷ []) ∷ lost 131073 (pos 12) ∷ []
unfolding marks_of marks_from anchor_of anchors_of anchors_from copies_of copies_of_all at_places
wraps_from_65535_to_0 = refl

late_after_its_deadline : fate_of (stream (Media 0)) (pos 0) (wrapped ++ Tick (pos 24) ∷ []) 0 (packet 1 12 (3 ∷ [])) ≡ Late
unfolding anchor_of anchors_of anchors_from copies_of copies_of_all at_places
late_after_its_deadline = refl

taken_before_its_deadline : fate_of (stream (Media 0)) (pos 0) wrapped 0 (packet 1 12 (3 ∷ [])) ≡ Taken
unfolding anchor_of anchors_of anchors_from copies_of copies_of_all at_places
taken_before_its_deadline = refl

-- each fate of an arrival after one packet, number 65537 at 0: its number has that packet, and the window ends before
-- 65545
abbrev first : List Event
first = Arrive 0 (packet 1 0 (1 ∷ [])) ∷ []

other_source : fate_of (stream (Media 0)) (pos 0) first 0 (packet_of 2 2 6 (2 ∷ [])) ≡ WrongSource
unfolding anchor_of anchors_of anchors_from copies_of copies_of_all at_places
other_source = refl

off_the_grid : fate_of (stream (Media 0)) (pos 0) first 0 (packet 2 7 (2 ∷ [])) ≡ OffGrid
unfolding anchor_of anchors_of anchors_from copies_of copies_of_all at_places
off_the_grid = refl

one_cycle_older : fate_of (stream (Media 0)) (pos 0) first 0 (packet 1 4294574080 (1 ∷ [])) ≡ OffGrid
unfolding anchor_of anchors_of anchors_from copies_of copies_of_all at_places
one_cycle_older = refl

before_the_anchor : fate_of (stream (Media 0)) (pos 0) first 0 (packet 0 4294967290 (2 ∷ [])) ≡ Late
unfolding anchor_of anchors_of anchors_from copies_of copies_of_all at_places
before_the_anchor = refl

beyond_the_window : fate_of (stream (Media 0)) (pos 0) first 0 (packet 9 48 (2 ∷ [])) ≡ Ahead
unfolding anchor_of anchors_of anchors_from copies_of copies_of_all at_places
beyond_the_window = refl

last_of_the_window : fate_of (stream (Media 0)) (pos 0) first 0 (packet 8 42 (2 ∷ [])) ≡ Taken
unfolding anchor_of anchors_of anchors_from copies_of copies_of_all at_places
last_of_the_window = refl

same_payload : fate_of (stream (Media 0)) (pos 0) first 0 (packet 1 0 (1 ∷ [])) ≡ Double
unfolding anchor_of anchors_of anchors_from copies_of copies_of_all at_places
same_payload = refl

another_payload : fate_of (stream (Media 0)) (pos 0) first 0 (packet 1 0 (2 ∷ [])) ≡ Unlike
unfolding anchor_of anchors_of anchors_from copies_of copies_of_all at_places
another_payload = refl

after_a_close : fate_of (stream (Media 0)) (pos 0) (first ++ Close ∷ []) 0 (packet 2 6 (2 ∷ [])) ≡ Closed
unfolding anchor_of anchors_of anchors_from copies_of copies_of_all at_places
after_a_close = refl

-- a first packet at 100 has to have its deadline, 12 past its media time, after 100, and eight packets of 6 from there
-- on in reach
first_at_its_deadline : fate_of (stream (Media 0)) (pos 100) [] 0 (packet 1 88 (1 ∷ [])) ≡ Late
unfolding anchor_of anchors_of anchors_from copies_of copies_of_all at_places
first_at_its_deadline = refl

first_in_time : fate_of (stream (Media 0)) (pos 100) [] 0 (packet 1 89 (1 ∷ [])) ≡ Taken
unfolding anchor_of anchors_of anchors_from copies_of copies_of_all at_places
first_in_time = refl

last_in_reach : fate_of (stream (Media 0)) (pos 100) [] 0 (packet 1 135 (1 ∷ [])) ≡ Taken
unfolding anchor_of anchors_of anchors_from copies_of copies_of_all at_places
last_in_reach = refl

out_of_reach : fate_of (stream (Media 0)) (pos 100) [] 0 (packet 1 136 (1 ∷ [])) ≡ Ahead
unfolding anchor_of anchors_of anchors_from copies_of copies_of_all at_places
out_of_reach = refl

reach_by_an_offset : fate_of (stream (Media 1000)) (pos 100) [] 0 (packet 1 1088 (1 ∷ [])) ≡ Late
unfolding anchor_of anchors_of anchors_from copies_of copies_of_all at_places
reach_by_an_offset = refl

-- of two copies of a number with different payloads the first is passed on, and each arrival is counted once
abbrev unlike_copies : List Event
unlike_copies = first ++ Arrive 1 (packet 1 0 (1 ∷ [])) ∷ Arrive 1 (packet 1 0 (2 ∷ [])) ∷ Tick (pos 12) ∷ []

first_of_unlike_copies : marks_of (stream (Media 0)) (pos 0) unlike_copies ≡ got 65537 (pos 0) (1 ∷ []) ∷ []
unfolding marks_of marks_from anchor_of anchors_of anchors_from copies_of copies_of_all at_places
first_of_unlike_copies = refl

counts_of_unlike_copies : counts_of (stream (Media 0)) (pos 0) unlike_copies (marks_of (stream (Media 0)) (pos 0) unlike_copies) ≡ record empty_tally { arrived = 3; taken = 1; taken_by = 1 ∷ 0 ∷ 0 ∷ 0 ∷ []; double = 1; unlike = 1; got = 1 }
unfolding marks_of marks_from anchor_of anchors_of anchors_from copies_of copies_of_all at_places fates_of
counts_of_unlike_copies = refl

-- one packet, and three that are lost at a later reading
one_packet_and_three_lost : marks_of (stream (Media 0)) (pos 0) (first ++ Tick (pos 30) ∷ []) ≡ got 65537 (pos 0) (1 ∷ []) ∷ lost 65538 (pos 6) ∷ lost 65539 (pos 12) ∷ lost 65540 (pos 18) ∷ []
unfolding marks_of marks_from anchor_of anchors_of anchors_from copies_of copies_of_all at_places
one_packet_and_three_lost = refl

-- a reading between them changes nothing
split_reading : marks_of (stream (Media 0)) (pos 0) (first ++ Tick (pos 18) ∷ Tick (pos 30) ∷ []) ≡ marks_of (stream (Media 0)) (pos 0) (first ++ Tick (pos 30) ∷ [])
unfolding marks_of marks_from anchor_of anchors_of anchors_from copies_of copies_of_all at_places
split_reading = refl

-- a Quiet follows a Quiet if its time is later, and at the opening time there is none
quiet_after_quiet : marks_of (stream (Media 0)) (pos 0) (Tick (pos 0) ∷ Tick (pos 5) ∷ Tick (pos 5) ∷ Tick (pos 6) ∷ []) ≡ quiet (negsuc 6) ∷ quiet (negsuc 5) ∷ []
unfolding marks_of marks_from anchor_of anchors_of anchors_from copies_of copies_of_all at_places
quiet_after_quiet = refl

-- there is a Quiet before the first deadline too, and none after it
quiet_before_the_first_slot : marks_of (stream (Media 0)) (pos 0) (first ++ Tick (pos 11) ∷ Tick (pos 12) ∷ Tick (pos 13) ∷ []) ≡ quiet (negsuc 0) ∷ got 65537 (pos 0) (1 ∷ []) ∷ []
unfolding marks_of marks_from anchor_of anchors_of anchors_from copies_of copies_of_all at_places
quiet_before_the_first_slot = refl

-- by the arrival clock the first packet's media time is that of its arrival
arrival_clock : marks_of (stream Arrival) (pos 0) (Tick (pos 1000) ∷ Arrive 0 (packet 7 123456 (1 ∷ [])) ∷ Arrive 0 (packet 8 123462 (2 ∷ [])) ∷ Tick (pos 1012) ∷ Tick (pos 1018) ∷ [])
    ≡ quiet (pos 988) ∷ got 65543 (pos 1000) (1 ∷ []) ∷ got 65544 (pos 1006) (2 ∷ []) ∷ []
unfolding marks_of marks_from anchor_of anchors_of anchors_from copies_of copies_of_all at_places
arrival_clock = refl

-- a close produces the slots up to the last packet held, and the end; a second close and what comes after produce
-- nothing
abbrev closing : List Event
closing = Arrive 0 (packet 1 0 (1 ∷ [])) ∷ Arrive 0 (packet 3 12 (3 ∷ [])) ∷ Close ∷ []

marks_at_a_close : marks_of (stream (Media 0)) (pos 0) closing ≡ got 65537 (pos 0) (1 ∷ []) ∷ lost 65538 (pos 6) ∷ got 65539 (pos 12) (3 ∷ []) ∷ end ∷ []
unfolding marks_of marks_from anchor_of anchors_of anchors_from copies_of copies_of_all at_places
marks_at_a_close = refl

nothing_after_a_close : marks_of (stream (Media 0)) (pos 0) (closing ++ Arrive 0 (packet 2 6 (2 ∷ [])) ∷ Close ∷ []) ≡ marks_of (stream (Media 0)) (pos 0) closing
unfolding marks_of marks_from anchor_of anchors_of anchors_from copies_of copies_of_all at_places
nothing_after_a_close = refl

only_the_end_of_nothing : marks_of (stream (Media 0)) (pos 0) (Close ∷ []) ≡ end ∷ []
unfolding marks_of marks_from anchor_of anchors_of anchors_from copies_of copies_of_all at_places
only_the_end_of_nothing = refl

is_a_mark_list : is_mark_list (format_of (stream (Media 0))) (marks_of (stream (Media 0)) (pos 0) (Tick (pos 5) ∷ closing)) ≡ true
unfolding marks_of marks_from anchor_of anchors_of anchors_from copies_of copies_of_all at_places
is_a_mark_list = refl

-- the first reading that is out of order: back, too far, or after a close
reading_goes_back : first_clock_fault (pos 0) (Tick (pos 6) ∷ Tick (pos 5) ∷ []) ≡ Some 1
reading_goes_back = refl

reading_too_far : first_clock_fault (pos 0) (Tick (pos 1152921504606846977) ∷ []) ≡ Some 0
reading_too_far = refl

reading_after_a_close : first_clock_fault (pos 0) (Close ∷ Close ∷ Tick (pos 6) ∷ []) ≡ Some 2
reading_after_a_close = refl

readings_in_order : first_clock_fault (pos 0) (Tick (pos 6) ∷ Tick (pos 1152921504606846976) ∷ Close ∷ Close ∷ []) ≡ None
readings_in_order = refl
