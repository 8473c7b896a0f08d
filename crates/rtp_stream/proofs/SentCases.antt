-- Worked cases of what was sent, computed.
use Rattle.std.specs.Prelude.{◌≡◌, ℕ, ◌^◌, List, [], ◌∷◌, length, ℤ, pos, negsuc, None, refl}
use Rattle.std.proofs.Common.{arith}
use Rattle.std.proofs.lemmas.Int.{ints}
use Rattle.rtp_wire.specs.declared.encoding.Enc.TheVariants.{L24}
use Rattle.rtp_stream.specs.declared.stream_spec.Stream.{Stream}
use Rattle.rtp_stream.specs.StreamSpecFacts.{format_of}
use Rattle.rtp_stream.specs.MarkFacts.{MarkView}
use Rattle.rtp_stream.specs.declared.anchor.Anchor.{Anchor}
use Rattle.rtp_stream.specs.declared.stream_spec.StreamClock.TheVariants.{Arrival, Media}
use Rattle.rtp_stream.specs.declared.packet.Packet.{Packet}
use Rattle.rtp_stream.specs.declared.mark.Body.TheVariants.{Got}
use Rattle.rtp_stream.specs.declared.mark.MarkKind.TheVariants.{Slot}
use Rattle.rtp_stream.specs.declared.event.Event.TheVariants.{Arrive, Tick}
use Rattle.rtp_stream.specs.History.{at_places}
use Rattle.rtp_stream.specs.Epochs.{anchors_from, anchors_of}
use Rattle.rtp_stream.specs.Sent.{Arrives, BeginsWith, IsOneEpoch, IsWithinReach, SentEvent, SentPacket, Ticks, marks_by_number, sent_copies_after, sent_marks_after, wire_history}

abbrev stream : Stream
stream = record { enc = L24; channels = 1; frames = 6; pt = 96; ssrc = None; clock = Media 0; latency = 12; window = 8; paths = 2 }

abbrev packet : ℕ → ℕ → ℕ → Packet
packet seq ts octet = record { seq = seq; ts = ts; ssrc = 1; payload = record { items = octet ∷ [] } }

abbrev number : ℤ → ℕ → SentPacket
number n octet = record { number = n; payload = octet ∷ [] }

abbrev got : ℕ → ℤ → ℕ → MarkView
got n media octet = record { format = format_of stream; kind = Slot 0 n media (Got (record { items = octet ∷ [] })) }

-- two packets, and one of 65,536 numbers before: its low 16 bits are those of 131072
abbrev anchor : Anchor
anchor = record { epoch = 0; number = 131071; timestamp = 0; media = pos 0; source = 1 }

abbrev sent : List SentEvent
sent = Arrives 0 (number (pos 131071) 1) ∷ Arrives 1 (number (pos 131072) 2) ∷ Arrives 0 (number (pos 65536) 9) ∷ Ticks (pos 12) ∷ Ticks (pos 18) ∷ []

sent_begins_with_its_base : BeginsWith stream anchor (pos 0) sent
sent_begins_with_its_base = (refl, refl, refl)

sent_is_within_reach : IsWithinReach stream anchor (2 ^ 25) (pos 0) sent
sent_is_within_reach = ((omega (arith, ints), omega (arith, ints)), ((omega (arith, ints), omega (arith, ints)), ((omega (arith, ints), omega (arith, ints)), tt)))

sent_is_one_epoch : IsOneEpoch stream (pos 0) (wire_history stream anchor sent)
unfolding anchors_of anchors_from at_places
sent_is_one_epoch = omega arith

sent_with_16_and_32_bits : wire_history stream anchor sent ≡ Arrive 0 (packet 65535 0 1) ∷ Arrive 1 (packet 0 6 2) ∷ Arrive 0 (packet 0 4294574086 9) ∷ Tick (pos 12) ∷ Tick (pos 18) ∷ []
sent_with_16_and_32_bits = refl

marks_by_full_numbers : marks_by_number stream anchor (pos 0) sent ≡ got 131071 (pos 0) 1 ∷ got 131072 (pos 6) 2 ∷ []
unfolding sent_copies_after sent_marks_after
marks_by_full_numbers = refl

-- two replays from before the first packet's cycle: sequence number 1 again, of 131,072 numbers before it, and the
-- farthest number within reach
abbrev first_base : Anchor
first_base = record { epoch = 0; number = 65537; timestamp = 0; media = pos 0; source = 1 }

abbrev replayed : List SentEvent
replayed = Arrives 0 (number (pos 65537) 1) ∷ Arrives 0 (number (negsuc 65534) 9) ∷ Arrives 0 (number (negsuc 33488894) 9) ∷ Ticks (pos 12) ∷ []

replayed_is_within_reach : IsWithinReach stream first_base (2 ^ 25) (pos 0) replayed
replayed_is_within_reach = ((omega (arith, ints), omega (arith, ints)), ((omega (arith, ints), omega (arith, ints)), ((omega (arith, ints), omega (arith, ints)), tt)))

replayed_with_16_and_32_bits : wire_history stream first_base replayed ≡ Arrive 0 (packet 1 0 1) ∷ Arrive 0 (packet 1 4294180864 9) ∷ Arrive 0 (packet 1 4093640704 9) ∷ Tick (pos 12) ∷ []
replayed_with_16_and_32_bits = refl

marks_of_a_replay : marks_by_number stream first_base (pos 0) replayed ≡ got 65537 (pos 0) 1 ∷ []
unfolding sent_copies_after sent_marks_after
marks_of_a_replay = refl

-- by the arrival clock, eight replays in sequence off the grid are taken for a restart: so the law has to require one
-- epoch
abbrev arrival_stream : Stream
arrival_stream = record { enc = L24; channels = 1; frames = 6; pt = 96; ssrc = None; clock = Arrival; latency = 12; window = 8; paths = 2 }

abbrev eight_replays : List SentEvent
eight_replays =
    Arrives 0 (number (negsuc 65534) 9) ∷ Arrives 0 (number (negsuc 65533) 9) ∷ Arrives 0 (number (negsuc 65532) 9) ∷ Arrives 0 (number (negsuc 65531) 9)
    ∷ Arrives 0 (number (negsuc 65530) 9) ∷ Arrives 0 (number (negsuc 65529) 9) ∷ Arrives 0 (number (negsuc 65528) 9) ∷ Arrives 0 (number (negsuc 65527) 9) ∷ []

eight_replays_open_an_epoch : length (anchors_of arrival_stream (pos 0) (wire_history arrival_stream first_base (Arrives 0 (number (pos 65537) 1) ∷ Ticks (pos 12) ∷ eight_replays))) ≡ 2
unfolding anchors_of anchors_from at_places
eight_replays_open_an_epoch = refl
