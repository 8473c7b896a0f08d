-- Worked cases of lost slots that are passed at once, computed.
use Rattle.std.specs.Prelude.{◌≡◌, ℕ, ◌^◌, false, List, [], ◌∷◌, pos, Some, None, refl}
use Rattle.std.specs.FinMap.{FinMap, from_entries}
use Rattle.std.specs.Ordering.{nat_cmp}
use Rattle.rtp_wire.specs.declared.encoding.Enc.TheVariants.{L24}
use Rattle.rtp_stream.specs.declared.stream_spec.Stream.{Stream}
use Rattle.rtp_stream.specs.declared.stream_spec.StreamClock.TheVariants.{Arrival}
use Rattle.rtp_stream.specs.declared.anchor.Anchor.{Anchor}
use Rattle.rtp_stream.specs.declared.packet.Packet.{Packet}
use Rattle.rtp_stream.specs.declared.mark.Body.TheVariants.{Lost}
use Rattle.rtp_stream.specs.declared.mark.MarkKind.TheVariants.{Slot}
use Rattle.rtp_stream.specs.CountsFacts.{empty_tally}
use Rattle.rtp_stream.specs.StreamSpecFacts.{format_of}
use Rattle.path_merge.specs.MergeState.{MergeState}
use Rattle.path_merge.proofs.SortedLemmas.{get_entries}
use Rattle.path_merge.specs.PassLost.{last_deadline, lost_due, lost_marks}

-- L24, one channel, six sampling instants a packet, a latency of two packets, a window of eight
abbrev stream : Stream
stream = record { enc = L24; channels = 1; frames = 6; pt = 96; ssrc = None; clock = Arrival; latency = 12; window = 8; paths = 2 }

-- number 65537 began at 0 and was produced at 12: the deadline of 65538 is 18
abbrev anchor : Anchor
anchor = record { epoch = 0; number = 65537; timestamp = 0; media = pos 0; source = 1 }

abbrev holding : FinMap nat_cmp Packet → MergeState
holding held = record { spec = stream; time = pos 13; anchor = Some anchor; base = 65538; size = 8; held = held; quiet = pos 0; counts = record empty_tally { arrived = 1; taken = 1; got = 1 }; closed = false; ended = false; probations = []; tracks = [] }

abbrev empty : MergeState
empty = holding (from_entries [])

none_before_the_deadline : lost_due empty (pos 17) ≡ 0
none_before_the_deadline = simp get_entries

one_at_the_deadline : lost_due empty (pos 18) ≡ 1
one_at_the_deadline = simp get_entries

-- 18, 24 and 30
three_by_the_third : lost_due empty (pos 35) ≡ 3
three_by_the_third = simp get_entries

by_the_greatest_reading : lost_due empty (pos (2 ^ 60)) ≡ 192153584101141160
by_the_greatest_reading = simp get_entries

the_last_deadline : last_deadline empty empty.anchor 3 ≡ pos 30
the_last_deadline = refl

the_slots : lost_marks empty 2 ≡ record { format = format_of stream; kind = Slot 0 65538 (pos 6) Lost } ∷ record { format = format_of stream; kind = Slot 0 65539 (pos 12) Lost } ∷ []
the_slots = refl

-- a packet that is held may be heard, so no slot is lost at once
none_while_one_is_held : lost_due (holding (from_entries ((65540, record { seq = 4; ts = 18; ssrc = 1; payload = record { items = [] } }) ∷ []))) (pos 35) ≡ 0
none_while_one_is_held = simp get_entries

-- before the first packet nothing can be lost
none_without_an_anchor : lost_due (record empty { anchor = None }) (pos 35) ≡ 0
none_without_an_anchor = refl
