-- Worked cases of the packets that a turn notes, computed.
use Rattle.std.proofs.Common.{◌≡◌, ℕ, ◌*◌, List, [], ◌∷◌, ◌++◌, replicate, pos, Option, Some, None, refl, sym, subst}
use Rattle.rtp_wire.specs.declared.encoding.Enc.TheVariants.{L24}
use Rattle.rtp_stats.specs.declared.channel.stream.StreamStatsSender.{StreamStatsSender}
use Rattle.rtp_stream.specs.Copies.{copies_of, copies_of_all}
use Rattle.rtp_stream.specs.Epochs.{anchor_of, anchors_from, anchors_of}
use Rattle.rtp_stream.specs.Follow.{standings_from}
use Rattle.rtp_stream.specs.History.{at_places}
use Rattle.rtp_stream.specs.declared.event.Event.{Event}
use Rattle.rtp_stream.specs.declared.event.Event.TheVariants.{Arrive, Tick, Close}
use Rattle.rtp_stream.specs.declared.fate.Fate.TheVariants.{Double, Late, Taken}
use Rattle.rtp_stream.specs.declared.packet.Packet.{Packet}
use Rattle.rtp_stream.specs.declared.stream_spec.Stream.{Stream}
use Rattle.rtp_stream.specs.declared.stream_spec.StreamClock.TheVariants.{Media}
use Rattle.studio_ends.specs.Stats.{Notes, NotesArrivals, deadline_after}
use Rattle.studio_ends.specs.StreamTurns.{arrivals_from}

-- L24, one channel, six sampling instants a packet (18 octets), a latency of two packets, a window of eight
abbrev stream : Stream
stream = record { enc = L24; channels = 1; frames = 6; pt = 96; ssrc = None; clock = Media 0; latency = 12; window = 8; paths = 2 }

abbrev packet : ℕ → ℕ → Packet
packet seq octets = record { seq = seq; ts = seq * 6; ssrc = 1; payload = record { items = replicate octets 7 } }

-- path 0 brings packet 0 and a packet without its last octet, and path 1 the copy of packet 0
abbrev taken : List (List Packet)
taken = (packet 0 18 ∷ packet 1 17 ∷ []) ∷ (packet 0 18 ∷ []) ∷ []

without_the_short_one : arrivals_from stream 0 taken ≡ Arrive 0 (packet 0 18) ∷ Arrive 1 (packet 0 18) ∷ []
without_the_short_one = refl

-- the first is taken, and its slot is due 12 sampling instants after its media time; the second is its copy
taken_and_double : (old new : Option StreamStatsSender) → NotesArrivals stream (pos 0) [] (arrivals_from stream 0 taken) old new
    → (first : Option StreamStatsSender) × Notes 0 Taken (packet 0 18) (Some (pos 12)) (pos 0) old first × ((second : Option StreamStatsSender) × Notes 1 Double (packet 0 18) (Some (pos 12)) (pos 0) first second × (new ≡ second))
unfolding anchor_of anchors_of anchors_from copies_of copies_of_all at_places standings_from
taken_and_double old new h = h

-- a reading between the two, at which the slot was produced: the copy is late, and the next slot is due at 18
late_after_a_reading : (old new : Option StreamStatsSender) → NotesArrivals stream (pos 0) (Arrive 0 (packet 0 18) ∷ []) (Tick (pos 13) ∷ Arrive 1 (packet 0 18) ∷ []) old new
    → (next : Option StreamStatsSender) × Notes 1 Late (packet 0 18) (Some (pos 18)) (pos 13) old next × (new ≡ next)
unfolding anchor_of anchors_of anchors_from copies_of copies_of_all at_places standings_from
late_after_a_reading old new h = h

nothing_is_due_before_a_packet : deadline_after stream (pos 0) (Tick (pos 13) ∷ []) ≡ None
unfolding anchor_of anchors_of anchors_from
nothing_is_due_before_a_packet = refl

nothing_is_due_after_a_close : deadline_after stream (pos 0) (Arrive 0 (packet 0 18) ∷ Close ∷ []) ≡ None
nothing_is_due_after_a_close = refl

-- a stream without a sender stays without one
silent : (events : List Event) (before : List Event) (new : Option StreamStatsSender) → NotesArrivals stream (pos 0) before events None new → new ≡ None
silent [] before new h = h
silent (Arrive path x ∷ events) before new h = silent events (before ++ Arrive path x ∷ []) new (subst (λ o. NotesArrivals stream (pos 0) (before ++ Arrive path x ∷ []) events o new) h.1 h.2)
silent (Tick u ∷ events) before new h = silent events (before ++ Tick u ∷ []) new h
silent (Close ∷ events) before new h = silent events (before ++ Close ∷ []) new h

-- a stream with a sender keeps it
not_lost : (old : StreamStatsSender) → NotesArrivals stream (pos 0) [] (Arrive 0 (packet 0 18) ∷ []) (Some old) None → ⊥
not_lost old h = subst (λ next. Notes 0 _ (packet 0 18) _ _ (Some old) next) (sym h.2) h.1
