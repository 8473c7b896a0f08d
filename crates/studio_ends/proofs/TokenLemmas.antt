-- Passing tokens to the ends of rings does not change what these received.
use Rattle.std.proofs.Common.{◌≡◌, ℕ, zero, suc, ◌<◌, List, [], ◌∷◌, length, get_or, set, ℤ, refl, sym, ap, subst, ◌∙◌, arith}
use Rattle.rtrb.specs.Ring.{received}
use Rattle.rtp_stream.specs.declared.stream_spec.Stream.{Stream}
use Rattle.rtp_stream.specs.StreamSpecFacts.{format_of}
use Rattle.rtp_stream.specs.MarkFacts.{MarkView}
use Rattle.rtp_stream.specs.declared.packet.Packet.{Packet}
use Rattle.rtp_stream.specs.declared.event.Event.{Event}
use Rattle.lane_align.specs.AcceptedMarks.{accepted_marks}
use Rattle.studio_mix.specs.Feed.{Feed}
use Rattle.studio_ends.specs.Fitting.{fitting}
use Rattle.studio_ends.specs.AcceptedFeeds.{accepted_feeds}
use Rattle.studio_ends.specs.DrainedRings.{AllLookAt}
use Rattle.studio_ends.specs.Tokens.{HandsIn, HasToken}
use Rattle.studio_ends.specs.Streams.{AllDelivered, StreamHasHistory}
use Rattle.studio_ends.specs.declared.rings.TokenConsumer.{TokenConsumer}
use Rattle.studio_ends.specs.declared.stream_end.StreamEnd.{StreamEnd}

pub hands_in : {T : Type 0} (olds : List (TokenConsumer T)) (place : ℕ) (all : List T) (old new : TokenConsumer T) → place < length olds → old ≡ get_or olds place old → HasToken old all new → HandsIn olds place all (set olds place new)
hands_in [] place all old new lt is token = absurd (omega (arith, lt))
hands_in (o ∷ os) zero all old new lt is token = (subst (λ (s : TokenConsumer _). HasToken s all new) is token, refl)
hands_in (o ∷ os) (suc place) all old new lt is token = (refl, hands_in os place all old new (omega (arith, lt)) is token)

pub delivered-handed : (stream : Stream) (path place : ℕ) (olds news : List (TokenConsumer Packet)) (all : List Packet) (events : List Event) → HandsIn olds place all news → AllDelivered stream path olds events → AllDelivered stream path news events
delivered-handed stream path place [] news all events h d = absurd h
delivered-handed stream path zero (o ∷ os) [] all events h d = absurd h
delivered-handed stream path (suc place) (o ∷ os) [] all events h d = absurd h
delivered-handed stream path zero (o ∷ os) (n ∷ ns) all events h d =
    (d.0 ∙ ap (λ r. fitting stream (received r)) (sym h.0.ring), subst (λ l. AllDelivered stream (suc path) l events) (sym h.1) d.1)
delivered-handed stream path (suc place) (o ∷ os) (n ∷ ns) all events h d =
    (d.0 ∙ ap (λ (s : TokenConsumer Packet). fitting stream (received s.ring)) (sym h.0), delivered-handed stream (suc path) place os ns all events h.1 d.1)

pub stands-handed : (s t : StreamEnd) (place : ℕ) (all : List Packet) → HandsIn s.sides.items place all t.sides.items → t.merge ≡ s.merge → t.marks ≡ s.marks
    → (stream : Stream) (open_at : ℤ) (events : List Event) → StreamHasHistory stream open_at s events → StreamHasHistory stream open_at t events
stands-handed s t place all handed merge marks stream open_at events h = record {
  some_frames = h.some_frames;
  merge = rw (merge, marks) h.merge;
  delivered = delivered-handed stream 0 place s.sides.items t.sides.items all events handed h.delivered;
  marks = rw marks h.marks;
}

pub feeds-handed : (streams : List Stream) (place : ℕ) (olds news : List (TokenConsumer MarkView)) (all : List MarkView) → HandsIn olds place all news → accepted_feeds streams news ≡ accepted_feeds streams olds
feeds-handed [] place olds news all h = refl
feeds-handed (stream ∷ streams) place [] news all h = absurd h
feeds-handed (stream ∷ streams) zero (o ∷ os) [] all h = absurd h
feeds-handed (stream ∷ streams) (suc place) (o ∷ os) [] all h = absurd h
feeds-handed (stream ∷ streams) zero (o ∷ os) (n ∷ ns) all h =
    ap (λ r. record { stream = stream; marks = accepted_marks (format_of stream) (received r) } ∷ accepted_feeds streams ns) h.0.ring
    ∙ ap (λ (l : List (TokenConsumer MarkView)). record { stream = stream; marks = accepted_marks (format_of stream) (received o.ring) } ∷ accepted_feeds streams l) h.1
feeds-handed (stream ∷ streams) (suc place) (o ∷ os) (n ∷ ns) all h =
    ap (λ (s : TokenConsumer MarkView). record { stream = stream; marks = accepted_marks (format_of stream) (received s.ring) } ∷ accepted_feeds streams ns) h.0
    ∙ ap (λ (l : List Feed). record { stream = stream; marks = accepted_marks (format_of stream) (received o.ring) } ∷ l) (feeds-handed streams place os ns all h.1)

pub feeds-looked : (streams : List Stream) (olds news : List (TokenConsumer MarkView)) → AllLookAt olds news → accepted_feeds streams news ≡ accepted_feeds streams olds
feeds-looked [] olds news h = refl
feeds-looked (stream ∷ streams) [] [] h = refl
feeds-looked (stream ∷ streams) [] (n ∷ ns) h = absurd h
feeds-looked (stream ∷ streams) (o ∷ os) [] h = absurd h
feeds-looked (stream ∷ streams) (o ∷ os) (n ∷ ns) h =
    ap (λ l. record { stream = stream; marks = accepted_marks (format_of stream) l } ∷ accepted_feeds streams ns) h.0.received_is
    ∙ ap (λ (l : List Feed). record { stream = stream; marks = accepted_marks (format_of stream) (received o.ring) } ∷ l) (feeds-looked streams os ns h.1)
