-- The close of a stream's end, and the calls that come after it.
use Rattle.std.proofs.Common.{◌≡◌, ℕ, suc, false, List, [], ◌∷◌, ◌++◌, length, take, ℤ, sym, ap, subst, ◌∙◌, append-nil}
use Rattle.std.proofs.Math.Seq.{take-length}
use Rattle.rtrb.specs.Ring.{sent}
use Rattle.rtp_stream.specs.declared.stream_spec.Stream.{Stream}
use Rattle.rtp_stream.specs.declared.packet.Packet.{Packet}
use Rattle.rtp_stream.specs.declared.event.Event.{Event}
use Rattle.rtp_stream.specs.declared.event.Event.TheVariants.{Close}
use Rattle.rtp_stream.specs.History.{is_closed}
use Rattle.rtp_stream.specs.Marks.{marks_of}
use Rattle.path_merge.specs.Merge.{HasHistory}
use Rattle.studio_ends.specs.DrainedRings.{AllLookAt}
use Rattle.studio_ends.specs.Fitting.{fitting}
use Rattle.studio_ends.specs.Streams.{AllDelivered, StreamHasHistory, packets_by}
use Rattle.studio_ends.specs.declared.rings.TokenConsumer.{TokenConsumer}
use Rattle.studio_ends.specs.declared.stream_end.StreamEnd.{StreamEnd}
use Rattle.path_merge.proofs.LawLemmas.{marks_stay}
use Rattle.studio_ends.proofs.StreamLemmas.{packets_by-append}

-- looking at the rings leaves what they delivered
pub delivered-looked : (stream : Stream) (n : ℕ) (olds news : List (TokenConsumer Packet)) (es : List Event) → AllLookAt olds news → AllDelivered stream n olds es → AllDelivered stream n news es
delivered-looked stream n [] [] es l h = h
delivered-looked stream n (old ∷ olds) (new ∷ news) es l h = (h.0 ∙ ap (fitting stream) (sym l.0.received_is), delivered-looked stream (suc n) olds news es l.1 h.1)
delivered-looked stream n [] (new ∷ news) es l h = absurd l
delivered-looked stream n (old ∷ olds) [] es l h = absurd l

pub delivered-close : (stream : Stream) (n : ℕ) (sides : List (TokenConsumer Packet)) (es : List Event) → AllDelivered stream n sides es → AllDelivered stream n sides (es ++ Close ∷ [])
delivered-close stream n [] es h = λ other le. packets_by-append other es (Close ∷ []) ∙ (append-nil (packets_by other es) ∙ h other le)
delivered-close stream n (side ∷ sides) es h = (packets_by-append n es (Close ∷ []) ∙ (append-nil (packets_by n es) ∙ h.0), delivered-close stream (suc n) sides es h.1)

-- a close, and the marks before it
pub closed_stands : (s t : StreamEnd) → AllLookAt s.sides.items t.sides.items → t.marks ≡ s.marks
    → ((stream : Stream) (open_at : ℤ) (events : List Event) (k : ℕ) → HasHistory stream open_at s.merge events k → HasHistory stream open_at t.merge (events ++ Close ∷ []) k)
    → s.merge.closed ≡ false → (stream : Stream) (open_at : ℤ) (events : List Event) → StreamHasHistory stream open_at s events → StreamHasHistory stream open_at t (events ++ Close ∷ [])
closed_stands s t looked marks closes shut stream open_at events h =
    let k = length (sent s.marks) in
    let all : k ≡ length (marks_of stream open_at events) = h.merge.all_given (sym h.merge.closed ∙ shut) in
    let after = closes stream open_at events k h.merge in
    let open_yet : is_closed events ≡ false = sym h.merge.closed ∙ shut in
    record {
      some_frames = h.some_frames;
      merge = subst (λ (p : Rattle.rtrb.specs.declared.producer.Producer.Producer _ _ _). HasHistory stream open_at t.merge (events ++ Close ∷ []) (length (sent p))) (sym marks) after;
      delivered = delivered-close stream 0 t.sides.items events (delivered-looked stream 0 s.sides.items t.sides.items events looked h.delivered);
      marks =
          let stay = marks_stay stream open_at h.some_frames events (Close ∷ []) after.well_timed in
          let is : sent t.marks ≡ sent s.marks = ap (λ (p : Rattle.rtrb.specs.declared.producer.Producer.Producer _ _ _). sent p) marks in
          is ∙ (h.marks ∙ (ap (λ j. take j (marks_of stream open_at events)) all ∙ (take-length (marks_of stream open_at events)
          ∙ (sym stay ∙ ap (λ j. take j (marks_of stream open_at (events ++ Close ∷ []))) (sym all ∙ ap length (sym is))))));
    }
