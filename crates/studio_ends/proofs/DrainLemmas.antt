-- The marks that a closed merge has left, after one more mark.
use Rattle.std.proofs.Common.{◌≡◌, ◌≤◌, ◌+◌, ℕ, zero, suc, List, [], ◌∷◌, ◌++◌, length, take, drop, ℤ, Option, refl, sym, ap, subst, ◌∙◌, arith, append_assoc, append-nil, length-append}
use Rattle.std.specs.Option.{option_to_list}
use Rattle.rtrb.specs.Ring.{sent, SameProducer}
use Rattle.rtrb.specs.declared.producer.Producer.{Producer}
use Rattle.rtp_stream.specs.declared.stream_spec.Stream.{Stream}
use Rattle.rtp_stream.specs.MarkFacts.{MarkView}
use Rattle.rtp_stream.specs.declared.event.Event.{Event}
use Rattle.rtp_stream.specs.Marks.{marks_of}
use Rattle.path_merge.specs.MergeState.{MergeState}
use Rattle.path_merge.specs.Merge.{HasHistory}
use Rattle.path_merge.specs.Steps.{Drains}
use Rattle.studio_ends.specs.StreamTurns.{DrainsMarks}
use Rattle.studio_ends.proofs.TurnLemmas.{producers}

-- the first marks of a list, after one more
one_more : (xs : List MarkView) (k : ℕ) (ys : List MarkView) → k ≤ length xs → ys ≡ take 1 (drop k xs) → take (k + length ys) xs ≡ take k xs ++ ys
one_more xs zero ys le e = subst (λ l. take (0 + length l) xs ≡ l) (sym e) (first xs)
  where
    first : (xs : List MarkView) → take (0 + length (take 1 xs)) xs ≡ take 1 xs
    first [] = refl
    first (x ∷ xs) = refl
one_more [] (suc k) ys le e = absurd (omega (arith, le))
one_more (x ∷ xs) (suc k) ys le e =
    let n : suc k + length ys ≡ suc (k + length ys) = omega arith in
    ap (λ j. take j (x ∷ xs)) n ∙ ap (λ l. x ∷ l) (one_more xs k ys (omega (arith, le)) e)

pub drained-none : {A P : Type 0} (c : Producer MarkView A P) (m : MergeState) → DrainsMarks c m c m
drained-none c m = record {
  ring = ((refl, refl, refl, refl), refl);
  more = [];
  sent_are = sym (append-nil (sent c));
  spec = refl;
  closed = refl;
  stands = λ stream open_at events k h.
      let z : k ≡ k + 0 = omega arith in
      (subst (HasHistory stream open_at m events) z h, ap (λ j. take j (marks_of stream open_at events)) (sym z) ∙ sym (append-nil (take k (marks_of stream open_at events))));
}

pub drained-more : {A P : Type 0} (c d e : Producer MarkView A P) (m w v : MergeState) (mark : Option MarkView) → DrainsMarks c m d w → SameProducer d e → sent e ≡ sent d ++ option_to_list mark
    → ((stream : Stream) (open_at : ℤ) (events : List Event) (k : ℕ) → HasHistory stream open_at w events k → Drains stream open_at v events k mark)
    → v.spec ≡ w.spec → v.closed ≡ w.closed → DrainsMarks c m e v
drained-more c d e m w v mark h ring got drains spec closed = record {
  ring = producers c d e h.ring ring;
  more = h.more ++ option_to_list mark;
  sent_are = got ∙ (ap (λ l. l ++ option_to_list mark) h.sent_are ∙ append_assoc (sent c) h.more (option_to_list mark));
  spec = spec ∙ h.spec;
  closed = closed ∙ h.closed;
  stands = λ stream open_at events k s.
      let marks = marks_of stream open_at events in
      let was = h.stands stream open_at events k s in
      let one = drains stream open_at events (k + length h.more) was.0 in
      let n : (k + length h.more) + length (option_to_list mark) ≡ k + length (h.more ++ option_to_list mark) = let l = length-append h.more (option_to_list mark) in omega (arith, l) in (
        subst (HasHistory stream open_at v events) n one.stands,
        ap (λ j. take j marks) (sym n) ∙ (one_more marks (k + length h.more) (option_to_list mark) was.0.given one.given
            ∙ (ap (λ l. l ++ option_to_list mark) was.1 ∙ append_assoc (take k marks) h.more (option_to_list mark))),
      );
}
