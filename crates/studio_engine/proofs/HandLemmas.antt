-- An event that one stream after another takes.
use Rattle.std.proofs.Common.{◌≡◌, ◌≢◌, inl, inr, ◌<◌, ◌≤◌, ◌+◌, ℕ, nat_eq, false, List, length, set, get_or, Some, slice_get, refl, sym, ap, subst, ◌∙◌, arith}
use Rattle.std.proofs.lemmas.Bool.{cases_eq}
use Rattle.std.proofs.lemmas.Bool.Decides.{nat_tests}
use Rattle.std.proofs.lemmas.List.{length-set}
use Rattle.std.proofs.lemmas.Option.{slice_get-get_or, get_or_from_slice_get}
use Rattle.studio_mix.proofs.MixerLemmas.{set_same_at, set_other_at}
use Rattle.rtp_stream.specs.declared.stream_spec.Stream.{Stream}
use Rattle.studio_session.specs.Event.{TraceEvent, Arrival}
use Rattle.studio_session.specs.Session.{Other, step_of}
use Rattle.studio_session.specs.Cursor.{CursorState}
use Rattle.studio_session.specs.PushedEvents.{AreHanded, IsHanded}
use Rattle.studio_engine.specs.Engine.{HaveCome}

-- no cursor took the event yet
pub handed_none : (event : TraceEvent) (first : List CursorState) → AreHanded event first first 0
handed_none event first = record {
  length_is = refl;
  each = λ i old new h is at. absurd (omega (arith, h));
  others = λ i old new h is at. one new old (sym at ∙ is);
}
  where
    one : (x y : CursorState) → Some x ≡ Some y → x ≡ y
    one x y e = cc

-- the next cursor is as it was
pub unhanded : (event : TraceEvent) (first cursors : List CursorState) (i : ℕ) (d : CursorState) → AreHanded event first cursors i → i < length cursors → get_or cursors i d ≡ get_or first i d
unhanded event first cursors i d before within =
    let long = before.length_is in
    let here : i < length first = omega (arith, within, long) in
    before.others i (get_or first i d) (get_or cursors i d) (omega arith) (slice_get-get_or first i d here) (slice_get-get_or cursors i d within)

-- one more cursor took the event
pub handed_more : (event : TraceEvent) (first cursors : List CursorState) (i : ℕ) (d moved : CursorState) → AreHanded event first cursors i → i < length cursors
    → IsHanded event i (get_or cursors i d) moved → AreHanded event first (set cursors i moved) (i + 1)
handed_more event first cursors i d moved before within one = record {
  length_is = length-set cursors i moved ∙ before.length_is;
  each = λ j old new h is at. elim (cases_eq j i) [
    | inl e ↦
        let same : new ≡ moved = set_same_at cursors i moved new within (subst (λ k. slice_get (set cursors i moved) k ≡ Some new) e at) in
        let was : get_or cursors i d ≡ old = unhanded event first cursors i d before within ∙ get_or_from_slice_get first i old d (subst (λ k. slice_get first k ≡ Some old) e is) in
        subst (λ k. IsHanded event k old new) (sym e) (subst (IsHanded event i old) (sym same) (subst (λ c. IsHanded event i c moved) was one))
    | inr ne ↦ before.each j old new (omega (arith, h, ne)) is (set_other_at cursors i j moved new ne at)
  ];
  others = λ j old new h is at. elim (cases_eq j i) [
    | inl e ↦ absurd (omega (arith, e, h))
    | inr ne ↦ before.others j old new (omega (arith, h)) is (set_other_at cursors i j moved new ne at)
  ];
}

-- each cursor took one more event
pub come_handed : (event : TraceEvent) (first cursors : List CursorState) (count : ℕ) → HaveCome count first → AreHanded event first cursors (length first) → HaveCome (count + 1) cursors
come_handed event first cursors count come handed = λ i d within.
    let long = handed.length_is in
    let here : i < length first = omega (arith, within, long) in
    let one = handed.each i (get_or first i d) (get_or cursors i d) here (slice_get-get_or first i d here) (slice_get-get_or cursors i d within) in
    one.place ∙ ap (λ n. n + 1) (come i d here)

-- all cursors took the event
pub handed_all : (event : TraceEvent) (first cursors : List CursorState) (i : ℕ) → AreHanded event first cursors i → length cursors ≤ i → i ≤ length cursors → AreHanded event first cursors (length first)
handed_all event first cursors i handed past within =
    let long = handed.length_is in
    let e : i ≡ length first = omega (arith, past, within, long) in
    subst (AreHanded event first cursors) e handed

-- a datagram of another stream is not a datagram of this stream
pub is_other : (stream path number : ℕ) (octets : List ℕ) → number ≢ stream → (spec : Stream) → step_of spec number (Arrival stream path octets) ≡ Other
is_other stream path number octets ne spec =
    let no : nat_eq stream number ≡ false = grind (arith, nat_tests, ne) in
    rw no
