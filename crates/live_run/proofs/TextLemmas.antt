-- A text that is written piece by piece.
use Rattle.std.proofs.Common.{◌≡◌, ℕ, List, [], ◌++◌, Option, refl, sym, ap, subst, ◌∙◌, append_assoc}
use Rattle.std.proofs.lemmas.List.{append-nil}
use Rattle.studio_run.specs.Buffer.{BreaksOff, PassesOn}
use Rattle.studio_run.proofs.BufferLemmas.{BreaksOff-later, BreaksOff-longer, PassesOn-none, PassesOn-trans}

-- a prefix of the whole text was passed on, and this is left of it
pub record IsWriting (whole : List ℕ) (a : Option (List ℕ)) (h : List ℕ) (b : Option (List ℕ)) (i : List ℕ) (left : List ℕ) : Type 0 where
  pub done : List ℕ
  pub wrote : PassesOn a h b i done
  pub rest : whole ≡ done ++ left

pub writing_none : (whole : List ℕ) (a : Option (List ℕ)) (h : List ℕ) → IsWriting whole a h a h whole
writing_none whole a h = record { done = []; wrote = PassesOn-none a h; rest = refl }

-- one piece more was
pub writing_more : (whole : List ℕ) (a b c : Option (List ℕ)) (h i j left piece left_then : List ℕ) → left ≡ piece ++ left_then
    → IsWriting whole a h b i left → PassesOn b i c j piece → IsWriting whole a h c j left_then
writing_more whole a b c h i j left piece left_then is w passes = record {
  done = w.done ++ piece;
  wrote = PassesOn-trans a b c h i j w.done piece w.wrote passes;
  rest = w.rest ∙ ap (λ l. w.done ++ l) is ∙ sym (append_assoc w.done piece left_then);
}

-- or broke off
pub writing_broken : (whole : List ℕ) (a b c : Option (List ℕ)) (h i left piece left_then : List ℕ) → left ≡ piece ++ left_then
    → IsWriting whole a h b i left → BreaksOff b i c piece → BreaksOff a h c whole
writing_broken whole a b c h i left piece left_then is w breaks =
    subst (BreaksOff a h c) (sym (w.rest ∙ ap (λ l. w.done ++ l) is))
    (BreaksOff-later a b c h i w.done (piece ++ left_then) w.wrote (BreaksOff-longer b c i piece left_then breaks))

-- nothing is left
pub writing_all : (whole : List ℕ) (a b : Option (List ℕ)) (h i left : List ℕ) → left ≡ [] → IsWriting whole a h b i left → PassesOn a h b i whole
writing_all whole a b h i left none w = subst (PassesOn a h b i) (sym (w.rest ∙ ap (λ l. w.done ++ l) none ∙ append-nil w.done)) w.wrote
