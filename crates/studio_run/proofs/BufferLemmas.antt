-- Text that passes through a buffer, piece by piece.
use Rattle.std.proofs.Common.{◌≡◌, ℕ, List, [], ◌++◌, Option, length, take, sym, ◌∙◌, ap, refl, subst, arith, append_assoc, length-append, ◌+◌, ◌<◌}
use Rattle.std.proofs.lemmas.List.{append-nil, take-append-le}
use Rattle.std.proofs.Math.Seq.{take-append-add}
use Rattle.std.specs.Io.KnownBytes.{Appends}
use Rattle.std.proofs.KnownBytes.{Appends-nil, Appends-trans}
use Rattle.studio_run.specs.Buffer.{PassesOn, BreaksOff}

-- nothing was written, and the buffer holds the octets
pub PassesOn-held : (a : Option (List ℕ)) (held octets : List ℕ) → PassesOn a held a (held ++ octets) octets
PassesOn-held a held octets = record { front = []; whole = refl; wrote = Appends-nil a }

-- no octets were appended
pub PassesOn-none : (a : Option (List ℕ)) (held : List ℕ) → PassesOn a held a held []
PassesOn-none a held = record { front = []; whole = append-nil held; wrote = Appends-nil a }

-- the octets that the buffer held were written, and it holds none
pub PassesOn-written : (a b : Option (List ℕ)) (held : List ℕ) → Appends a b held → PassesOn a held b [] []
PassesOn-written a b held wrote = record { front = held; whole = refl; wrote = wrote }

-- two runs of octets, one after the other
pub PassesOn-trans : (a b c : Option (List ℕ)) (h i j xs ys : List ℕ) → PassesOn a h b i xs → PassesOn b i c j ys → PassesOn a h c j (xs ++ ys)
PassesOn-trans a b c h i j xs ys first second = record {
  front = first.front ++ second.front;
  whole = sym (append_assoc h xs ys) ∙ ap (λ l. l ++ ys) first.whole ∙ append_assoc first.front i ys ∙ ap (λ l. first.front ++ l) second.whole ∙ sym (append_assoc first.front second.front j);
  wrote = Appends-trans a b c first.front second.front first.wrote second.wrote;
}

-- the buffer holds the octets after others
pub PassesOn-grown : (a b : Option (List ℕ)) (h i j xs : List ℕ) → PassesOn a h b i [] → j ≡ i ++ xs → PassesOn a h b j xs
PassesOn-grown a b h i j xs passes grown = rw grown (PassesOn-trans a b b h i (i ++ xs) [] xs passes (PassesOn-held b i xs))

-- writing broke off before all further octets
pub BreaksOff-longer : (a b : Option (List ℕ)) (h xs ys : List ℕ) → BreaksOff a h b xs → BreaksOff a h b (xs ++ ys)
BreaksOff-longer a b h xs ys fault =
    let same : take fault.count (h ++ (xs ++ ys)) ≡ take fault.count (h ++ xs) =
    ap (take fault.count) (sym (append_assoc h xs ys)) ∙ take-append-le fault.count (h ++ xs) ys (omega (arith, fault.part)) in record {
      count = fault.count;
      part = omega (arith, fault.part, length-append h xs, length-append xs ys, length-append h (xs ++ ys));
      wrote = rw same fault.wrote;
    }

-- writing broke off after other octets had passed
pub BreaksOff-later : (a b c : Option (List ℕ)) (h i xs ys : List ℕ) → PassesOn a h b i xs → BreaksOff b i c ys → BreaksOff a h c (xs ++ ys)
BreaksOff-later a b c h i xs ys passes fault =
    let whole : h ++ (xs ++ ys) ≡ passes.front ++ (i ++ ys) = sym (append_assoc h xs ys) ∙ ap (λ l. l ++ ys) passes.whole ∙ append_assoc passes.front i ys in
    let same : take (length passes.front + fault.count) (h ++ (xs ++ ys)) ≡ passes.front ++ take fault.count (i ++ ys) =
    ap (take (length passes.front + fault.count)) whole ∙ take-append-add passes.front (i ++ ys) fault.count in record {
      count = length passes.front + fault.count;
      part = omega (arith, fault.part, ap length whole, length-append passes.front (i ++ ys));
      wrote = rw same (Appends-trans a b c passes.front (take fault.count (i ++ ys)) passes.wrote fault.wrote);
    }

-- the octets that the buffer held at the end were written
pub PassesOn-finished : (a b c : Option (List ℕ)) (h xs : List ℕ) → PassesOn a [] b h xs → Appends b c h → Appends a c xs
PassesOn-finished a b c h xs passes rest = rw passes.whole (Appends-trans a b c passes.front h passes.wrote rest)

-- only a part of the octets that the buffer held at the end was written
pub BreaksOff-finished : (a b c : Option (List ℕ)) (h xs : List ℕ) → PassesOn a [] b h xs → (n : ℕ) × (n < length h) × Appends b c (take n h) → BreaksOff a [] c xs
BreaksOff-finished a b c h xs passes part =
    subst (BreaksOff a [] c) (append-nil xs) (BreaksOff-later a b c [] h xs [] passes
    (record { count = part.0; part = subst (λ l. part.0 < length l) (sym (append-nil h)) part.1; wrote = subst (λ l. Appends b c (take part.0 l)) (sym (append-nil h)) part.2 }))
