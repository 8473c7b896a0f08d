-- A count of the packets in sequence shows whether the last eight are in sequence.
use Rattle.std.proofs.Common.{◌≡◌, ℕ, zero, suc, ◌+◌, ◌-◌, ◌%◌, ◌^◌, ◌<◌, ◌≤◌, Bool, true, false, ◌&&◌, List, [], ◌∷◌, ◌++◌, length, drop, Option, Some, None, refl, sym, ap, subst, ◌∙◌, arith, append_assoc, append-nil, if◌then◌else◌, length-append}
use Rattle.std.specs.Prelude.{nat_eq, nat_le, nat_lt, slice_index_or, slice_set}
use Rattle.std.proofs.lemmas.Bool.Decides.{nat_tests}
use Rattle.rtp_stream.specs.declared.stream_spec.Stream.{Stream}
use Rattle.rtp_stream.specs.Probation.{completes_probation, is_next_of, is_sequence, last_few}
use Rattle.rtp_stream.specs.declared.probation.Probation.{Probation}
use Rattle.rtp_stream.specs.PathProbation.{is_complete, is_expected, no_probation, probation_after, probation_at, probation_from, probation_of}
use Rattle.rtp_stream.specs.Epochs.{last_of}
use Rattle.rtp_stream.specs.declared.packet.Packet.{Packet}

-- an induction from the end
pub by_last : {A : Type 0} (P : List A → Type 0) → P [] → ((xs : List A) (x : A) → P xs → P (xs ++ x ∷ [])) → (xs : List A) → P xs
by_last P none more xs = go [] xs none
  where
    go : (before after : List _) → P before → P (before ++ after)
    go before [] p = subst P (sym (append-nil before)) p
    go before (x ∷ after) p = subst P (append_assoc before (x ∷ []) after) (go (before ++ x ∷ []) after (more before x p))

pub last_of-push : {A : Type 0} (xs : List A) (x : A) → last_of (xs ++ x ∷ []) ≡ Some x
last_of-push [] x = refl
last_of-push (y ∷ []) x = refl
last_of-push (y ∷ z ∷ xs) x = last_of-push (z ∷ xs) x

drop-push : {A : Type 0} (xs : List A) (x : A) (n : ℕ) → n ≤ length xs → drop n (xs ++ x ∷ []) ≡ drop n xs ++ x ∷ []
drop-push xs x zero le = refl
drop-push [] x (suc n) le = absurd (omega (arith, le))
drop-push (y ∷ xs) x (suc n) le = drop-push xs x n (omega (arith, le))

last_few-push : {A : Type 0} (xs : List A) (x : A) (i : ℕ) → last_few (suc i) (xs ++ x ∷ []) ≡ last_few i xs ++ x ∷ []
last_few-push xs x i =
    let same : length (xs ++ x ∷ []) - suc i ≡ length xs - i = omega (arith, length-append xs (x ∷ [])) in
    ap (λ n. drop n (xs ++ x ∷ [])) same ∙ drop-push xs x (length xs - i) (omega arith)

-- the last of the last few is the last
abbrev pub last_or : {A : Type 0} → A → List A → A
last_or x [] = x
last_or x (y ∷ ys) = last_or y ys

pub last_of-some : {A : Type 0} (x : A) (xs : List A) → last_of (x ∷ xs) ≡ Some (last_or x xs)
last_of-some x [] = refl
last_of-some x (y ∷ ys) = last_of-some y ys

last_of-drop : {A : Type 0} (xs : List A) (n : ℕ) → n < length xs → last_of (drop n xs) ≡ last_of xs
last_of-drop [] n lt = absurd (omega (arith, lt))
last_of-drop (x ∷ xs) zero lt = refl
last_of-drop (x ∷ []) (suc n) lt = absurd (omega (arith, lt))
last_of-drop (x ∷ y ∷ xs) (suc n) lt = last_of-drop (y ∷ xs) n (omega (arith, lt))

-- one more follows the last, if there is one
abbrev follows_last : Stream → Option (Bool × Packet) → Packet → Bool
follows_last stream None packet = true
follows_last stream (Some (off, last)) packet = is_next_of stream last packet

and_true : (b : Bool) → (b && true) ≡ b
and_true true = refl
and_true false = refl

is_sequence-push : (stream : Stream) (xs : List (Bool × Packet)) (off : Bool) (packet : Packet) → is_sequence stream (xs ++ (off, packet) ∷ []) ≡ (is_sequence stream xs && (off && follows_last stream (last_of xs) packet))
is_sequence-push stream [] off packet = sym (and_true off)
is_sequence-push stream ((o, p) ∷ []) off packet = by_tests o (is_next_of stream p packet) off
  where
    by_tests : (a b c : Bool) → (a && (b && c)) ≡ (a && (c && b))
    by_tests true true true = refl
    by_tests true true false = refl
    by_tests true false true = refl
    by_tests true false false = refl
    by_tests false b c = refl
is_sequence-push stream ((o, p) ∷ (o', p') ∷ xs) off packet =
    ap (λ b. o && (is_next_of stream p p' && b)) (is_sequence-push stream ((o', p') ∷ xs) off packet)
    ∙ regroup o (is_next_of stream p p') (is_sequence stream ((o', p') ∷ xs)) (off && follows_last stream (last_of ((o, p) ∷ (o', p') ∷ xs)) packet)
  where
    regroup : (a b c d : Bool) → (a && (b && (c && d))) ≡ ((a && (b && c)) && d)
    regroup true true c d = refl
    regroup true false c d = refl
    regroup false b c d = refl

probation_from-push : (stream : Stream) (p : Probation) (heard : List (Bool × Packet)) (one : Bool × Packet) → probation_from stream p (heard ++ one ∷ []) ≡ probation_after stream (probation_from stream p heard) one
probation_from-push stream p [] one = refl
probation_from-push stream p (x ∷ heard) one = probation_from-push stream (probation_after stream p x) heard one

pub probation_of-push : (stream : Stream) (heard : List (Bool × Packet)) (one : Bool × Packet) → probation_of stream (heard ++ one ∷ []) ≡ probation_after stream (probation_of stream heard) one
probation_of-push stream heard one = probation_from-push stream no_probation heard one

-- the expected packet follows the last packet
abbrev Expects : Stream → Probation → Option (Bool × Packet) → Type 0
Expects stream p None = p.count ≡ 0
Expects stream p (Some (off, last)) = 0 < p.count → (p.source ≡ last.ssrc) × (p.seq ≡ (last.seq + 1) % 2 ^ 16) × (p.ts ≡ (last.ts + stream.frames) % 2 ^ 32)

-- the count is that of the last packets that are in sequence, up to eight
record IsCounted (stream : Stream) (p : Probation) (heard : List (Bool × Packet)) : Type 0 where
  few : p.count ≤ 8
  expects : Expects stream p (last_of heard)
  tells : (j : ℕ) → j ≤ 8 → (nat_le j (length heard) && is_sequence stream (last_few j heard)) ≡ nat_le j p.count

drop_all : {A : Type 0} (xs : List A) (n : ℕ) → length xs ≤ n → drop n xs ≡ []
drop_all [] zero le = refl
drop_all [] (suc n) le = refl
drop_all (x ∷ xs) zero le = absurd (omega (arith, le))
drop_all (x ∷ xs) (suc n) le = drop_all xs n (omega (arith, le))

not_below_zero : (i : ℕ) → nat_le (suc i) 0 ≡ false
not_below_zero i = grind (arith, nat_tests)

zero_le : (n : ℕ) → nat_le 0 n ≡ true
zero_le n = grind (arith, nat_tests)

none_of : (stream : Stream) (heard : List (Bool × Packet)) → (nat_le 0 (length heard) && is_sequence stream (last_few 0 heard)) ≡ true
none_of stream heard =
    let least : nat_le 0 (length heard) ≡ true = grind (arith, nat_tests) in
    rw (least, drop_all heard (length heard - 0) (omega arith)) refl

module _ (stream : Stream) (heard : List (Bool × Packet)) (p : Probation) (c : IsCounted stream p heard) (packet : Packet) where
  -- an arrival that is not off
  not_off : IsCounted stream (probation_after stream p (false, packet)) (heard ++ (false, packet) ∷ [])
  not_off = record { few = omega arith; expects = rw (last_of-push heard (false, packet)) (λ h. absurd (omega (arith, h))); tells = told }
    where
      told : (j : ℕ) → j ≤ 8 → (nat_le j (length (heard ++ (false, packet) ∷ [])) && is_sequence stream (last_few j (heard ++ (false, packet) ∷ []))) ≡ nat_le j 0
      told zero le = none_of stream (heard ++ (false, packet) ∷ [])
      told (suc i) le = ap (λ l. nat_le (suc i) (length (heard ++ (false, packet) ∷ [])) && is_sequence stream l) (last_few-push heard (false, packet) i)
          ∙ ap (λ b. nat_le (suc i) (length (heard ++ (false, packet) ∷ [])) && b) (is_sequence-push stream (last_few i heard) false packet)
          ∙ never (nat_le (suc i) (length (heard ++ (false, packet) ∷ []))) (is_sequence stream (last_few i heard))
          ∙ sym (not_below_zero i)
        where
          never : (a b : Bool) → (a && (b && false)) ≡ false
          never true true = refl
          never true false = refl
          never false b = refl

  -- one more packet that is off
  is_off : IsCounted stream (probation_after stream p (true, packet)) (heard ++ (true, packet) ∷ [])
  is_off = record { few = few_then (is_expected p packet) (nat_lt p.count 8) refl; expects = rw (last_of-push heard (true, packet)) (λ h. (refl, refl, refl)); tells = told }
    where
      few_then : (e l : Bool) → nat_lt p.count 8 ≡ l → (if e then (if l then p.count + 1 else 8) else 1) ≤ 8
      few_then true true is = grind (arith, nat_tests, is)
      few_then true false is = omega arith
      few_then false l is = omega arith

      expected_is : (o : Option (Bool × Packet)) → Expects stream p o → is_expected p packet ≡ (nat_lt 0 p.count && follows_last stream o packet)
      expected_is None none = rw none refl
      expected_is (Some (off, last)) next = by_count (nat_lt 0 p.count) refl
        where
          by_count : (b : Bool) → nat_lt 0 p.count ≡ b → (b && (nat_eq packet.ssrc p.source && (nat_eq packet.seq p.seq && nat_eq packet.ts p.ts))) ≡ (b && is_next_of stream last packet)
          by_count false is = refl
          by_count true is =
              let some : 0 < p.count = grind (arith, nat_tests, is) in
              let n = next some in
              rw (n.0, n.1, n.2) refl

      told : (j : ℕ) → j ≤ 8 → (nat_le j (length (heard ++ (true, packet) ∷ [])) && is_sequence stream (last_few j (heard ++ (true, packet) ∷ []))) ≡ nat_le j (if is_expected p packet then (if nat_lt p.count 8 then p.count + 1 else 8) else 1)
      told zero le =
          let least : nat_le 0 (if is_expected p packet then (if nat_lt p.count 8 then p.count + 1 else 8) else 1) ≡ true = zero_le _ in
          none_of stream (heard ++ (true, packet) ∷ []) ∙ sym least
      told (suc zero) le =
          let long : nat_le 1 (length (heard ++ (true, packet) ∷ [])) ≡ true = grind (arith, nat_tests, length-append heard ((true, packet) ∷ [])) in
          ap (λ l. nat_le 1 (length (heard ++ (true, packet) ∷ [])) && is_sequence stream l) (last_few-push heard (true, packet) 0 ∙ ap (λ l. l ++ (true, packet) ∷ []) (drop_all heard (length heard - 0) (omega arith)))
          ∙ rw long (at_least (is_expected p packet) (nat_lt p.count 8))
        where
          at_least : (e l : Bool) → true ≡ nat_le 1 (if e then (if l then p.count + 1 else 8) else 1)
          at_least true true = grind (arith, nat_tests)
          at_least true false = refl
          at_least false l = refl
      told (suc (suc i)) le =
          let len : nat_le (suc (suc i)) (length (heard ++ (true, packet) ∷ [])) ≡ nat_le (suc i) (length heard) = grind (arith, nat_tests, length-append heard ((true, packet) ∷ [])) in
          ap (λ l. nat_le (suc (suc i)) (length (heard ++ (true, packet) ∷ [])) && is_sequence stream l) (last_few-push heard (true, packet) (suc i))
          ∙ ap (λ b. nat_le (suc (suc i)) (length (heard ++ (true, packet) ∷ [])) && b) (is_sequence-push stream (last_few (suc i) heard) true packet)
          ∙ ap (λ b. b && (is_sequence stream (last_few (suc i) heard) && follows_last stream (last_of (last_few (suc i) heard)) packet)) len
          ∙ by_length (nat_le (suc i) (length heard)) refl
        where
          regroup : (a b : Bool) → (true && (a && b)) ≡ ((true && a) && b)
          regroup a b = refl

          counts : (e l : Bool) (f : Bool) → nat_lt p.count 8 ≡ l → e ≡ (nat_lt 0 p.count && f) → (nat_le (suc i) p.count && f) ≡ nat_le (suc (suc i)) (if e then (if l then p.count + 1 else 8) else 1)
          counts true true true el ee = grind (arith, nat_tests)
          counts true false true el ee = grind (arith, nat_tests, le)
          counts true l false el ee = absurd (no (nat_lt 0 p.count) ee)
            where
              no : (b : Bool) → true ≡ (b && false) → ⊥
              no true e = cc
              no false e = cc
          counts false l true el ee = grind (arith, nat_tests, positive (nat_lt 0 p.count) ee)
            where
              positive : (b : Bool) → false ≡ (b && true) → b ≡ false
              positive false e = refl
              positive true e = cc
          counts false l false el ee = none (nat_le (suc i) p.count) ∙ grind (arith, nat_tests)
            where
              none : (b : Bool) → (b && false) ≡ false
              none true = refl
              none false = refl

          by_length : (b : Bool) → nat_le (suc i) (length heard) ≡ b → (b && (is_sequence stream (last_few (suc i) heard) && follows_last stream (last_of (last_few (suc i) heard)) packet)) ≡ nat_le (suc (suc i)) (if is_expected p packet then (if nat_lt p.count 8 then p.count + 1 else 8) else 1)
          by_length false is =
              let none : nat_le (suc i) p.count ≡ false = sym (c.tells (suc i) (omega (arith, le))) ∙ ap (λ b. b && is_sequence stream (last_few (suc i) heard)) is in
              ap (λ b. b && follows_last stream (last_of heard) packet) (sym none) ∙ counts (is_expected p packet) (nat_lt p.count 8) (follows_last stream (last_of heard) packet) refl (expected_is (last_of heard) c.expects)
          by_length true is =
              let some : length heard - suc i < length heard = grind (arith, nat_tests, is) in
              ap (λ l. is_sequence stream (last_few (suc i) heard) && follows_last stream l packet) (last_of-drop heard (length heard - suc i) some)
              ∙ ap (λ b. b && follows_last stream (last_of heard) packet) (ap (λ b. b && is_sequence stream (last_few (suc i) heard)) (sym is) ∙ c.tells (suc i) (omega (arith, le)))
              ∙ counts (is_expected p packet) (nat_lt p.count 8) (follows_last stream (last_of heard) packet) refl (expected_is (last_of heard) c.expects)

counted : (stream : Stream) (heard : List (Bool × Packet)) → IsCounted stream (probation_of stream heard) heard
counted stream = by_last (λ heard. IsCounted stream (probation_of stream heard) heard) start step
  where
    start : IsCounted stream no_probation []
    start = record { few = omega arith; expects = refl; tells = λ j le. nothing j }
      where
        nothing : (j : ℕ) → (nat_le j 0 && is_sequence stream (last_few j [])) ≡ nat_le j 0
        nothing zero = refl
        nothing (suc j) = let more : nat_le (suc j) 0 ≡ false = grind (arith, nat_tests) in rw more refl

    step : (heard : List (Bool × Packet)) (one : Bool × Packet) → IsCounted stream (probation_of stream heard) heard → IsCounted stream (probation_of stream (heard ++ one ∷ [])) (heard ++ one ∷ [])
    step heard (false, packet) c = rw (probation_of-push stream heard (false, packet)) (not_off stream heard (probation_of stream heard) c packet)
    step heard (true, packet) c = rw (probation_of-push stream heard (true, packet)) (is_off stream heard (probation_of stream heard) c packet)

-- a probation is complete exactly if the count says so
pub complete_is : (stream : Stream) (heard : List (Bool × Packet)) → completes_probation stream heard ≡ is_complete (probation_of stream heard)
complete_is stream heard = (counted stream heard).tells 8 (omega arith)

-- one path's probation among all
pub probation_at-get : (place : ℕ) (probations : List Probation) (other : Probation) → place < length probations → probation_at probations place ≡ slice_index_or probations place other
probation_at-get zero [] other lt = absurd (omega (arith, lt))
probation_at-get (suc place) [] other lt = absurd (omega (arith, lt))
probation_at-get zero (p ∷ probations) other lt = refl
probation_at-get (suc place) (p ∷ probations) other lt = probation_at-get place probations other (omega (arith, lt))

pub probation_at-set : (place : ℕ) (probations : List Probation) (p : Probation) → place < length probations → probation_at (slice_set probations place p) place ≡ p
probation_at-set zero [] p lt = absurd (omega (arith, lt))
probation_at-set (suc place) [] p lt = absurd (omega (arith, lt))
probation_at-set zero (q ∷ probations) p lt = refl
probation_at-set (suc place) (q ∷ probations) p lt = probation_at-set place probations p (omega (arith, lt))

pub probation_at-other : (other place : ℕ) (probations : List Probation) (p : Probation) → nat_eq other place ≡ false → probation_at (slice_set probations place p) other ≡ probation_at probations other
probation_at-other other place [] p apart = refl
probation_at-other zero zero (q ∷ probations) p apart = cc
probation_at-other (suc other) zero (q ∷ probations) p apart = refl
probation_at-other zero (suc place) (q ∷ probations) p apart = refl
probation_at-other (suc other) (suc place) (q ∷ probations) p apart = probation_at-other other place probations p (grind (arith, nat_tests, apart))
