-- Outputs that begin at another of their blocks.
use Rattle.std.proofs.Common.{◌≡◌, ℕ, ◌+◌, ◌-◌, ◌*◌, ◌<◌, ◌≤◌, ◌/◌, ◌%◌, ℤ, pos, negsuc, ◌+ℤ◌, ◌-ℤ◌, ◌*ℤ◌, ◌≤ℤ◌, ◌<ℤ◌, arith, refl, ap, ◌∙◌}
use Rattle.std.specs.Prelude.{neg_ℤ, unsigned_abs, int_lt, Bool, true, false}
use Rattle.std.proofs.Math.Nat.{div-add-mod', mod-lt, mul-le-mul_left, mul-le-mul_right}
use Rattle.std.proofs.lemmas.Int.{ints}
use Rattle.std.specs.Int.{int_div_euclid, int_rem_euclid}
use Rattle.mix_packets.specs.declared.out_spec.Output.{Output}
use Rattle.mix_packets.specs.OutSpec.{IsOutput}
use Rattle.mix_packets.specs.Block.{block_start, block_head, sequence_number_of, timestamp_of}
use Rattle.mix_packets.specs.Aligned.{aligned, first_from}
use borrow.Author.Differences.{up, down}

-- a number is at least its quotient's multiple of the divisor, and less than the next multiple
quotient : (d : ℕ) (z : ℤ) → 0 < d → ((int_div_euclid z (pos d) *ℤ pos d) ≤ℤ z) × (z <ℤ ((int_div_euclid z (pos d) *ℤ pos d) +ℤ pos d))
quotient d (pos a) some = (omega (arith, ints, div-add-mod' a d), omega (arith, ints, div-add-mod' a d, mod-lt a some))
quotient d (negsuc a) some = (omega (arith, ints, div-add-mod' a d, mod-lt a some), omega (arith, ints, div-add-mod' a d))

-- a number less its remainder is its quotient's multiple of the divisor
pub remainder : (d : ℕ) (z : ℤ) → 0 < d → z ≡ (int_div_euclid z (pos d) *ℤ pos d) +ℤ int_rem_euclid z (pos d)
remainder d (pos a) some = omega (arith, ints, div-add-mod' a d)
remainder d (negsuc a) some = omega (arith, ints, div-add-mod' a d, mod-lt a some)

-- a quotient is no farther from 0 than the number
pub no_farther : (d : ℕ) (z : ℤ) → 0 < d → unsigned_abs (int_div_euclid z (pos d)) ≤ unsigned_abs z
no_farther d (pos a) some = omega (arith, ints, div-add-mod' a d, mul-le-mul_left (a / d) some)
no_farther d (negsuc a) some = omega (arith, ints, div-add-mod' a d, mul-le-mul_left (a / d) some)

-- a product of a sum, and of an opposite
times-plus : (d : ℕ) (p q : ℤ) → (p +ℤ q) *ℤ pos d ≡ (p *ℤ pos d) +ℤ (q *ℤ pos d)
times-plus d p q =
    let split : up (p +ℤ q) + (down p + down q) ≡ (up p + up q) + down (p +ℤ q) = omega (arith, ints) in
    omega (arith, ints, ap (λ n. n * d) split)

times-neg : (d : ℕ) (q : ℤ) → neg_ℤ q *ℤ pos d ≡ neg_ℤ (q *ℤ pos d)
times-neg d q =
    let split : up (neg_ℤ q) + up q ≡ down q + down (neg_ℤ q) = omega (arith, ints) in
    omega (arith, ints, ap (λ n. n * d) split)

-- the multiple of a greater number is greater by the divisor at least
ordered : (d : ℕ) (p q : ℤ) → p <ℤ q → ((p *ℤ pos d) +ℤ pos d) ≤ℤ (q *ℤ pos d)
ordered d p q less =
    let e = unsigned_abs (q -ℤ p) in
    let some : 1 ≤ e = omega (arith, ints, less) in
    let apart : q ≡ p +ℤ pos e = omega (arith, ints, less) in
    let far : q *ℤ pos d ≡ (p *ℤ pos d) +ℤ pos (e * d) = ap (λ x. x *ℤ pos d) apart ∙ times-plus d p (pos e) in
    omega (arith, ints, far, mul-le-mul_right d some)

-- of two numbers one is less, or they are equal
by_order : {p q : ℤ} → (p <ℤ q → p ≡ q) → (q <ℤ p → p ≡ q) → p ≡ q
by_order {p} {q} below above = by_tests (int_lt p q) refl (int_lt q p) refl
  where
    by_tests : (less : Bool) → int_lt p q ≡ less → (more : Bool) → int_lt q p ≡ more → p ≡ q
    by_tests true is more was = below (omega (arith, ints, is))
    by_tests false is true was = above (omega (arith, ints, was))
    by_tests false is false was = omega (arith, ints, is, was)

-- a number has one quotient
one_quotient : (d : ℕ) (z q : ℤ) → 0 < d → (q *ℤ pos d) ≤ℤ z → z <ℤ ((q *ℤ pos d) +ℤ pos d) → int_div_euclid z (pos d) ≡ q
one_quotient d z q some low high =
    let p = int_div_euclid z (pos d) in
    let own = quotient d z some in
    by_order (λ less. let far = ordered d p q less in absurd (omega (arith, ints, far, low, own.1))) (λ less. let far = ordered d q p less in absurd (omega (arith, ints, far, high, own.0)))

-- multiples of a divisor are equal only if the numbers are
cancel : (d : ℕ) (p q : ℤ) → 0 < d → p *ℤ pos d ≡ q *ℤ pos d → p ≡ q
cancel d p q some same =
    by_order (λ less. let far = ordered d p q less in absurd (omega (arith, ints, far, same, some))) (λ less. let far = ordered d q p less in absurd (omega (arith, ints, far, same, some)))

-- the start of an output from the first block on at a time or after it
start-from : (out : Output) (time : ℤ) → (aligned time out).start ≡ out.start -ℤ (int_div_euclid (out.start -ℤ time) (pos out.frames) *ℤ pos out.frames)
start-from out time = let turned = times-neg out.frames (int_div_euclid (out.start -ℤ time) (pos out.frames)) in omega (arith, ints, turned)

pub start-ahead : (out : Output) (time : ℤ) → IsOutput out → (aligned time out).start ≡ time +ℤ int_rem_euclid (out.start -ℤ time) (pos out.frames)
start-ahead out time ok = omega (arith, ints, start-from out time, remainder out.frames (out.start -ℤ time) ok.some_frames)

pub begins-after : (out : Output) (time : ℤ) → IsOutput out → time ≤ℤ (aligned time out).start
begins-after out time ok = let q = quotient out.frames (out.start -ℤ time) ok.some_frames in omega (arith, ints, q.0, start-from out time)

pub begins-within : (out : Output) (time : ℤ) → IsOutput out → (aligned time out).start <ℤ (time +ℤ pos out.frames)
begins-within out time ok = let q = quotient out.frames (out.start -ℤ time) ok.some_frames in omega (arith, ints, q.1, start-from out time)

-- numbers of 16 bits that are counted on to one number
same_low : (z y : ℤ) (m n : ℕ) → z +ℤ pos m ≡ y +ℤ pos n → (unsigned_abs (int_rem_euclid z (pos 65536)) + m) % 65536 ≡ (unsigned_abs (int_rem_euclid y (pos 65536)) + n) % 65536
same_low (pos a) (pos b) m n same = omega (arith, ints, same)
same_low (pos a) (negsuc b) m n same = omega (arith, ints, same)
same_low (negsuc a) (pos b) m n same = omega (arith, ints, same)
same_low (negsuc a) (negsuc b) m n same = omega (arith, ints, same)

-- a number of 16 bits that is moved twice
moved_low : (z k w v : ℤ) → w ≡ pos (unsigned_abs (int_rem_euclid z (pos 65536))) +ℤ k → v ≡ z +ℤ k → unsigned_abs (int_rem_euclid w (pos 65536)) ≡ unsigned_abs (int_rem_euclid v (pos 65536))
moved_low (pos a) k (pos w) (pos v) e f = omega (arith, ints, e, f)
moved_low (pos a) k (pos w) (negsuc v) e f = omega (arith, ints, e, f)
moved_low (pos a) k (negsuc w) (pos v) e f = omega (arith, ints, e, f)
moved_low (pos a) k (negsuc w) (negsuc v) e f = omega (arith, ints, e, f)
moved_low (negsuc a) k (pos w) (pos v) e f = omega (arith, ints, e, f)
moved_low (negsuc a) k (pos w) (negsuc v) e f = omega (arith, ints, e, f)
moved_low (negsuc a) k (negsuc w) (pos v) e f = omega (arith, ints, e, f)
moved_low (negsuc a) k (negsuc w) (negsuc v) e f = omega (arith, ints, e, f)

-- blocks of one media time have one number, counted from the start that the output had
one_block : (out : Output) (time other : ℤ) (m n : ℕ) → IsOutput out → block_start (aligned time out) m ≡ block_start (aligned other out) n → first_from time out +ℤ pos m ≡ first_from other out +ℤ pos n
one_block out time other m n ok same =
    let d = out.frames in
    cancel d (first_from time out +ℤ pos m) (first_from other out +ℤ pos n) ok.some_frames
    (omega (arith, ints, times-plus d (first_from time out) (pos m), times-plus d (first_from other out) (pos n), same))

pub one-header : (out : Output) (time other : ℤ) (m n : ℕ) → IsOutput out → block_start (aligned time out) m ≡ block_start (aligned other out) n → block_head (aligned time out) m ≡ block_head (aligned other out) n
one-header out time other m n ok same =
    let count = one_block out time other m n ok same in
    let seq : sequence_number_of (aligned time out) m ≡ sequence_number_of (aligned other out) n = same_low (pos out.seq0 +ℤ first_from time out) (pos out.seq0 +ℤ first_from other out) m n (omega (arith, ints, count)) in
    let ts : timestamp_of (aligned time out) m ≡ timestamp_of (aligned other out) n = ap (λ t. unsigned_abs (int_rem_euclid (t +ℤ pos out.offset) (pos 4294967296))) same in
    rw (seq, ts)

pub aligned-again : (out : Output) (time other : ℤ) → IsOutput out → aligned time (aligned other out) ≡ aligned time out
aligned-again out time other ok =
    let d = out.frames in
    let here = int_div_euclid (out.start -ℤ time) (pos d) in
    let there = first_from other out in
    let own = quotient d (out.start -ℤ time) ok.some_frames in
    let split = times-plus d here there in
    let moved : int_div_euclid ((aligned other out).start -ℤ time) (pos d) ≡ here +ℤ there = one_quotient d ((aligned other out).start -ℤ time) (here +ℤ there) ok.some_frames (omega (arith, ints, split, own.0)) (omega (arith, ints, split, own.1)) in
    let from : first_from time (aligned other out) ≡ first_from time out -ℤ there = omega (arith, ints, moved) in
    let back = times-plus d (first_from time out) (neg_ℤ there) in
    let turned = times-neg d there in
    let start : (aligned time (aligned other out)).start ≡ (aligned time out).start = omega (arith, ints, ap (λ k. k *ℤ pos d) from, back, turned) in
    let seq : (aligned time (aligned other out)).seq0 ≡ (aligned time out).seq0 =
    moved_low (pos out.seq0 +ℤ there) (first_from time (aligned other out)) _ _ refl (omega (arith, ints, from)) in
    rw (start, seq)

pub aligned-own : (out : Output) → IsOutput out → aligned out.start out ≡ out
aligned-own out ok =
    let none : int_div_euclid (out.start -ℤ out.start) (pos out.frames) ≡ pos 0 = one_quotient out.frames (out.start -ℤ out.start) (pos 0) ok.some_frames (omega (arith, ints)) (omega (arith, ints, ok.some_frames)) in
    let start : (aligned out.start out).start ≡ out.start = omega (arith, ints, ap (λ q. q *ℤ pos out.frames) none, start-from out out.start) in
    let seq : (aligned out.start out).seq0 ≡ out.seq0 = ap (λ q. unsigned_abs (int_rem_euclid (pos out.seq0 +ℤ neg_ℤ q) (pos 65536))) none ∙ omega (arith, ok.seq0_fits) in
    rw (start, seq)
