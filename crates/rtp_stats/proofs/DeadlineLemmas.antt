-- The deadlines of packets whose timestamps are in step.
use Rattle.std.proofs.Common.{◌≡◌, ℕ, ◌^◌, ◌<◌, ◌≤◌, Bool, true, false, ℤ, pos, negsuc, neg_ℤ, ◌+ℤ◌, ◌-ℤ◌, ◌*ℤ◌, ◌≤ℤ◌, sym, ap, subst, ◌∙◌, arith, w64, to_z, of_z, Option, Some, None, MatchOption, unwrap_or, if◌then◌else◌}
use Rattle.std.specs.Prelude.{unsigned_abs}
use Rattle.std.specs.Int.{int_rem_euclid, saturate_signed}
use Rattle.std.proofs.lemmas.Bool.{eqb-true}
use Rattle.std.proofs.lemmas.Int.{ints}
use Rattle.std.proofs.lemmas.Option.{none-some}
use Rattle.rtp_stream.proofs.FateLemmas.{shifted}
use Rattle.rtp_stream.proofs.NearestLemmas.{rem_apart, rem_bounds, rem_same}
use Rattle.rtp_stream.specs.Anchor.{deadline_of}
use Rattle.rtp_stream.specs.Grid.{expected_timestamp, is_on_grid}
use Rattle.rtp_stream.specs.Nearest.{IsNearest}
use Rattle.rtp_stream.specs.declared.anchor.Anchor.{Anchor}
use Rattle.rtp_stream.specs.declared.stream_spec.Stream.{Stream}
use Rattle.rtp_stream.specs.declared.fate.Fate.{Fate}
use Rattle.rtp_stats.specs.Deadlines.{HasMargin, IsDeadlineOf, IsMarginOf, IsNearby, IsShortTime, KnownDeadline, is_opening, is_placed}

pub saturate_short : (z : ℤ) → neg_ℤ (pos (2 ^ 62)) ≤ℤ z → z ≤ℤ pos (2 ^ 62) → saturate_signed w64 z ≡ z
saturate_short (pos n) low high = ap pos (let small : n ≤ 2 ^ 62 = omega (arith, ints, high) in omega (arith, small))
saturate_short (negsuc n) low high = ap negsuc (let small : n < 2 ^ 62 = omega (arith, ints, low) in omega (arith, small))

size_is : (z : ℤ) → pos 0 ≤ℤ z → pos (unsigned_abs z) ≡ z
size_is z h = omega (arith, ints, h)

-- a timestamp before it wraps
abbrev stamp_of : Stream → Anchor → ℕ → ℤ
stamp_of stream anchor number = pos anchor.timestamp +ℤ (pos number -ℤ pos anchor.number) *ℤ pos stream.frames

stamps_apart : (stream : Stream) (anchor : Anchor) (before number : ℕ) → (stamp_of stream anchor before +ℤ (pos number -ℤ pos before) *ℤ pos stream.frames) ≡ stamp_of stream anchor number
stamps_apart stream anchor before number = shifted stream (record anchor { media = pos anchor.timestamp }) before number

-- the timestamp of one number is the nearest to that of another
pub stamp_nearest : (stream : Stream) (anchor : Anchor) (before number : ℕ) → IsNearby stream before number → IsNearest (2 ^ 31) (expected_timestamp stream anchor number) (pos (expected_timestamp stream anchor before)) (pos (expected_timestamp stream anchor before) +ℤ (pos number -ℤ pos before) *ℤ pos stream.frames)
stamp_nearest stream anchor before number near =
    let d = (pos number -ℤ pos before) *ℤ pos stream.frames in
    let some : 0 < 4294967296 = omega arith in
    let here = rem_apart 4294967296 (stamp_of stream anchor before) some in
    let low : pos (expected_timestamp stream anchor before) ≡ int_rem_euclid (stamp_of stream anchor before) (pos 4294967296) = size_is _ (rem_bounds 4294967296 (stamp_of stream anchor before) some).0 in
    let high : pos (expected_timestamp stream anchor number) ≡ int_rem_euclid (stamp_of stream anchor number) (pos 4294967296) = size_is _ (rem_bounds 4294967296 (stamp_of stream anchor number) some).0 in
    let apart = stamps_apart stream anchor before number in
    let same = rem_same 4294967296 (pos (expected_timestamp stream anchor before) +ℤ d) (stamp_of stream anchor number) here.0 here.1 some (omega (arith, ints, here.2, low, apart)) in
    record {
      low_bits = same ∙ sym high;
      not_below = omega (arith, ints, near.low);
      below = omega (arith, ints, near.high);
    }

deadlines_apart : (stream : Stream) (anchor : Anchor) (before number : ℕ) → (deadline_of stream anchor before +ℤ (pos number -ℤ pos before) *ℤ pos stream.frames) ≡ deadline_of stream anchor number
deadlines_apart stream anchor before number = let media = shifted stream anchor before number in omega (arith, ints, media)

-- the deadline of a packet, from a known deadline and both timestamps
pub deadline_told : (stream : Stream) (anchor : Anchor) (before number ts0 ts : ℕ) (at near : ℤ) → IsDeadlineOf stream anchor before (record { ts = ts0; at = at }) → is_on_grid stream anchor number ts ≡ true → IsNearby stream before number → IsShortTime (deadline_of stream anchor number) → ((n : ℤ) → IsNearest (2 ^ 31) ts (pos ts0) n → n ≡ near) → saturate_signed w64 (at +ℤ (near -ℤ pos ts0)) ≡ deadline_of stream anchor number
deadline_told stream anchor before number ts0 ts at near known grid nearby short only =
    let stamp : ts ≡ expected_timestamp stream anchor number = eqb-true ts (expected_timestamp stream anchor number) grid in
    let d = (pos number -ℤ pos before) *ℤ pos stream.frames in
    let nearest : IsNearest (2 ^ 31) ts (pos ts0) (pos ts0 +ℤ d) = rw (stamp, known.ts) (stamp_nearest stream anchor before number nearby) in
    let is = only (pos ts0 +ℤ d) nearest in
    let sum : (at +ℤ (near -ℤ pos ts0)) ≡ deadline_of stream anchor number = let apart = deadlines_apart stream anchor before number in let at_is = known.at in omega (arith, ints, is, apart, at_is) in
    ap (saturate_signed w64) sum ∙ saturate_short (deadline_of stream anchor number) short.low short.high

-- the deadline that is kept is the known one
pub held_is : (known : Bool) (ts : ℕ) (at : ℤ) (now : Option KnownDeadline) (k : KnownDeadline) → known ≡ true → (if known then Some (record { ts = ts; at = at }) else None) ≡ now → now ≡ Some k → ◌≡◌ {A = KnownDeadline} (record { ts = ts; at = at }) k
held_is known ts at now k is view some = inside (record { ts = ts; at = at }) k (sym (ap (λ b. if b then Some (record { ts = ts; at = at }) else None) is) ∙ view ∙ some)
  where
    inside : (a b : KnownDeadline) → Some a ≡ Some b → a ≡ b
    inside a b e = cc

pub lent_is : (stream : Stream) (anchor : Anchor) (before ts : ℕ) (at : ℤ) (k : KnownDeadline) → ◌≡◌ {A = KnownDeadline} (record { ts = ts; at = at }) k → IsDeadlineOf stream anchor before k → IsDeadlineOf stream anchor before (record { ts = ts; at = to_z w64 (of_z w64 at) })
lent_is stream anchor before ts at k same of =
    let here : IsDeadlineOf stream anchor before (record { ts = ts; at = at }) = subst (IsDeadlineOf stream anchor before) (sym same) of in
    let fits : to_z w64 (of_z w64 at) ≡ at = omega (arith, ints, here.short.low, here.short.high) in
    record { ts = here.ts; at = fits ∙ here.at; short = subst IsShortTime (sym fits) here.short }

pub known_now : (stream : Stream) (anchor : Anchor) (number ts : ℕ) (at : ℤ) → is_on_grid stream anchor number ts ≡ true → IsShortTime (deadline_of stream anchor number) → at ≡ deadline_of stream anchor number → IsDeadlineOf stream anchor number (record { ts = ts; at = at })
known_now stream anchor number ts at grid short is = record { ts = eqb-true ts (expected_timestamp stream anchor number) grid; at = is; short = subst IsShortTime (sym is) short }

-- the time to a deadline that was found is the packet's margin
pub margin_found : (known : Option KnownDeadline) (fated : Fate) (ts : ℕ) (due : Option ℤ) (now found : ℤ) (spare : Option ℕ)
    → (is_opening known fated ≡ true → Some found ≡ due)
    → ((stream : Stream) (anchor : Anchor) (before number : ℕ) (last : KnownDeadline)
    → known ≡ Some last → IsDeadlineOf stream anchor before last → is_opening known fated ≡ false → is_placed fated ≡ true
    → is_on_grid stream anchor number ts ≡ true → IsNearby stream before number → IsShortTime (deadline_of stream anchor number)
    → Some found ≡ Some (deadline_of stream anchor number))
    → (is_placed fated ≡ false → Some found ≡ None)
    → (known ≡ None → is_opening known fated ≡ false → Some found ≡ None)
    → HasMargin found now spare → IsMarginOf known fated ts due now spare
margin_found known fated ts due now found spare opening in_step unplaced unknown left = record {
  opening = λ is. subst (λ of. MatchOption of (spare ≡ None) (λ deadline. HasMargin deadline now spare)) (opening is) left;
  in_step = λ stream anchor before number last some of closed placed grid nearby short.
      subst (λ at. HasMargin at now spare) (ap (λ of. unwrap_or of found) (in_step stream anchor before number last some of closed placed grid nearby short)) left;
  unplaced = λ is. absurd (none-some found (sym (unplaced is)));
  unknown = λ none closed. absurd (none-some found (sym (unknown none closed)));
}
