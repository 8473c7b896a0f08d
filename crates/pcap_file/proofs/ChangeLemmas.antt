-- A recorded change of gains is read as it was taken.
use Rattle.std.proofs.Common.{◌≡◌, ◌⊎◌, inl, inr, ◌<◌, ◌≤◌, ◌+◌, ◌-◌, ◌*◌, ◌/◌, ◌%◌, ℕ, zero, suc, Bool, true, false, ℤ, List, [], ◌∷◌, ◌++◌, length, take, drop, Option, Some, None, nat_lt, ◌==◌, not, ◌||◌, if◌then◌else◌, refl, sym, ap, ◌∙◌, arith, length-append, length-drop, drop-drop, take_all, subst, IfSome}
use Rattle.std.specs.Prelude.{FitsSigned}
use Rattle.std.specs.List.{All, flat_map}
use Rattle.std.specs.Int.{w32, w64, cast_signed, cast_unsigned}
use Rattle.std.proofs.Math.Facts.{Fits-of_z}
use Rattle.std.proofs.Math.Seq.{take-append_seam}
use Rattle.std.proofs.lemmas.Bool.Decides.{nat_tests}
use Rattle.std.proofs.lemmas.Int.{to_z-of_z}
use Rattle.byteorder.specs.Endian.{IsReadBy, big_bytes, big_number}
use Rattle.byteorder.specs.Numbers.{big_number-reads_back, length-bytes_high_first}
use Rattle.pcap_file.specs.declared.decode.endian.Endian.TheVariants.{Big}
use Rattle.pcap_file.specs.Octets.{number_at}
use Rattle.pcap_file.specs.RecordedChange.{ChangeView, IsChange, change_octets, change_of, gain_octets, gains_in}
use Rattle.pcap_file.proofs.OctetLemmas.{behind_front}

-- four octets for each gain
gains_size : (gains : List ℤ) → length (flat_map gain_octets gains) ≡ 4 * length gains
gains_size [] = refl
gains_size (gain ∷ gains) = omega (arith, gains_size gains, length-append (gain_octets gain) (flat_map gain_octets gains), length-bytes_high_first 4 (cast_unsigned w32 gain))

-- signed numbers are read back
signed_32 : (z : ℤ) (rest : List ℕ) → FitsSigned w32 z → cast_signed w32 (big_number 4 (big_bytes 4 (cast_unsigned w32 z) ++ rest)) ≡ z
signed_32 z rest is =
    let fits = Fits-of_z {w = w32} {z = z} is in
    ap (cast_signed w32) (big_number-reads_back 4 (cast_unsigned w32 z) rest fits.fits) ∙ to_z-of_z w32 z is

signed_64 : (z : ℤ) (rest : List ℕ) → FitsSigned w64 z → cast_signed w64 (big_number 8 (big_bytes 8 (cast_unsigned w64 z) ++ rest)) ≡ z
signed_64 z rest is =
    let fits = Fits-of_z {w = w64} {z = z} is in
    ap (cast_signed w64) (big_number-reads_back 8 (cast_unsigned w64 z) rest fits.fits) ∙ to_z-of_z w64 z is

gains_back : (gains : List ℤ) → All (FitsSigned w32) gains → gains_in (length gains) (flat_map gain_octets gains) ≡ gains
unfolding number_at
gains_back [] all = refl
gains_back (gain ∷ gains) all =
    let rest : List ℕ = flat_map gain_octets gains in
    let size : 4 ≡ length (gain_octets gain) = sym (length-bytes_high_first 4 (cast_unsigned w32 gain)) in
    ap (λ z. z ∷ gains_in (length gains) (drop 4 (gain_octets gain ++ rest))) (signed_32 gain rest (all 0 gain (omega arith)))
    ∙ ap (λ l. gain ∷ gains_in (length gains) l) (behind_front 4 (gain_octets gain) rest size)
    ∙ ap (λ l. gain ∷ l) (gains_back gains (λ k d h. all (suc k) d (omega (arith, h))))

gains_count : (count : ℕ) (octets : List ℕ) → length (gains_in count octets) ≡ count
gains_count zero octets = refl
gains_count (suc count) octets = omega (arith, gains_count count (drop 4 octets))

-- the change that octets spell if they are as many as one has
abbrev spelled : ℕ → List ℕ → ChangeView
spelled count octets = record { at = cast_signed w64 (number_at Big 8 0 octets); next_block = number_at Big 8 8 octets; gains = gains_in count (drop 16 octets) }

change_if : (few words : Bool) (octets : List ℕ) → Option ChangeView
change_if few words octets = if few || not words then None else Some (spelled ((length octets - 16) / 4) octets)

change_by : (octets : List ℕ) (few words : Bool) → nat_lt (length octets) 16 ≡ few → (length octets % 4 == 0) ≡ words → change_of octets ≡ change_if few words octets
unfolding change_of change_if
change_by octets few words e f = rw (e, f) refl

-- the change in octets, if there are as many as it needs
change_in : (octets : List ℕ) (count : ℕ) → length octets ≡ 16 + 4 * count → change_of octets ≡ Some (spelled count octets)
unfolding change_if
change_in octets count is =
    let long : nat_lt (length octets) 16 ≡ false = grind (arith, nat_tests, is) in
    let rest : length octets % 4 ≡ 0 = omega (arith, is) in
    let words : (length octets % 4 == 0) ≡ true = grind (arith, nat_tests, rest) in
    let number : (length octets - 16) / 4 ≡ count = omega (arith, is) in
    change_by octets false true long words ∙ ap (λ n. Some (spelled n octets)) number

-- no change in other octets
none_if : (few : Bool) (octets : List ℕ) → change_if few false octets ≡ None
unfolding change_if
none_if true octets = refl
none_if false octets = refl

no_change : (octets : List ℕ) → (length octets % 4 ≡ 0 → ⊥) → change_of octets ≡ None
no_change octets other =
    let words : (length octets % 4 == 0) ≡ false = grind (arith, nat_tests, other) in
    change_by octets (nat_lt (length octets) 16) false refl words ∙ none_if (nat_lt (length octets) 16) octets

-- octets behind two numbers that are no gains, or more than there is space for
pub unread : (octets : List ℕ) (capacity n : ℕ) → 16 ≤ length octets → n ≡ length octets - 16 → (n % 4 ≡ 0 → ⊥) ⊎ ((n % 4 ≡ 0) × (capacity < n / 4))
    → IfSome (change_of octets) (λ v. capacity < length v.gains)
unread octets capacity n long is (inl other) =
    subst (λ o. IfSome o (λ v. capacity < length v.gains)) (sym (no_change octets (λ e. other (omega (arith, long, is, e))))) tt
unread octets capacity n long is (inr more) =
    let size : length octets ≡ 16 + 4 * (n / 4) = omega (arith, long, is, more.0) in
    let count = gains_count (n / 4) (drop 16 octets) in
    subst (λ o. IfSome o (λ v. capacity < length v.gains)) (sym (change_in octets (n / 4) size)) (omega (arith, count, more.1))

-- the gains that are read from adjacent words
gains_read : (octets : List ℕ) (gains : List ℤ) → IsReadBy (λ ys. cast_signed w32 (big_number 4 ys)) 4 octets gains → gains_in (length gains) octets ≡ gains
unfolding number_at
gains_read octets [] reads = refl
gains_read octets (gain ∷ gains) reads =
    let first : cast_signed w32 (big_number 4 octets) ≡ gain = sym (reads gain 0 (omega arith)) in
    ap (λ z. z ∷ gains_in (length gains) (drop 4 octets)) first
    ∙ ap (λ l. gain ∷ l) (gains_read (drop 4 octets) gains (λ d k h.
    reads d (suc k) (omega (arith, h))
    ∙ ap (λ n. cast_signed w32 (big_number 4 (drop n octets))) (omega arith)
    ∙ ap (λ l. cast_signed w32 (big_number 4 l)) (sym (drop-drop (4 * k) 4 octets))))

-- a change that was read
gains_of_read : (octets : List ℕ) (count : ℕ) (new rest : List ℤ) → length new ≡ count → IsReadBy (λ ys. cast_signed w32 (big_number 4 ys)) 4 (take (length octets - 16) (drop 16 octets)) new
    → gains_in count (drop 16 octets) ≡ take count (new ++ rest)
gains_of_read octets count new rest size reads =
    let all : take (length octets - 16) (drop 16 octets) ≡ drop 16 octets = take_all (length octets - 16) (drop 16 octets) (omega (arith, length-drop 16 octets)) in
    ap (gains_in count) (sym all) ∙ ap (λ k. gains_in k (take (length octets - 16) (drop 16 octets))) (sym size) ∙ gains_read (take (length octets - 16) (drop 16 octets)) new reads
    ∙ sym (ap (λ k. take k (new ++ rest)) (sym size) ∙ take-append_seam new rest)

pub read_of : (octets : List ℕ) (n : ℕ) (new rest : List ℤ) (at : ℤ) (next : ℕ) → 16 ≤ length octets → n ≡ length octets - 16 → n % 4 ≡ 0 → length new ≡ n / 4
    → IsReadBy (λ ys. cast_signed w32 (big_number 4 ys)) 4 (take (length octets - 16) (drop 16 octets)) new
    → at ≡ cast_signed w64 (number_at Big 8 0 octets) → next ≡ number_at Big 8 8 octets
    → change_of octets ≡ Some (record { at = at; next_block = next; gains = take (n / 4) (new ++ rest) })
read_of octets n new rest at next long is words count reads first second =
    change_in octets (n / 4) (omega (arith, long, is, words))
    ∙ ap (λ (l : List ℤ). Some (record { at = cast_signed w64 (number_at Big 8 0 octets); next_block = number_at Big 8 8 octets; gains = l })) (gains_of_read octets (n / 4) new rest count reads)
    ∙ ap (λ (z : ℤ). Some (record { at = z; next_block = number_at Big 8 8 octets; gains = take (n / 4) (new ++ rest) })) (sym first)
    ∙ ap (λ (m : ℕ). Some (record { at = at; next_block = m; gains = take (n / 4) (new ++ rest) })) (sym second)

pub change_back : (v : ChangeView) → IsChange v → change_of (change_octets v) ≡ Some v
unfolding change_octets number_at
change_back v is =
    let at : List ℕ = big_bytes 8 (cast_unsigned w64 v.at) in
    let next : List ℕ = big_bytes 8 v.next_block in
    let gains : List ℕ = flat_map gain_octets v.gains in
    let all : List ℕ = at ++ next ++ gains in
    let first : 8 ≡ length at = sym (length-bytes_high_first 8 (cast_unsigned w64 v.at)) in
    let second : 8 ≡ length next = sym (length-bytes_high_first 8 v.next_block) in
    let size : length all ≡ 16 + 4 * length v.gains = omega (arith, first, second, gains_size v.gains, length-append (at ++ next) gains, length-append at next) in
    change_in all (length v.gains) size
    ∙ ap (λ (z : ℤ). Some (record { at = z; next_block = big_number 8 (drop 8 all); gains = gains_in (length v.gains) (drop 16 all) })) (signed_64 v.at (next ++ gains) is.at)
    ∙ ap (λ (n : ℕ). Some (record { at = v.at; next_block = n; gains = gains_in (length v.gains) (drop 16 all) })) (big_number-reads_back 8 v.next_block gains is.next_block)
    ∙ ap (λ (l : List ℤ). Some (record { at = v.at; next_block = v.next_block; gains = l })) (gains_back v.gains is.gains)
