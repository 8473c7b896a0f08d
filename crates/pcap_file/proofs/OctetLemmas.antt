-- Numbers that are written are read back.
use Rattle.std.proofs.Common.{◌≡◌, ◌<◌, ◌+◌, ◌-◌, ◌^◌, ℕ, List, ◌++◌, length, take, drop, slice_range, ap, ◌∙◌, arith}
use Rattle.std.proofs.Math.Seq.{drop-append_seam, take-append_seam}
use Rattle.byteorder.specs.Endian.{big_bytes, big_number, little_bytes, little_number}
use Rattle.byteorder.specs.Numbers.{big_number-reads_back, little_number-reads_back}
use Rattle.pcap_file.specs.declared.decode.endian.Endian.TheVariants.{Big, Little}
use Rattle.pcap_file.specs.Octets.{number_at}

-- the octets behind others
pub behind_front : (p : ℕ) (front rest : List ℕ) → p ≡ length front → drop p (front ++ rest) ≡ rest
behind_front p front rest e = ap (λ n. drop n (front ++ rest)) e ∙ drop-append_seam front rest

pub front_of : (n : ℕ) (front rest : List ℕ) → n ≡ length front → take n (front ++ rest) ≡ front
front_of n front rest e = ap (λ m. take m (front ++ rest)) e ∙ take-append_seam front rest

-- a piece in the midst
pub midst : (i j : ℕ) (front piece rest octets : List ℕ) → octets ≡ front ++ (piece ++ rest) → i ≡ length front → j ≡ i + length piece → slice_range octets i j ≡ piece
midst i j front piece rest octets is from to =
    ap (λ l. take (j - i) (drop i l)) is ∙ ap (take (j - i)) (behind_front i front (piece ++ rest) from)
    ∙ front_of (j - i) piece rest (omega (arith, to))

-- a number behind other octets
pub number_behind : (n p x : ℕ) (front rest octets : List ℕ) → octets ≡ front ++ (little_bytes n x ++ rest) → p ≡ length front → x < 256 ^ n → number_at Little n p octets ≡ x
unfolding number_at
number_behind n p x front rest octets is from fits =
    ap (λ l. little_number n (drop p l)) is ∙ ap (little_number n) (behind_front p front (little_bytes n x ++ rest) from)
    ∙ little_number-reads_back n x rest fits

-- a number behind other octets, most significant octet first
pub big_behind : (n p x : ℕ) (front rest octets : List ℕ) → octets ≡ front ++ (big_bytes n x ++ rest) → p ≡ length front → x < 256 ^ n → number_at Big n p octets ≡ x
unfolding number_at
big_behind n p x front rest octets is from fits =
    ap (λ l. big_number n (drop p l)) is ∙ ap (big_number n) (behind_front p front (big_bytes n x ++ rest) from)
    ∙ big_number-reads_back n x rest fits
