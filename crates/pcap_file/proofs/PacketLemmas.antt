-- The words of an IPv4 header.
use Rattle.std.proofs.Common.{◌≡◌, ◌<◌, ◌≤◌, ◌+◌, ◌-◌, ◌*◌, ◌/◌, ◌%◌, ◌^◌, ℕ, List, [], ◌∷◌, ◌++◌, length, get_or, inl, inr, refl, ap, ◌∙◌, arith}
use Rattle.std.proofs.lemmas.Bool.{cases_lt}
use Rattle.std.specs.List.{All}
use Rattle.pcap_file.specs.RecordedDatagram.{ArrivalView}
use Rattle.pcap_file.specs.IpHeader.{HasAddresses, carried, checksum_of, header_octets, header_with, words_sum}

-- the sum of the words of four octets
pub words_sum-four : (xs : List ℕ) → length xs ≡ 4 → words_sum xs ≡ get_or xs 0 0 * 256 + get_or xs 1 0 + (get_or xs 2 0 * 256 + get_or xs 3 0)
unfolding words_sum
words_sum-four [] four = absurd (omega arith)
words_sum-four (a ∷ []) four = absurd (omega arith)
words_sum-four (a ∷ b ∷ []) four = absurd (omega arith)
words_sum-four (a ∷ b ∷ c ∷ []) four = absurd (omega arith)
words_sum-four (a ∷ b ∷ c ∷ d ∷ []) four = omega arith
words_sum-four (a ∷ b ∷ c ∷ d ∷ e ∷ rest) four = absurd (omega arith)

words_sum-behind : (xs ys : List ℕ) → length xs ≡ 4 → words_sum (xs ++ ys) ≡ words_sum xs + words_sum ys
unfolding words_sum
words_sum-behind [] ys four = absurd (omega arith)
words_sum-behind (a ∷ []) ys four = absurd (omega arith)
words_sum-behind (a ∷ b ∷ []) ys four = absurd (omega arith)
words_sum-behind (a ∷ b ∷ c ∷ []) ys four = absurd (omega arith)
words_sum-behind (a ∷ b ∷ c ∷ d ∷ []) ys four = omega arith
words_sum-behind (a ∷ b ∷ c ∷ d ∷ e ∷ rest) ys four = absurd (omega arith)

-- the sum of the words of a header
pub words_sum-header : (total count : ℕ) (source destination : List ℕ) → total < 65536 → total ≡ count → length source ≡ 4
    → words_sum (69 ∷ 0 ∷ count / 256 % 256 ∷ count % 256 ∷ 0 ∷ 0 ∷ 64 ∷ 0 ∷ 64 ∷ 17 ∷ 0 ∷ 0 ∷ (source ++ destination))
    ≡ 50449 + total + words_sum source + words_sum destination
unfolding words_sum
words_sum-header total count source destination fits same four =
    let both = words_sum-behind source destination four in omega (arith, both)

-- the sum of the words of a header with a checksum
words_sum-whole : (total checksum : ℕ) (source destination : List ℕ) → total < 65536 → checksum < 65536 → length source ≡ 4
    → words_sum (69 ∷ 0 ∷ total / 256 % 256 ∷ total % 256 ∷ 0 ∷ 0 ∷ 64 ∷ 0 ∷ 64 ∷ 17 ∷ checksum / 256 % 256 ∷ checksum % 256 ∷ (source ++ destination))
    ≡ 50449 + total + words_sum source + words_sum destination + checksum
unfolding words_sum
words_sum-whole total checksum source destination fits small four =
    let both = words_sum-behind source destination four in omega (arith, both)

-- the sum of the words of an address
words_sum-address : (xs : List ℕ) → length xs ≡ 4 → All (λ octet. octet < 256) xs → words_sum xs < 2 ^ 17
words_sum-address xs four octets =
    let is = words_sum-four xs four in
    let a = octets 0 0 (omega (arith, four)) in
    let b = octets 1 0 (omega (arith, four)) in
    let c = octets 2 0 (omega (arith, four)) in
    let d = octets 3 0 (omega (arith, four)) in
    omega (arith, is, a, b, c, d)

-- a sum with its complement is all ones
fold : (sum low high : ℕ) → sum ≡ high * 65536 + low → low < 65536 → carried sum ≡ low + high
fold sum low high is few = omega (arith, is, few)

all_ones : (sum low high : ℕ) → sum ≡ high * 65536 + low → low < 65536 → high < 16 → carried (carried (sum + (65535 - carried (carried sum)))) ≡ 65535
all_ones sum low high is few small = elim (cases_lt (low + high) 65536) [
  | inl within ↦
      let twice : carried (carried sum) ≡ low + high =
      ap carried (fold sum low high is few) ∙ fold (low + high) (low + high) 0 (omega arith) within ∙ omega arith in
      let whole : carried (sum + (65535 - carried (carried sum))) ≡ 65535 =
      ap (λ n. carried (sum + (65535 - n))) twice
      ∙ fold (sum + (65535 - (low + high))) (65535 - high) high (omega (arith, is, within, small)) (omega arith) ∙ omega (arith, small) in
      ap carried whole ∙ omega arith
  | inr past ↦
      let twice : carried (carried sum) ≡ low + high - 65535 =
      ap carried (fold sum low high is few) ∙ fold (low + high) (low + high - 65536) 1 (omega (arith, past)) (omega (arith, few, small)) ∙ omega (arith, past) in
      let whole : carried (sum + (65535 - carried (carried sum))) ≡ 65535 =
      ap (λ n. carried (sum + (65535 - n))) twice
      ∙ fold (sum + (65535 - (low + high - 65535))) (65534 - high) (high + 1) (omega (arith, is, past, few, small)) (omega arith) ∙ omega (arith, small) in
      ap carried whole ∙ omega arith
]

pub checksum_right : (a : ArrivalView) → HasAddresses a → length a.octets ≤ 32784 → carried (carried (words_sum (header_octets a))) ≡ 65535
unfolding header_octets header_with
checksum_right a has few =
    let total : ℕ = 28 + length a.octets in
    let from = words_sum-address a.source has.source has.source_octets in
    let to = words_sum-address a.destination has.destination has.destination_octets in
    let sum : ℕ = 50449 + total + words_sum a.source + words_sum a.destination in
    let bare : words_sum (header_with 0 a) ≡ sum = words_sum-header total total a.source a.destination (omega (arith, few)) refl has.source in
    let checksum : checksum_of (header_with 0 a) ≡ 65535 - carried (carried sum) = ap (λ n. 65535 - carried (carried n)) bare in
    let whole : words_sum (header_octets a) ≡ sum + checksum_of (header_with 0 a) =
    words_sum-whole total (checksum_of (header_with 0 a)) a.source a.destination (omega (arith, few)) (omega (arith, checksum)) has.source in
    ap (λ n. carried (carried n)) (whole ∙ ap (λ n. sum + n) checksum)
    ∙ all_ones sum (sum % 65536) (sum / 65536) (omega arith) (omega arith) (omega (arith, few, from, to))
