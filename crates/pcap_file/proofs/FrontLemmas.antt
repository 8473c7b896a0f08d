-- A record or a block is the same, whatever follows it.
use Rattle.std.proofs.Common.{◌≡◌, ◌<◌, ◌≤◌, ◌+◌, ◌-◌, ◌*◌, ◌^◌, ◌%◌, ◌&&◌, ◌||◌, not, ℕ, zero, suc, Bool, true, false, List, [], ◌∷◌, ◌++◌, length, take, drop, get_or, Some, None, Result, Ok, Err, nat_lt, ◌==◌, cond, slice_range, refl, sym, ap, ◌∙◌, inl, inr, arith, length-append, length-drop}
use Rattle.std.proofs.lemmas.Bool.Decides.{nat_tests}
use Rattle.std.proofs.lemmas.Bool.{cases_lt}
use Rattle.std.proofs.lemmas.List.{drop-append-le, take-append-le}
use Rattle.byteorder.specs.Endian.{big_from, little_from}
use Rattle.pcap_file.specs.declared.decode.endian.Endian.{Endian}
use Rattle.pcap_file.specs.declared.decode.endian.Endian.TheVariants.{Big, Little}
use Rattle.pcap_file.specs.declared.decode.interface.Interface.{Interface}
use Rattle.pcap_file.specs.declared.decode.pcap.Pcap.{Pcap}
use Rattle.pcap_file.specs.declared.fault.CaptureFaultKind.{CaptureFaultKind}
use Rattle.pcap_file.specs.declared.fault.CaptureFaultKind.TheVariants as fault
use Rattle.pcap_file.specs.Octets.{number_at}
use Rattle.pcap_file.specs.Chain.{and_then}
use Rattle.pcap_file.specs.Packet.{packet_in}
use Rattle.pcap_file.specs.CaptureBlock.{PartView}
use Rattle.pcap_file.specs.Pcap.{record_end, record_of, record_time}
use Rattle.pcap_file.specs.Section.{SectionView, block_in, block_of, block_within, content_of, length_of, order_of, with_length}
use Rattle.pcap_file.specs.BlockParser.{is_block_cut, is_length_cut, is_record_cut}

get_front : (xs ys : List ℕ) (i : ℕ) → i < length xs → get_or (xs ++ ys) i 0 ≡ get_or xs i 0
get_front [] ys i h = absurd (omega (arith, h))
get_front (x ∷ xs) ys zero h = refl
get_front (x ∷ xs) ys (suc i) h = get_front xs ys i (omega (arith, h))

big_front : (n i : ℕ) (xs ys : List ℕ) → i + n ≤ length xs → big_from i n (xs ++ ys) ≡ big_from i n xs
big_front zero i xs ys h = refl
big_front (suc n) i xs ys h =
    ap (λ x. x * 256 ^ n + big_from (suc i) n (xs ++ ys)) (get_front xs ys i (omega (arith, h)))
    ∙ ap (λ x. get_or xs i 0 * 256 ^ n + x) (big_front n (suc i) xs ys (omega (arith, h)))

little_front : (n i : ℕ) (xs ys : List ℕ) → i + n ≤ length xs → little_from i n (xs ++ ys) ≡ little_from i n xs
little_front zero i xs ys h = refl
little_front (suc n) i xs ys h =
    ap (λ x. x + 256 * little_from (suc i) n (xs ++ ys)) (get_front xs ys i (omega (arith, h)))
    ∙ ap (λ x. get_or xs i 0 + 256 * x) (little_front n (suc i) xs ys (omega (arith, h)))

-- a number within a prefix
pub number_front : (order : Endian) (n place : ℕ) (xs ys : List ℕ) → place + n ≤ length xs → number_at order n place (xs ++ ys) ≡ number_at order n place xs
unfolding number_at
number_front Big n place xs ys h =
    ap (big_from 0 n) (drop-append-le place xs ys (omega (arith, h))) ∙ big_front n 0 (drop place xs) ys (omega (arith, h, length-drop place xs))
number_front Little n place xs ys h =
    ap (little_from 0 n) (drop-append-le place xs ys (omega (arith, h))) ∙ little_front n 0 (drop place xs) ys (omega (arith, h, length-drop place xs))

range_front : (xs ys : List ℕ) (i j : ℕ) → i ≤ j → j ≤ length xs → slice_range (xs ++ ys) i j ≡ slice_range xs i j
range_front xs ys i j h g =
    ap (take (j - i)) (drop-append-le i xs ys (omega (arith, h, g))) ∙ take-append-le (j - i) (drop i xs) ys (omega (arith, h, g, length-drop i xs))

not_below : (a b : ℕ) → b ≤ a → nat_lt a b ≡ false
not_below a b h = grind (arith, nat_tests)

-- a whole record
abbrev record_by : Pcap → ℕ → ℕ → List ℕ → Result PartView CaptureFaultKind
record_by pcap end time frame = Ok (record { len = end; packet = packet_in pcap.link (Some time) 0 frame; mark = None })

record_whole : (pcap : Pcap) (octets : List ℕ) → 16 ≤ length octets → record_end pcap octets ≤ length octets
    → record_of pcap octets ≡ record_by pcap (record_end pcap octets) (record_time pcap octets) (slice_range octets 16 (record_end pcap octets))
unfolding record_of
record_whole pcap octets h g = rw (not_below (length octets) 16 h, not_below (length octets) (record_end pcap octets) g) refl

same_record : (pcap : Pcap) (end end' time time' : ℕ) (frame frame' : List ℕ) → end ≡ end' → time ≡ time' → frame ≡ frame' → record_by pcap end time frame ≡ record_by pcap end' time' frame'
same_record pcap end end' time time' frame frame' e t f = rw (e, t, f) refl

pub record_front : (pcap : Pcap) (xs ys : List ℕ) → is_record_cut pcap xs ≡ false → record_of pcap (xs ++ ys) ≡ record_of pcap xs
record_front pcap xs ys whole =
    let long : 16 ≤ length xs = grind (arith, nat_tests, whole) in
    let within : record_end pcap xs ≤ length xs = grind (arith, nat_tests, whole) in
    let more = length-append xs ys in
    let end : record_end pcap (xs ++ ys) ≡ record_end pcap xs = ap (λ n. 16 + n) (number_front pcap.order 4 8 xs ys (omega (arith, long))) in
    let seconds = number_front pcap.order 4 0 xs ys (omega (arith, long)) in
    let units = number_front pcap.order 4 4 xs ys (omega (arith, long)) in
    let time : record_time pcap (xs ++ ys) ≡ record_time pcap xs = rw (seconds, units) refl in
    let frame : slice_range (xs ++ ys) 16 (record_end pcap (xs ++ ys)) ≡ slice_range xs 16 (record_end pcap xs) =
    ap (slice_range (xs ++ ys) 16) end ∙ range_front xs ys 16 (record_end pcap xs) (omega arith) within in
    record_whole pcap (xs ++ ys) (omega (arith, long, more)) (omega (arith, within, more, end))
    ∙ same_record pcap (record_end pcap (xs ++ ys)) (record_end pcap xs) (record_time pcap (xs ++ ys)) (record_time pcap xs)
    (slice_range (xs ++ ys) 16 (record_end pcap (xs ++ ys))) (slice_range xs 16 (record_end pcap xs)) end time frame
    ∙ sym (record_whole pcap xs long within)

-- the order of a block's octets
order_front : (order : Endian) (xs ys : List ℕ) → 12 ≤ length xs → order_of order (xs ++ ys) ≡ order_of order xs
unfolding order_of
order_front order xs ys long =
    rw (number_front Big 4 0 xs ys (omega (arith, long)), number_front Big 4 8 xs ys (omega (arith, long)), number_front Little 4 8 xs ys (omega (arith, long))) refl

-- the length of a block: three tests; the first two need only a prefix
abbrev length_by : Endian → ℕ → List ℕ → Result ℕ CaptureFaultKind
length_by order n octets =
    cond (nat_lt n 12 || not (n % 4 == 0)) (Err fault.Length)
    (cond (nat_lt (length octets) n) (Err fault.Truncated)
    (cond (number_at order 4 (n - 4) octets == n) (Ok n) (Err fault.Length)))

length_is : (order : Endian) (octets : List ℕ) → length_of order octets ≡ length_by order (number_at order 4 4 octets) octets
unfolding length_of
length_is order octets = refl

length_by-front : (order : Endian) (n : ℕ) (xs ys : List ℕ) → ((not (nat_lt n 12) && (n % 4 == 0)) && nat_lt (length xs) n) ≡ false → length_by order n (xs ++ ys) ≡ length_by order n xs
length_by-front order n xs ys whole = elim (cases_lt (length xs) n) [
  | inl past ↦
      let bad : (nat_lt n 12 || not (n % 4 == 0)) ≡ true = grind (arith, nat_tests, whole, past) in
      rw bad refl
  | inr fits ↦
      let more = length-append xs ys in
      elim (cases_lt n 12) [
        | inl few ↦
            let bad : nat_lt n 12 ≡ true = grind (arith, nat_tests) in
            rw bad refl
        | inr many ↦
            let one = not_below (length xs) n fits in
            let both = not_below (length (xs ++ ys)) n (omega (arith, fits, more)) in
            let last = number_front order 4 (n - 4) xs ys (omega (arith, fits, many)) in
            rw (one, both, last) refl
      ]
]

length_front : (order : Endian) (xs ys : List ℕ) → 12 ≤ length xs → is_length_cut (Ok order) xs ≡ false → length_of order (xs ++ ys) ≡ length_of order xs
length_front order xs ys long whole =
    length_is order (xs ++ ys) ∙ ap (λ n. length_by order n (xs ++ ys)) (number_front order 4 4 xs ys (omega (arith, long)))
    ∙ length_by-front order (number_at order 4 4 xs) xs ys whole ∙ sym (length_is order xs)

one : (r : Result ℕ CaptureFaultKind) (x y : ℕ) → r ≡ Ok x → r ≡ Ok y → x ≡ y
one r x y e f = cc

length_within : (order : Endian) (octets : List ℕ) (len : ℕ) → length_of order octets ≡ Ok len → len ≤ length octets
length_within order octets len is = within (number_at order 4 4 octets) (sym (length_is order octets) ∙ is)
  where
    by : (n : ℕ) (a b d : Bool) → nat_lt (length octets) n ≡ b → cond a (Err fault.Length) (cond b (Err fault.Truncated) (cond d (Ok n) (Err fault.Length))) ≡ Ok len → len ≤ length octets
    by n true b d e is = absurd (let f : Err fault.Length ≡ Ok len = is in cc)
    by n false true d e is = absurd (let f : Err fault.Truncated ≡ Ok len = is in cc)
    by n false false false e is = absurd (let f : Err fault.Length ≡ Ok len = is in cc)
    by n false false true e is =
        let here : n ≡ len = one (Ok n) n len refl is in
        let fits : n ≤ length octets = grind (arith, nat_tests, e) in
        omega (arith, here, fits)

    within : (n : ℕ) → length_by order n octets ≡ Ok len → len ≤ length octets
    within n is = by n (nat_lt n 12 || not (n % 4 == 0)) (nat_lt (length octets) n) (number_at order 4 (n - 4) octets == n) refl is

within_front : (section : SectionView) (xs ys : List ℕ) (r : Result ℕ CaptureFaultKind) → ((len : ℕ) → r ≡ Ok len → len ≤ length xs)
    → and_then r (block_within section (xs ++ ys)) ≡ and_then r (block_within section xs)
within_front section xs ys (Ok len) fits = ap (λ l. and_then (content_of section l) (with_length len l)) (take-append-le len xs ys (fits len refl))
within_front section xs ys (Err kind) fits = refl

block_in-front : (interfaces : List Interface) (xs ys : List ℕ) (r : Result Endian CaptureFaultKind) → 12 ≤ length xs → is_length_cut r xs ≡ false
    → and_then r (block_in interfaces (xs ++ ys)) ≡ and_then r (block_in interfaces xs)
block_in-front interfaces xs ys (Ok order) long whole =
    let section : SectionView = record { order = order; interfaces = interfaces } in
    ap (λ r. and_then r (block_within section (xs ++ ys))) (length_front order xs ys long whole)
    ∙ within_front section xs ys (length_of order xs) (length_within order xs)
block_in-front interfaces xs ys (Err kind) long whole = refl

block_whole : (section : SectionView) (octets : List ℕ) → 12 ≤ length octets → block_of section octets ≡ and_then (order_of section.order octets) (block_in section.interfaces octets)
unfolding block_of
block_whole section octets long = rw (not_below (length octets) 12 long) refl

pub block_front : (section : SectionView) (xs ys : List ℕ) → is_block_cut section.order xs ≡ false → block_of section (xs ++ ys) ≡ block_of section xs
block_front section xs ys whole =
    let long : 12 ≤ length xs = grind (arith, nat_tests, whole) in
    let rest : is_length_cut (order_of section.order xs) xs ≡ false = grind (arith, nat_tests, whole) in
    let more = length-append xs ys in
    block_whole section (xs ++ ys) (omega (arith, long, more))
    ∙ ap (λ r. and_then r (block_in section.interfaces (xs ++ ys))) (order_front section.order xs ys long)
    ∙ block_in-front section.interfaces xs ys (order_of section.order xs) long rest
    ∙ sym (block_whole section xs long)
