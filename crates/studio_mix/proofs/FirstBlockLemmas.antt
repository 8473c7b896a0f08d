-- The first blocks of a list of feeds, one after another.
use Rattle.std.proofs.Common.{◌≡◌, inl, inr, ◌<◌, ◌≤◌, ◌+◌, ◌-◌, ℕ, Bool, true, false, not, ◌&&◌, ◌||◌, nat_lt, List, [], ◌∷◌, ◌++◌, length, take, drop, get_or, ◌≤ℤ◌, refl, sym, ap, ◌∙◌, arith}
use Rattle.std.proofs.lemmas.Bool.{cases_Bool, cases_lt, false≢true}
use Rattle.std.proofs.lemmas.Bool.Decides.{nat_tests}
use Rattle.std.proofs.lemmas.Int.{ints}
use Rattle.std.proofs.Math.Nat.{mul-le-mul_right}
use Rattle.std.proofs.lemmas.List.{length_push, length-append, length-drop, take_at, get_or_append_left, get_or-append_right}
use Rattle.std.proofs.lemmas.Option.{slice_get_read, slice_get_within, get_or_from_slice_get}
use Rattle.lane_align.proofs.MarkListLemmas.{both_left, both_right}
use Rattle.mix_packets.specs.declared.out_spec.Output.{Output}
use Rattle.mix_packets.specs.Block.{block_start}
use Rattle.studio_config.specs.Studio.{Studio}
use Rattle.studio_mix.specs.Blocks.{AreBlocks, AreFirstBlocks}
use Rattle.studio_mix.specs.Feed.{Feed}
use Rattle.studio_mix.specs.Output.{datagram_of}
use Rattle.studio_mix.specs.Ready.{are_covered, have_ended, block_count, is_ready}
use Rattle.studio_mix.proofs.LawLemmas.{covered_before}

or_less : (a : Bool) (m n c : ℕ) → m ≤ n → (a || nat_lt n c) ≡ true → (a || nat_lt m c) ≡ true
or_less true m n c h e = refl
or_less false m n c h e = grind (arith, nat_tests, h, e)

-- the blocks before a block that is ready are ready
ready_before : (out : Output) (feeds : List Feed) (m n : ℕ) → m ≤ n → is_ready out feeds n ≡ true → is_ready out feeds m ≡ true
ready_before out feeds m n h e =
    let p = mul-le-mul_right out.frames (let k : m + 1 ≤ n + 1 = omega (arith, h) in k) in
    let earlier : block_start out (m + 1) ≤ℤ block_start out (n + 1) = omega (arith, ints, p) in
    ap (λ b. b && (not (have_ended feeds) || nat_lt m (block_count out feeds)))
    (covered_before feeds (block_start out (n + 1)) (block_start out (m + 1)) earlier (both_left (are_covered feeds (block_start out (n + 1))) (not (have_ended feeds) || nat_lt n (block_count out feeds)) e))
    ∙ or_less (not (have_ended feeds)) m n (block_count out feeds) h (both_right (are_covered feeds (block_start out (n + 1))) (not (have_ended feeds) || nat_lt n (block_count out feeds)) e)

-- the datagram of one more block
pub first_more : (studio : Studio) (feeds : List Feed) (datagrams : List (List ℕ)) (datagram : List ℕ) → AreFirstBlocks studio feeds datagrams → is_ready studio.output feeds (length datagrams) ≡ true
    → datagram ≡ datagram_of studio feeds (length datagrams) → AreFirstBlocks studio feeds (datagrams ++ datagram ∷ [])
first_more studio feeds datagrams datagram before ready is =
    let long : length (datagrams ++ datagram ∷ []) ≡ length datagrams + 1 = length_push datagrams datagram in
    record {
      ready = λ n h. ready_before studio.output feeds n (length datagrams) (let b : n < length (datagrams ++ datagram ∷ []) = grind (arith, nat_tests, h) in omega (arith, b, long)) ready;
      each = λ n d at.
          let within : n < length (datagrams ++ datagram ∷ []) = slice_get_within (datagrams ++ datagram ∷ []) n d at in
          let read = get_or_from_slice_get (datagrams ++ datagram ∷ []) n d d at in
          elim (cases_lt n (length datagrams)) [
            | inl below ↦ before.each n d (slice_get_read datagrams (length datagrams) n d refl below (sym (sym (get_or_append_left datagrams (datagram ∷ []) d n below) ∙ read)))
            | inr past ↦
                let here : n ≡ length datagrams = omega (arith, within, long, past) in
                let zero_at : n - length datagrams ≡ 0 = omega (arith, here) in
                let d' : datagram ≡ d = ap (λ j. get_or (datagram ∷ []) j d) (sym zero_at) ∙ sym (get_or-append_right datagrams (datagram ∷ []) (length datagrams) n d refl past) ∙ read in
                sym d' ∙ is ∙ ap (datagram_of studio feeds) (sym here)
          ];
    }

-- if the next block is not ready, the datagrams of the first blocks are those of all ready blocks
pub first_all : (studio : Studio) (feeds : List Feed) (datagrams : List (List ℕ)) → AreFirstBlocks studio feeds datagrams → is_ready studio.output feeds (length datagrams) ≡ false
    → AreBlocks studio feeds datagrams
first_all studio feeds datagrams given last = record {
  ready = λ n. elim (cases_Bool (nat_lt n (length datagrams))) [
    | inl below ↦ below ∙ sym (given.ready n below)
    | inr past ↦ elim (cases_Bool (is_ready studio.output feeds n)) [
      | inl is ↦
          let after : length datagrams ≤ n = grind (arith, nat_tests, past) in
          absurd (false≢true (sym last ∙ ready_before studio.output feeds (length datagrams) n after is))
      | inr not_is ↦ past ∙ sym not_is
    ]
  ];
  each = given.each;
}

-- the octets that were written to the start of the buffer
pub written_is : (d before out : List ℕ) (len : ℕ) → out ≡ d ++ drop len before → length out ≡ length before → len ≤ length before → take len out ≡ d
written_is d before out len e same within =
    let n : length out ≡ length d + (length before - len) = ap length e ∙ length-append d (drop len before) ∙ ap (λ k. length d + k) (length-drop len before) in
    let long : length d ≡ len = omega (arith, n, same, within) in
    ap (take len) e ∙ take_at d (drop len before) len long
