-- The whole blocks at the start of a record's octets, block by block.
use Rattle.std.proofs.Common.{◌≡◌, ◌≤◌, ◌<◌, ◌+◌, ℕ, Bool, true, false, List, [], ◌∷◌, ◌++◌, length, take, drop, refl, sym, ap, ◌∙◌, arith, append_assoc, append-nil, length-append, length-take, length-drop, take-append-drop, drop-drop, subst, ◌==◌, ◌&&◌, nat_lt, if◌then◌else◌}
use Rattle.std.specs.List.{All}
use Rattle.std.proofs.lemmas.List.Elements.{All-nil, All-push}
use Rattle.pcap_file.specs.declared.decode.endian.Endian.TheVariants.{Little}
use Rattle.pcap_file.specs.declared.record_blocks.WholeBlocks.{WholeBlocks}
use Rattle.pcap_file.specs.Octets.{number_at}
use Rattle.pcap_file.specs.WholeBlocks.{AreWhole, BeginsNone, IsBlock, datagram_count, holds_datagram, joined}
use Rattle.pcap_file.proofs.FrontLemmas.{number_front}

-- the word with the length of a block is the same, whatever follows it
says_front : (octets block rest : List ℕ) → 8 ≤ length block → octets ≡ block ++ rest → number_at Little 4 4 octets ≡ number_at Little 4 4 block
says_front octets block rest long is = ap (number_at Little 4 4) is ∙ number_front Little 4 4 block rest long

pub few_none : (octets : List ℕ) → length octets < 12 → BeginsNone octets
few_none octets few block rest is e = omega (arith, few, is.least, ap length e, length-append block rest)

pub wrong_none : (octets : List ℕ) (len : ℕ) → len ≡ number_at Little 4 4 octets → len < 12 → BeginsNone octets
wrong_none octets len says few block rest is e = omega (arith, says, few, is.least, is.says, says_front octets block rest (omega (arith, is.least)) e)

pub cut_none : (octets : List ℕ) (len : ℕ) → len ≡ number_at Little 4 4 octets → length octets < len → BeginsNone octets
cut_none octets len says cut block rest is e =
    omega (arith, says, cut, is.least, is.says, says_front octets block rest (omega (arith, is.least)) e, ap length e, length-append block rest)

pub is_block : (octets : List ℕ) (len : ℕ) → len ≡ number_at Little 4 4 octets → 12 ≤ len → len ≤ length octets → IsBlock (take len octets)
is_block octets len says space within =
    let size : length (take len octets) ≡ len = omega (arith, length-take len octets, within) in
    let same = says_front octets (take len octets) (drop len octets) (omega (arith, size, space)) (sym (take-append-drop len octets)) in
    record { least = omega (arith, size, space); says = omega (arith, says, same, size) }

-- so is each of its first three words
word_front : (octets : List ℕ) (len place : ℕ) → 12 ≤ len → len ≤ length octets → place + 4 ≤ 12 → number_at Little 4 place octets ≡ number_at Little 4 place (take len octets)
word_front octets len place space within first =
    let size : length (take len octets) ≡ len = omega (arith, length-take len octets, within) in
    ap (number_at Little 4 place) (sym (take-append-drop len octets)) ∙ number_front Little 4 place (take len octets) (drop len octets) (omega (arith, size, space, first))

pub datagram_front : (octets : List ℕ) (len paths : ℕ) → 12 ≤ len → len ≤ length octets → holds_datagram paths octets ≡ holds_datagram paths (take len octets)
datagram_front octets len paths space within =
    ap (λ k. (k == 6) && nat_lt (number_at Little 4 8 octets) paths) (word_front octets len 0 space within (omega arith))
    ∙ ap (λ k. (number_at Little 4 0 (take len octets) == 6) && nat_lt k paths) (word_front octets len 8 space within (omega arith))

-- these blocks are the first of the octets, and this many hold a datagram
pub record HasPassed (paths : ℕ) (octets : List ℕ) (found : WholeBlocks) : Type 0 where
  pub blocks : List (List ℕ)
  pub every : All IsBlock blocks
  pub are : octets ≡ joined blocks ++ drop found.len octets
  pub len : found.len ≡ length (joined blocks)
  pub within : found.len ≤ length octets
  pub datagrams : found.datagrams ≡ datagram_count paths blocks
  pub few : found.datagrams ≤ found.len

pub none_passed : (paths : ℕ) (octets : List ℕ) → HasPassed paths octets (record { len = 0; datagrams = 0 })
none_passed paths octets = record { blocks = []; every = All-nil IsBlock; are = refl; len = refl; within = omega arith; datagrams = refl; few = omega arith }

concat_push : (blocks : List (List ℕ)) (block : List ℕ) → joined (blocks ++ block ∷ []) ≡ joined blocks ++ block
concat_push [] block = append-nil block
concat_push (b ∷ blocks) block = ap (λ l. b ++ l) (concat_push blocks block) ∙ sym (append_assoc b (joined blocks) block)

count_push : (paths : ℕ) (blocks : List (List ℕ)) (block : List ℕ) → datagram_count paths (blocks ++ block ∷ []) ≡ datagram_count paths blocks + datagram_count paths (block ∷ [])
count_push paths [] block = omega arith
count_push paths (b ∷ blocks) block = omega (arith, count_push paths blocks block)

-- a block counts once at most
one_at_most : (b : Bool) → (if b then 1 else 0) ≤ 1
one_at_most true = omega arith
one_at_most false = omega arith

-- one block more
pub passed_more : (paths : ℕ) (octets : List ℕ) (found after : WholeBlocks) (n : ℕ) → HasPassed paths octets found
    → IsBlock (take n (drop found.len octets)) → n ≤ length (drop found.len octets) → after.len ≡ found.len + n
    → after.datagrams ≡ found.datagrams + datagram_count paths (take n (drop found.len octets) ∷ []) → HasPassed paths octets after
passed_more paths octets found after n p is within longer counted =
    let left : List ℕ = drop found.len octets in
    let block : List ℕ = take n left in
    let size : length block ≡ n = omega (arith, length-take n left, within) in
    let rest : drop n left ≡ drop after.len octets = drop-drop n found.len octets ∙ ap (λ k. drop k octets) (omega (arith, longer)) in
    record {
      blocks = p.blocks ++ block ∷ [];
      every = All-push IsBlock p.blocks block p.every is;
      are = p.are ∙ ap (λ l. joined p.blocks ++ l) (sym (take-append-drop n left) ∙ ap (λ l. block ++ l) rest)
          ∙ sym (append_assoc (joined p.blocks) block (drop after.len octets))
          ∙ ap (λ l. l ++ drop after.len octets) (sym (concat_push p.blocks block));
      len = omega (arith, longer, p.len, size, length-append (joined p.blocks) block, ap length (concat_push p.blocks block));
      within = omega (arith, longer, within, p.within, length-drop found.len octets);
      datagrams = counted ∙ ap (λ k. k + datagram_count paths (block ∷ [])) p.datagrams ∙ sym (count_push paths p.blocks block);
      few = omega (arith, counted, longer, p.few, is.least, size, one_at_most (holds_datagram paths block));
    }

-- no block begins behind them
pub passed_all : (paths : ℕ) (octets : List ℕ) (found : WholeBlocks) → HasPassed paths octets found → BeginsNone (drop found.len octets) → AreWhole paths octets found
passed_all paths octets found p none = record {
  blocks = p.blocks;
  rest = drop found.len octets;
  every = p.every;
  are = p.are;
  none = none;
  len = p.len;
  datagrams = p.datagrams;
}

-- the blocks after a turn of the loop: `left` is a slice of what is behind the blocks so far
pub passed_turn : (paths : ℕ) (octets left : List ℕ) (found after : WholeBlocks) (n : ℕ) (is_datagram : Bool) → left ≡ drop found.len octets → HasPassed paths octets found
    → IsBlock (take n left) → n ≤ length left → after.len ≡ found.len + n → is_datagram ≡ holds_datagram paths (take n left)
    → after.datagrams ≡ found.datagrams + (if is_datagram then 1 else 0) → HasPassed paths octets after
passed_turn paths octets left found after n is_datagram is p block within longer holds counted =
    passed_more paths octets found after n p (subst (λ l. IsBlock (take n l)) is block) (omega (arith, within, ap length is)) longer
    (counted ∙ ap (λ k. found.datagrams + k) (ap (λ (b : Bool). if b then 1 else 0) (holds ∙ ap (λ l. holds_datagram paths (take n l)) is) ∙ omega arith))

pub counts_one : (b : Bool) (count : ℕ) → b ≡ true → count + 1 ≡ count + (if b then 1 else 0)
counts_one true count is = refl
counts_one false count is = absurd cc

pub counts_none : (b : Bool) (count : ℕ) → b ≡ false → count ≡ count + (if b then 1 else 0)
counts_none false count is = omega arith
counts_none true count is = absurd cc
