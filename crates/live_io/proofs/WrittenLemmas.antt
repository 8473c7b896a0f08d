-- The blocks of a record that went to its file, one write further.
use Rattle.std.proofs.Common.{◌≡◌, ◌≤◌, ◌<◌, ◌+◌, ◌^◌, ℕ, Bool, true, false, List, [], ◌∷◌, ◌++◌, length, take, drop, min, Option, Some, None, refl, sym, ap, subst, ◌∙◌, arith, append_assoc, append-nil, length-append, take-append-drop, if◌then◌else◌}
use Rattle.std.specs.List.{All}
use Rattle.std.specs.Io.KnownBytes.{Appends, Keeps}
use Rattle.std.proofs.lemmas.List.{take-append-le}
use Rattle.std.proofs.lemmas.List.Elements.{All-append, All-head, All-nil, All-tail}
use Rattle.std.proofs.Math.Seq.{drop-append_seam, take-append-add, take-append_seam}
use Rattle.rtrb.specs.Ring.{received}
use Rattle.live_io.specs.RecordFile.{IsCut}
use Rattle.pcap_file.specs.WholeBlocks.{AreWhole, BeginsNone, IsBlock, datagram_count, holds_datagram, joined}
use Rattle.pcap_file.specs.declared.record_blocks.WholeBlocks.{WholeBlocks}
use Rattle.live_io.specs.RecordWriter.{FailsBehind, HasWritten, IsRecorded}
use Rattle.live_io.specs.declared.record.writer.FailedWrite.{FailedWrite}
use Rattle.live_io.specs.declared.record.writer.FileResult.{FileResult}
use Rattle.live_io.specs.declared.record.writer.RecordWriter.{RecordWriter}

joined_append : (xs ys : List (List ℕ)) → joined (xs ++ ys) ≡ joined xs ++ joined ys
joined_append [] ys = refl
joined_append (x ∷ xs) ys = ap (λ l. x ++ l) (joined_append xs ys) ∙ sym (append_assoc x (joined xs) (joined ys))

count_append : (paths : ℕ) (xs ys : List (List ℕ)) → datagram_count paths (xs ++ ys) ≡ datagram_count paths xs + datagram_count paths ys
count_append paths [] ys = omega arith
count_append paths (x ∷ xs) ys = omega (arith, count_append paths xs ys)

one_at_most : (b : Bool) → (if b then 1 else 0) ≤ 1
one_at_most true = omega arith
one_at_most false = omega arith

-- each block has an octet at least, so no count passes a length
few_datagrams : (paths : ℕ) (blocks : List (List ℕ)) → All IsBlock blocks → datagram_count paths blocks ≤ length (joined blocks)
few_datagrams paths [] every = omega arith
few_datagrams paths (block ∷ blocks) every =
    let one = All-head IsBlock block blocks every in
    let more = few_datagrams paths blocks (All-tail IsBlock block blocks every) in
    let size = length-append block (joined blocks) in
    omega (arith, one.least, more, size, one_at_most (holds_datagram paths block))

-- a file whose octets are known, after a write and after a cut
pub holds_more : (a b : Option (List ℕ)) (xs ys : List ℕ) → a ≡ Some xs → Appends a b ys → b ≡ Some (xs ++ ys)
holds_more a (Some zs) xs ys is appends = ap Some (subst (λ o. Appends o (Some zs) ys) is appends)
holds_more a None xs ys is appends = absurd (subst (λ o. Appends o None ys) is appends)

pub holds_cut : (a b : Option (List ℕ)) (xs : List ℕ) (n : ℕ) → a ≡ Some xs → IsCut a b n → b ≡ Some (take n xs)
holds_cut a (Some zs) xs n is cut = ap Some (subst (λ o. IsCut o (Some zs) n) is cut)
holds_cut a None xs n is cut = absurd (subst (λ o. IsCut o None n) is cut)

-- octets that begin with whole blocks
front_blocks : (paths : ℕ) (octets : List ℕ) (found : WholeBlocks) (w : AreWhole paths octets found) (rest : List ℕ) → take found.len (octets ++ rest) ≡ joined w.blocks
front_blocks paths octets found w rest =
    ap (λ n. take n (octets ++ rest)) w.len
    ∙ ap (take (length (joined w.blocks))) (ap (λ l. l ++ rest) w.are ∙ append_assoc (joined w.blocks) w.rest rest)
    ∙ take-append_seam (joined w.blocks) (w.rest ++ rest)

behind_blocks : (paths : ℕ) (octets : List ℕ) (found : WholeBlocks) (w : AreWhole paths octets found) → drop found.len octets ≡ w.rest
behind_blocks paths octets found w =
    ap (λ n. drop n octets) w.len ∙ ap (drop (length (joined w.blocks))) w.are ∙ drop-append_seam (joined w.blocks) w.rest

-- the whole blocks of a prefix of octets are blocks of the octets
prefix_blocks : (paths count : ℕ) (octets : List ℕ) (found : WholeBlocks) (w : AreWhole paths (take count octets) found) → take found.len octets ≡ joined w.blocks
prefix_blocks paths count octets found w =
    ap (take found.len) (sym (take-append-drop count octets)) ∙ front_blocks paths (take count octets) found w (drop count octets)

prefix_rest : (paths count : ℕ) (octets : List ℕ) (found : WholeBlocks) (w : AreWhole paths (take count octets) found) → octets ≡ joined w.blocks ++ drop found.len octets
prefix_rest paths count octets found w = sym (take-append-drop found.len octets) ∙ ap (λ l. l ++ drop found.len octets) (prefix_blocks paths count octets found w)

pub prefix_within : (paths count : ℕ) (octets : List ℕ) (found : WholeBlocks) → AreWhole paths (take count octets) found → found.len ≤ length octets
prefix_within paths count octets found w =
    let sizes = ap length (prefix_rest paths count octets found w) in
    let sum = length-append (joined w.blocks) (drop found.len octets) in
    omega (arith, sizes, sum, w.len)

-- a prefix of a prefix
pub same_front : (n k : ℕ) (xs : List ℕ) → n ≤ length (take k xs) → take n xs ≡ take n (take k xs)
same_front n k xs within = ap (take n) (sym (take-append-drop k xs)) ∙ take-append-le n (take k xs) (drop k xs) within

-- a write is tried again if nothing was written
pub appends_kept : (a b c : Option (List ℕ)) (xs : List ℕ) → Appends a b xs → Keeps b c → Appends a c xs
appends_kept None b c xs wrote same = tt
appends_kept (Some x) None c xs wrote same = absurd wrote
appends_kept (Some x) (Some y) None xs wrote same = absurd same
appends_kept (Some x) (Some y) (Some z) xs wrote same = same ∙ wrote

-- a file that is cut behind the whole blocks of what was written
pub cut_behind : (paths : ℕ) (a b c : Option (List ℕ)) (held octets : List ℕ) (done len end : ℕ) (found : WholeBlocks) (w : AreWhole paths (take done octets) found)
    → a ≡ Some held → Appends a b (take done octets) → len ≡ length held → end ≡ len + found.len → IsCut b c end → c ≡ Some (held ++ take found.len octets)
cut_behind paths a b c held octets done len end found w is wrote len_is ends cut =
    let xs : List ℕ = take done octets in
    holds_cut b c (held ++ xs) end (holds_more a b held xs is wrote) cut
    ∙ ap Some (ap (λ n. take n (held ++ xs)) (ends ∙ ap (λ n. n + found.len) len_is)
    ∙ take-append-add held xs found.len
    ∙ ap (λ l. held ++ l) (ap (take found.len) (sym (append-nil xs)) ∙ front_blocks paths xs found w [] ∙ sym (prefix_blocks paths done octets found w)))

-- nothing came yet
pub none_written : (writer : RecordWriter) → received writer.ring ≡ [] → writer.held ≡ 0 → writer.len ≡ 0 → writer.datagrams ≡ 0 → HasWritten (Some []) writer
none_written writer none held len datagrams = record {
  blocks = [];
  every = All-nil IsBlock;
  came = none ∙ sym (ap (λ n. take n writer.octets.items) held);
  none = λ block rest is e. omega (arith, is.least, held, length-append block rest, ap length e, ap (λ n. length (take n writer.octets.items)) held);
  holds = refl;
  len = len;
  datagrams = datagrams;
}

pub all_recorded : (contents : Option (List ℕ)) (writer : RecordWriter) (result : FileResult) → result.datagrams ≡ writer.datagrams → HasWritten contents writer → IsRecorded contents writer result
all_recorded contents writer result same w = record {
  blocks = w.blocks;
  every = w.every;
  rest = take writer.held writer.octets.items;
  came = w.came;
  all = λ _. w.none;
  datagrams = same ∙ w.datagrams;
  holds = λ _. w.holds;
}

-- the whole blocks of what came were written: `more` of them, and the octets behind them are held
pub more_written : (old new : RecordWriter) (a b : Option (List ℕ)) (found : WholeBlocks) (octets : List ℕ) (whole : AreWhole old.paths octets found) (w : HasWritten a old)
    → new.paths ≡ old.paths → received new.ring ≡ (joined w.blocks ++ take found.len octets) ++ take new.held new.octets.items
    → take new.held new.octets.items ≡ drop found.len octets → Appends a b (take found.len octets)
    → new.len ≡ old.len + found.len → new.len < 2 ^ 64 → new.datagrams ≡ min (old.datagrams + found.datagrams) 18446744073709551615 → HasWritten b new
more_written old new a b found octets whole w same came left wrote len fits counted =
    let all : All IsBlock (w.blocks ++ whole.blocks) = All-append IsBlock w.blocks whole.blocks w.every whole.every in
    let are : take found.len octets ≡ joined whole.blocks = ap (take found.len) (sym (append-nil octets)) ∙ front_blocks old.paths octets found whole [] in
    let both : joined w.blocks ++ take found.len octets ≡ joined (w.blocks ++ whole.blocks) = ap (λ l. joined w.blocks ++ l) are ∙ sym (joined_append w.blocks whole.blocks) in
    let length_is : new.len ≡ length (joined (w.blocks ++ whole.blocks)) =
    omega (arith, len, w.len, whole.len, ap length (joined_append w.blocks whole.blocks), length-append (joined w.blocks) (joined whole.blocks)) in
    let few = few_datagrams old.paths (w.blocks ++ whole.blocks) all in
    record {
      blocks = w.blocks ++ whole.blocks;
      every = all;
      came = came ∙ ap (λ l. l ++ take new.held new.octets.items) both;
      none = subst BeginsNone (sym (left ∙ behind_blocks old.paths octets found whole)) whole.none;
      holds = holds_more a b (joined w.blocks) (take found.len octets) w.holds wrote ∙ ap Some both;
      len = length_is;
      datagrams = omega (arith, counted, w.datagrams, whole.datagrams, count_append old.paths w.blocks whole.blocks, few, length_is, fits) ∙ ap (λ n. datagram_count n (w.blocks ++ whole.blocks)) (sym same);
    }

-- a write of them failed
pub part_recorded : (old new : RecordWriter) (a b : Option (List ℕ)) (n : ℕ) (octets : List ℕ) (failed : FailedWrite) (result : FileResult) (w : HasWritten a old)
    → new.paths ≡ old.paths → received new.ring ≡ joined w.blocks ++ octets → FailsBehind old.paths a b old.len (take n octets) failed → old.len + n < 2 ^ 64 → length (take n octets) ≤ n
    → result.datagrams ≡ min (old.datagrams + failed.kept.datagrams) 18446744073709551615 → result.is_whole ≡ failed.is_cut → result.failed ≡ true → IsRecorded b new result
part_recorded old new a b n octets failed result w same came fails fits short counted whole broke =
    let kept = fails.kept in
    let all : All IsBlock (w.blocks ++ kept.blocks) = All-append IsBlock w.blocks kept.blocks w.every kept.every in
    let are : take failed.kept.len (take n octets) ≡ joined kept.blocks = prefix_blocks old.paths fails.count (take n octets) failed.kept kept in
    let within = prefix_within old.paths fails.count (take n octets) failed.kept kept in
    let few = few_datagrams old.paths (w.blocks ++ kept.blocks) all in
    let sizes = ap length (joined_append w.blocks kept.blocks) in
    let sum = length-append (joined w.blocks) (joined kept.blocks) in
    record {
      blocks = w.blocks ++ kept.blocks;
      every = all;
      rest = drop failed.kept.len (take n octets) ++ drop n octets;
      came = came
          ∙ ap (λ l. joined w.blocks ++ l)
          (sym (take-append-drop n octets)
          ∙ ap (λ l. l ++ drop n octets) (prefix_rest old.paths fails.count (take n octets) failed.kept kept)
          ∙ append_assoc (joined kept.blocks) (drop failed.kept.len (take n octets)) (drop n octets))
          ∙ sym (append_assoc (joined w.blocks) (joined kept.blocks) (drop failed.kept.len (take n octets) ++ drop n octets))
          ∙ ap (λ l. l ++ (drop failed.kept.len (take n octets) ++ drop n octets)) (sym (joined_append w.blocks kept.blocks));
      all = λ fine. absurd (let f : true ≡ false = sym broke ∙ fine in cc);
      datagrams = omega (arith, counted, w.datagrams, kept.datagrams, count_append old.paths w.blocks kept.blocks, few, sizes, sum, w.len, kept.len, within, short, fits) ∙ ap (λ n. datagram_count n (w.blocks ++ kept.blocks)) (sym same);
      holds = λ is. fails.cut (sym whole ∙ is) (joined w.blocks) w.holds w.len ∙ ap Some (ap (λ l. joined w.blocks ++ l) are ∙ sym (joined_append w.blocks kept.blocks));
    }

-- nothing of them was written
pub unwritten : (old new : RecordWriter) (a : Option (List ℕ)) (octets : List ℕ) (result : FileResult) (w : HasWritten a old)
    → new.paths ≡ old.paths → received new.ring ≡ joined w.blocks ++ octets → result.datagrams ≡ old.datagrams → result.failed ≡ true → IsRecorded a new result
unwritten old new a octets result w paths came same fails = record {
  blocks = w.blocks;
  every = w.every;
  rest = octets;
  came = came;
  all = λ whole. absurd (let f : true ≡ false = sym fails ∙ whole in cc);
  datagrams = same ∙ (w.datagrams ∙ ap (λ n. datagram_count n w.blocks) (sym paths));
  holds = λ _. w.holds;
}
