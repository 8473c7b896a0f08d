-- The blocks that were sent as raw PCM and those that were left out, with one more, and the octets that were written.
use Rattle.std.proofs.Common.{◌≡◌, ◌≤◌, ◌+◌, ◌-◌, ◌*◌, ◌^◌, ℕ, min, Bool, true, false, List, [], ◌∷◌, ◌++◌, length, take, Option, Result, Ok, Err, OnErr, refl, sym, ap, subst, ◌∙◌, arith, append_assoc, append-nil, length-append}
use Rattle.std.proofs.lemmas.List.{take_all}
use Rattle.std.proofs.Math.Seq.{take-append-add}
use Rattle.std.proofs.KnownBytes.{Appends-nil, Appends-trans}
use Rattle.std.specs.Io.KnownBytes.{Appends}
use Rattle.rtrb.specs.Ring.{received, sent}
use Rattle.rtp_wire.specs.Sample.{octets_per_sample}
use Rattle.mix_packets.specs.declared.out_spec.Output.{Output}
use Rattle.wav_file.specs.Samples.{little_samples}
use Rattle.wav_file.proofs.LiveLemmas.{samples_append, samples_none}
use Rattle.live_audio.specs.PcmProducer.{HasProduced, LeavesOut, chosen_octets, left_out_of}
use Rattle.live_audio.specs.PcmWriter.{HasPiped, HasPipedAll, IsFreshPcm, IsSamePcm, WritesPart}
use Rattle.live_audio.specs.declared.pcm_producer.PcmProducer.{PcmProducer}
use Rattle.live_audio.specs.declared.pcm_writer.PcmWriter.{PcmWriter}

-- one block more, with its choice
chosen_more : (blocks : List (List ℕ)) (choices : List Bool) (block : List ℕ) (choice : Bool) → length choices ≡ length blocks
    → chosen_octets (blocks ++ block ∷ []) (choices ++ choice ∷ []) ≡ chosen_octets blocks choices ++ chosen_octets (block ∷ []) (choice ∷ [])
chosen_more [] [] block choice same = refl
chosen_more [] (first ∷ choices) block choice same = absurd (omega (arith, same))
chosen_more (first ∷ blocks) [] block choice same = absurd (omega (arith, same))
chosen_more (first ∷ blocks) (true ∷ choices) block choice same =
    ap (λ l. first ++ l) (chosen_more blocks choices block choice (omega (arith, same))) ∙ sym (append_assoc first (chosen_octets blocks choices) (chosen_octets (block ∷ []) (choice ∷ [])))
chosen_more (first ∷ blocks) (false ∷ choices) block choice same = chosen_more blocks choices block choice (omega (arith, same))

left_out_more : (choices : List Bool) (choice : Bool) → left_out_of (choices ++ choice ∷ []) ≡ left_out_of choices + left_out_of (choice ∷ [])
left_out_more [] choice = let none : left_out_of (choice ∷ []) ≡ 0 + left_out_of (choice ∷ []) = omega arith in none
left_out_more (true ∷ choices) choice = left_out_more choices choice
left_out_more (false ∷ choices) choice = let rest = left_out_more choices choice in omega (arith, rest)

each_more : (blocks : List (List ℕ)) (choices : List Bool) (block : List ℕ) (choice : Bool) → length choices ≡ length blocks → length (choices ++ choice ∷ []) ≡ length (blocks ++ block ∷ [])
each_more blocks choices block choice same = length-append choices (choice ∷ []) ∙ ap (λ n. n + 1) same ∙ sym (length-append blocks (block ∷ []))

-- one more block was sent
pub produced_in : (blocks : List (List ℕ)) (block : List ℕ) (old new : PcmProducer) → sent new.ring ≡ sent old.ring ++ block → new.left_out ≡ old.left_out → HasProduced blocks old → HasProduced (blocks ++ block ∷ []) new
produced_in blocks block old new sends left t = record {
  choices = t.choices ++ true ∷ [];
  each = each_more blocks t.choices block true t.each;
  sent = sends ∙ ap (λ l. l ++ block) t.sent ∙ ap (λ l. chosen_octets blocks t.choices ++ l) (sym (append-nil block)) ∙ sym (chosen_more blocks t.choices block true t.each);
  left_out = (let more = left_out_more t.choices true in let was = t.left_out in omega (arith, left, more, was));
}

-- one more block was left out
pub produced_out : (blocks : List (List ℕ)) (block : List ℕ) (old new : PcmProducer) → LeavesOut old new → HasProduced blocks old → HasProduced (blocks ++ block ∷ []) new
produced_out blocks block old new out t = record {
  choices = t.choices ++ false ∷ [];
  each = each_more blocks t.choices block false t.each;
  sent = out.sent ∙ t.sent ∙ sym (append-nil (chosen_octets blocks t.choices)) ∙ sym (chosen_more blocks t.choices block false t.each);
  left_out = (let more = left_out_more t.choices false in let was = t.left_out in let now = out.left_out in omega (arith, now, more, was));
}

-- a block was left out of a producer that only looked at the space of its ring before
pub leaves_out : (old between new : PcmProducer) → sent between.ring ≡ sent old.ring → between.left_out ≡ old.left_out → LeavesOut between new → LeavesOut old new
leaves_out old between new ring left out = record {
  sent = out.sent ∙ ring;
  left_out = out.left_out ∙ ap (λ n. min (n + 1) (2 ^ 64 - 1)) left;
}

-- nothing came yet
pub piped_none : (before : Option (List ℕ)) (output : Output) (writer : PcmWriter) → IsFreshPcm output writer → HasPipedAll before before writer
piped_none before output writer f =
    let none : little_samples writer.enc (received writer.ring) ≡ [] = ap (little_samples writer.enc) f.none ∙ samples_none writer.enc in
    let length_none : 0 ≡ length (little_samples writer.enc (received writer.ring)) = ap length (sym none) in
    let start = f.octets in (
      record {
        samples = output.frames * output.channels;
        block = f.block ∙ ap (λ e. output.frames * output.channels * octets_per_sample e) (sym f.enc);
        blocks = 0;
        whole = (let none_of : 0 ≡ 0 * writer.block_len = omega arith in ap length f.none ∙ none_of);
        few = omega (arith, start, length_none);
        written = subst (λ n. Appends before before (take n (little_samples writer.enc (received writer.ring)))) (sym start) (Appends-nil before);
      },
      start ∙ length_none,
    )

pub same_twice : (old between new : PcmWriter) → IsSamePcm old between → IsSamePcm between new → IsSamePcm old new
same_twice old between new one other = record { came = other.came ∙ one.came; enc = other.enc ∙ one.enc; block = other.block ∙ one.block; octets = other.octets ∙ one.octets }

-- the writer has received nothing more
pub piped_same : (before after : Option (List ℕ)) (old new : PcmWriter) (count : ℕ) → IsSamePcm old new → HasPiped before after old count → HasPiped before after new count
piped_same before after old new count s p =
    let same : little_samples old.enc (received old.ring) ≡ little_samples new.enc (received new.ring) = ap (λ e. little_samples e (received old.ring)) (sym s.enc) ∙ ap (little_samples new.enc) (sym s.came) in
    record {
      samples = p.samples;
      block = s.block ∙ p.block ∙ ap (λ e. p.samples * octets_per_sample e) (sym s.enc);
      blocks = p.blocks;
      whole = ap length s.came ∙ p.whole ∙ ap (λ n. p.blocks * n) (sym s.block);
      few = subst (λ l. count ≤ length l) same p.few;
      written = subst (λ l. Appends before after (take count l)) same p.written;
    }

pub all_same : (before after : Option (List ℕ)) (old new : PcmWriter) → IsSamePcm old new → HasPipedAll before after old → HasPipedAll before after new
all_same before after old new s p = (
  subst (λ n. HasPiped before after new n) (sym s.octets) (piped_same before after old new old.octets s p.0),
  s.octets ∙ p.1 ∙ ap (λ e. length (little_samples e (received old.ring))) (sym s.enc) ∙ ap (λ l. length (little_samples new.enc l)) (sym s.came),
)

-- the samples of whole blocks, and those behind them
samples_more : (before after : Option (List ℕ)) (writer : PcmWriter) (part : List ℕ) (count : ℕ) → (p : HasPiped before after writer count)
    → little_samples writer.enc (received writer.ring ++ part) ≡ little_samples writer.enc (received writer.ring) ++ little_samples writer.enc part
samples_more before after writer part count p =
    let unit = octets_per_sample writer.enc in
    let whole : length (received writer.ring) ≡ p.blocks * p.samples * unit = p.whole ∙ ap (λ n. p.blocks * n) p.block ∙ turned p.blocks p.samples unit in
    samples_append writer.enc (p.blocks * p.samples) (received writer.ring) part whole
  where
    turned : (x y z : ℕ) → x * (y * z) ≡ x * y * z
    turned x y z = omega arith

-- more whole blocks came, and `count` octets of their samples were written
pub piped_more : (before a b : Option (List ℕ)) (old new : PcmWriter) (n count : ℕ) (part : List ℕ) → length part ≡ n * old.block_len → received new.ring ≡ received old.ring ++ part
    → new.enc ≡ old.enc → new.block_len ≡ old.block_len → new.octets ≡ old.octets + count → count ≤ length (little_samples old.enc part) → Appends a b (take count (little_samples old.enc part))
    → HasPipedAll before a old → HasPiped before b new new.octets
piped_more before a b old new n count part size came enc block octets few added p =
    let first : List ℕ = little_samples old.enc (received old.ring) in
    let more : List ℕ = little_samples old.enc part in
    let sum = length-append (received old.ring) part in
    let all : little_samples new.enc (received new.ring) ≡ first ++ more = ap (λ e. little_samples e (received new.ring)) enc ∙ ap (little_samples old.enc) came ∙ samples_more before a old part old.octets p.0 in
    let counted : new.octets ≡ length first + count = octets ∙ ap (λ k. k + count) p.1 in
    let sums = length-append first more in
    let whole : take old.octets first ≡ first = take_all old.octets first (let is = p.1 in let fits : length first ≤ old.octets = omega (arith, is) in fits) in
    let front : take new.octets (little_samples new.enc (received new.ring)) ≡ take old.octets first ++ take count more =
    ap (λ l. take new.octets l) all ∙ ap (λ k. take k (first ++ more)) counted ∙ take-append-add first more count ∙ ap (λ l. l ++ take count more) (sym whole) in
    record {
      samples = p.0.samples;
      block = block ∙ p.0.block ∙ ap (λ e. p.0.samples * octets_per_sample e) (sym enc);
      blocks = p.0.blocks + n;
      whole = ap length came ∙ sum ∙ ap (λ k. k + length part) p.0.whole ∙ ap (λ k. p.0.blocks * old.block_len + k) size ∙ times_add p.0.blocks n old.block_len ∙ ap (λ k. (p.0.blocks + n) * k) (sym block);
      few = subst (λ l. new.octets ≤ length l) (sym all) (omega (arith, counted, sums, few));
      written = subst (λ l. Appends before b l) (sym front) (Appends-trans before a b (take old.octets first) (take count more) p.0.written added);
    }
  where
    times_add : (x y z : ℕ) → x * z + y * z ≡ (x + y) * z
    times_add x y z = omega arith

-- .. all of them
pub all_more : (before a b : Option (List ℕ)) (old new : PcmWriter) (n count : ℕ) (part : List ℕ) → length part ≡ n * old.block_len → received new.ring ≡ received old.ring ++ part
    → new.enc ≡ old.enc → new.block_len ≡ old.block_len → new.octets ≡ old.octets + count → count ≡ length (little_samples old.enc part) → Appends a b (take count (little_samples old.enc part))
    → HasPipedAll before a old → HasPipedAll before b new
all_more before a b old new n count part size came enc block octets is added p =
    let first : List ℕ = little_samples old.enc (received old.ring) in
    let more : List ℕ = little_samples old.enc part in
    let all : little_samples new.enc (received new.ring) ≡ first ++ more = ap (λ e. little_samples e (received new.ring)) enc ∙ ap (little_samples old.enc) came ∙ samples_more before a old part old.octets p.0 in
    let sums = length-append first more in
    let was = p.1 in
    let counted : new.octets ≡ length (first ++ more) = omega (arith, octets, was, is, sums) in
    (piped_more before a b old new n count part size came enc block octets (omega (arith, is)) added p, counted ∙ ap length (sym all))

-- a part of them, behind which a write failed, or all
pub part_more : (before a b : Option (List ℕ)) (old between new : PcmWriter) (n count : ℕ) (part : List ℕ) → length part ≡ n * old.block_len → received between.ring ≡ received old.ring ++ part
    → between.enc ≡ old.enc → between.block_len ≡ old.block_len → between.octets ≡ old.octets → WritesPart a b between new (little_samples between.enc part) count
    → HasPipedAll before a old → HasPiped before b new new.octets
part_more before a b old between new n count part size came enc block octets w p =
    piped_more before a b old new n count part size (w.came ∙ came) (w.enc ∙ enc) (w.block ∙ block) (w.octets ∙ ap (λ k. k + count) octets)
    (subst (λ e. count ≤ length (little_samples e part)) enc w.few) (subst (λ e. Appends a b (take count (little_samples e part))) enc w.written) p

pub whole_more : (before a b : Option (List ℕ)) (old between new : PcmWriter) (n : ℕ) (part : List ℕ) → length part ≡ n * old.block_len → received between.ring ≡ received old.ring ++ part
    → between.enc ≡ old.enc → between.block_len ≡ old.block_len → between.octets ≡ old.octets → WritesPart a b between new (little_samples between.enc part) (length (little_samples between.enc part))
    → HasPipedAll before a old → HasPipedAll before b new
whole_more before a b old between new n part size came enc block octets w p =
    let count : ℕ = length (little_samples between.enc part) in
    all_more before a b old new n count part size (w.came ∙ came) (w.enc ∙ enc) (w.block ∙ block) (w.octets ∙ ap (λ k. k + count) octets)
    (ap (λ e. length (little_samples e part)) enc) (subst (λ e. Appends a b (take count (little_samples e part))) enc w.written) p

-- what follows from a fact at `Err`
pub err_then : {T E P Q : Type 0} (r : Result T E) → (P → Q) → OnErr r P → OnErr r Q
err_then (Ok value) follows fact = tt
err_then (Err fault) follows fact = follows fact
