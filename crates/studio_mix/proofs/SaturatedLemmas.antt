-- The counts of saturated samples, with longer lists of marks, and after one more block.
use Rattle.std.proofs.Common.{◌≡◌, [], ◌∷◌, ◌++◌, ℕ, zero, suc, ◌+◌, ◌-◌, ◌*◌, ◌^◌, ◌<◌, min, true, ℤ, pos, ◌+ℤ◌, List, length, get_or, take, drop, set, replicate, Some, slice_get, refl, sym, ap, subst, ◌∙◌, arith, zero-mul, inl, inr}
use Rattle.std.proofs.lemmas.Int.{ints}
use Rattle.std.proofs.lemmas.Bool.{cases_eq}
use Rattle.std.proofs.lemmas.List.{append-nil, length-replicate, length-set}
use Rattle.std.proofs.lemmas.Option.{slice_get_within, slice_get-get_or, get_or_from_slice_get}
use Rattle.rtp_stream.specs.MarkFacts.{MarkView}
use Rattle.lane_align.specs.Lane.{LaneState, HasFeed}
use Rattle.gain_mix.specs.Changes.{Changes, matrix_at}
use Rattle.gain_mix.specs.Gain.{ins_of}
use Rattle.gain_mix.specs.Saturated.{AreAdded, saturated_at, saturated_count}
use Rattle.mix_packets.specs.OutSpec.{shift_of}
use Rattle.mix_packets.specs.Block.{block_start}
use Rattle.studio_config.specs.Studio.{Studio}
use Rattle.studio_mix.specs.Feed.{Feed, IsLonger, AreLonger, studio_values}
use Rattle.studio_mix.specs.Lanes.{AreFed}
use Rattle.studio_mix.specs.Ready.{are_covered}
use Rattle.studio_mix.specs.Saturated.{AreSaturated, saturated_before, saturated_from}
use Rattle.studio_mix.proofs.LawLemmas.{covered_before, covered_longer, values_longer}
use Rattle.studio_mix.proofs.MixerLemmas.{set_same_at, set_other_at}

-- the same values have the same counts
from_same : (studio : Studio) (feeds longer : List Feed) (channel : ℕ) (t : ℤ) (n : ℕ) → ((f : ℕ) → f < n → studio_values longer (t +ℤ pos f) ≡ studio_values feeds (t +ℤ pos f))
    → saturated_from studio longer channel t n ≡ saturated_from studio feeds channel t n
from_same studio feeds longer channel t zero same = refl
from_same studio feeds longer channel t (suc n) same =
    let s = shift_of studio.output.enc in
    let rows = matrix_at studio.schedule (t +ℤ pos n) in
    ap (λ x. x + saturated_at rows (studio_values longer (t +ℤ pos n)) s channel) (from_same studio feeds longer channel t n (λ f h. same f (omega (arith, h))))
    ∙ ap (λ v. saturated_from studio feeds channel t n + saturated_at rows v s channel) (same n (omega arith))

-- a sampling instant before a block's start is in an earlier block, which is covered
covered_instant : (studio : Studio) (feeds : List Feed) (next f : ℕ) → ((number : ℕ) → number < next → are_covered feeds (block_start studio.output (number + 1)) ≡ true)
    → f < next * studio.output.frames → are_covered feeds ((studio.output.start +ℤ pos f) +ℤ pos 1) ≡ true
covered_instant studio feeds zero f final h = absurd (omega (arith, h))
covered_instant studio feeds (suc n) f final h =
    let e : (n + 1) * studio.output.frames ≡ suc n * studio.output.frames = omega arith in
    covered_before feeds (block_start studio.output (n + 1)) ((studio.output.start +ℤ pos f) +ℤ pos 1) (omega (arith, ints, h, e)) (final n (omega arith))

-- the counts stay the same with longer lists of marks
pub saturated_longer : (studio : Studio) (feeds longer : List Feed) (next : ℕ) (counts : List ℕ) → AreLonger feeds longer → AreSaturated studio feeds next counts → AreSaturated studio longer next counts
saturated_longer studio feeds longer next counts l a = record {
  channels = a.channels;
  each = λ channel h.
      a.each channel h
      ∙ ap (λ x. min x (2 ^ 64 - 1))
      (sym (from_same studio feeds longer channel studio.output.start (next * studio.output.frames) (λ f g.
      values_longer feeds longer (studio.output.start +ℤ pos f) l (covered_instant studio feeds next f a.final g))));
  final = λ number h. covered_longer feeds longer (block_start studio.output (number + 1)) l (a.final number h);
}

-- one more mark makes the lists longer
pub longer_set : (studio : Studio) (lanes : List LaneState) (feeds : List Feed) (i : ℕ) (lane : LaneState) (feed : Feed) (mark : MarkView) (t : ℤ)
    → AreFed studio.output.start studio.output.frames lanes feeds t → slice_get feeds i ≡ Some feed
    → HasFeed feed.stream studio.output.start studio.output.frames lane (feed.marks ++ mark ∷ []) t
    → AreLonger feeds (set feeds i (record { stream = feed.stream; marks = feed.marks ++ mark ∷ [] }))
longer_set studio lanes feeds i lane feed mark t fed at new =
    let next : Feed = record { stream = feed.stream; marks = feed.marks ++ mark ∷ [] } in
    record {
      count = length-set feeds i next;
      each = λ j f long f_is long_is.
          let within : j < length feeds = slice_get_within feeds j f f_is in
          elim (cases_eq j i) [
            | inl e ↦
                let in_feeds : i < length feeds = slice_get_within feeds i feed at in
                let long' : long ≡ next = set_same_at feeds i next long in_feeds (subst (λ k. slice_get (set feeds i next) k ≡ Some long) e long_is) in
                let f' : f ≡ feed = sym (get_or_from_slice_get feeds j f feed f_is) ∙ ap (λ k. get_or feeds k feed) e ∙ get_or_from_slice_get feeds i feed feed at in
                subst (λ (x : Feed). IsLonger x long) (sym f') (subst (IsLonger feed) (sym long') (record { more = mark ∷ []; stream = refl; marks = refl; listed = new.mark_list }))
            | inr ne ↦
                let same : slice_get feeds j ≡ Some long = set_other_at feeds i j next long ne long_is in
                let f' : f ≡ long = sym (get_or_from_slice_get feeds j f f f_is) ∙ get_or_from_slice_get feeds j long f same in
                let count = fed.count in
                let own = fed.each j (get_or lanes j lane) long (slice_get-get_or lanes j lane (omega (arith, within, count))) same in
                subst (λ (x : Feed). IsLonger x long) (sym f') (record { more = []; stream = refl; marks = sym (append-nil long.marks); listed = own.mark_list })
          ];
    }

-- the count of two spans of time, one after the other, is the sum of their counts
from_split : (studio : Studio) (feeds : List Feed) (channel : ℕ) (t : ℤ) (n m : ℕ) → saturated_from studio feeds channel t (n + m) ≡ saturated_from studio feeds channel t n + saturated_from studio feeds channel (t +ℤ pos n) m
from_split studio feeds channel t n zero =
    let e : n + 0 ≡ n = omega arith in
    ap (saturated_from studio feeds channel t) e ∙ (let none : saturated_from studio feeds channel t n ≡ saturated_from studio feeds channel t n + 0 = omega arith in none)
from_split studio feeds channel t n (suc m) =
    let s = shift_of studio.output.enc in
    let at : ℤ → ℕ = λ u. saturated_at (matrix_at studio.schedule u) (studio_values feeds u) s channel in
    let e : n + suc m ≡ suc (n + m) = omega arith in
    let u : t +ℤ pos (n + m) ≡ (t +ℤ pos n) +ℤ pos m = omega (arith, ints) in
    let first = from_split studio feeds channel t n m in
    let here : at (t +ℤ pos (n + m)) ≡ at ((t +ℤ pos n) +ℤ pos m) = ap at u in
    ap (saturated_from studio feeds channel t) e ∙ omega (arith, first, here)

-- the saturated samples that are counted from a block's inputs are those of the studio's values
block_counted : (studio : Studio) (feeds : List Feed) (schedule : Changes) (t : ℤ) (ins : List ℤ) (channel s n : ℕ) → ((f : ℕ) → matrix_at schedule (t +ℤ pos f) ≡ matrix_at studio.schedule (t +ℤ pos f)) → s ≡ shift_of studio.output.enc
    → ((f : ℕ) → f < n → take (ins_of (matrix_at schedule (t +ℤ pos f))) (drop (f * ins_of (matrix_at schedule (t +ℤ pos f))) ins) ≡ studio_values feeds (t +ℤ pos f))
    → saturated_count (λ f. matrix_at schedule (t +ℤ pos f)) ins s channel n ≡ saturated_from studio feeds channel t n
block_counted studio feeds schedule t ins channel s zero is shift known = refl
block_counted studio feeds schedule t ins channel s (suc n) is shift known =
    let matrix : ℕ → List (List ℤ) = λ f. matrix_at schedule (t +ℤ pos f) in
    let rows = matrix_at studio.schedule (t +ℤ pos n) in
    ap (λ x. x + saturated_at (matrix n) (take (ins_of (matrix n)) (drop (n * ins_of (matrix n)) ins)) s channel) (block_counted studio feeds schedule t ins channel s n is shift (λ f h. known f (omega (arith, h))))
    ∙ ap (λ v. saturated_from studio feeds channel t n + saturated_at (matrix n) v s channel) (known n (omega arith))
    ∙ ap (λ m. saturated_from studio feeds channel t n + saturated_at m (studio_values feeds (t +ℤ pos n)) s channel) (is n)
    ∙ ap (λ k. saturated_from studio feeds channel t n + saturated_at rows (studio_values feeds (t +ℤ pos n)) k channel) shift

-- the saturated samples of one more block are counted
pub saturated_next : (studio : Studio) (feeds : List Feed) (n : ℕ) (counts new : List ℕ) (schedule : Changes) (t : ℤ) (ins : List ℤ) (frames s : ℕ)
    → AreSaturated studio feeds n counts → are_covered feeds (block_start studio.output (n + 1)) ≡ true
    → ((f : ℕ) → matrix_at schedule (t +ℤ pos f) ≡ matrix_at studio.schedule (t +ℤ pos f)) → s ≡ shift_of studio.output.enc → frames ≡ studio.output.frames → t ≡ block_start studio.output n
    → ((f : ℕ) → f < frames → take (ins_of (matrix_at schedule (t +ℤ pos f))) (drop (f * ins_of (matrix_at schedule (t +ℤ pos f))) ins) ≡ studio_values feeds (t +ℤ pos f))
    → AreAdded counts new (λ channel. saturated_count (λ f. matrix_at schedule (t +ℤ pos f)) ins s channel frames)
    → AreSaturated studio feeds (n + 1) new
saturated_next studio feeds n counts new schedule t ins frames s before covered is shift size begin known added =
    let long = before.channels in
    record {
      channels = added.len ∙ before.channels;
      each = λ channel h.
          let F = studio.output.frames in
          let old : get_or counts channel 0 ≡ min (saturated_before studio feeds n channel) (2 ^ 64 - 1) = before.each channel h in
          let more = added.each channel (omega (arith, h, long)) in
          let block : saturated_count (λ f. matrix_at schedule (t +ℤ pos f)) ins s channel frames ≡ saturated_from studio feeds channel (block_start studio.output n) F =
          block_counted studio feeds schedule t ins channel s frames is shift known ∙ ap (λ k. saturated_from studio feeds channel t k) size ∙ ap (λ u. saturated_from studio feeds channel u F) begin in
          let sum : saturated_before studio feeds (n + 1) channel ≡ saturated_before studio feeds n channel + saturated_from studio feeds channel (block_start studio.output n) F =
          ap (saturated_from studio feeds channel studio.output.start) (let e : (n + 1) * F ≡ n * F + F = omega arith in e) ∙ from_split studio feeds channel studio.output.start (n * F) F in
          omega (arith, old, more, block, sum);
      final = λ number h.
          elim (cases_eq number n) [
            | inl e ↦ subst (λ k. are_covered feeds (block_start studio.output (k + 1)) ≡ true) (sym e) covered
            | inr ne ↦ before.final number (omega (arith, h, ne))
          ];
    }

abbrev none : ℕ
none = 0

at_none : (n k : ℕ) → get_or (replicate n none) k none ≡ none
at_none zero k = refl
at_none (suc n) zero = refl
at_none (suc n) (suc k) = at_none n k

-- no samples are saturated before the first block
pub none_saturated : (studio : Studio) (feeds : List Feed) (counts : List ℕ) (n : ℕ) → counts ≡ replicate n 0 → n ≡ studio.output.channels → AreSaturated studio feeds 0 counts
none_saturated studio feeds counts n is channels = record {
  channels = ap length is ∙ length-replicate n 0 ∙ channels;
  each = λ channel h.
      ap (λ l. get_or l channel 0) is ∙ at_none n channel
      ∙ ap (λ k. min (saturated_from studio feeds channel studio.output.start k) (2 ^ 64 - 1)) (sym (zero-mul studio.output.frames));
  final = λ number h. absurd (omega (arith, h));
}
