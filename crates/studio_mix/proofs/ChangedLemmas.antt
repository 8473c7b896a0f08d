-- Changes of gains, and the blocks before them.
use Rattle.std.proofs.Common.{◌≡◌, ℕ, zero, suc, ◌+◌, ◌*◌, ◌≤ℤ◌, ◌<ℤ◌, ◌^◌, ◌-◌, min, ℤ, pos, ◌+ℤ◌, List, [], ◌∷◌, ◌++◌, map, Result, Ok, Err, OnOk, refl, sym, ap, ◌∙◌, arith}
use Rattle.std.proofs.lemmas.Int.{ints}
use Rattle.std.proofs.lemmas.List.{map_push}
use Rattle.gain_mix.specs.Changes.{Changes, matrix_at, rest_at, with_change}
use Rattle.gain_mix.specs.Gain.{ins_of}
use Rattle.gain_mix.specs.Mix.{mixed_frame}
use Rattle.gain_mix.specs.Saturated.{saturated_at}
use Rattle.gain_mix.proofs.LiveScheduleLemmas.{matrix_at_rest, rest_with_change, unchanged_before}
use Rattle.mix_packets.specs.Block.{block_start, block_datagram}
use Rattle.mix_packets.specs.OutSpec.{shift_of}
use Rattle.studio_config.specs.Studio.{Studio}
use Rattle.studio_mix.specs.Feed.{Feed, studio_values}
use Rattle.studio_mix.specs.Mixed.{mixed_samples}
use Rattle.studio_mix.specs.Output.{block_samples, datagram_of}
use Rattle.studio_mix.specs.Mixer.{HasFeeds, MixerState}
use Rattle.studio_mix.specs.Saturated.{AreSaturated, saturated_from}
use Rattle.studio_mix.specs.Changed.{rows_in, with_changes, with_each, with_gains, with_rows}
use Rattle.studio_mix.proofs.LawLemmas.{same_rows}
use Rattle.studio_mix.proofs.LastLemmas.{last_unchanged}
use Rattle.studio_mix.proofs.MixerLemmas.{next_start}

pub samples_unchanged : (studio : Studio) (feeds : List Feed) (n : ℕ) (at : ℤ) (rows : List (List ℤ)) → block_start studio.output (n + 1) ≤ℤ at
    → block_samples (with_rows studio at rows) feeds n ≡ block_samples studio feeds n
samples_unchanged studio feeds n at rows early =
    let out = studio.output in
    same_rows (λ f. mixed_samples (with_rows studio at rows) feeds (block_start out n +ℤ pos f)) (λ f. mixed_samples studio feeds (block_start out n +ℤ pos f)) 0 out.frames
    (λ f h.
    let t = block_start out n +ℤ pos (0 + f) in
    let end = next_start out n in
    let before : t <ℤ at = omega (arith, ints, h, end, early) in
    ap (λ m. mixed_frame m (studio_values feeds t) (shift_of out.enc)) (unchanged_before studio.schedule at rows t before))

pub datagram_unchanged : (studio : Studio) (feeds : List Feed) (n : ℕ) (at : ℤ) (rows : List (List ℤ)) → block_start studio.output (n + 1) ≤ℤ at
    → datagram_of (with_rows studio at rows) feeds n ≡ datagram_of studio feeds n
datagram_unchanged studio feeds n at rows early = ap (block_datagram studio.output n) (samples_unchanged studio feeds n at rows early)

from_unchanged : (studio : Studio) (feeds : List Feed) (channel : ℕ) (t : ℤ) (n : ℕ) (at : ℤ) (rows : List (List ℤ)) → (t +ℤ pos n) ≤ℤ at
    → saturated_from (with_rows studio at rows) feeds channel t n ≡ saturated_from studio feeds channel t n
from_unchanged studio feeds channel t zero at rows early = refl
from_unchanged studio feeds channel t (suc n) at rows early =
    let before : (t +ℤ pos n) <ℤ at = omega (arith, ints, early) in
    let s = shift_of studio.output.enc in
    let here = saturated_at (matrix_at (with_change studio.schedule at rows) (t +ℤ pos n)) (studio_values feeds (t +ℤ pos n)) s channel in
    ap (λ k. k + here) (from_unchanged studio feeds channel t n at rows (omega (arith, ints, early)))
    ∙ ap (λ m. saturated_from studio feeds channel t n + saturated_at m (studio_values feeds (t +ℤ pos n)) s channel) (unchanged_before studio.schedule at rows (t +ℤ pos n) before)

pub saturated_unchanged : (studio : Studio) (feeds : List Feed) (n : ℕ) (counts : List ℕ) (at : ℤ) (rows : List (List ℤ)) → block_start studio.output n ≤ℤ at
    → AreSaturated studio feeds n counts → AreSaturated (with_rows studio at rows) feeds n counts
saturated_unchanged studio feeds n counts at rows early counted = record {
  channels = counted.channels;
  each = λ channel h.
      counted.each channel h
      ∙ ap (λ k. min k (2 ^ 64 - 1)) (sym (from_unchanged studio feeds channel studio.output.start (n * studio.output.frames) at rows early));
  final = counted.final;
}

-- a mixer has the studio's gains from its next block on
pub fed_matrix : (studio : Studio) (mixer : MixerState) (feeds : List Feed) (n : ℕ) (t : ℤ) → HasFeeds studio mixer feeds n → block_start studio.output n ≤ℤ t
    → matrix_at mixer.schedule t ≡ matrix_at studio.schedule t
fed_matrix studio mixer feeds n t fed h =
    ap (λ (s : Changes). matrix_at s t) fed.schedule ∙ matrix_at_rest studio.schedule.later (block_start studio.output n) t h studio.schedule.first

-- a mixer that took a change is at the same block of the studio with this change
pub changed_fed : (studio : Studio) (mixer : MixerState) (feeds : List Feed) (n : ℕ) (schedule : Changes) (at : ℤ) (rows : List (List ℤ))
    → HasFeeds studio mixer feeds n → block_start studio.output n ≤ℤ at
    → schedule ≡ rest_at (with_change mixer.schedule at rows) (block_start studio.output n) → ins_of schedule.first ≡ ins_of mixer.schedule.first
    → HasFeeds (with_rows studio at rows) (record { lanes = mixer.lanes; schedule = schedule; packer = mixer.packer; saturated = mixer.saturated; inputs = mixer.inputs; missing = mixer.missing }) feeds n
changed_fed studio mixer feeds n schedule at rows fed early is wide = record {
  output = fed.output;
  schedule =
      is
      ∙ ap (λ (s : Changes). rest_at (with_change s at rows) (block_start studio.output n)) fed.schedule
      ∙ rest_with_change studio.schedule (block_start studio.output n) at rows early;
  width = wide ∙ fed.width;
  number = fed.number;
  streams = fed.streams;
  lanes = fed.lanes;
  saturated = saturated_unchanged studio feeds n mixer.saturated at rows early fed.saturated;
  last = last_unchanged studio feeds n mixer.inputs mixer.missing at rows early fed.last;
}

pub both_ok : {X E : Type 0} (r : Result X E) (P Q R : Type 0) → (P → Q → R) → OnOk r P → OnOk r Q → OnOk r R
both_ok (Ok x) P Q R f p q = f p q
both_ok (Err e) P Q R f p q = tt

-- a studio with no changes, and with one more
pub with_changes-none : (studio : Studio) → with_changes studio [] ≡ studio
with_changes-none studio = refl

with_each-push : (schedule : Changes) (changes : List (ℤ × List (List ℤ))) (more : ℤ × List (List ℤ)) → with_each schedule (changes ++ more ∷ []) ≡ with_change (with_each schedule changes) more.0 more.1
with_each-push schedule [] more = refl
with_each-push schedule (change ∷ changes) more = with_each-push (with_change schedule change.0 change.1) changes more

pub with_changes-more : (studio : Studio) (changes : List (ℤ × List ℤ)) (at : ℤ) (gains : List ℤ) → with_gains (with_changes studio changes) at gains ≡ with_changes studio (changes ++ (at, gains) ∷ [])
with_changes-more studio changes at gains =
    ap (λ (schedule : Changes). record studio { schedule = schedule })
    (sym (with_each-push studio.schedule (map (rows_in studio) changes) (rows_in studio (at, gains)))
    ∙ ap (with_each studio.schedule) (sym (map_push (rows_in studio) changes (at, gains))))
