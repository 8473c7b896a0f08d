use Rattle.std.proofs.Common.{◌≡◌, suc, ◌+◌, ◌%◌, ◌<◌, max, length, arith, sym, ap, ◌∙◌}
use Rattle.std.specs.Prelude.{slice_index, slice_set}
use Rattle.std.specs.Int.RustNames.{unsigned_abs}
use Rattle.std.proofs.Math.Nat.{mod-lt}
use Rattle.std.proofs.lemmas.Int.{ints, to_z-of_z}
use Rattle.std.proofs.lemmas.List.{length-set}
use Rattle.rtp_stats.specs.Peaks.{magnitude_at, peak_among}
use Rattle.rtp_stats.proofs.PeakLemmas.{peak_step}
use Rattle.rtp_stats.proofs.peaks.raise_peaks.Goals as goal

pub loop-index-preserved : goal.loop-index-preserved
loop-index-preserved c =
    let peaks = c.loop-index.peaks in
    let index = c.loop-index.index in
    let same = length-set peaks c.loop-index.channel c.max.result in
    let some : 0 < length peaks = omega (arith, c.loop-index.auto.peaks, c.requires) in
    let worth : c.unsigned_abs-magnitude.result ≡ unsigned_abs c.sample.result = grind (arith, ints, to_z-of_z, c.sample.type_inv, c.unsigned_abs-magnitude.ensures.value) in
    let magnitude : c.unsigned_abs-magnitude.result ≡ magnitude_at c.args.enc c.args.octets.now index = worth ∙ ap unsigned_abs c.sample.ensures in
    let at = c.loop-index.invariant.at in
    let value : c.max.result ≡ max (slice_index peaks (index % length peaks)) (magnitude_at c.args.enc c.args.octets.now index) = c.max.ensures ∙ ap (λ m. max (slice_index peaks c.loop-index.channel) m) magnitude ∙ ap (λ k. max (slice_index peaks k) (magnitude_at c.args.enc c.args.octets.now index)) at in
    let one : suc index ≡ index + 1 = omega arith in
    record {
      at = c.channel_after-channel.ensures index (at ∙ ap (λ n. index % n) (sym same));
      so_far = λ channel lt.
          ap (λ v. slice_index (slice_set peaks c.loop-index.channel v) channel) value
          ∙ ap (λ k. slice_index (slice_set peaks k (max (slice_index peaks (index % length peaks)) (magnitude_at c.args.enc c.args.octets.now index))) channel) at
          ∙ peak_step c.args.enc c.args.octets.now c.args.peaks.now peaks (length peaks) index channel (mod-lt index some) c.loop-index.invariant.so_far (omega (arith, lt, same))
          ∙ ap (λ n. max (slice_index c.args.peaks.now channel) (peak_among c.args.enc c.args.octets.now (length peaks) channel n)) one
          ∙ ap (λ n. max (slice_index c.args.peaks.now channel) (peak_among c.args.enc c.args.octets.now n channel (index + 1))) (sym same);
    }
