use Rattle.std.proofs.Common.{arith, ◌≡◌, ◌≤◌, ◌^◌, ◌≤ℤ◌, pos, false, true, ◌+◌, ◌<◌, w64, ℤ, ◌+ℤ◌, ◌-ℤ◌, ◌<ℤ◌, to_z, of_z, ap, sym, ◌∙◌}
use Rattle.std.specs.Prelude.{unsigned_abs, neg_ℤ}
use Rattle.std.specs.Int.{int_div_euclid, int_rem_euclid}
use Rattle.std.proofs.lemmas.Int.{ints}
use lib.Signed.{lt_z}
use Rattle.mix_packets.specs.Aligned.{aligned}
use Rattle.mix_packets.specs.OutSpec.{IsOutput, is_start}
use Rattle.mix_packets.specs.declared.out_spec.Output.{Output}
use Rattle.mix_packets.proofs.AlignedLemmas.{begins-after, begins-within, no_farther, start-ahead}
use Rattle.mix_packets.proofs.out_spec.OutSpec.aligned_to.Goals as goal

module _ (o : Output) (time frames : ℤ) (ok : IsOutput o) (low : pos 0 ≤ℤ time) (high : time ≤ℤ pos (2 ^ 60)) (frames_is : frames ≡ pos o.frames) where
  -- the computed difference
  ahead : to_z w64 (of_z w64 (to_z w64 (of_z w64 o.start) -ℤ to_z w64 (of_z w64 time))) ≡ o.start -ℤ time
  ahead = omega (arith, ints, ok.start_low, ok.start_high, low, high)

  divisor : to_z w64 (of_z w64 frames) ≡ pos o.frames
  divisor = omega (arith, ints, ok.few_frames, frames_is)

  -- the computed start
  start : (r : ℤ) → r ≡ int_rem_euclid (to_z w64 (of_z w64 (to_z w64 (of_z w64 o.start) -ℤ to_z w64 (of_z w64 time)))) (to_z w64 (of_z w64 frames))
      → to_z w64 (of_z w64 (to_z w64 (of_z w64 time) +ℤ to_z w64 (of_z w64 r))) ≡ (aligned time o).start
  start r e =
      let is : r ≡ int_rem_euclid (o.start -ℤ time) (pos o.frames) = e ∙ ap (λ z. int_rem_euclid z (to_z w64 (of_z w64 frames))) ahead ∙ ap (int_rem_euclid (o.start -ℤ time)) divisor in
      omega (arith, ints, is, start-ahead o time ok, begins-after o time ok, begins-within o time ok, ok.few_frames, low, high)

  -- the computed number of the block
  block : (q : ℤ) → q ≡ int_div_euclid (to_z w64 (of_z w64 (to_z w64 (of_z w64 o.start) -ℤ to_z w64 (of_z w64 time)))) (to_z w64 (of_z w64 frames)) → q ≡ int_div_euclid (o.start -ℤ time) (pos o.frames)
  block q e = e ∙ ap (λ z. int_div_euclid z (to_z w64 (of_z w64 frames))) ahead ∙ ap (int_div_euclid (o.start -ℤ time)) divisor

  -- it is no farther from 0 than 2 ^ 60
  near : (q : ℤ) → q ≡ int_div_euclid (to_z w64 (of_z w64 (to_z w64 (of_z w64 o.start) -ℤ to_z w64 (of_z w64 time)))) (to_z w64 (of_z w64 frames)) → unsigned_abs q ≤ 2 ^ 60
  near q e = omega (arith, ints, ap unsigned_abs (block q e), no_farther o.frames (o.start -ℤ time) ok.some_frames, ok.start_low, ok.start_high, low, high)

-- a time after 2 ^ 60 is no start, and one from 0 to there is one
too_late : (s : ℤ) → lt_z (pos 1152921504606846976) s ≡ true → is_start s ≡ false
too_late s late = grind (arith, ints, late)

in_range : (s : ℤ) → pos 0 ≤ℤ s → lt_z (pos 1152921504606846976) s ≡ false → is_start s ≡ true
in_range s from_zero early = grind (arith, ints, from_zero, early)

-- the computed sequence number
number : (seq block r q from : ℤ) → from ≡ seq → q ≡ block → pos 0 ≤ℤ seq → seq <ℤ pos (2 ^ 16) → unsigned_abs q ≤ 2 ^ 60
    → r ≡ int_rem_euclid (to_z w64 (of_z w64 (to_z w64 (of_z w64 from) +ℤ to_z w64 (of_z w64 (pos 0 -ℤ to_z w64 (of_z w64 q)))))) (pos 65536) → unsigned_abs r < 65536
    → unsigned_abs (to_z w64 (of_z w64 r)) ≡ unsigned_abs (int_rem_euclid (seq +ℤ neg_ℤ block) (pos 65536))
number seq block r q from from_is q_is some fits small r_is low =
    let sum : to_z w64 (of_z w64 (to_z w64 (of_z w64 from) +ℤ to_z w64 (of_z w64 (pos 0 -ℤ to_z w64 (of_z w64 q))))) ≡ seq +ℤ neg_ℤ block = omega (arith, ints, from_is, q_is, some, fits, small) in
    let is : to_z w64 (of_z w64 r) ≡ r = omega (arith, ints, low) in
    ap unsigned_abs (is ∙ r_is ∙ ap (λ z. int_rem_euclid z (pos 65536)) sum)

pub returns-then-start-gt-MAX_START-clause-late : goal.returns-then-start-gt-MAX_START-clause-late
returns-then-start-gt-MAX_START-clause-late c =
    let is = start c.self.inside.output c.args.time c.from-frames.result c.self.invariant c.requires.low c.requires.high c.from-frames.ensures c.rem_euclid.result c.rem_euclid.ensures.value in
    ap (λ o. is_start (aligned c.args.time o).start) (sym c.self.view_is) ∙ ap is_start (sym is) ∙ too_late (to_z w64 (of_z w64 (to_z w64 (of_z w64 c.args.time) +ℤ to_z w64 (of_z w64 c.rem_euclid.result)))) c.if-start-gt-MAX_START.true

pub overflow_sub-block : goal.overflow_sub-block
overflow_sub-block c =
    let small = near c.self.inside.output c.args.time c.from-frames.result c.self.invariant c.requires.low c.requires.high c.from-frames.ensures c.div_euclid-block.result c.div_euclid-block.ensures in
    omega (arith, ints, small)

pub overflow_add-from : goal.overflow_add-from
overflow_add-from c =
    let small = near c.self.inside.output c.args.time c.from-frames.result c.self.invariant c.requires.low c.requires.high c.from-frames.ensures c.div_euclid-block.result c.div_euclid-block.ensures in
    omega (arith, ints, small, c.from.ensures, c.self.invariant.seq0_fits)

pub invariant_of-result : goal.invariant_of-result
invariant_of-result c =
    let own = c.self.invariant in
    let is = start c.self.inside.output c.args.time c.from-frames.result own c.requires.low c.requires.high c.from-frames.ensures c.rem_euclid.result c.rem_euclid.ensures.value in
    let after = begins-after c.self.inside.output c.args.time own in
    record {
      some_channels = own.some_channels;
      few_channels = own.few_channels;
      packet_time = own.packet_time;
      some_frames = own.some_frames;
      few_frames = own.few_frames;
      pt_low = own.pt_low;
      pt_high = own.pt_high;
      short = own.short;
      start_low = omega (arith, ints, is, after, c.requires.low);
      start_high = omega (arith, ints, c.if-start-gt-MAX_START.false);
      ssrc_fits = own.ssrc_fits;
      seq0_fits = omega (arith, ints, c.rem_euclid-seq0.ensures.upper_bound);
      offset_fits = own.offset_fits;
    }

pub returns-clause-ok : goal.returns-clause-ok
returns-clause-ok c =
    let o = c.self.inside.output in
    let own = c.self.invariant in
    let is = start o c.args.time c.from-frames.result own c.requires.low c.requires.high c.from-frames.ensures c.rem_euclid.result c.rem_euclid.ensures.value in
    let q_is = block o c.args.time c.from-frames.result own c.requires.low c.requires.high c.from-frames.ensures c.div_euclid-block.result c.div_euclid-block.ensures in
    let small = near o c.args.time c.from-frames.result own c.requires.low c.requires.high c.from-frames.ensures c.div_euclid-block.result c.div_euclid-block.ensures in
    let seq = number (pos o.seq0) (int_div_euclid (o.start -ℤ c.args.time) (pos o.frames)) c.rem_euclid-seq0.result c.div_euclid-block.result c.from.result c.from.ensures q_is (omega (arith, ints)) (omega (arith, ints, own.seq0_fits)) small c.rem_euclid-seq0.ensures.value c.rem_euclid-seq0.ensures.upper_bound in
    rw (is, seq) (ap (aligned c.args.time) c.self.view_is)

pub returns-clause-fine : goal.returns-clause-fine
returns-clause-fine c =
    let own = c.self.invariant in
    let is = start c.self.inside.output c.args.time c.from-frames.result own c.requires.low c.requires.high c.from-frames.ensures c.rem_euclid.result c.rem_euclid.ensures.value in
    let after = begins-after c.self.inside.output c.args.time own in
    ap (λ o. is_start (aligned c.args.time o).start) (sym c.self.view_is) ∙ ap is_start (sym is) ∙ in_range (to_z w64 (of_z w64 (to_z w64 (of_z w64 c.args.time) +ℤ to_z w64 (of_z w64 c.rem_euclid.result)))) (omega (arith, ints, is, after, c.requires.low)) c.if-start-gt-MAX_START.false
