use Rattle.std.proofs.Common.{◌≡◌, ◌^◌, ℤ, pos, ◌≤ℤ◌, ◌-ℤ◌, length, FitsSigned, arith, Err, Some, None, true, false, inl, inr, ⊎_elim, refl, ap, sym, ◌∙◌, rules, to_z, of_z, w64}
use Rattle.std.specs.Int.RustNames.{int_lt}
use Rattle.std.proofs.lemmas.Int.{ints, to_z-of_z}
use Rattle.gain_mix.specs.Gain.{ins_of}
use Rattle.gain_mix.specs.Changes.{Changes}
use Rattle.mix_packets.specs.declared.out_spec.Output.{Output}
use Rattle.mix_packets.specs.OutSpec.{is_start}
use Rattle.studio_config.specs.Studio.{Studio}
use Rattle.studio_config.specs.Shift.{moved_fault, shifted, shifted_output, shifted_schedule, start_fault}
use Rattle.studio_config.specs.declared.output_clock.OutputClock.{OutputClock}
use Rattle.studio_config.specs.declared.output_clock.OutputClock.TheVariants.{Run, Media}
use Rattle.studio_config.proofs.ShiftLemmas.{is_start-early, is_start-late, is_start-within}
use Rattle.studio_config.proofs.studio.StudioSpec.shifted.Goals as goal
use Rattle.studio_config.proofs.studio.StudioSpec.shifted.Goals.{then-open_at-lt0-via-then-open_at-lt0, then-open_at-lt0-via-else-open_at-lt0+then-open_at-gt-MAX_TIME}

pub returns-then-open_at-lt0-clause-fault : goal.returns-then-open_at-lt0-clause-fault
returns-then-open_at-lt0-clause-fault c =
    let is = to_z-of_z w64 c.args.open_at c.ranges.open_at in
    elim c.then-open_at-lt0.branch [ then-open_at-lt0-via-then-open_at-lt0 w ↦ let early = is_start-early c.args.open_at (ap (λ t. int_lt t (pos 0)) (sym is) ∙ w.if-open_at-lt0.true) in inr (rw (early, c.out_of_range.ensures)) | then-open_at-lt0-via-else-open_at-lt0+then-open_at-gt-MAX_TIME w ↦ let late = is_start-late c.args.open_at (ap (int_lt (pos (2 ^ 60))) (sym is) ∙ w.if-open_at-gt-MAX_TIME.true) in inr (rw (late, c.out_of_range.ensures)) ]

-- the amount by which the times move
module _ (open_at own : ℤ) (f : FitsSigned w64 open_at) (low : int_lt (to_z w64 (of_z w64 open_at)) (pos 0) ≡ false) (high : int_lt (pos (2 ^ 60)) (to_z w64 (of_z w64 open_at)) ≡ false) (from_zero : pos 0 ≤ℤ own) (to_latest : own ≤ℤ pos (2 ^ 60)) where
  difference : to_z w64 (of_z w64 (to_z w64 (of_z w64 open_at) -ℤ to_z w64 (of_z w64 own))) ≡ open_at -ℤ own
  difference = omega (arith, ints)

-- the opening time is in its range
opens_within : (open_at : ℤ) → FitsSigned w64 open_at → int_lt (to_z w64 (of_z w64 open_at)) (pos 0) ≡ false → int_lt (pos (2 ^ 60)) (to_z w64 (of_z w64 open_at)) ≡ false → is_start open_at ≡ true
opens_within open_at f low high = sym (ap is_start (to_z-of_z w64 open_at f)) ∙ is_start-within (to_z w64 (of_z w64 open_at)) low high

-- the parts of the shifted studio, with the times as they are computed
module _ {studio own : Studio} {open_at computed by : ℤ} (own_is : own ≡ studio) (is : computed ≡ open_at) (by_is : by ≡ open_at -ℤ own.open_at) where
  output_is : shifted_output own.clock by computed own.output ≡ (shifted open_at studio).output
  output_is =
      ap (λ t. shifted_output own.clock by t own.output) is
      ∙ ap (λ b. shifted_output own.clock b open_at own.output) by_is
      ∙ ap (λ (s : Studio). (shifted open_at s).output) own_is

  schedule_is : shifted_schedule own.clock by own.schedule ≡ (shifted open_at studio).schedule
  schedule_is = ap (λ b. shifted_schedule own.clock b own.schedule) by_is ∙ ap (λ (s : Studio). (shifted open_at s).schedule) own_is

  fault_is : moved_fault own.clock (shifted_schedule own.clock by own.schedule).later ≡ moved_fault studio.clock (shifted open_at studio).schedule.later
  fault_is =
      ap (λ b. moved_fault own.clock (shifted_schedule own.clock b own.schedule).later) by_is
      ∙ ap (λ (s : Studio). moved_fault s.clock (shifted open_at s).schedule.later) own_is

-- an output keeps its channels, and gains their first matrix
channels_kept : (clock : OutputClock) (by open_at : ℤ) (output : Output) → (shifted_output clock by open_at output).channels ≡ output.channels
channels_kept Run by open_at output = refl
channels_kept Media by open_at output = refl

first_kept : (clock : OutputClock) (by : ℤ) (schedule : Changes) → (shifted_schedule clock by schedule).first ≡ schedule.first
first_kept Run by schedule = refl
first_kept Media by schedule = refl

pub shifted_output-requires-clause-open_low : goal.shifted_output-requires-clause-open_low
shifted_output-requires-clause-open_low c = let low = c.if-open_at-lt0.false in omega (arith, ints)

pub shifted_output-requires-clause-open_high : goal.shifted_output-requires-clause-open_high
shifted_output-requires-clause-open_high c = let high = c.if-open_at-gt-MAX_TIME.false in omega (arith, ints)

pub returns-in_err-output-clause-fault : goal.returns-in_err-output-clause-fault
returns-in_err-output-clause-fault c =
    let err : c.from_residual.result ≡ Err c.in_err-output.field-0.0 = search rules in
    let is = to_z-of_z w64 c.args.open_at c.ranges.open_at in
    let by = difference c.args.open_at c.self.inside.open_at c.ranges.open_at c.if-open_at-lt0.false c.if-open_at-gt-MAX_TIME.false c.self.invariant.open_low c.self.invariant.open_high in
    let within = opens_within c.args.open_at c.ranges.open_at c.if-open_at-lt0.false c.if-open_at-gt-MAX_TIME.false in
    let late : start_fault (shifted c.args.open_at c.args.self).output.start ≡ Some c.in_err-output.field-0.0 = sym (ap (λ (o : Output). start_fault o.start) (output_is c.self.view_is is by)) ∙ c.in_err-output.ensures.fault in
    rw err (inr (rw (within, late)))

pub returns-in_err-schedule-clause-fault : goal.returns-in_err-schedule-clause-fault
returns-in_err-schedule-clause-fault c =
    let err : c.from_residual-in_err-schedule.result ≡ Err c.in_err-schedule.field-0.0 = search rules in
    let is = to_z-of_z w64 c.args.open_at c.ranges.open_at in
    let by = difference c.args.open_at c.self.inside.open_at c.ranges.open_at c.if-open_at-lt0.false c.if-open_at-gt-MAX_TIME.false c.self.invariant.open_low c.self.invariant.open_high in
    let within = opens_within c.args.open_at c.ranges.open_at c.if-open_at-lt0.false c.if-open_at-gt-MAX_TIME.false in
    let started : start_fault (shifted c.args.open_at c.args.self).output.start ≡ None = sym (ap (λ (o : Output). start_fault o.start) (output_is c.self.view_is is by)) ∙ c.in_ok-output.ensures.fine in
    rw err (⊎_elim
    (λ memory. inl memory)
    (λ late. let changed : moved_fault c.args.self.clock (shifted c.args.open_at c.args.self).schedule.later ≡ Some c.in_err-schedule.field-0.0 = sym (fault_is c.self.view_is is by) ∙ late in inr (rw (within, started, changed)))
    c.in_err-schedule.ensures.fault)

pub invariant_of-result : goal.invariant_of-result
invariant_of-result c =
    let is = to_z-of_z w64 c.args.open_at c.ranges.open_at in
    let low = c.if-open_at-lt0.false in
    let high = c.if-open_at-gt-MAX_TIME.false in
    let own = c.self.invariant in
    let by = (to_z w64 (of_z w64 (to_z w64 (of_z w64 c.args.open_at) -ℤ to_z w64 (of_z w64 c.self.inside.open_at)))) in
    let first = first_kept c.self.inside.clock by c.self.inside.schedule in
    let channels = channels_kept c.self.inside.clock by (to_z w64 (of_z w64 c.args.open_at)) c.self.inside.output in
    record {
      open_low = omega (arith, ints);
      open_high = omega (arith, ints);
      some_streams = own.some_streams;
      few_streams = own.few_streams;
      outs = ap (λ (s : Changes). length s.first) c.in_ok-schedule.ensures.ok ∙ ap length first ∙ own.outs ∙ sym (ap (λ (o : Output). o.channels) c.in_ok-output.ensures.ok ∙ channels);
      ins = ap (λ (s : Changes). ins_of s.first) c.in_ok-schedule.ensures.ok ∙ ap ins_of first ∙ own.ins;
    }

pub returns-clause-ok : goal.returns-clause-ok
returns-clause-ok c =
    let is = to_z-of_z w64 c.args.open_at c.ranges.open_at in
    let by = difference c.args.open_at c.self.inside.open_at c.ranges.open_at c.if-open_at-lt0.false c.if-open_at-gt-MAX_TIME.false c.self.invariant.open_low c.self.invariant.open_high in
    let output : c.in_ok-output.output ≡ (shifted c.args.open_at c.args.self).output = c.in_ok-output.ensures.ok ∙ output_is c.self.view_is is by in
    let schedule : c.in_ok-schedule.schedule ≡ (shifted c.args.open_at c.args.self).schedule = c.in_ok-schedule.ensures.ok ∙ schedule_is c.self.view_is is by in
    rw (is, output, schedule) (ap (λ (s : Studio). record s { open_at = c.args.open_at; output = (shifted c.args.open_at c.args.self).output; schedule = (shifted c.args.open_at c.args.self).schedule }) c.self.view_is)

pub returns-clause-fine : goal.returns-clause-fine
returns-clause-fine c =
    let is = to_z-of_z w64 c.args.open_at c.ranges.open_at in
    let by = difference c.args.open_at c.self.inside.open_at c.ranges.open_at c.if-open_at-lt0.false c.if-open_at-gt-MAX_TIME.false c.self.invariant.open_low c.self.invariant.open_high in
    let within = opens_within c.args.open_at c.ranges.open_at c.if-open_at-lt0.false c.if-open_at-gt-MAX_TIME.false in
    let started : start_fault (shifted c.args.open_at c.args.self).output.start ≡ None = sym (ap (λ (o : Output). start_fault o.start) (output_is c.self.view_is is by)) ∙ c.in_ok-output.ensures.fine in
    let changed : moved_fault c.args.self.clock (shifted c.args.open_at c.args.self).schedule.later ≡ None = sym (fault_is c.self.view_is is by) ∙ c.in_ok-schedule.ensures.fine in
    rw (within, started, changed)
