use Rattle.std.proofs.Common.{◌≡◌, ℤ, ◌-ℤ◌, ap, sym, ◌∙◌}
use Rattle.mix_packets.specs.declared.out_spec.Output.{Output}
use Rattle.mix_packets.specs.Aligned.{aligned}
use Rattle.mix_packets.specs.Block.{block_head, block_start}
use Rattle.mix_packets.proofs.AlignedLemmas.{aligned-again, one-header}
use Rattle.studio_config.specs.Shift.{shifted, shifted_output}
use Rattle.studio_config.specs.Studio.{Studio}
use Rattle.studio_config.specs.declared.output_clock.OutputClock.{OutputClock}
use Rattle.studio_config.specs.declared.output_clock.OutputClock.TheVariants.{Media}
use Rattle.studio_config.proofs.laws.a_media_time_has_one_number.Goals as goal

-- the output of such a studio at an opening
output_at : (studio : Studio) (open_at : ℤ) → studio.clock ≡ Media → (shifted open_at studio).output ≡ aligned open_at studio.output
output_at studio open_at media = ap (λ (clock : OutputClock). shifted_output clock (open_at -ℤ studio.open_at) open_at studio.output) media

pub returns-clause-header : goal.returns-clause-header
returns-clause-header c = λ studio open_at other m n ok media same.
    let here = output_at studio open_at media in
    let there = output_at studio other media in
    ap (λ (o : Output). block_head o m) here
    ∙ one-header studio.output open_at other m n ok (sym (ap (λ (o : Output). block_start o m) here) ∙ same ∙ ap (λ (o : Output). block_start o n) there)
    ∙ sym (ap (λ (o : Output). block_head o n) there)

pub returns-clause-again : goal.returns-clause-again
returns-clause-again c = λ studio open_at other ok media. rw media (ap (λ (o : Output). record studio { open_at = open_at; output = o; clock = Media }) (aligned-again studio.output open_at other ok))
