use Rattle.std.proofs.lemmas.Grind.{elements}
use Rattle.std.proofs.Common.{◌≡◌, pos, ◌+ℤ◌, sym, subst, ◌∙◌, arith, to_z, of_z, w64}
use Rattle.std.proofs.lemmas.Int.{ints}
use Rattle.studio_mix.specs.Mixer.{MixerState, HasFeeds}
use Rattle.studio_mix.proofs.MixerLemmas.{block_end}
use Rattle.studio_mix.proofs.mixer.Mixer.block_end.Goals as goal

pub returns : goal.returns
returns c = λ studio feeds number fed.
    let i = c.self.inside in
    let sound = c.self.invariant in
    let mixer : MixerState = record { lanes = i.lanes.items; schedule = i.schedule; packer = i.packer; saturated = i.saturated.items; inputs = i.ins.items; missing = i.missing } in
    let fed' : HasFeeds studio mixer feeds number = subst (λ m. HasFeeds studio m feeds number) (sym c.self.view_is) fed in
    let end = block_end studio mixer feeds number i.output i.time i.one.items i.ins.items i.outs.items sound fed' in
    let late = sound.not_late in
    let few = sound.out_ok.few_frames in
    let same : to_z w64 (of_z w64 (to_z w64 (of_z w64 i.time) +ℤ to_z w64 (of_z w64 c.from.result))) ≡ i.time +ℤ pos i.output.frames = omega (arith, ints, c.from.ensures, c.frames.ensures.value) in
    same ∙ end

pub overflow_add-result : goal.overflow_add-result
overflow_add-result c = grind (arith, elements)
