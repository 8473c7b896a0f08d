use Rattle.std.proofs.lemmas.Grind.{elements}
use Rattle.std.proofs.Common.{◌≡◌, ◌*◌, ◌≤ℤ◌, length, sym, ap, subst, ◌∙◌, to_z, of_z, w64, arith}
use Rattle.std.proofs.lemmas.Int.{ints, to_z-of_z}
use Rattle.std.proofs.lemmas.Result.{on_ok_weaker}
use Rattle.gain_mix.specs.Changes.{rest_at, with_change}
use Rattle.gain_mix.specs.Gain.{ins_of, rows_of}
use Rattle.mix_packets.specs.Block.{block_start}
use Rattle.mix_packets.specs.declared.out_spec.Output.{Output}
use Rattle.studio_config.specs.Studio.{channel_total}
use Rattle.studio_mix.specs.Mixer.{HasFeeds, MixerState}
use Rattle.studio_mix.proofs.ChangedLemmas.{both_ok, changed_fed}
use Rattle.studio_mix.proofs.MixerLemmas.{block_begin}
use Rattle.studio_mix.proofs.mixer.Mixer.change_gains.Goals as goal

pub invariant_of-self : goal.invariant_of-self
invariant_of-self c =
    let i = c.self.inside in
    let sound = c.self.invariant in
    let high = c.change.ensures.outs in
    let wide = c.change.ensures.ins in
    record {
      out_is = sound.out_is;
      out_ok = sound.out_ok;
      time_is = sound.time_is;
      not_late = sound.not_late;
      each_lane = sound.each_lane;
      some_lanes = sound.some_lanes;
      width = wide ∙ sound.width;
      height = high ∙ sound.height;
      one_length = sound.one_length;
      ins_length = sound.ins_length ∙ ap (λ w. i.output.frames * w) (sym wide);
      outs_length = sound.outs_length;
      in_24_bits = sound.in_24_bits;
      counts = sound.counts;
    }

pub returns-clause-stands : goal.returns-clause-stands
returns-clause-stands c =
    both_ok c.change.result _ _ _ (λ later taken studio feeds number fed.
    let i = c.self.inside in
    let sound = c.self.invariant in
    let mixer : MixerState = record { lanes = i.lanes.items; schedule = i.schedule; packer = i.packer; saturated = i.saturated.items; inputs = i.ins.items; missing = i.missing } in
    let fed' : HasFeeds studio mixer feeds number = subst (λ m. HasFeeds studio m feeds number) (sym c.self.view_is) fed in
    let late = sound.not_late in
    let begin : i.time ≡ block_start studio.output number = block_begin studio mixer feeds number i.output i.time i.one.items i.ins.items i.outs.items sound fed' in
    let time : to_z w64 (of_z w64 i.time) ≡ i.time = omega (arith, ints) in
    let at : to_z w64 (of_z w64 c.args.at) ≡ c.args.at = to_z-of_z w64 c.args.at c.ranges.at in
    let early : block_start studio.output number ≤ℤ c.args.at = omega (arith, ints, later, begin, time, at) in
    let out : i.output ≡ studio.output = sound.out_is ∙ fed'.output in
    let high : length i.schedule.first ≡ studio.output.channels = sound.height ∙ ap (λ (o : Output). o.channels) out in
    let rows : rows_of (ins_of i.schedule.first) (length i.schedule.first) c.args.gains.now ≡ rows_of (channel_total studio.streams) studio.output.channels c.args.gains.now =
    ap (λ n. rows_of n (length i.schedule.first) c.args.gains.now) fed'.width ∙ ap (λ m. rows_of (channel_total studio.streams) m c.args.gains.now) high in
    changed_fed studio mixer feeds number c.change.new.self c.args.at _ fed' early
    (taken
    ∙ ap (λ u. rest_at (with_change i.schedule u (rows_of (ins_of i.schedule.first) (length i.schedule.first) c.args.gains.now)) (to_z w64 (of_z w64 i.time))) at
    ∙ ap (λ rows. rest_at (with_change i.schedule c.args.at rows) (to_z w64 (of_z w64 i.time))) rows
    ∙ ap (rest_at (with_change i.schedule c.args.at (rows_of (channel_total studio.streams) studio.output.channels c.args.gains.now))) (time ∙ begin))
    c.change.ensures.ins)
    c.change.ensures.later c.change.ensures.taken

pub returns-clause-later : goal.returns-clause-later
returns-clause-later c =
    on_ok_weaker c.change.result (λ later.
    let i = c.self.inside in
    let sound = c.self.invariant in
    let late = sound.not_late in
    let begin : i.time ≡ block_start c.args.self.now.packer.spec c.args.self.now.packer.number =
    sound.time_is ∙ ap (λ o. block_start o i.packer.number) sound.out_is ∙ ap (λ (m : MixerState). block_start m.packer.spec m.packer.number) c.self.view_is in
    let early = sound.out_ok.start_low in
    let time : to_z w64 (of_z w64 i.time) ≡ i.time = omega (arith, ints, sound.time_is, early) in
    let at : to_z w64 (of_z w64 c.args.at) ≡ c.args.at = to_z-of_z w64 c.args.at c.ranges.at in
    omega (arith, ints, later, begin, time, at))
    c.change.ensures.later

pub returns-clause-kept : goal.returns-clause-kept
returns-clause-kept c = grind (arith, elements)
