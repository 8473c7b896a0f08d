use Rattle.std.proofs.lemmas.Grind.{elements}
use Rattle.std.proofs.Common.{lit<, ◌≡◌, ◌*◌, pos, length, replicate, refl, map, All, sym, ap, subst, ◌∙◌, arith, to_z, of_z, w64}
use Rattle.std.proofs.lemmas.Int.{ints}
use Rattle.std.proofs.lemmas.List.{length-replicate}
use Rattle.std.proofs.lemmas.List.Elements.{All-replicate}
use Rattle.gain_mix.specs.Changes.{Changes, rest_at}
use Rattle.gain_mix.specs.Gain.{ins_of}
use Rattle.gain_mix.specs.Mix.{Is24Bits}
use Rattle.mix_packets.specs.declared.out_spec.Output.{Output}
use Rattle.mix_packets.specs.Block.{block_start}
use Rattle.mix_packets.specs.Packer.{PackerState}
use Rattle.studio_config.specs.Studio.{channel_total}
use Rattle.studio_mix.specs.Feed.{unfed}
use Rattle.studio_mix.specs.Lanes.{AreFed, IsLaneAt}
use Rattle.studio_mix.specs.LaneCapacity.{capacity_for}
use Rattle.studio_mix.proofs.NewLemmas.{first_start, unfed_streams}
use Rattle.studio_mix.proofs.LastLemmas.{last_none}
use Rattle.studio_mix.proofs.SaturatedLemmas.{none_saturated}
use Rattle.studio_mix.proofs.mixer.Mixer.with_lag.Goals as goal

pub invariant_of-result : goal.invariant_of-result
invariant_of-result c =
    let out = c.output.result.now in
    let sound = c.start-start.ensures.sound in
    let low = sound.start_low in
    let high = sound.start_high in
    let start_is = c.start-start.ensures.value in
    let studio = c.streams.ensures.sound in
    let start : to_z w64 (of_z w64 c.start-start.result) ≡ out.start = omega (arith, ints, start_is) in
    let frames : c.from-frames.result ≡ out.frames = c.from-frames.ensures ∙ c.frames.ensures.value in
    let each : All (IsLaneAt c.frames-2.result (to_z w64 (of_z w64 c.start-start.result))) c.in_ok-lanes.lanes.items = c.in_ok-lanes.ensures.each in
    record {
      out_is = sym (ap (λ (p : PackerState). p.spec) c.new-2.ensures);
      out_ok = sound;
      time_is = start ∙ sym (first_start out) ∙ ap (block_start out) (sym (ap (λ (p : PackerState). p.number) c.new-2.ensures));
      not_late = omega (arith, ints, high, start);
      each_lane = subst (λ n. All (IsLaneAt n (to_z w64 (of_z w64 c.start-start.result))) c.in_ok-lanes.lanes.items) c.frames-2.ensures.value each;
      some_lanes = let n = c.in_ok-lanes.ensures.count in let m = studio.some_streams in let v = ap length c.streams.ensures.value in omega (arith, n, m, v);
      width = c.in_ok-schedule.ensures.ins ∙ ap (λ (h : Changes). ins_of h.first) c.schedule.ensures ∙ studio.ins ∙ ap channel_total (sym c.streams.ensures.value) ∙ sym c.in_ok-lanes.ensures.channels;
      height = c.in_ok-schedule.ensures.outs ∙ ap (λ (h : Changes). length h.first) c.schedule.ensures ∙ studio.outs ∙ ap (λ (o : Output). o.channels) (sym c.output.ensures);
      one_length = ap length c.in_ok-one.ensures ∙ length-replicate _ (pos 0) ∙ ap (λ n. n * 64) frames;
      ins_length = ap length c.in_ok-ins.ensures ∙ length-replicate _ (pos 0) ∙ ap (λ n. n * c.ins.result) frames ∙ ap (λ w. out.frames * w) c.ins.ensures.first;
      outs_length = ap length c.in_ok-outs.ensures ∙ length-replicate _ (pos 0) ∙ ap (λ n. n * c.from.result) frames ∙ ap (λ w. out.frames * w) (c.from.ensures ∙ c.channels.ensures.value);
      in_24_bits = subst (All Is24Bits) (sym c.in_ok-ins.ensures) (All-replicate Is24Bits _ (pos 0) (lit< tt));
      counts = ap length (c.in_ok-saturated.ensures.items_if_clones_equal (λ y e. e)) ∙ length-replicate _ 0 ∙ c.from-2.ensures ∙ c.channels-2.ensures.value;
    }

pub returns-clause-stands : goal.returns-clause-stands
returns-clause-stands c =
    let out = c.output.result.now in
    let sound = c.start-start.ensures.sound in
    let low = sound.start_low in
    let high = sound.start_high in
    let start_is = c.start-start.ensures.value in
    let start : to_z w64 (of_z w64 c.start-start.result) ≡ out.start = omega (arith, ints, start_is) in
    let fed : AreFed (to_z w64 (of_z w64 c.start-start.result)) c.frames-2.result c.in_ok-lanes.lanes.items (unfed c.streams.result.now) (to_z w64 (of_z w64 c.start-start.result)) = c.in_ok-lanes.ensures.fed in
    record {
      output = ap (λ (p : PackerState). p.spec) c.new-2.ensures ∙ c.output.ensures;
      schedule =
          c.in_ok-schedule.ensures.rest
          ∙ ap (λ (h : Changes). rest_at h (to_z w64 (of_z w64 c.start-start.result))) c.schedule.ensures
          ∙ ap (rest_at c.args.spec.now.schedule) (start ∙ sym (first_start out))
          ∙ ap (λ (o : Output). rest_at c.args.spec.now.schedule (block_start o 0)) c.output.ensures;
      width = c.in_ok-schedule.ensures.ins ∙ ap (λ (h : Changes). ins_of h.first) c.schedule.ensures ∙ c.streams.ensures.sound.ins;
      number = ap (λ (p : PackerState). p.number) c.new-2.ensures;
      streams = unfed_streams c.args.spec.now.streams;
      lanes =
          subst (λ (o : Output). AreFed o.start o.frames c.in_ok-lanes.lanes.items (unfed c.args.spec.now.streams) (block_start o 0)) c.output.ensures
          (subst (AreFed out.start out.frames c.in_ok-lanes.lanes.items (unfed c.args.spec.now.streams)) (sym (first_start out))
          (subst (λ ss. AreFed out.start out.frames c.in_ok-lanes.lanes.items (unfed ss) out.start) c.streams.ensures.value
          (subst (λ n. AreFed out.start n c.in_ok-lanes.lanes.items (unfed c.streams.result.now) out.start) c.frames-2.ensures.value
          (subst (λ t. AreFed t c.frames-2.result c.in_ok-lanes.lanes.items (unfed c.streams.result.now) t) start fed))));
      saturated = none_saturated c.args.spec.now _ _ _ (c.in_ok-saturated.ensures.items_if_clones_equal (λ y e. e)) (c.from-2.ensures ∙ c.channels-2.ensures.value ∙ ap (λ (o : Output). o.channels) c.output.ensures);
      last = last_none c.args.spec.now _ c.in_ok-ins.ins.items _
          (c.in_ok-ins.ensures
          ∙ ap (λ n. replicate (n * c.ins.result) (pos 0)) (c.from-frames.ensures ∙ c.frames.ensures.value ∙ ap (λ (o : Output). o.frames) c.output.ensures)
          ∙ ap (λ n. replicate (c.args.spec.now.output.frames * n) (pos 0)) (c.ins.ensures.first ∙ c.in_ok-schedule.ensures.ins ∙ ap (λ (h : Changes). ins_of h.first) c.schedule.ensures ∙ c.streams.ensures.sound.ins))
          refl;
    }

pub returns-clause-capacities : goal.returns-clause-capacities
returns-clause-capacities c =
    c.in_ok-lanes.ensures.capacities
    ∙ ap (λ n. map (capacity_for c.args.lag n) c.streams.result.now) c.frames-2.ensures.value
    ∙ ap (λ (o : Output). map (capacity_for c.args.lag o.frames) c.streams.result.now) c.output.ensures
    ∙ ap (map (capacity_for c.args.lag c.args.spec.now.output.frames)) c.streams.ensures.value

pub new_lanes-requires-clause-not_low : goal.new_lanes-requires-clause-not_low
new_lanes-requires-clause-not_low c = grind (arith, elements)

pub new_lanes-requires-clause-not_high : goal.new_lanes-requires-clause-not_high
new_lanes-requires-clause-not_high c = grind (arith, elements)
