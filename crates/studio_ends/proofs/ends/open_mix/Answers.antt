use Rattle.std.proofs.Common.{rules, ◌≡◌, ◌∙◌, ◌<◌, arith, length, vec_len, refl, subst, sym}
use Rattle.mix_packets.specs.declared.out_spec.Output.{Output}
use Rattle.studio_ends.specs.Stats.{Measures}
use Rattle.studio_ends.proofs.DatagramLemmas.{given-fresh}
use Rattle.studio_ends.proofs.OpenLemmas.{feeds-unread, lanes_count, unread_count}
use Rattle.studio_ends.proofs.ends.open_mix.Goals as goal

pub invariant_of-result : goal.invariant_of-result
invariant_of-result c =
    let length_is : vec_len c.args.sides ≡ length c.args.sides.items = search rules in
    let few = c.requires.sound.few_streams in
    let count = unread_count c.args.studio.now.streams c.args.sides.items c.requires.unread in
    record {
      count = length_is ∙ lanes_count c.args.studio.now c.args.sides.items c.in_ok-mixer.mixer c.requires.unread c.in_ok-mixer.ensures;
      few = omega (arith, length_is, few, count);
      measures = subst (Measures c.in_ok-sender.sender) (c.output-output.ensures ∙ sym c.in_ok-mixer.ensures.output) c.in_ok-sender.ensures.measures;
    }

pub returns-clause-fresh : goal.returns-clause-fresh
returns-clause-fresh c =
    let studio = c.args.studio.now in
    let e : c.output-output.result.now ≡ studio.output = c.output-output.ensures in
    (refl, given-fresh studio _ (subst (λ (o : Output). 0 < o.frames) e c.frames-frames.ensures.sound.some_frames) (feeds-unread studio c.args.sides.items c.in_ok-mixer.mixer c.requires.unread c.in_ok-mixer.ensures))
