use Rattle.std.proofs.lemmas.Grind.{elements, common_steps}
use Rattle.std.proofs.Common.{arith, ◌+◌, ◌++◌, ◌∷◌, [], ap, refl, sym, subst, ◌∙◌, append_assoc, length-append}
use Rattle.studio_ends.specs.FreshEnds.{AllFreshPaths}
use Rattle.studio_ends.specs.OpenedChannels.{HaveChannels}
use Rattle.studio_ends.proofs.OpenLemmas.{fresh_paths-snoc}
use Rattle.studio_ends.proofs.ReceiverLemmas.{channels-path}
use Rattle.studio_ends.proofs.ends.open_paths.Goals as goal

pub loop-preserved : goal.loop-preserved
loop-preserved c =
    let i = c.loop.invariant.0 in
    let channel = c.in_ok-end.ensures.channel in
    let end = c.in_ok-end.end in
    let more = i.2 in (
      (
        i.0 ++ end ∷ [],
        c.in_ok-push.ensures.items ∙ (ap (λ l. l ++ end ∷ []) i.1 ∙ append_assoc c.args.paths.now.items i.0 (end ∷ [])),
        omega (arith, more, length-append i.0 (end ∷ [])),
        c.in_ok-push-2.ensures.len ∙ ap (λ n. n + 1) i.3,
        subst (AllFreshPaths c.args.spec.now c.args.ring_len (i.0 ++ end ∷ [])) (sym c.in_ok-push-2.ensures.items) (fresh_paths-snoc c.args.spec.now c.args.ring_len i.0 c.loop.sides.items end c.in_ok-end.side i.4 c.in_ok-end.ensures.fresh),
      ),
      (λ streams h. subst (λ l. HaveChannels l streams c.open_path.new.channels) (sym c.in_ok-push.ensures.items) (channels-path c.loop.paths.items streams end c.loop.channels c.open_path.new.channels (c.loop.invariant.1 streams h) channel)),
      channel.wanted ∙ c.loop.invariant.2,
    )

pub returns-clause-fresh : goal.returns-clause-fresh
returns-clause-fresh c = grind (arith, elements)

pub returns-clause-channels : goal.returns-clause-channels
returns-clause-channels c = c.loop.invariant.1

pub loop-init : goal.loop-init
loop-init c = (grind (arith, common_steps), (λ streams h. h), refl)
