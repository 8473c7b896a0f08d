use Rattle.std.proofs.Common.{[], ◌∷◌, take, refl, sym, subst}
use Rattle.studio_mix.specs.Mixer.{HasFeeds}
use Rattle.example_callers.specs.Mix.{feed_with, feeds_with}
use Rattle.example_callers.proofs.MixLemmas.{if_some_then}
use Rattle.example_callers.proofs.mix.mix_next.Goals as goal

pub returns-clause-taken : goal.returns-clause-taken
returns-clause-taken c = λ studio a b number fed.
    let after = c.feed_wanted.ensures.stands studio (a ∷ b ∷ []) number a fed refl in (
      c.feed_wanted.ensures.taken studio (a ∷ b ∷ []) number a fed refl,
      c.feed_wanted-2.ensures.taken studio (feed_with a (take c.feed_wanted.result c.args.first.now) ∷ b ∷ []) number b after refl,
    )

pub returns-clause-ready : goal.returns-clause-ready
returns-clause-ready c = λ studio a b number fed.
    let after = c.feed_wanted.ensures.stands studio (a ∷ b ∷ []) number a fed refl in
    c.next_block.ensures.ready studio _ number (c.feed_wanted-2.ensures.stands studio (feed_with a (take c.feed_wanted.result c.args.first.now) ∷ b ∷ []) number b after refl)

pub returns-clause-none : goal.returns-clause-none
returns-clause-none c = λ none.
    let same = c.next_block.ensures.none none in (
      same.1,
      λ studio a b number fed.
          let after = c.feed_wanted.ensures.stands studio (a ∷ b ∷ []) number a fed refl in
          subst (λ m. HasFeeds studio m (feeds_with a (take c.feed_wanted.result c.args.first.now) b (take c.feed_wanted-2.result c.args.second.now)) number) (sym same.0)
          (c.feed_wanted-2.ensures.stands studio (feed_with a (take c.feed_wanted.result c.args.first.now) ∷ b ∷ []) number b after refl),
    )

pub returns-clause-some : goal.returns-clause-some
returns-clause-some c =
    if_some_then c.next_block.result
    (λ len writes studio a b number fed.
    let after = c.feed_wanted.ensures.stands studio (a ∷ b ∷ []) number a fed refl in
    writes studio _ number (c.feed_wanted-2.ensures.stands studio (feed_with a (take c.feed_wanted.result c.args.first.now) ∷ b ∷ []) number b after refl))
    c.next_block.ensures.some
