use Rattle.std.proofs.Common.{sym, subst}
use Rattle.studio_mix.specs.Blocks.{AreBlocks}
use Rattle.studio_rings.proofs.StreamTokenLemmas.{all-gave, all-tell, drained-exactly, feeds-settled}
use Rattle.studio_rings.proofs.tokens.is_settled_with.Goals as goal

pub returns-clause-exactly : goal.returns-clause-exactly
returns-clause-exactly c =
    let looked = drained-exactly _ _ _ _ c.requires c.hand_in_all.ensures.sides c.settled.ensures.rings in
    let value = c.settled.ensures.value in
    (λ e. looked.0 (value.0 e), λ all. value.1 (looked.1 all))

pub returns-clause-tokens : goal.returns-clause-tokens
returns-clause-tokens c = λ e. all-gave _ _ _ _ c.requires c.hand_in_all.ensures.sides c.settled.ensures.rings (c.settled.ensures.value.0 e)

pub returns-clause-blocks : goal.returns-clause-blocks
returns-clause-blocks c = λ e studio feeds datagrams told given.
    let sides = c.hand_in_all.ensures.sides in
    let tell = all-tell _ feeds _ _ _ c.requires sides c.settled.ensures.rings (c.settled.ensures.value.0 e) told.1 in
    c.settled.ensures.all e studio feeds datagrams (told.0, tell)
    (subst (λ fs. AreBlocks studio fs datagrams) (sym (feeds-settled studio.streams _ _ _ sides)) given)
