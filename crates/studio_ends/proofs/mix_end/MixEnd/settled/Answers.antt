use Rattle.std.proofs.lemmas.Grind.{elements}
use Rattle.std.proofs.Common.{◌≡◌, Bool, true, false, not, refl, subst, sym, ◌∙◌, arith}
use Rattle.studio_mix.specs.Mixer.{HasFeeds}
use Rattle.studio_mix.specs.Blocks.{AreBlocks}
use Rattle.studio_ends.proofs.DatagramLemmas.{given-same, told-all}
use Rattle.studio_ends.proofs.TokenLemmas.{feeds-looked}
use Rattle.studio_ends.proofs.mix_end.MixEnd.settled.Goals as goal

off : (any : Bool) → not any ≡ true → any ≡ false
off true e = sym e
off false e = refl

pub returns-clause-stands : goal.returns-clause-stands
returns-clause-stands c = λ studio number h. subst (λ feeds. HasFeeds studio c.args.self.now.mixer feeds number) (sym (feeds-looked _ _ _ c.any_stream_open.ensures.looked)) h

pub returns-clause-given : goal.returns-clause-given
returns-clause-given c = λ studio datagrams h. given-same studio c.args.self.now _ datagrams refl (feeds-looked _ _ _ c.any_stream_open.ensures.looked) h

pub returns-clause-accepted : goal.returns-clause-accepted
returns-clause-accepted c is = λ studio feeds told. told-all studio _ feeds told.0 (c.any_stream_open.ensures.any.0 (off _ is)) told.1

pub returns-clause-all : goal.returns-clause-all
returns-clause-all c is = λ studio feeds datagrams told given.
    subst (λ fs. AreBlocks studio fs datagrams) (sym (feeds-looked _ _ _ c.any_stream_open.ensures.looked) ∙ returns-clause-accepted c is studio feeds told) given

pub returns-clause-value : goal.returns-clause-value
returns-clause-value c = grind (arith, elements)
