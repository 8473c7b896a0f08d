use Rattle.std.proofs.lemmas.Grind.{elements}
use Rattle.std.proofs.Common.{rules, refl, subst, sym, IsSome, IfSome, ◌≡◌, arith}
use Rattle.rtrb.specs.Ring.{all_sent}
use Rattle.studio_mix.specs.Mixer.{HasFeeds}
use Rattle.studio_ends.proofs.DatagramLemmas.{given-same}
use Rattle.studio_ends.proofs.TokenLemmas.{feeds-handed, hands_in}
use Rattle.studio_ends.proofs.mix_end.MixEnd.stream_done.Goals as goal

pub returns-clause-sides : goal.returns-clause-sides
returns-clause-sides c =
    let e = c.hand_in.ensures in
    hands_in c.args.self.now.sides.items c.args.stream (all_sent c.args.done.token) c.index_mut.result.now c.hand_in.new.self (search rules) c.index_mut.ensures.value
    (record { ring = e.0; token = subst IsSome (sym e.1) refl; tells = subst (λ o. IfSome o (λ done. all_sent done ≡ all_sent c.args.done.token)) (sym e.1) refl })

pub returns-clause-stands : goal.returns-clause-stands
returns-clause-stands c = λ studio number h.
    subst (λ feeds. HasFeeds studio c.args.self.now.mixer feeds number)
    (sym (feeds-handed studio.streams c.args.stream c.args.self.now.sides.items _ (all_sent c.args.done.token) (returns-clause-sides c))) h

pub returns-clause-given : goal.returns-clause-given
returns-clause-given c = λ studio datagrams h.
    given-same studio c.args.self.now _ datagrams refl (feeds-handed studio.streams c.args.stream c.args.self.now.sides.items _ (all_sent c.args.done.token) (returns-clause-sides c)) h

pub hand_in-requires : goal.hand_in-requires
hand_in-requires c = grind (arith, elements)
