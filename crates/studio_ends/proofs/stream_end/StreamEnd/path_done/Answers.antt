use Rattle.std.proofs.lemmas.Grind.{elements}
use Rattle.std.proofs.Common.{rules, refl, subst, sym, IsSome, IfSome, ◌≡◌, arith}
use Rattle.rtrb.specs.Ring.{all_sent}
use Rattle.studio_ends.proofs.TokenLemmas.{hands_in, stands-handed}
use Rattle.studio_ends.proofs.stream_end.StreamEnd.path_done.Goals as goal

pub returns-clause-sides : goal.returns-clause-sides
returns-clause-sides c =
    let e = c.hand_in.ensures in
    hands_in c.args.self.now.sides.items c.args.path (all_sent c.args.done.token) c.index_mut.result.now c.hand_in.new.self (search rules) c.index_mut.ensures.value
    (record { ring = e.0; token = subst IsSome (sym e.1) refl; tells = subst (λ o. IfSome o (λ done. all_sent done ≡ all_sent c.args.done.token)) (sym e.1) refl })

pub returns-clause-stands : goal.returns-clause-stands
returns-clause-stands c = stands-handed c.args.self.now _ c.args.path (all_sent c.args.done.token) (returns-clause-sides c) refl refl

pub hand_in-requires : goal.hand_in-requires
hand_in-requires c = grind (arith, elements)
