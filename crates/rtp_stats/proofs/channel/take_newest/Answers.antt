use Rattle.std.proofs.lemmas.Grind.{common_steps}
use Rattle.std.proofs.Common.{◌∷◌, [], ◌++◌, List, None, sym, ap, ◌∙◌, append_assoc, length-append, rules, arith}
use Rattle.rtrb.specs.Ring.{known_items, received}
use Rattle.rtp_stats.proofs.Takes.{last_or-push, seen-push}
use Rattle.rtp_stats.proofs.channel.take_newest.Goals as goal

pub loop-preserved : goal.loop-preserved
loop-preserved g c =
    let taken = c.loop.invariant.0.0 in
    let x = c.in-Ok.value in (
      (
        taken ++ x ∷ [],
        (let more = length-append taken (x ∷ []) in let now = c.loop.invariant.0.1 in omega (arith, more, now)),
        c.in-Ok.ensures.ok.0 ∙ (ap (λ (l : List g.row.T.Denot). l ++ x ∷ []) c.loop.invariant.0.2 ∙ append_assoc (received c.args.ring.now) taken (x ∷ [])),
        seen-push (known_items c.args.ring.now) taken (known_items c.loop.ring) (known_items c.pop.new.self) x c.loop.invariant.0.3 c.in-Ok.ensures.ok.1,
        sym (last_or-push None taken x),
      ),
      search rules,
    )

pub returns-in-Err-clause-newest : goal.returns-in-Err-clause-newest
returns-in-Err-clause-newest c = grind (arith, common_steps)
