use Rattle.std.proofs.Common.{◌≡◌, inl, inr, Some, Err, subst, rules}
use Rattle.live_io.specs.Ports.{AreSaid, first_missing, row_needs}
use Rattle.live_io.proofs.PortLemmas.{find_broken, find_more}
use Rattle.live_io.proofs.sockets.ports.path_ports.Goals as goal

pub loop-number-preserved : goal.loop-number-preserved
loop-number-preserved c =
    let rows = c.args.ports.now.paths in
    let n = c.loop-number.number in
    let pushed = c.in_ok-push_row.ensures.ok in
    find_more rows c.args.streams.now n c.index-streams-number.result c.loop-number.found.items c.push_row.new.found.items pushed.0 c.loop-number-test.true c.index-streams-number.is
    c.loop-number.invariant pushed.1 (subst (λ count. AreSaid (row_needs rows n count) pushed.0) c.paths.ensures.value pushed.2)

pub returns-in_err-push_row-clause-fault : goal.returns-in_err-push_row-clause-fault
returns-in_err-push_row-clause-fault c =
    let rows = c.args.ports.now.paths in
    let n = c.loop-number.number in
    let e = c.in_err-push_row.field-0.0 in
    let is : c.from_residual.result ≡ Err e = search rules in
    rw is (elim c.in_err-push_row.ensures.fault [
      | inl memory ↦ inl memory
      | inr broken ↦ inr (find_broken rows c.args.streams.now n c.index-streams-number.result c.loop-number.found.items e c.loop-number-test.true c.index-streams-number.is c.loop-number.invariant
          (subst (λ count. first_missing (row_needs rows n count) ≡ Some e) c.paths.ensures.value broken))
    ])
