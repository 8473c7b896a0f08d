use Rattle.std.proofs.Common.{inr}
use Rattle.live_io.proofs.PortLemmas.{need_missing, row_broken}
use Rattle.live_io.proofs.sockets.ports.push_row.Goals as goal

pub returns-in_default-port-clause-fault : goal.returns-in_default-port-clause-fault
returns-in_default-port-clause-fault c =
    let inv = c.loop-place.invariant in
    let rows = c.args.ports.now.paths in
    let missing = need_missing rows c.args.number c.loop-place.place c.in-Some.path c.port_key.result c.port.result c.missing.result c.in-Some.ensures.value c.port.ensures
    c.in_default-port.is c.port_key.ensures c.missing.ensures in
    inr (row_broken rows c.args.number c.loop-place.place c.args.count inv.0 c.missing.result inv.2 c.loop-place-test.true missing)
