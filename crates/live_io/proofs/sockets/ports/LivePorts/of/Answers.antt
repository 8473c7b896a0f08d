use Rattle.std.proofs.Common.{◌≡◌, inl, inr, Err, rules}
use Rattle.live_io.proofs.PortLemmas.{first_address, path_first, second_address}
use Rattle.live_io.proofs.sockets.ports.LivePorts.of.Goals as goal

pub returns-in_err-paths-clause-fault : goal.returns-in_err-paths-clause-fault
returns-in_err-paths-clause-fault c =
    let e = c.in_err-paths.field-0.0 in
    let is : c.from_residual.result ≡ Err e = search rules in
    rw is (elim c.in_err-paths.ensures.fault [
      | inl memory ↦ inl memory
      | inr broken ↦ inr (path_first c.args.studio.now c.ports-ports.result.now c.streams.result.now e c.ports-ports.ensures c.streams.ensures.value broken)
    ])

pub returns-in_err-to_a-clause-fault : goal.returns-in_err-to_a-clause-fault
returns-in_err-to_a-clause-fault c =
    let e = c.in_err-to_a.field-0.0 in
    let is : c.from_residual-in_err-to_a.result ≡ Err e = search rules in
    rw is (inr (first_address c.args.studio.now c.ports-ports.result.now c.streams.result.now c.in_ok-paths.paths.items e c.ports-ports.ensures c.streams.ensures.value
    c.in_ok-paths.ensures.ok c.in_err-to_a.ensures.fault))

pub returns-in_err-to_b-clause-fault : goal.returns-in_err-to_b-clause-fault
returns-in_err-to_b-clause-fault c =
    let e = c.in_err-to_b.field-0.0 in
    let is : c.from_residual-in_err-to_b.result ≡ Err e = search rules in
    rw is (inr (second_address c.args.studio.now c.ports-ports.result.now c.streams.result.now c.in_ok-paths.paths.items e c.ports-ports.ensures c.streams.ensures.value
    c.in_ok-paths.ensures.ok c.in_ok-to_a.ensures.there c.in_err-to_b.ensures.fault))
