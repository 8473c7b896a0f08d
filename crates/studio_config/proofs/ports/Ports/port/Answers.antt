use Rattle.std.proofs.Common.{◌≡◌, ◌<◌, length, None, Some, slice_get, refl, rules, arith}
use Rattle.std.proofs.lemmas.Bool.Decides.{nat_tests}
use Rattle.std.proofs.lemmas.Option.{slice_get_read, slice_get_past, unwrap_or-slice_get}
use Rattle.studio_config.proofs.ports.Ports.port.Goals as goal

-- the port of a stream that has a row
pub returns-in-Some : goal.returns-in-Some
returns-in-Some c =
    let within : c.args.stream < length c.args.self.now.paths = grind (arith, nat_tests, c.in-Some.ensures.lookup.0) in
    let found : slice_get c.args.self.now.paths c.args.stream ≡ Some c.in-Some.row.now = slice_get_read _ _ _ _ refl within c.in-Some.ensures.lookup.1 in
    rw (found, unwrap_or-slice_get c.in-Some.row.now c.args.path None) search rules

-- no port of a stream that has no row
pub returns-in-None : goal.returns-in-None
returns-in-None c =
    let found : slice_get c.args.self.now.paths c.args.stream ≡ None = slice_get_past _ _ c.in-None.ensures.lookup.3 in
    rw found
