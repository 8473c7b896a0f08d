use Rattle.std.proofs.Common.{◌≡◌, Some, to_z, of_z, w64, arith, ap}
use Rattle.std.proofs.lemmas.Int.{ints}
use Rattle.rtp_stream.specs.Anchor.{deadline_of}
use Rattle.rtp_stats.proofs.DeadlineLemmas.{held_is, lent_is}
use Rattle.rtp_stats.proofs.deadlines.Deadlines.of_copy.Goals as goal

pub returns-clause-in_step : goal.returns-clause-in_step
returns-clause-in_step c stream anchor before number known some of grid nearby short =
    let same = held_is c.self.inside.known c.self.inside.ts c.self.inside.at c.args.self.now known c.if-not-self.false c.self.view_is some in
    let is = c.deadline_from.ensures stream anchor before number (lent_is stream anchor before c.self.inside.ts c.self.inside.at known same of) grid nearby short in
    let once : to_z w64 (of_z w64 c.deadline_from.result) ≡ deadline_of stream anchor number = omega (arith, ints, is, short.low, short.high) in
    ap Some once
