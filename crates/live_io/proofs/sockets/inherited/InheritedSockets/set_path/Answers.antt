use Rattle.std.proofs.Common.{rules}
use Rattle.live_io.proofs.DescriptorLemmas.{set_own}
use Rattle.live_io.proofs.sockets.inherited.InheritedSockets.set_path.Goals as goal

pub returns-clause-own : goal.returns-clause-own
returns-clause-own c = rw c.from.ensures
    (set_own c.args.self.now.paths c.args.stream c.args.path c.set_in_row.new.row c.args.descriptor (search rules) c.set_in_row.ensures.own)
