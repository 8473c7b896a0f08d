use Rattle.std.proofs.Common.{rules, ◌≡◌, to_z, of_z, w64}
use Rattle.studio_rings.proofs.StreamTurnLemmas.{first-none, first-read}
use Rattle.studio_rings.proofs.worker.clocked_turn.read_first.Goals as goal

pub returns-then-matches-clause-reads : goal.returns-then-matches-clause-reads
returns-then-matches-clause-reads c = first-none _ _ c.requires.open_yet (c.requires.low)

pub returns-clause-reads : goal.returns-clause-reads
returns-clause-reads c =
    let z : to_z w64 (of_z w64 c.args.now) ≡ c.args.now = search rules in
    first-read _ _ _ c.read_at.result (rw z at c.read_at.ensures.reads)
