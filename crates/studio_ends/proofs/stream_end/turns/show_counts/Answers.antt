use Rattle.std.proofs.Common.{inl, refl}
use Rattle.studio_ends.proofs.stream_end.turns.show_counts.Goals as goal

pub returns-in-Ok-clause-shows : goal.returns-in-Ok-clause-shows
returns-in-Ok-clause-shows c = inl (c.args.counts, refl, c.in-Ok.ensures.ok.0)
