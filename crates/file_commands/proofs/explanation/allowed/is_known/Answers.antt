use Rattle.std.proofs.Common.{◌∙◌}
use Rattle.file_commands.proofs.AllowedLemmas.{known_by_all}
use Rattle.file_commands.proofs.explanation.allowed.is_known.Goals as goal

pub returns : goal.returns
returns c = c.is_any.ensures ∙ known_by_all c.args.place c.args.name.now
