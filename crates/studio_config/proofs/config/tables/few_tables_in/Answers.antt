use Rattle.std.proofs.lemmas.Grind.{elements}
use Rattle.std.proofs.Common.{arith}
use Rattle.studio_config.proofs.config.tables.few_tables_in.Goals as goal

pub returns-clause-tables : goal.returns-clause-tables
returns-clause-tables c = grind (arith, elements)
