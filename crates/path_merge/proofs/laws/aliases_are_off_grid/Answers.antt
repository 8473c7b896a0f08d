use Rattle.path_merge.proofs.AliasLemmas.{off_grid, one_number}
use Rattle.path_merge.proofs.laws.aliases_are_off_grid.Goals as goal

pub returns-clause-known : goal.returns-clause-known
returns-clause-known c = λ stream anchor m n ok same less more stamps. one_number stream anchor m n ok.packet_time same less more stamps

pub returns-clause-off_grid : goal.returns-clause-off_grid
returns-clause-off_grid c = λ stream anchor m n ok same less more other. off_grid stream anchor m n ok.packet_time same less more other
