use Rattle.file_commands.specs.SimilarKey.{keys_at}
use Rattle.file_commands.proofs.explanation.allowed.allowed_at.Goals as goal

pub returns-in-Stream : goal.returns-in-Stream
unfolding keys_at
returns-in-Stream c = rw c.in-Stream.is c.allowed_in_stream.ensures

pub returns-in-Change : goal.returns-in-Change
unfolding keys_at
returns-in-Change c = rw c.in-Change.is c.allowed_in_change.ensures
