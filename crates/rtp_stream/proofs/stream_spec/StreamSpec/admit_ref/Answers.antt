use Rattle.std.proofs.lemmas.Grind.{common_steps}
use Rattle.std.proofs.Common.{arith}
use Rattle.rtp_stream.proofs.stream_spec.StreamSpec.admit_ref.Goals as goal

pub returns-clause-fine : goal.returns-clause-fine
returns-clause-fine c = grind (arith, common_steps)
