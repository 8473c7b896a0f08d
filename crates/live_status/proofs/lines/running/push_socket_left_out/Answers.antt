use Rattle.std.proofs.lemmas.Grind.{common_steps}
use Rattle.std.proofs.Common.{arith}
use Rattle.live_status.proofs.lines.running.push_socket_left_out.Goals as goal

pub returns : goal.returns
returns c = grind (arith, common_steps)
