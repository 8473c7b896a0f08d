use Rattle.std.proofs.Common.{rules}
use Rattle.rtp_wire.proofs.samples.write_sample.Goals as goal

pub returns-in-L24 : goal.returns-in-L24
returns-in-L24 c = search rules
