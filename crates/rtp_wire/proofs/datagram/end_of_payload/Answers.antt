use Rattle.std.proofs.Common.{rules}
use Rattle.rtp_wire.proofs.datagram.end_of_payload.Goals as goal

pub returns-clause-end : goal.returns-clause-end
returns-clause-end c = search rules

pub returns-clause-good : goal.returns-clause-good
returns-clause-good c = search rules
