use Rattle.std.proofs.Common.{inr}
use Rattle.studio_run.proofs.PlayLemmas.{too_many}
use Rattle.studio_run.proofs.player.read_all.Goals as goal

pub returns-in-Err-TooMany-clause-fault : goal.returns-in-Err-TooMany-clause-fault
returns-in-Err-TooMany-clause-fault g c =
    let long = c.in-Err-TooMany.ensures.long c.in-Err-TooMany.field-0-is in
    (long.0, (long.2, inr long.1), too_many long.0 long.1)
