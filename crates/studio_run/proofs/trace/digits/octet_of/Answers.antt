use Rattle.studio_run.proofs.DigitLemmas.{pair_is, no_fault}
use Rattle.studio_run.proofs.trace.digits.octet_of.Goals as goal

pub returns-in-Ok : goal.returns-in-Ok
returns-in-Ok c = λ high low place. pair_is c.args.high c.args.low _ _ c.from_hex.ensures c.in-Ok.is high low place

pub returns-in-Err : goal.returns-in-Err
returns-in-Err c = λ high low place. absurd (no_fault c.args.high c.args.low _ _ c.from_hex.ensures c.in-Err.is high low)
