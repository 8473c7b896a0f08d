use Rattle.std.proofs.Common.{sym}
use Rattle.status_page.proofs.IntegerLemmas.{not_utf8-integer}
use Rattle.status_page.proofs.control.integer.integer_in_octets.Goals as goal

pub returns-in-Err : goal.returns-in-Err
returns-in-Err c = sym (not_utf8-integer c.args.octets.now c.in-Err.ensures.cases.0)
