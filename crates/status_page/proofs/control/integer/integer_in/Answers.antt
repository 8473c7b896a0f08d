use Rattle.std.proofs.Common.{◌∙◌}
use Rattle.status_page.proofs.IntegerLemmas.{parsed-integer}
use Rattle.status_page.proofs.control.integer.integer_in.Goals as goal

pub returns : goal.returns
returns c = c.ok.ensures.value ∙ parsed-integer c.args.text.now c.parse.result c.parse.ensures.value.0
