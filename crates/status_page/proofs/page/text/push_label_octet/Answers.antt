use Rattle.std.proofs.Common.{rules}
use Rattle.status_page.proofs.page.text.push_label_octet.Goals as goal

pub returns-in-34 : goal.returns-in-34
returns-in-34 c = search rules
