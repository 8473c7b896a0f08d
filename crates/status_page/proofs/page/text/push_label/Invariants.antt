use Rattle.std.proofs.Common.{◌≡◌, ◌++◌, drop}
use Rattle.status_page.specs.Metrics.{label_text}
use Rattle.status_page.proofs.page.text.push_label.Given as goal

abbrev pub invariant-loop-octet : goal.invariant-loop-octet
invariant-loop-octet l = l.text.items ++ label_text (drop l.octet-index l.octets) ≡ l.initial.text.items ++ label_text l.octets
