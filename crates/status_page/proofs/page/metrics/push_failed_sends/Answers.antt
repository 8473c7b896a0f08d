use Rattle.std.proofs.Common.{◌≡◌, ◌++◌, OnOk, ap, subst, ◌∙◌, append_assoc}
use Rattle.status_page.specs.Metrics.{failed_header, failed_samples, failed_text}
use Rattle.status_page.proofs.page.metrics.push_failed_sends.Goals as goal

pub returns : goal.returns
unfolding failed_text
returns c =
    let samples = failed_samples c.args.failed_a c.args.failed_b in
    let was = c.args.text.now.items in
    let same : c.push_header.new.text.items ++ samples ≡ was ++ failed_text c.args.failed_a c.args.failed_b = ap (λ l. l ++ samples) c.in_ok-push_header.ensures ∙ append_assoc was failed_header samples in
    subst (λ l. OnOk c.push_failed_samples.result (c.push_failed_samples.new.text.items ≡ l)) same c.push_failed_samples.ensures
