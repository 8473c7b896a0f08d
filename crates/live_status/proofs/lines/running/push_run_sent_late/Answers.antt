use Rattle.std.proofs.Common.{◌++◌, ◌∙◌, codes, ap, append_assoc}
use Rattle.std.specs.Fmt.{decimal}
use Rattle.live_status.specs.Lines.{run_sent_late}
use Rattle.live_status.proofs.lines.running.push_run_sent_late.Goals as goal

pub returns-clause-text : goal.returns-clause-text
unfolding run_sent_late
returns-clause-text c =
    c.push_number.ensures.text
    ∙ (ap (λ l. l ++ decimal c.args.sent_late) c.push.ensures.text ∙ append_assoc c.args.text.now (codes " sent_late=") (decimal c.args.sent_late))
