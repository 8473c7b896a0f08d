use Rattle.studio_run.proofs.StudioReportLemmas.{report_alone}
use Rattle.studio_run.proofs.laws.a_report_is_the_only_one.Goals as goal

pub returns : goal.returns
returns c = report_alone
