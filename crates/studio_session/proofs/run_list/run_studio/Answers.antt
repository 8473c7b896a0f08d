use Rattle.std.proofs.Common.{◌∙◌, map, sym}
use Rattle.studio_session.specs.Event.{said_by}
use Rattle.studio_session.proofs.FaultLemmas.{run_fault}
use Rattle.studio_session.proofs.run_list.run_studio.Goals as goal

pub returns-in-Some-clause-fault : goal.returns-in-Some-clause-fault
returns-in-Some-clause-fault c = run_fault c.args.spec.now (map said_by c.args.events.now) c.in-Some.fault (sym c.first_fault.ensures.fault ∙ c.in-Some.is)
