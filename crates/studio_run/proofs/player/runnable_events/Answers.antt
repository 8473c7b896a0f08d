use Rattle.std.proofs.Common.{sym, subst}
use Rattle.studio_run.specs.Play.{StopsAt}
use Rattle.studio_run.proofs.PlayLemmas.{stops_at_trace}
use Rattle.studio_run.proofs.player.runnable_events.Goals as goal

pub returns-in-Err : goal.returns-in-Err
returns-in-Err c = record {
  ok = tt;
  runs = tt;
  runnable = tt;
  paths = tt;
  fault = subst (StopsAt c.args.spec.now c.args.trace.now) (sym c.play_fault.ensures) (stops_at_trace c.args.spec.now c.args.trace.now c.in-Err.fault c.in-Err.ensures.fault);
}
