use Rattle.std.proofs.Common.{rules, ◌∙◌}
use Rattle.std.proofs.lemmas.List.{length-map}
use Rattle.live_run.proofs.single_thread.engine_io.EngineDevices.run.Goals as goal

pub returns : goal.returns
returns g c = record {
  run = (
    _,
    record {
      balance = c.in_ok-report.ensures.balance;
      settled = λ settled. (_, _, length-map _ _ ∙ c.in_ok-report.ensures.feeds settled, c.in_ok-report.ensures.settled settled);
    },
  );
  ends = (_, _, c.of_parts-outputs.ensures);
  early = search rules;
}
