-- The metrics of a run: those of its snapshot, and behind them those of the facts that stay the same to its end.
use Rattle.std.specs.Prelude.{ℕ, List, ◌++◌, Option, codes}
use Rattle.status_page.specs.declared.fields.MetricKind.TheVariants.{Gauge}
use Rattle.status_page.specs.declared.run_facts.RunFacts.{RunFacts}
use Rattle.status_page.specs.declared.run_facts.ShownRun.{ShownRun}
use Rattle.status_page.specs.Metrics.{header_text, label_text, metric_text, metrics_text, single_family, value_text}

-- the sample of the program's version
unfoldable pub version_sample : List ℕ → List ℕ
version_sample version =
    metric_text (codes "build_") (codes "info") Gauge ++ codes "{version=\"" ++ label_text version ++ codes "\"" ++ value_text 1

-- the metric of the program's version
unfoldable pub version_text : List ℕ → List ℕ
version_text version =
    header_text (codes "build_") (codes "info") Gauge (codes "The version of the program, in a label. The value is 1.")
    ++ version_sample version

-- the metric of the time at which the run opened, with a sample if the time is known
unfoldable pub start_text : Option ℕ → List ℕ
start_text started =
    single_family (codes "start_") (codes "time_seconds") Gauge (codes "The time at which the run opened, in seconds since 1970 (Unix time).") started

-- the metrics of a run's facts
abbrev pub facts_text : RunFacts → List ℕ
facts_text facts = version_text facts.version.now ++ start_text facts.started

-- all metrics of a run
abbrev pub run_metrics : ShownRun → List ℕ
run_metrics run = metrics_text run.snapshot ++ facts_text run.facts
