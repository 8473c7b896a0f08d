use Rattle.std.proofs.Common.{◌≡◌, ◌+◌, ◌*◌, ◌≤◌, ◌++◌, length, drop}
use Rattle.studio_run.specs.Report.{taken_text}
use Rattle.studio_run.proofs.lines.counts.push_taken.Given as goal

abbrev pub invariant-loop-path : goal.invariant-loop-path
invariant-loop-path l = record {
  text : l.text ++ taken_text l.between l.path (drop l.path l.taken_by) ≡ l.initial.text ++ taken_text l.between 0 l.taken_by;
  few : length l.text ≤ length l.initial.text + 48 * l.path;
}
