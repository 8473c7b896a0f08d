use Rattle.std.proofs.Common.{◌≡◌, ◌+◌, ◌*◌, ◌≤◌, ◌++◌, length, drop}
use Rattle.rtp_stream.specs.Counts.{tally_of}
use Rattle.studio_run.specs.Report.{fields_text}
use Rattle.studio_run.proofs.lines.counts.push_fields.Given as goal

abbrev pub invariant-loop-field : goal.invariant-loop-field
invariant-loop-field l = record {
  text : l.text ++ fields_text l.between (drop l.field-index l.fields) (tally_of l.counts) ≡ l.initial.text ++ fields_text l.between l.fields (tally_of l.counts);
  few : length l.text ≤ length l.initial.text + 54 * l.field-index;
}
