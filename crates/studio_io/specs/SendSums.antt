-- The sums of what a sink answered, and the numbers of a report.
use Rattle.std.specs.Prelude.{◌≡◌, ℕ, ◌<◌, ◌^◌, not, List, ◌++◌, count_by, length, Option, IfSome, IsSomeAnd}
use Rattle.studio_io.specs.declared.report.WorkReport.{WorkReport}
use Rattle.studio_io.specs.declared.sink.SendAnswer.{SendAnswer}
use Rattle.studio_io.specs.declared.sink.SendCounts.{SendCounts}

-- the numbers of datagrams: all, and for each address those that it took and those that failed there
pub record SendTally : Type 0 where
  pub blocks : ℕ
  pub sent_a : ℕ
  pub sent_b : ℕ
  pub fault_a : ℕ
  pub fault_b : ℕ

-- the numbers of the datagrams with these answers of a sink
abbrev pub answer_tally : List SendAnswer → SendTally
answer_tally answers = record {
  blocks = length answers;
  sent_a = count_by (λ (answer : SendAnswer). answer.a) answers;
  sent_b = count_by (λ (answer : SendAnswer). answer.b) answers;
  fault_a = count_by (λ (answer : SendAnswer). not answer.a) answers;
  fault_b = count_by (λ (answer : SendAnswer). not answer.b) answers;
}

-- the numbers that were counted, and those of a report
abbrev pub count_tally : SendCounts → SendTally
count_tally counts = record { blocks = counts.blocks; sent_a = counts.sent_a; sent_b = counts.sent_b; fault_a = counts.fault_a; fault_b = counts.fault_b }

abbrev pub report_tally : WorkReport → SendTally
report_tally report = record { blocks = report.blocks; sent_a = report.sent_a; sent_b = report.sent_b; fault_a = report.fault_a; fault_b = report.fault_b }

-- if the answers of a sink are known afterwards, they were known before, and these are the numbers of those that it
-- gave in between, unless it gave 2^64 or more
abbrev pub SumsAnswers : Option (List SendAnswer) → SendTally → Option (List SendAnswer) → Type 0
SumsAnswers before tally after = IfSome after (λ all. IsSomeAnd before (λ earlier. (answers : List SendAnswer) × (all ≡ earlier ++ answers) × (length answers < 2 ^ 64 → tally ≡ answer_tally answers)))

-- the numbers of a report are the sums of the answers that a sink gave in between
abbrev pub ReportsAnswers : Option (List SendAnswer) → WorkReport → Option (List SendAnswer) → Type 0
ReportsAnswers before report after = SumsAnswers before (report_tally report) after

-- the counts are the sums of the answers that a sink gave in between
abbrev pub CountsAnswers : Option (List SendAnswer) → SendCounts → Option (List SendAnswer) → Type 0
CountsAnswers before counts after = SumsAnswers before (count_tally counts) after

-- whatever answers of a sink the counts were the sums of, they still are, with the answers that it gave since
abbrev pub KeepsSums : SendCounts → Option (List SendAnswer) → SendCounts → Option (List SendAnswer) → Type 0
KeepsSums old earlier new later = (before : Option (List SendAnswer)) → CountsAnswers before old earlier → CountsAnswers before new later
