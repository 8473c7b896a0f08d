-- The report of a live run, and the faults of a run that has none.
use Rattle.std.specs.Prelude.{◌≡◌, true, false, Bool, ℕ, ℤ, List, [], None, length}
use Rattle.studio_config.specs.Studio.{Studio}
use Rattle.studio_io.specs.Answers.{Answer}
use Rattle.studio_io.specs.Balances.{Balances}
use Rattle.studio_rings.specs.Runs.{IsSettledRun, IsSettledRunWith}
use Rattle.engine_run.specs.Grouping.{path_total}
use Rattle.engine_run.specs.Runs.{IsSettledRun as IsSettledAlone, IsSettledRunWith as IsSettledAloneWith}
use Rattle.studio_io.specs.declared.report.WorkReport.{WorkReport}
use Rattle.live_run.specs.declared.fault.LiveFault.{LiveFault}
use Rattle.live_run.specs.declared.fault.LiveFault.TheVariants.{Memory, Socket, Latencies, Page, Thread, OutputExists, Output, Unsettled, Write}

-- there is a feed for each path, which returns these answers
abbrev pub HasFeeds : Studio → List (List Answer) → Type 0
HasFeeds studio answers = length answers ≡ path_total studio.streams

-- the report belongs to the answers of some feeds and to the readings of some clocks: to each stream's whole history in a run by workers, to one list of events in a run in one thread. The contents of the sink and of the observer are not known
abbrev pub IsSettledIn : Bool → Studio → WorkReport → Type 0
IsSettledIn false studio report = (places : ℕ) × (answers : List (List Answer)) × (clocks : List (List ℤ)) × IsSettledRun studio places answers clocks report None None
IsSettledIn true studio report = (answers : List (List Answer)) × (clock : List ℤ) × HasFeeds studio answers × IsSettledAlone studio answers clock report None None None None

-- the same of a run that took exactly these changes of gains, whose source had taken the first ones before it
abbrev pub IsSettledWith : Bool → Studio → WorkReport → List (ℤ × List ℤ) → List (ℤ × List ℤ) → Type 0
IsSettledWith false studio report first last =
    (places : ℕ) × (answers : List (List Answer)) × (clocks : List (List ℤ)) × IsSettledRunWith studio places answers clocks report None None first last
IsSettledWith true studio report first last =
    (answers : List (List Answer)) × (clock : List ℤ) × HasFeeds studio answers × IsSettledAloneWith studio answers clock report None None None None first last

-- and of a run whose gains can be changed or not: if not, it is one of the studio without a change
abbrev pub IsSettledIf : Bool → Bool → Studio → WorkReport → Type 0
IsSettledIf one_thread false studio report = IsSettledIn one_thread studio report
IsSettledIf one_thread true studio report = (taken : List (ℤ × List ℤ)) × IsSettledWith one_thread studio report [] taken

-- the report is of a run of this studio, in one thread or by workers, whose gains can be changed or not: its datagrams balance, and if it is settled it belongs to all that happened
pub record IsRunOf (one_thread controlled : Bool) (studio : Studio) (report : WorkReport) : Type 0 where
  pub balance : Balances report.blocks report.sent_a report.fault_a report.sent_b report.fault_b
  pub settled : report.settled ≡ true → IsSettledIf one_thread controlled studio report

-- the same of a run whose source of gains had taken the first changes before it, and all of them after it
pub record IsRunWith (one_thread : Bool) (studio : Studio) (report : WorkReport) (first last : List (ℤ × List ℤ)) : Type 0 where
  pub balance : Balances report.blocks report.sent_a report.fault_a report.sent_b report.fault_b
  pub settled : report.settled ≡ true → IsSettledWith one_thread studio report first last

-- a fault of a run that has no report
abbrev pub IsEarly : LiveFault → Type 0
IsEarly Memory = Unit {0}
IsEarly Socket = Unit {0}
IsEarly Latencies = Unit {0}
IsEarly Page = Unit {0}
IsEarly Thread = Unit {0}
IsEarly (OutputExists kind) = Unit {0}
IsEarly (Output kind) = Unit {0}
IsEarly Unsettled = ⊥
IsEarly Write = ⊥
