-- Changes of gains that a run takes, one after another.
use Rattle.std.proofs.Common.{◌≡◌, ℕ, ℤ, List, [], ◌++◌, Option, sym, subst, ◌∙◌, append-nil}
use Rattle.studio_config.specs.Studio.{Studio}
use Rattle.studio_mix.specs.Changed.{with_changes}
use Rattle.studio_mix.proofs.TakenLemmas.{more_taken, no_more, with_changes-append}
use Rattle.studio_session.specs.Event.{TraceEvent}
use Rattle.studio_engine.specs.Engine.{EngineState}
use Rattle.studio_engine.specs.Session.{HasSession}
use Rattle.studio_io.specs.Answers.{Answer}
use Rattle.studio_io.specs.declared.report.WorkReport.{WorkReport}
use Rattle.engine_run.specs.GainRequests.{HasTakenChanges}
use Rattle.engine_run.specs.Observers.{Heard, Hears, heard_by}
use Rattle.engine_run.specs.Rounds.{events_by}
use Rattle.engine_run.specs.Runs.{IsSettledRun, IsSettledRunWith, IsUnderWay, IsUnderWayWith}
use Rattle.engine_run.specs.declared.state.RunState.{RunState}
use Rattle.engine_run.proofs.TellLemmas.{adds_more}

-- a settled run that took no change is one of its studio, and the other way round
pub settled-unchanged : (studio : Studio) (all : List (List Answer)) (clock : List ℤ) (report : WorkReport) (before after : Option (List (List ℕ))) (earlier later : Option (List Heard)) (taken : List (ℤ × List ℤ))
    → IsSettledRunWith studio all clock report before after earlier later taken taken → IsSettledRun studio all clock report before after earlier later
settled-unchanged studio all clock report before after earlier later taken h =
    subst (λ changes. IsSettledRun (with_changes studio changes) all clock report before after earlier later) (no_more taken h.changes h.taken) h.run

pub settled-same : (studio : Studio) (all : List (List Answer)) (clock : List ℤ) (report : WorkReport) (before after : Option (List (List ℕ))) (earlier later : Option (List Heard)) (taken : List (ℤ × List ℤ))
    → IsSettledRun studio all clock report before after earlier later → IsSettledRunWith studio all clock report before after earlier later taken taken
settled-same studio all clock report before after earlier later taken h = record { changes = []; taken = sym (append-nil taken); run = h }

-- no change was taken
pub taken-none : (studio : Studio) (engine : EngineState) (events : List TraceEvent) (datagrams : List (List ℕ)) (taken : List (ℤ × List ℤ)) → HasSession studio engine events datagrams
    → HasTakenChanges studio engine events datagrams taken taken
taken-none studio engine events datagrams taken s = record { changes = []; taken = sym (append-nil taken); stands = s }

-- changes were taken, and then more
pub taken-more : (studio : Studio) (mid new : EngineState) (events : List TraceEvent) (datagrams : List (List ℕ)) (a b c : List (ℤ × List ℤ)) → (h : HasTakenChanges studio mid events datagrams a b)
    → HasTakenChanges (with_changes studio h.changes) new events datagrams b c → HasTakenChanges studio new events datagrams a c
taken-more studio mid new events datagrams a b c h k = record {
  changes = h.changes ++ k.changes;
  taken = more_taken a b c h.changes k.changes h.taken k.taken;
  stands = subst (λ (s : Studio). HasSession s new events datagrams) (with_changes-append studio h.changes k.changes) k.stands;
}

module _ {F C K T : Type 0} (feed_told : F → List Answer) (clock_told : C → List ℤ) (sink_handed : K → Option (List (List ℕ))) (observer_heard : T → Option (List Heard))
    (studio : Studio) (all : List (List (List Answer))) (clock : List ℤ) (before : Option (List (List ℕ))) (earlier : Option (List Heard)) where
  -- a run that took no change
  pub run-as-it-was : (state : RunState F C K T) (taken : List (ℤ × List ℤ)) → IsUnderWay feed_told clock_told sink_handed observer_heard studio all clock before earlier state
      → IsUnderWayWith feed_told clock_told sink_handed observer_heard studio all clock before earlier state taken taken
  run-as-it-was state taken h = record { changes = []; taken = sym (append-nil taken); run = h }

  -- a run whose engine took changes, and whose observer got no other notification
  pub run-asked : (old : RunState F C K T) (engine : EngineState) (observer : T) (a b : List (ℤ × List ℤ)) → (h : IsUnderWay feed_told clock_told sink_handed observer_heard studio all clock before earlier old) → engine.time ≡ old.engine.time
      → Hears (observer_heard old.observer) [] (observer_heard observer) → HasTakenChanges studio engine (events_by studio.open_at h.rounds) h.datagrams a b
      → IsUnderWayWith feed_told clock_told sink_handed observer_heard studio all clock before earlier (record old { engine = engine; observer = observer }) a b
  run-asked old engine observer a b h same none t =
      let told = heard_by studio.streams studio.open_at [] (events_by studio.open_at h.rounds) in
      record {
        changes = t.changes;
        taken = t.taken;
        run = record {
          rounds = h.rounds;
          datagrams = h.datagrams;
          stands = t.stands;
          time = same ∙ h.time;
          bounded = h.bounded;
          clocked = h.clocked;
          given = h.given;
          count = h.count;
          handed = h.handed;
          heard = subst (λ l. Hears earlier l (observer_heard observer)) (append-nil told) (adds_more earlier (observer_heard old.observer) (observer_heard observer) told [] h.heard none);
        };
      }

  -- a run that took changes, and then more
  pub run-took-more : (mid new : RunState F C K T) (a b c : List (ℤ × List ℤ)) → (h : IsUnderWayWith feed_told clock_told sink_handed observer_heard studio all clock before earlier mid a b)
      → IsUnderWayWith feed_told clock_told sink_handed observer_heard (with_changes studio h.changes) all clock before earlier new b c
      → IsUnderWayWith feed_told clock_told sink_handed observer_heard studio all clock before earlier new a c
  run-took-more mid new a b c h k = record {
    changes = h.changes ++ k.changes;
    taken = more_taken a b c h.changes k.changes h.taken k.taken;
    run = subst (λ (s : Studio). IsUnderWay feed_told clock_told sink_handed observer_heard s all clock before earlier new) (with_changes-append studio h.changes k.changes) k.run;
  }
