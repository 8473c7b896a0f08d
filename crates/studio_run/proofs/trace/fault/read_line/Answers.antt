use Rattle.std.proofs.Common.{◌≡◌, ◌++◌, ◌∷◌, Some, None, Ok, Err, subst, arith, rules}
use Rattle.std.specs.Prelude.{IfSome}
use Rattle.studio_run.specs.Trace.{line_said}
use Rattle.studio_run.specs.LineEvent.{said_in, line_event_of, IsLast}
use Rattle.studio_run.proofs.ReadLineLemmas.{IsLine, IsLine-first, reads-silent, reads-event, fails-said, fails-many, fails-split, whole-cut}
use Rattle.studio_run.proofs.trace.fault.read_line.Goals as goal
use Rattle.studio_run.proofs.trace.fault.read_line.Goals.{In_ok-line}

whole : (c : In_ok-line) → c.args.text.now ≡ c.in_ok-line.line.now ++ 10 ∷ c.in_ok-line.rest.now
whole c = whole-cut c.args.text.now c.in_ok-line.line.now c.in_ok-line.rest.now c.in_ok-line.ensures.line c.in_ok-line.ensures.rest c.in_ok-line.ensures.whole

first : (c : In_ok-line) → IsLine c.in_ok-line.line.now
first c = IsLine-first c.args.text.now c.in_ok-line.line.now c.in_ok-line.ensures.line c.in_ok-line.ensures.short

pub returns-in_err-line-clause-fault : goal.returns-in_err-line-clause-fault
returns-in_err-line-clause-fault c =
    let is : c.from_residual.result ≡ Err c.in_err-line.field-0.0 = search rules in
    rw is (fails-split c.args.text.now c.in_err-line.field-0.0 c.in_err-line.ensures.fault c.requires c.args.events)

pub returns-in-Err-clause-fault : goal.returns-in-Err-clause-fault
returns-in-Err-clause-fault c =
    let here = (goal.at.returns-in-Err-clause-fault c).In_ok-line in
    fails-said _ _ _ (first here) (whole here) c.in-Err.kind c.in-Err.ensures.said c.args.events

pub returns-then-events-lt-MAX_EVENTS-clause-ok : goal.returns-then-events-lt-MAX_EVENTS-clause-ok
returns-then-events-lt-MAX_EVENTS-clause-ok c =
    let here = (goal.at.returns-then-events-lt-MAX_EVENTS-clause-ok c).In_ok-line in
    let some : c.in-Ok-Some.field-0 ≡ Some c.in-Ok-Some.event = search rules in
    record {
      line = c.in_ok-line.line.now;
      whole = whole here;
      short = c.in_ok-line.ensures.short;
      last = subst (λ e. IfSome e (IsLast c.in_ok-line.line.now)) some c.in-Ok-Some.ensures.last;
      reads = reads-event _ (first here) (said_in c.in-Ok-Some.event) (subst (λ e. line_said c.in_ok-line.line.now ≡ line_event_of (Ok e)) some c.in-Ok-Some.ensures.said) c.args.events (omega (arith, c.if-events-lt-MAX_EVENTS.true));
    }

pub returns-else-events-lt-MAX_EVENTS-clause-fault : goal.returns-else-events-lt-MAX_EVENTS-clause-fault
returns-else-events-lt-MAX_EVENTS-clause-fault c =
    let here = (goal.at.returns-else-events-lt-MAX_EVENTS-clause-fault c).In_ok-line in
    let some : c.in-Ok-Some.field-0 ≡ Some c.in-Ok-Some.event = search rules in
    fails-many _ _ _ (first here) (whole here) (said_in c.in-Ok-Some.event) (subst (λ e. line_said c.in_ok-line.line.now ≡ line_event_of (Ok e)) some c.in-Ok-Some.ensures.said) c.args.events (omega (arith, c.if-events-lt-MAX_EVENTS.false))

pub returns-in-Ok-None-clause-ok : goal.returns-in-Ok-None-clause-ok
returns-in-Ok-None-clause-ok c =
    let here = (goal.at.returns-in-Ok-None-clause-ok c).In_ok-line in
    let none : c.in-Ok-None.field-0 ≡ None = search rules in
    record {
      line = c.in_ok-line.line.now;
      whole = whole here;
      short = c.in_ok-line.ensures.short;
      last = tt;
      reads = reads-silent _ (first here) (subst (λ e. line_said c.in_ok-line.line.now ≡ line_event_of (Ok e)) none c.in-Ok-None.ensures.said) c.args.events;
    }
