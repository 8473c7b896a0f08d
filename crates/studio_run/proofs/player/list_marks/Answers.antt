use Rattle.std.proofs.Common.{◌≡◌, ◌∙◌, Ok, Err, ap, subst, sym, rules}
use Rattle.studio_run.specs.Trace.{trace_events}
use Rattle.studio_run.specs.Play.{IsListing, StopsAt}
use Rattle.studio_run.proofs.PlayLemmas.{fails_before, fails_later, fails_read, fails_reading}
use Rattle.studio_run.proofs.player.list_marks.Goals as goal

pub returns-in_err-trace-clause-fault : goal.returns-in_err-trace-clause-fault
returns-in_err-trace-clause-fault g c =
    let is : c.from_residual.result ≡ Err c.in_err-trace.field-0.0 = search rules in
    rw is (fails_reading c.args.spec.now IsListing _ _ _ c.in_err-trace.field-0.0 c.in_err-trace.ensures.fault)

pub returns-in_err-events-clause-fault : goal.returns-in_err-events-clause-fault
returns-in_err-events-clause-fault g c =
    let fault = c.in_err-events.field-0.0 in
    let trace = c.in_ok-trace.trace.items in
    let stops : StopsAt c.args.spec.now trace fault = subst (λ t. StopsAt c.args.spec.now t fault) c.as_slice.ensures.value c.in_err-events.ensures.fault in
    let is : c.from_residual-in_err-events.result ≡ Err fault = search rules in
    rw is (fails_read c.args.spec.now IsListing _ _ trace _ _ fault c.in_ok-trace.ensures.ok c.in_ok-trace.ensures.end (fails_before c.args.spec.now IsListing trace _ fault stops))

pub returns-in_err-write_listing_of-clause-fault : goal.returns-in_err-write_listing_of-clause-fault
returns-in_err-write_listing_of-clause-fault g c =
    let fault = c.in_err-write_listing_of.field-0.0 in
    let trace = c.in_ok-trace.trace.items in
    let said : trace_events trace ≡ Ok c.in_ok-events.events = ap trace_events (sym c.as_slice.ensures.value) ∙ c.in_ok-events.ensures.ok in
    let is : c.from_residual-in_err-write_listing_of.result ≡ Err fault = search rules in
    rw is (fails_read c.args.spec.now IsListing _ _ trace _ _ fault c.in_ok-trace.ensures.ok c.in_ok-trace.ensures.end
    (fails_later c.args.spec.now IsListing trace c.in_ok-events.events _ _ fault said c.in_ok-events.ensures.runs c.in_err-write_listing_of.ensures.fault))

pub returns-clause-ok : goal.returns-clause-ok
returns-clause-ok g c = record {
  trace = c.in_ok-trace.trace.items;
  read = c.in_ok-trace.ensures.ok;
  end = c.in_ok-trace.ensures.end;
  writes = record {
    events = c.in_ok-events.events;
    said = ap trace_events (sym c.as_slice.ensures.value) ∙ c.in_ok-events.ensures.ok;
    runs = c.in_ok-events.ensures.runs;
    writes = c.in_ok-write_listing_of.ensures.ok;
  };
}
