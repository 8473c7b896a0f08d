use Rattle.std.proofs.Common.{◌≡◌, Err, Ok, inl, refl, subst, rules}
use Rattle.studio_run.specs.Play.{IsListing, StopsAt}
use Rattle.studio_run.specs.Trace.{trace_events}
use Rattle.studio_run.proofs.PlayLemmas.{fails_before, fails_read, fails_reading}
use Rattle.studio_run.proofs.CountedListingLemmas.{fails_with_counts}
use Rattle.studio_run.proofs.outputs.listing.list_marks_and_counts.Goals as goal

pub returns-in_err-trace-clause-fault : goal.returns-in_err-trace-clause-fault
returns-in_err-trace-clause-fault g c =
    let is : c.from_residual.result ≡ Err c.in_err-trace.field-0.0 = search rules in
    rw is (inl (fails_reading c.args.spec.now IsListing _ _ _ c.in_err-trace.field-0.0 c.in_err-trace.ensures.fault, refl))

pub returns-in_err-events-clause-fault : goal.returns-in_err-events-clause-fault
returns-in_err-events-clause-fault g c =
    let is : c.from_residual-in_err-events.result ≡ Err c.in_err-events.field-0.0 = search rules in
    let fault = c.in_err-events.field-0.0 in
    let stops = subst (λ t. StopsAt c.args.spec.now t fault) c.as_slice.ensures.value c.in_err-events.ensures.fault in
    rw is (inl (
      fails_read c.args.spec.now IsListing _ _ c.in_ok-trace.trace.items _ _ fault c.in_ok-trace.ensures.ok c.in_ok-trace.ensures.end
          (fails_before c.args.spec.now IsListing c.in_ok-trace.trace.items (g.W.Write.contents c.args.writer.now) fault stops),
      refl,
    ))

pub returns-in_err-write_both-clause-fault : goal.returns-in_err-write_both-clause-fault
returns-in_err-write_both-clause-fault g c =
    let is : c.from_residual-in_err-write_both.result ≡ Err c.in_err-write_both.field-0.0 = search rules in
    rw is (fails_with_counts c.args.spec.now _ _ c.in_ok-events.events _ _ _ _ c.in_err-write_both.field-0.0
    (record {
      trace = c.in_ok-trace.trace.items;
      read = c.in_ok-trace.ensures.ok;
      end = c.in_ok-trace.ensures.end;
      said = subst (λ t. trace_events t ≡ Ok c.in_ok-events.events) c.as_slice.ensures.value c.in_ok-events.ensures.ok;
      runs = c.in_ok-events.ensures.runs;
    }) c.in_err-write_both.ensures.fault)

pub returns-clause-ok : goal.returns-clause-ok
returns-clause-ok g c = record {
  events = c.in_ok-events.events;
  reads = record {
    trace = c.in_ok-trace.trace.items;
    read = c.in_ok-trace.ensures.ok;
    end = c.in_ok-trace.ensures.end;
    said = subst (λ t. trace_events t ≡ Ok c.in_ok-events.events) c.as_slice.ensures.value c.in_ok-events.ensures.ok;
    runs = c.in_ok-events.ensures.runs;
  };
  lists = c.in_ok-write_both.ensures.ok;
}
