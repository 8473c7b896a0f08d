use Rattle.std.proofs.Common.{◌≡◌, ◌∙◌, Err, ap, subst, sym, refl, rules}
use Rattle.studio_run.specs.Trace.{trace_events}
use Rattle.studio_run.specs.Play.{IsListing, StopsAt}
use Rattle.studio_run.proofs.PlayLemmas.{fails_before, fails_read, fails_reading}
use Rattle.wav_runs.specs.declared.fault.WavRunFault.TheVariants.{Play, Stream}
use Rattle.wav_runs.proofs.StreamRunLemmas.{fails_with}
use Rattle.wav_runs.proofs.stream_wav.list_to_wav.Goals as goal

pub returns-in_err-stream-clause-fault : goal.returns-in_err-stream-clause-fault
returns-in_err-stream-clause-fault g c =
    let is : c.from_residual.result ≡ Err (Stream c.in_err-stream.field-0.0) = search rules in
    rw is (c.in_err-stream.ensures.fault, refl, refl)

pub returns-in_err-trace-clause-fault : goal.returns-in_err-trace-clause-fault
returns-in_err-trace-clause-fault g c =
    let fault = c.in_err-trace.field-0.0 in
    let is : c.from_residual-in_err-trace.result ≡ Err (Play fault) = search rules in
    rw is (fails_reading c.args.spec.now IsListing _ _ _ fault c.in_err-trace.ensures.fault)

pub returns-in_err-events-clause-fault : goal.returns-in_err-events-clause-fault
returns-in_err-events-clause-fault g c =
    let fault = c.in_err-events.field-0.0 in
    let trace = c.in_ok-trace.trace.items in
    let stops : StopsAt c.args.spec.now trace fault = subst (λ t. StopsAt c.args.spec.now t fault) c.as_slice.ensures.value c.in_err-events.ensures.fault in
    let is : c.from_residual-in_err-events.result ≡ Err (Play fault) = search rules in
    rw is (fails_read c.args.spec.now IsListing _ _ trace _ _ fault c.in_ok-trace.ensures.ok c.in_ok-trace.ensures.end (fails_before c.args.spec.now IsListing trace _ fault stops))

pub returns-in_err-file-clause-fault : goal.returns-in_err-file-clause-fault
returns-in_err-file-clause-fault g c =
    let fault = c.in_err-file.field-0.0 in
    let is : c.from_residual-in_err-file.result ≡ Err fault = search rules in
    rw is (fails_with c.args.spec.now c.args.number _ _ c.in_ok-trace.trace.items c.in_ok-events.events _ _ fault c.in_ok-trace.ensures.ok c.in_ok-trace.ensures.end
    (ap trace_events (sym c.as_slice.ensures.value) ∙ c.in_ok-events.ensures.ok) c.in_ok-events.ensures.runs c.in_err-file.ensures.fault)

pub returns-clause-ok : goal.returns-clause-ok
returns-clause-ok g c = record {
  trace = c.in_ok-trace.trace.items;
  read = c.in_ok-trace.ensures.ok;
  end = c.in_ok-trace.ensures.end;
  events = c.in_ok-events.events;
  said = ap trace_events (sym c.as_slice.ensures.value) ∙ c.in_ok-events.ensures.ok;
  runs = c.in_ok-events.ensures.runs;
  stream = c.in_ok-stream.stream;
  is = c.in_ok-stream.ensures.ok;
  writes = c.in_ok-file.ensures.ok;
}
