use Rattle.std.proofs.Common.{◌≡◌, ◌∙◌, [], Err, ap, subst, sym, rules}
use Rattle.studio_run.specs.Trace.{trace_events}
use Rattle.studio_run.specs.Play.{StopsAt}
use Rattle.wav_runs.specs.declared.fault.WavRunFault.TheVariants.{Play, File}
use Rattle.wav_runs.specs.MixWav.{Records}
use Rattle.wav_runs.proofs.FrontLemmas.{front_none}
use Rattle.wav_runs.proofs.MixRunLemmas.{fails_early, fails_late, fails_unread}
use Rattle.wav_runs.proofs.mix_wav.play_to_wav.Goals as goal

pub write_mix_wav-requires-clause-ready : goal.write_mix_wav-requires-clause-ready
write_mix_wav-requires-clause-ready g c = c.in_ok-session.ensures.ready c.in_ok-events.events c.in_ok-events.ensures.paths

pub returns-in_err-trace-clause-fault : goal.returns-in_err-trace-clause-fault
returns-in_err-trace-clause-fault g c =
    let fault = c.in_err-trace.field-0.0 in
    let is : c.from_residual.result ≡ Err (Play fault) = search rules in
    rw is (fails_unread c.args.spec.now _ _ _ fault c.in_err-trace.ensures.fault)

pub returns-in_err-events-clause-fault : goal.returns-in_err-events-clause-fault
returns-in_err-events-clause-fault g c =
    let fault = c.in_err-events.field-0.0 in
    let trace = c.in_ok-trace.trace.items in
    let stops : StopsAt c.args.spec.now trace fault = subst (λ t. StopsAt c.args.spec.now t fault) c.as_slice.ensures.value c.in_err-events.ensures.fault in
    let is : c.from_residual-in_err-events.result ≡ Err (Play fault) = search rules in
    rw is (fails_early c.args.spec.now _ _ trace _ fault c.in_ok-trace.ensures.ok c.in_ok-trace.ensures.end stops)

pub returns-in_err-file-clause-fault : goal.returns-in_err-file-clause-fault
returns-in_err-file-clause-fault g c =
    let a = g.W.Write.contents c.args.writer.now in
    let is : c.from_residual-in_err-file.result ≡ Err (File c.in_err-file.field-0.0) = search rules in
    rw is (record {
      trace = c.in_ok-trace.trace.items;
      read = c.in_ok-trace.ensures.ok;
      end = c.in_ok-trace.ensures.end;
      events = c.in_ok-events.events;
      said = ap trace_events (sym c.as_slice.ensures.value) ∙ c.in_ok-events.ensures.ok;
      runs = c.in_ok-events.ensures.runs;
      part = λ report is. front_none a [] report;
    })

pub returns-in_err-write_mix_wav-clause-fault : goal.returns-in_err-write_mix_wav-clause-fault
returns-in_err-write_mix_wav-clause-fault g c =
    let fault = c.in_err-write_mix_wav.field-0.0 in
    let is : c.from_residual-in_err-write_mix_wav.result ≡ Err fault = search rules in
    rw is (fails_late c.args.spec.now _ _ _ _ fault c.in_err-write_mix_wav.ensures.fault (record {
      trace = c.in_ok-trace.trace.items;
      read = c.in_ok-trace.ensures.ok;
      end = c.in_ok-trace.ensures.end;
      events = c.in_ok-events.events;
      said = ap trace_events (sym c.as_slice.ensures.value) ∙ c.in_ok-events.ensures.ok;
      runs = c.in_ok-events.ensures.runs;
      part = λ report. c.in_err-write_mix_wav.ensures.begun c.args.spec.now report c.in_ok-events.ensures.runnable (c.in_ok-session.ensures.stands c.in_ok-events.events);
    }))

pub returns-clause-ok : goal.returns-clause-ok
returns-clause-ok g c = record {
  trace = c.in_ok-trace.trace.items;
  read = c.in_ok-trace.ensures.ok;
  end = c.in_ok-trace.ensures.end;
  events = c.in_ok-events.events;
  said = ap trace_events (sym c.as_slice.ensures.value) ∙ c.in_ok-events.ensures.ok;
  runs = c.in_ok-events.ensures.runs;
  made = g.M.File.Write.contents c.in_ok-file.file;
  empty = c.in_ok-file.ensures.empty;
  records = subst (λ f. Records c.args.spec.now c.in_ok-events.events f (g.W.Write.contents c.args.writer.now) (g.W.Write.contents c.write_mix_wav.new.writer)
      (g.M.File.Write.contents c.in_ok-file.file) (g.M.File.Write.contents c.write_mix_wav.new.file)) c.format_of-format.ensures
      (c.in_ok-write_mix_wav.ensures.ok c.args.spec.now c.in_ok-events.ensures.runnable (c.in_ok-session.ensures.stands c.in_ok-events.events));
}
