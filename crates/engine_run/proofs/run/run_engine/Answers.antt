use Rattle.std.proofs.Common.{◌≡◌, true, List, length, map, refl, sym, ap, subst, ◌∙◌, Vec, Global}
use Rattle.std.proofs.lemmas.Bool.{false≢true}
use Rattle.rtp_stream.specs.declared.stream_spec.Stream.{Stream}
use Rattle.studio_io.proofs.SumLemmas.{sums-none, sums-reported}
use Rattle.studio_io.specs.FaultCounts.{AreFaultNumbers}
use Rattle.studio_mix.specs.Changed.{with_changes}
use Rattle.engine_run.specs.Grouping.{grouped, path_total}
use Rattle.engine_run.specs.Intake.{fault_numbers}
use Rattle.engine_run.specs.Rounds.{events_of}
use Rattle.engine_run.specs.declared.feed_reader.FeedReader.{FeedReader}
use Rattle.engine_run.proofs.FeedFaultLemmas.{all-numbers}
use Rattle.engine_run.proofs.RunLemmas.{run-begins, run-settled}
use Rattle.engine_run.proofs.TellLemmas.{noted_same}
use Rattle.engine_run.proofs.run.run_engine.Goals as goal
use Rattle.engine_run.proofs.run.run_engine.Goals.{then-settle, else-settle, then-settled, else-settled}

pub returns-clause-settled : goal.returns-clause-settled
returns-clause-settled g c whole =
    let told = g.F.Feed.told in
    let times = g.C.Clock.told in
    let handed = g.K.Sink.handed in
    let heard = g.T.RunObserver.heard in
    let studio = c.args.studio.now in
    let feeds = c.args.devices.feeds.items in
    let flat = map told feeds in
    let all = grouped studio.streams flat in
    let clock = times c.args.devices.clock in
    let before = handed c.args.devices.sink in
    let earlier = heard c.args.devices.observer in
    let made = c.in_ok-report.ensures in
    let one : c.if-settle.settled ≡ true = elim c.if-settled.branch [
      | then-settled w ↦ w.if-settled.true
      | else-settled w ↦ sym w.whole-is ∙ (sym made.settled ∙ whole)
    ] in
    let enough : length feeds ≡ path_total c.streams-specs.result.now = elim c.if-settled.branch [
      | then-settled w ↦ c.in_ok-readers.ensures.fits (sym w.whole-is ∙ (sym made.settled ∙ whole))
      | else-settled w ↦ absurd (false≢true (sym w.if-settled.false ∙ (sym w.whole-is ∙ (sym made.settled ∙ whole))))
    ] in
    let both : (c.settle.result ≡ true) × (c.run_rounds-ended.result ≡ true) = elim c.if-settle.branch [
      | then-settle w ↦ (w.if-settle.true, sym w.settled-is ∙ one)
      | else-settle w ↦ absurd (false≢true (sym w.if-settle.false ∙ (sym w.settled-is ∙ one)))
    ] in
    let rounds = c.run_rounds-ended.ensures.on both.1 studio all clock before earlier
    (run-begins told times handed heard studio all clock before earlier feeds _ _ c.streams-specs.ensures.value refl refl refl refl c.in_ok-engine.ensures.stands c.in_ok-readers.ensures.begun c.new-3.ensures) in
    let changed = with_changes studio rounds.changes in
    let numbers = all-numbers told c.streams-specs.result.now feeds c.in_ok-readers.readers.items c.run_rounds-ended.new.state.readers.items c.in_ok-readers.ensures.begun c.run_rounds-ended.ensures.faults
    (c.run_rounds-ended.ensures.ended both.1) enough in
    let faults = subst (AreFaultNumbers flat) (sym (made.faults ∙ ap (λ (v : Vec (Vec (FeedReader _) Global) Global). fault_numbers v.items) c.settle.ensures.readers)) numbers in
    let done = c.settle.ensures.done both.0 changed all clock before earlier (c.run_rounds-ended.ensures.ended both.1) rounds.run in
    record {
      changes = rounds.changes;
      taken = rounds.taken;
      run = run-settled told times handed heard changed all clock before earlier flat c.settle.new.state c.in_ok-report.report (handed c.in_ok-report.sink) (heard c.in_ok-report.observer) done refl
          (made.counts changed (events_of changed done.rounds) done.datagrams done.stands done.whole c.streams-specs.ensures.value) faults made.blocks (ap handed made.sink) (ap heard made.observer);
    }

pub returns-clause-feeds : goal.returns-clause-feeds
returns-clause-feeds g c whole =
    elim c.if-settled.branch [
      | then-settled w ↦ subst (λ (l : List Stream). length c.args.devices.feeds.items ≡ path_total l) c.streams-specs.ensures.value (c.in_ok-readers.ensures.fits (sym w.whole-is ∙ (sym c.in_ok-report.ensures.settled ∙ whole)))
      | else-settled w ↦ absurd (false≢true (sym w.if-settled.false ∙ (sym w.whole-is ∙ (sym c.in_ok-report.ensures.settled ∙ whole))))
    ]

pub returns-clause-noted : goal.returns-clause-noted
returns-clause-noted g c = noted_same _ _ _ _ _ c.run_rounds-ended.ensures.noted (ap g.T.RunObserver.noted c.in_ok-report.ensures.observer ∙ c.settle.ensures.noted)

pub returns-clause-sums : goal.returns-clause-sums
returns-clause-sums g c =
    let answered = g.K.Sink.answered in
    let before = answered c.args.devices.sink in
    sums-reported answered before c.settle.new.state.counts c.in_ok-report.report c.settle.new.state.sink c.in_ok-report.sink c.in_ok-report.ensures.numbers c.in_ok-report.ensures.sink
    (c.settle.ensures.sums before (c.run_rounds-ended.ensures.sums before (sums-none c.new-3.result before c.new-3.ensures)))
