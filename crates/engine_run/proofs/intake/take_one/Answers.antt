use Rattle.std.proofs.lemmas.Grind.{elements}
use Rattle.std.proofs.Common.{[], ◌∷◌, slice_get, take, refl, arith}
use Rattle.studio_io.specs.declared.feed.FeedAnswer.TheVariants.{Datagram, Nothing, Fault, Ended}
use Rattle.studio_io.proofs.FaultLemmas.{faults-noted}
use Rattle.engine_run.proofs.AnswerLemmas.{goes-answer, goes-nowhere}
use Rattle.engine_run.proofs.AskLemmas.{asks-answer, asks-ended}
use Rattle.engine_run.proofs.FeedFaultLemmas.{reader-same}
use Rattle.engine_run.proofs.TakeLemmas.{takes-none}
use Rattle.studio_engine.proofs.EngineLemmas.{taken_arrival}
use Rattle.engine_run.proofs.TellLemmas.{hears_one, stream_of}
use Rattle.engine_run.proofs.intake.take_one.Goals as goal

pub returns-then-reader-clause-takes : goal.returns-then-reader-clause-takes
returns-then-reader-clause-takes g c = λ studio events datagrams s. takes-none g.F.Feed.told studio _ events datagrams _ _ _ _ _ 1 s (goes-nowhere g.F.Feed.told c.args.reader.now) (asks-ended g.F.Feed.told 1 c.args.reader.now c.if-reader.true)

pub returns-in_ok-outcome-in-Datagram-clause-takes : goal.returns-in_ok-outcome-in-Datagram-clause-takes
returns-in_ok-outcome-in-Datagram-clause-takes g c = λ studio events datagrams s.
    let stands = c.in_ok-outcome-in-Datagram.ensures.stands studio events datagrams s in
    let octets = take c.in-Datagram.count c.next-answer.new.buf in
    let known = stream_of (slice_get studio.streams c.args.stream) 0 c.args.path (taken_arrival studio c.args.engine.now events datagrams c.args.stream c.args.path octets s c.in_ok-outcome-in-Datagram.ensures.fine 0) in (
      record {
        given = take c.in-Datagram.count c.next-answer.new.buf ∷ [];
        few = omega arith;
        stands = stands;
        heard = hears_one studio.streams studio.open_at events (g.T.RunObserver.heard c.args.observer.now) (g.T.RunObserver.heard c.arrived.new.self) c.args.stream c.args.path c.arrive.new.self.time octets known.0 _
            known.1 (c.in_ok-outcome-in-Datagram.ensures.outcome studio events datagrams known.0 s known.1) stands.time c.arrived.ensures.heard;
        goes_on = goes-answer g.F.Feed.told c.args.reader.now (record { feed = c.next-answer.new.self; state = c.note.new.self }) c.next-answer.new.buf _ (Datagram c.in-Datagram.count) c.in-Datagram.is c.if-reader.false c.note.ensures.noted (c.next-answer.ensures.tells c.requires.space);
        asks = asks-answer g.F.Feed.told c.args.reader.now (record { feed = c.next-answer.new.self; state = c.note.new.self }) c.next-answer.new.buf _ (Datagram c.in-Datagram.count) c.in-Datagram.is c.if-reader.false c.note.ensures.noted (c.next-answer.ensures.tells c.requires.space);
      },
      refl,
    )

pub returns-in-Nothing-clause-takes : goal.returns-in-Nothing-clause-takes
returns-in-Nothing-clause-takes g c = λ studio events datagrams s. takes-none g.F.Feed.told studio _ events datagrams _ _ _ _ _ 1 s
    (goes-answer g.F.Feed.told c.args.reader.now (record { feed = c.next-answer.new.self; state = c.note.new.self }) c.next-answer.new.buf _ Nothing c.in-Nothing.is c.if-reader.false c.note.ensures.noted (c.next-answer.ensures.tells c.requires.space))
    (asks-answer g.F.Feed.told c.args.reader.now (record { feed = c.next-answer.new.self; state = c.note.new.self }) c.next-answer.new.buf _ Nothing c.in-Nothing.is c.if-reader.false c.note.ensures.noted (c.next-answer.ensures.tells c.requires.space))

pub returns-in-Fault-clause-takes : goal.returns-in-Fault-clause-takes
returns-in-Fault-clause-takes g c = λ studio events datagrams s. takes-none g.F.Feed.told studio _ events datagrams _ _ _ _ _ 1 s
    (goes-answer g.F.Feed.told c.args.reader.now (record { feed = c.next-answer.new.self; state = c.note.new.self }) c.next-answer.new.buf _ Fault c.in-Fault.is c.if-reader.false c.note.ensures.noted (c.next-answer.ensures.tells c.requires.space))
    (asks-answer g.F.Feed.told c.args.reader.now (record { feed = c.next-answer.new.self; state = c.note.new.self }) c.next-answer.new.buf _ Fault c.in-Fault.is c.if-reader.false c.note.ensures.noted (c.next-answer.ensures.tells c.requires.space))

pub returns-in-Ended-clause-takes : goal.returns-in-Ended-clause-takes
returns-in-Ended-clause-takes g c = λ studio events datagrams s. takes-none g.F.Feed.told studio _ events datagrams _ _ _ _ _ 1 s
    (goes-answer g.F.Feed.told c.args.reader.now (record { feed = c.next-answer.new.self; state = c.note.new.self }) c.next-answer.new.buf _ Ended c.in-Ended.is c.if-reader.false c.note.ensures.noted (c.next-answer.ensures.tells c.requires.space))
    (asks-answer g.F.Feed.told c.args.reader.now (record { feed = c.next-answer.new.self; state = c.note.new.self }) c.next-answer.new.buf _ Ended c.in-Ended.is c.if-reader.false c.note.ensures.noted (c.next-answer.ensures.tells c.requires.space))

pub slice_bounds-arrived-end-in-Datagram : goal.slice_bounds-arrived-end-in-Datagram
slice_bounds-arrived-end-in-Datagram c = grind (arith, elements)

pub returns-then-reader-clause-faults : goal.returns-then-reader-clause-faults
returns-then-reader-clause-faults g c = reader-same g.F.Feed.told c.args.reader.now

pub returns-in_ok-outcome-in-Datagram-clause-faults : goal.returns-in_ok-outcome-in-Datagram-clause-faults
returns-in_ok-outcome-in-Datagram-clause-faults g c = faults-noted c.args.reader.now.state c.note.new.self (g.F.Feed.told c.args.reader.now.feed) (g.F.Feed.told c.next-answer.new.self) c.next-answer.new.buf c.if-reader.false c.next-answer.result (c.next-answer.ensures.tells c.requires.space) c.note.ensures.noted c.note.ensures.faults

pub returns-in_err-outcome-in-Datagram-clause-faults : goal.returns-in_err-outcome-in-Datagram-clause-faults
returns-in_err-outcome-in-Datagram-clause-faults g c = faults-noted c.args.reader.now.state c.note.new.self (g.F.Feed.told c.args.reader.now.feed) (g.F.Feed.told c.next-answer.new.self) c.next-answer.new.buf c.if-reader.false c.next-answer.result (c.next-answer.ensures.tells c.requires.space) c.note.ensures.noted c.note.ensures.faults

pub returns-in-Nothing-clause-faults : goal.returns-in-Nothing-clause-faults
returns-in-Nothing-clause-faults g c = faults-noted c.args.reader.now.state c.note.new.self (g.F.Feed.told c.args.reader.now.feed) (g.F.Feed.told c.next-answer.new.self) c.next-answer.new.buf c.if-reader.false c.next-answer.result (c.next-answer.ensures.tells c.requires.space) c.note.ensures.noted c.note.ensures.faults

pub returns-in-Fault-clause-faults : goal.returns-in-Fault-clause-faults
returns-in-Fault-clause-faults g c = faults-noted c.args.reader.now.state c.note.new.self (g.F.Feed.told c.args.reader.now.feed) (g.F.Feed.told c.next-answer.new.self) c.next-answer.new.buf c.if-reader.false c.next-answer.result (c.next-answer.ensures.tells c.requires.space) c.note.ensures.noted c.note.ensures.faults

pub returns-in-Ended-clause-faults : goal.returns-in-Ended-clause-faults
returns-in-Ended-clause-faults g c = faults-noted c.args.reader.now.state c.note.new.self (g.F.Feed.told c.args.reader.now.feed) (g.F.Feed.told c.next-answer.new.self) c.next-answer.new.buf c.if-reader.false c.next-answer.result (c.next-answer.ensures.tells c.requires.space) c.note.ensures.noted c.note.ensures.faults
