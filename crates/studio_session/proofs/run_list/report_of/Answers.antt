use Rattle.std.proofs.lemmas.Grind.{pieces}
use Rattle.std.proofs.Common.{length, map, arith}
use Rattle.studio_session.specs.Event.{said_by}
use Rattle.studio_session.proofs.run_list.report_of.Goals as goal

pub all_datagrams-requires-clause-ready : goal.all_datagrams-requires-clause-ready
all_datagrams-requires-clause-ready c = c.in_ok-session.ensures.ready (map said_by c.args.events.now) c.requires.paths

pub returns-clause-counts : goal.returns-clause-counts
returns-clause-counts c =
    let studio = c.args.spec.now in
    let run = c.requires.runnable in
    c.in_ok-streams.ensures studio (length c.in_ok-datagrams.datagrams.items) run
    (c.in_ok-datagrams.ensures.played studio run (c.in_ok-session.ensures.stands (map said_by c.args.events.now)))

pub returns-clause-datagrams : goal.returns-clause-datagrams
returns-clause-datagrams c = search (pieces, arith)
