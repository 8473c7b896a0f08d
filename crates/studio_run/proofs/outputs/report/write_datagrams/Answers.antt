use Rattle.std.proofs.lemmas.Grind.{elements}
use Rattle.std.proofs.Common.{◌≡◌, ◌≤◌, ◌∙◌, Err, length, is_some, take, refl, sym, ap, arith, rules}
use Rattle.mix_packets.specs.OutSpec.{datagram_length}
use Rattle.studio_mix.specs.Output.{datagram_of}
use Rattle.studio_session.specs.Play.{feeds_of}
use Rattle.studio_mix.proofs.FirstBlockLemmas.{written_is}
use Rattle.studio_run.proofs.StudioReportLemmas.{reported_all, reporting_broken, reporting_more, reporting_none}
use Rattle.studio_run.proofs.outputs.report.write_datagrams.Goals as goal

pub rounds-init : goal.rounds-init
rounds-init g c = record {
  ready = c.requires.ready;
  space = refl;
  spec = refl;
  stands = λ studio run played. reporting_none studio (g.E.EventSource.events c.args.source.now) _ _ c.args.session.now played;
}

pub rounds-preserved : goal.rounds-preserved
rounds-preserved g c =
    let events = g.E.EventSource.events c.args.source.now in
    let inv = c.rounds.invariant in
    let len : c.in-Some.len ≡ datagram_length c.args.session.now.mixer.packer.spec = c.in-Some.ensures.len ∙ ap datagram_length inv.spec in
    let short = c.requires.short in
    let same : length c.next_datagram.new.out ≡ length c.rounds.out = c.next_datagram.auto.out in
    let long = same ∙ inv.space in
    let within : c.in-Some.len ≤ length c.rounds.out = omega (arith, len, short, long, same) in
    record {
      ready = c.next_datagram.ensures.ready;
      space = long;
      spec = c.next_datagram.ensures.spec ∙ inv.spec;
      stands = λ studio run played.
          let r = inv.stands studio run played in
          let n = length r.datagrams in
          let gives = c.in-Some.ensures.some studio n run r.given.played in
          reporting_more studio events _ _ _ _ _ _ c.rounds.session c.next_datagram.new.self (take c.in-Some.len c.next_datagram.new.out) r
          (record {
            ready = sym (c.next_datagram.ensures.given studio n run r.given.played) ∙ ap is_some c.in-Some.is;
            is = written_is (datagram_of studio (feeds_of studio events) n) c.rounds.out c.next_datagram.new.out c.in-Some.len gives.1 same within;
            played = gives.2;
          }) c.in_ok-write_datagram-in-Some.ensures.ok;
    }

pub returns-in_err-write_datagram-in-Some-clause-fault : goal.returns-in_err-write_datagram-in-Some-clause-fault
returns-in_err-write_datagram-in-Some-clause-fault g c =
    let events = g.E.EventSource.events c.args.source.now in
    let inv = c.rounds.invariant in
    let len : c.in-Some.len ≡ datagram_length c.args.session.now.mixer.packer.spec = c.in-Some.ensures.len ∙ ap datagram_length inv.spec in
    let short = c.requires.short in
    let same : length c.next_datagram.new.out ≡ length c.rounds.out = c.next_datagram.auto.out in
    let long = same ∙ inv.space in
    let within : c.in-Some.len ≤ length c.rounds.out = omega (arith, len, short, long, same) in
    let is : c.from_residual.result ≡ Err c.in_err-write_datagram-in-Some.field-0.0 = search rules in
    rw is (λ studio datagrams run played are.
    let r = inv.stands studio run played in
    let n = length r.datagrams in
    let gives = c.in-Some.ensures.some studio n run r.given.played in
    reporting_broken studio events _ _ _ _ _ c.rounds.session c.next_datagram.new.self (take c.in-Some.len c.next_datagram.new.out) datagrams r
    (record {
      ready = sym (c.next_datagram.ensures.given studio n run r.given.played) ∙ ap is_some c.in-Some.is;
      is = written_is (datagram_of studio (feeds_of studio events) n) c.rounds.out c.next_datagram.new.out c.in-Some.len gives.1 same within;
      played = gives.2;
    }) are c.in_err-write_datagram-in-Some.ensures.fault)

pub returns-in-None-clause-ok : goal.returns-in-None-clause-ok
returns-in-None-clause-ok g c = λ studio run played.
    let events = g.E.EventSource.events c.args.source.now in
    let r = c.rounds.invariant.stands studio run played in
    let n = length r.datagrams in
    reported_all studio events _ _ _ _ c.rounds.session c.next_datagram.new.self r
    (sym (c.next_datagram.ensures.given studio n run r.given.played) ∙ ap is_some c.in-None.is)
    (c.in-None.ensures.none refl studio n run r.given.played)

pub slice_bounds-write_datagram-end : goal.slice_bounds-write_datagram-end
slice_bounds-write_datagram-end c = grind (arith, elements)
