use Rattle.std.proofs.Common.{◌≡◌, ◌≤◌, ◌++◌, ◌∙◌, Err, length, refl, ap, arith, rules}
use Rattle.mix_packets.specs.OutSpec.{datagram_length}
use Rattle.pcap_replay.proofs.LineLemmas.{breaks_more, gives_last, gives_more, gives_none}
use Rattle.pcap_replay.proofs.output.write_drained.Goals as goal

pub rounds-init : goal.rounds-init
rounds-init g c = record {
  space = refl;
  output = refl;
  closed = refl;
  stands = λ studio events datagrams begun s. gives_none studio _ events events datagrams _ _ _ refl s;
}

pub rounds-preserved : goal.rounds-preserved
rounds-preserved g c =
    let inv = c.rounds.invariant in
    let len : c.in-Some.len ≡ datagram_length c.args.engine.now.mixer.packer.spec = c.in-Some.ensures.len ∙ ap datagram_length inv.output in
    let short = c.requires.short in
    let same : length c.drain.new.out ≡ length c.rounds.out = c.drain.auto.out in
    let long = same ∙ inv.space in
    let within : c.in-Some.len ≤ length c.rounds.out = omega (arith, len, short, long, same) in
    record {
      space = long;
      output = c.drain.ensures.output ∙ inv.output;
      closed = c.drain.ensures.closed ∙ inv.closed;
      stands = λ studio events datagrams begun s.
          let r = inv.stands studio events datagrams begun s in
          gives_more studio c.rounds.engine c.drain.new.self events events events datagrams _ _ _ _ _ _ c.rounds.out c.drain.new.out _ _ _ c.in-Some.len refl same within r
          (c.in-Some.ensures.some studio events (datagrams ++ r.more) r.stands) (c.output.ensures.heard begun) c.in_ok-write_datagram-in-Some.ensures.ok;
    }

pub returns-in_err-write_datagram-in-Some-clause-fault : goal.returns-in_err-write_datagram-in-Some-clause-fault
returns-in_err-write_datagram-in-Some-clause-fault g c =
    let inv = c.rounds.invariant in
    let len : c.in-Some.len ≡ datagram_length c.args.engine.now.mixer.packer.spec = c.in-Some.ensures.len ∙ ap datagram_length inv.output in
    let short = c.requires.short in
    let same : length c.drain.new.out ≡ length c.rounds.out = c.drain.auto.out in
    let long = same ∙ inv.space in
    let within : c.in-Some.len ≤ length c.rounds.out = omega (arith, len, short, long, same) in
    let is : c.from_residual.result ≡ Err c.in_err-write_datagram-in-Some.field-0.0 = search rules in
    rw is (λ studio events datagrams begun s.
    let r = inv.stands studio events datagrams begun s in
    breaks_more studio c.rounds.engine c.drain.new.self events events events datagrams _ _ _ _ _ c.rounds.out c.drain.new.out _ _ _ c.in-Some.len refl same within r
    (c.in-Some.ensures.some studio events (datagrams ++ r.more) r.stands) (c.output.ensures.heard begun) c.in_err-write_datagram-in-Some.ensures.fault)

pub returns-in-None-clause-ok : goal.returns-in-None-clause-ok
returns-in-None-clause-ok g c = λ studio events datagrams begun s.
    let r = c.rounds.invariant.stands studio events datagrams begun s in
    gives_last studio c.rounds.engine c.drain.new.self events events events datagrams _ _ _ _ _ _ refl r (c.in-None.ensures.none refl studio events (datagrams ++ r.more) r.stands)
