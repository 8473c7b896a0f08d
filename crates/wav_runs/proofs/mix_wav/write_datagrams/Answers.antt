use Rattle.std.proofs.lemmas.Grind.{elements}
use Rattle.std.proofs.Common.{◌≡◌, ◌<◌, ◌≤◌, ◌+◌, ◌-◌, ◌∙◌, ℕ, Err, rules, length, is_some, take, drop, refl, sym, ap, subst, arith}
use Rattle.std.proofs.lemmas.List.{take_rest}
use Rattle.std.specs.Io.KnownBytes.{Appends}
use Rattle.wav_file.specs.declared.header.WavFormat.{WavFormat}
use Rattle.wav_file.specs.Samples.{little_samples}
use Rattle.wav_file.specs.File.{WavState}
use Rattle.mix_packets.specs.declared.out_spec.Output.{Output}
use Rattle.mix_packets.specs.OutSpec.{datagram_length}
use Rattle.studio_session.proofs.RunLemmas.{fewer_left}
use Rattle.studio_mix.specs.Output.{datagram_of}
use Rattle.studio_session.specs.Play.{feeds_of}
use Rattle.studio_mix.proofs.FirstBlockLemmas.{written_is}
use Rattle.studio_run.specs.declared.player.PlayFault.TheVariants.{Write}
use Rattle.wav_file.specs.declared.fault.FileFault.TheVariants.{Write as NotWritten}
use Rattle.wav_runs.specs.declared.fault.WavRunFault.TheVariants.{Play, File}
use Rattle.wav_runs.proofs.FrontLemmas.{front_of_line, front_of_more}
use Rattle.wav_runs.proofs.BrokenFileLemmas.{part_of_next, part_of_some}
use Rattle.wav_runs.proofs.MixWavLemmas.{recorded_all, recording_more, recording_none}
use Rattle.wav_runs.proofs.mix_wav.write_datagrams.Goals as goal

abbrev state : WavFormat → ℕ → WavState
state format count = record { format = format; count = count }

pub rounds-init : goal.rounds-init
rounds-init g c = record {
  ready = c.requires.ready;
  space = refl;
  spec = refl;
  stands = λ studio run played. recording_none studio (g.E.EventSource.events c.args.source.now) _ _ _ _ c.args.session.now played;
}

pub rounds-preserved : goal.rounds-preserved
rounds-preserved g c =
    let events = g.E.EventSource.events c.args.source.now in
    let inv = c.rounds.invariant in
    let len : c.in-Some.len ≡ datagram_length c.args.session.now.mixer.packer.spec = c.in-Some.ensures.len ∙ ap datagram_length inv.spec in
    let short = c.requires.short in
    let same : length c.next_datagram.new.out ≡ length c.rounds.out = c.next_datagram.auto.out in
    let long = same ∙ inv.space in
    let within : c.in-Some.len ≤ length c.rounds.out = omega (arith, len, short, long, same) in
    record {
      ready = c.next_datagram.ensures.ready;
      space = long;
      spec = c.next_datagram.ensures.spec ∙ inv.spec;
      stands = λ studio run played.
          let r = inv.stands studio run played in
          let n = length r.datagrams in
          let gives = c.in-Some.ensures.some studio n run r.given.played in
          let datagram = take c.in-Some.len c.next_datagram.new.out in
          let enc = c.rounds.wav.format.enc in
          let behind : take (length datagram - 12) (drop 12 datagram) ≡ drop 12 datagram = take_rest datagram 12 in
          recording_more studio events _ _ _ _ _ _ _ _ _ _ _ _ c.rounds.session c.next_datagram.new.self (take c.in-Some.len c.next_datagram.new.out) r
          (record {
            ready = sym (c.next_datagram.ensures.given studio n run r.given.played) ∙ ap is_some c.in-Some.is;
            is = written_is (datagram_of studio (feeds_of studio events) n) c.rounds.out c.next_datagram.new.out c.in-Some.len gives.1 same within;
            played = gives.2;
          }) c.in_ok-write_datagram-in-Some.ensures.ok
          (subst (λ p. Appends (g.F.Write.contents c.rounds.file) (g.F.Write.contents c.push.new.writer) (little_samples enc p)) behind c.in_ok-push-in-Some.ensures.ok)
          (subst (λ p. c.push.new.self ≡ state c.rounds.wav.format (c.rounds.wav.count + length (little_samples enc p))) behind c.in_ok-push-in-Some.ensures.counted);
    }

pub returns-in_err-write_datagram-in-Some-clause-begun : goal.returns-in_err-write_datagram-in-Some-clause-begun
returns-in_err-write_datagram-in-Some-clause-begun g c =
    let events = g.E.EventSource.events c.args.source.now in
    let inv = c.rounds.invariant in
    let len : c.in-Some.len ≡ datagram_length c.args.session.now.mixer.packer.spec = c.in-Some.ensures.len ∙ ap datagram_length inv.spec in
    let short = c.requires.short in
    let same : length c.next_datagram.new.out ≡ length c.rounds.out = c.next_datagram.auto.out in
    let long = same ∙ inv.space in
    let within : c.in-Some.len ≤ length c.rounds.out = omega (arith, len, short, long, same) in
    let is : c.from_residual.result ≡ Err (Play Write) = search rules in
    rw is (λ studio datagrams run played are.
    let r = inv.stands studio run played in
    let n = length r.datagrams in
    let gives = c.in-Some.ensures.some studio n run r.given.played in
    front_of_line studio events _ _ _ _ _ _ _ _ _ c.rounds.session c.next_datagram.new.self (take c.in-Some.len c.next_datagram.new.out) datagrams r
    (record {
      ready = sym (c.next_datagram.ensures.given studio n run r.given.played) ∙ ap is_some c.in-Some.is;
      is = written_is (datagram_of studio (feeds_of studio events) n) c.rounds.out c.next_datagram.new.out c.in-Some.len gives.1 same within;
      played = gives.2;
    }) are c.in_err-write_datagram-in-Some.ensures.fault)

pub returns-in_err-push-in-Some-clause-begun : goal.returns-in_err-push-in-Some-clause-begun
returns-in_err-push-in-Some-clause-begun g c =
    let events = g.E.EventSource.events c.args.source.now in
    let inv = c.rounds.invariant in
    let len : c.in-Some.len ≡ datagram_length c.args.session.now.mixer.packer.spec = c.in-Some.ensures.len ∙ ap datagram_length inv.spec in
    let short = c.requires.short in
    let same : length c.next_datagram.new.out ≡ length c.rounds.out = c.next_datagram.auto.out in
    let long = same ∙ inv.space in
    let within : c.in-Some.len ≤ length c.rounds.out = omega (arith, len, short, long, same) in
    let is : c.from_residual-in_err-push-in-Some.result ≡ Err (File NotWritten) = search rules in
    rw is (λ studio datagrams run played are.
    let r = inv.stands studio run played in
    let n = length r.datagrams in
    let gives = c.in-Some.ensures.some studio n run r.given.played in
    front_of_more studio events _ _ _ _ _ _ _ _ _ _ c.rounds.session c.next_datagram.new.self (take c.in-Some.len c.next_datagram.new.out) datagrams r
    (record {
      ready = sym (c.next_datagram.ensures.given studio n run r.given.played) ∙ ap is_some c.in-Some.is;
      is = written_is (datagram_of studio (feeds_of studio events) n) c.rounds.out c.next_datagram.new.out c.in-Some.len gives.1 same within;
      played = gives.2;
    }) are c.in_ok-write_datagram-in-Some.ensures.ok)

pub returns-in_err-write_datagram-in-Some-clause-part : goal.returns-in_err-write_datagram-in-Some-clause-part
returns-in_err-write_datagram-in-Some-clause-part g c =
    let is : c.from_residual.result ≡ Err (Play Write) = search rules in
    rw is (λ studio datagrams run played are.
    part_of_some studio (g.E.EventSource.events c.args.source.now) _ _ _ _ _ _ _ _ c.rounds.session datagrams (c.rounds.invariant.stands studio run played) are)

pub returns-in_err-push-in-Some-clause-part : goal.returns-in_err-push-in-Some-clause-part
returns-in_err-push-in-Some-clause-part g c =
    let events = g.E.EventSource.events c.args.source.now in
    let inv = c.rounds.invariant in
    let len : c.in-Some.len ≡ datagram_length c.args.session.now.mixer.packer.spec = c.in-Some.ensures.len ∙ ap datagram_length inv.spec in
    let short = c.requires.short in
    let same : length c.next_datagram.new.out ≡ length c.rounds.out = c.next_datagram.auto.out in
    let long = same ∙ inv.space in
    let within : c.in-Some.len ≤ length c.rounds.out = omega (arith, len, short, long, same) in
    let datagram = take c.in-Some.len c.next_datagram.new.out in
    let enc = c.rounds.wav.format.enc in
    let behind : take (length datagram - 12) (drop 12 datagram) ≡ drop 12 datagram = take_rest datagram 12 in
    let broke = c.in_err-push-in-Some.ensures.fault in
    let is : c.from_residual-in_err-push-in-Some.result ≡ Err (File NotWritten) = search rules in
    rw is (λ studio datagrams run played are.
    let r = inv.stands studio run played in
    let n = length r.datagrams in
    let gives = c.in-Some.ensures.some studio n run r.given.played in
    part_of_next studio events _ _ _ _ _ _ _ _ _ _ c.rounds.session c.next_datagram.new.self datagram datagrams broke.0 r
    (record {
      ready = sym (c.next_datagram.ensures.given studio n run r.given.played) ∙ ap is_some c.in-Some.is;
      is = written_is (datagram_of studio (feeds_of studio events) n) c.rounds.out c.next_datagram.new.out c.in-Some.len gives.1 same within;
      played = gives.2;
    }) are
    (subst (λ p. Appends (g.F.Write.contents c.rounds.file) (g.F.Write.contents c.push.new.writer) (take broke.0 (little_samples enc p))) behind broke.1)
    c.in_err-push-in-Some.ensures.same)

pub returns-in-None-clause-ok : goal.returns-in-None-clause-ok
returns-in-None-clause-ok g c = λ studio run played.
    let events = g.E.EventSource.events c.args.source.now in
    let r = c.rounds.invariant.stands studio run played in
    let n = length r.datagrams in
    recorded_all studio events _ _ _ _ _ _ _ _ c.rounds.session c.next_datagram.new.self r
    (sym (c.next_datagram.ensures.given studio n run r.given.played) ∙ ap is_some c.in-None.is)
    (c.in-None.ensures.none refl studio n run r.given.played)

pub rounds-smaller : goal.rounds-smaller
rounds-smaller g c =
    let some = subst (λ (output : Output). 0 < output.frames) (sym c.rounds.invariant.spec) c.requires.some in
    fewer_left c.rounds.session.mixer.packer c.next_datagram.new.self.mixer.packer some c.next_datagram.ensures.spec c.in-Some.ensures.number c.in-Some.ensures.early

pub slice_bounds-push-count : goal.slice_bounds-push-count
slice_bounds-push-count c = grind (arith, elements)

pub push-requires : goal.push-requires
push-requires c = grind (arith, elements)

pub slice_bounds-datagram-end : goal.slice_bounds-datagram-end
slice_bounds-datagram-end c = grind (arith, elements)

pub slice_bounds-push-start : goal.slice_bounds-push-start
slice_bounds-push-start c = grind (arith, elements)
