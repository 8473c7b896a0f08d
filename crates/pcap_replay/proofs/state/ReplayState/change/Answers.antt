use Rattle.std.proofs.Common.{◌≡◌, ◌∙◌, to_z, of_z, w64, refl, subst}
use Rattle.std.proofs.lemmas.Int.{to_z-of_z}
use Rattle.studio_config.specs.Studio.{Studio}
use Rattle.studio_engine.specs.Session.{HasSession}
use Rattle.pcap_replay.proofs.ChangedLemmas.{as_gains}
use Rattle.pcap_replay.proofs.state.ReplayState.change.Goals as goal

pub returns-in-Ok-clause-ok : goal.returns-in-Ok-clause-ok
returns-in-Ok-clause-ok c = λ studio events datagrams s.
    let time = c.in-Some-change_time.ensures in
    let bits : to_z w64 (of_z w64 c.in-Some-change_time.at) ≡ c.in-Some-change_time.at = to_z-of_z w64 c.in-Some-change_time.at time.fits in
    subst (λ (t : Studio). HasSession t c.change_gains.new.self events datagrams)
    (as_gains studio c.args.from c.args.octets.now _ _ _ c.in-Some.ensures.change (bits ∙ time.value) refl)
    (c.in-Ok.ensures.stands studio events datagrams s)
