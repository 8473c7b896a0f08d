use Rattle.std.proofs.Common.{◌≡◌, Err, All, rules, sym, subst, length}
use Rattle.studio_session.specs.Cursor.{IsReadyFor}
use Rattle.studio_session.specs.Report.{ArePulled}
use Rattle.studio_run.specs.declared.player.PlayFault.TheVariants.{Write}
use Rattle.wav_runs.specs.declared.fault.WavRunFault.TheVariants.{Play}
use Rattle.wav_runs.proofs.FrontLemmas.{front_of_counts, front_of_datagrams, front_of_rest}
use Rattle.wav_runs.proofs.MixWavLemmas.{both_whole}
use Rattle.wav_runs.proofs.BrokenFileLemmas.{part_of_all}
use Rattle.wav_runs.proofs.mix_wav.write_both.Goals as goal

pub write_counts-requires : goal.write_counts-requires
write_counts-requires g c =
    let events = g.E.EventSource.events c.args.source.now in
    record {
      ready = subst (λ l. All (IsReadyFor events) l) (sym c.as_mut_slice.ensures.value) (c.into_cursors-cursors.ensures.ready events c.write_datagrams.ensures.ready);
    }

pub returns-clause-ok : goal.returns-clause-ok
returns-clause-ok g c = λ studio run played.
    let events = g.E.EventSource.events c.args.source.now in
    let recorded = c.in_ok-write_datagrams.ensures.ok studio run played in
    both_whole studio events _ _ _ _ _ _ _ _ _ _ _ c.write_datagrams.new.session c.requires.empty recorded
    (c.in_ok-write_counts.ensures.ok studio run
    (subst (ArePulled studio events) (sym c.as_mut_slice.ensures.value) (c.into_cursors-cursors.ensures.pulled studio events (length recorded.datagrams) recorded.played)))
    c.in_ok-finish.ensures.ok

pub returns-in_err-write_datagrams-clause-begun : goal.returns-in_err-write_datagrams-clause-begun
returns-in_err-write_datagrams-clause-begun g c =
    let is : c.from_residual.result ≡ Err c.in_err-write_datagrams.field-0.0 = search rules in
    rw is (λ studio report run played of.
    front_of_datagrams studio (g.E.EventSource.events c.args.source.now) (g.W.Write.contents c.args.writer.now) (g.W.Write.contents c.write_datagrams.new.writer) c.args.text.now report c.requires.empty of
    (c.in_err-write_datagrams.ensures.begun studio of.datagrams run played of.ready))

pub returns-in_err-write_counts-clause-begun : goal.returns-in_err-write_counts-clause-begun
returns-in_err-write_counts-clause-begun g c =
    let events = g.E.EventSource.events c.args.source.now in
    let is : c.from_residual-in_err-write_counts.result ≡ Err (Play Write) = search rules in
    rw is (λ studio report run played of.
    let recorded = c.in_ok-write_datagrams.ensures.ok studio run played in
    front_of_counts studio events _ _ _ _ _ _ _ report _ _ c.write_datagrams.new.session c.requires.empty recorded of
    (c.in_err-write_counts.ensures.fault studio run
    (subst (ArePulled studio events) (sym c.as_mut_slice.ensures.value) (c.into_cursors-cursors.ensures.pulled studio events (length recorded.datagrams) recorded.played))))

pub returns-in_err-finish-clause-begun : goal.returns-in_err-finish-clause-begun
returns-in_err-finish-clause-begun g c =
    let events = g.E.EventSource.events c.args.source.now in
    let is : c.from_residual-in_err-finish.result ≡ Err (Play Write) = search rules in
    rw is (λ studio report run played of.
    let recorded = c.in_ok-write_datagrams.ensures.ok studio run played in
    front_of_rest studio events _ _ _ (g.W.Write.contents c.finish.new.writer) _ _ _ _ _ report _ _ c.write_datagrams.new.session c.requires.empty recorded of
    (c.in_ok-write_counts.ensures.ok studio run
    (subst (ArePulled studio events) (sym c.as_mut_slice.ensures.value) (c.into_cursors-cursors.ensures.pulled studio events (length recorded.datagrams) recorded.played)))
    c.in_err-finish.ensures.fault)

pub returns-in_err-write_datagrams-clause-part : goal.returns-in_err-write_datagrams-clause-part
returns-in_err-write_datagrams-clause-part g c =
    let is : c.from_residual.result ≡ Err c.in_err-write_datagrams.field-0.0 = search rules in
    rw is c.in_err-write_datagrams.ensures.part

pub returns-in_err-write_counts-clause-part : goal.returns-in_err-write_counts-clause-part
returns-in_err-write_counts-clause-part g c =
    let is : c.from_residual-in_err-write_counts.result ≡ Err (Play Write) = search rules in
    rw is (λ studio datagrams run played are.
    part_of_all studio (g.E.EventSource.events c.args.source.now) _ _ _ _ _ _ _ _ c.write_datagrams.new.session datagrams (c.in_ok-write_datagrams.ensures.ok studio run played) are)

pub returns-in_err-finish-clause-part : goal.returns-in_err-finish-clause-part
returns-in_err-finish-clause-part g c =
    let is : c.from_residual-in_err-finish.result ≡ Err (Play Write) = search rules in
    rw is (λ studio datagrams run played are.
    part_of_all studio (g.E.EventSource.events c.args.source.now) _ _ _ _ _ _ _ _ c.write_datagrams.new.session datagrams (c.in_ok-write_datagrams.ensures.ok studio run played) are)
