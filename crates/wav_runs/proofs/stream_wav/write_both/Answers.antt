use Rattle.std.proofs.Common.{◌≡◌, Err, All, length, rules, sym, subst, arith, to_z, of_z, w64}
use Rattle.std.proofs.lemmas.Int.{ints}
use Rattle.studio_session.specs.Cursor.{HasPulled, IsReadyFor}
use Rattle.studio_session.specs.Play.{AreNew}
use Rattle.studio_run.specs.declared.player.PlayFault.TheVariants.{Write}
use Rattle.wav_runs.specs.declared.fault.WavRunFault.TheVariants.{Play}
use Rattle.wav_runs.proofs.StreamRunLemmas.{broken_listing, ready_for}
use Rattle.wav_runs.proofs.stream_wav.write_both.Goals as goal

pub write_stream_wav-requires-clause-ready : goal.write_stream_wav-requires-clause-ready
write_stream_wav-requires-clause-ready g c =
    let events = c.args.events.now in
    ready_for c.args.stream c.args.number (to_z w64 (of_z w64 c.open_at.result)) events c.in_ok-cursor.cursor c.in_ok-cursor.ensures.first
    (c.in_ok-cursor.ensures.stands events) (c.requires.paths.each c.args.number c.args.stream c.requires.is)

pub write_whole_listing-requires-clause-ready : goal.write_whole_listing-requires-clause-ready
write_whole_listing-requires-clause-ready g c =
    subst (All (IsReadyFor c.args.events.now)) (sym c.as_mut_slice.ensures.value) (c.in_ok-cursors.ensures.ready c.args.events.now c.requires.paths)

pub returns-in_err-write_whole_listing-clause-fault : goal.returns-in_err-write_whole_listing-clause-fault
returns-in_err-write_whole_listing-clause-fault g c =
    let spec = c.args.spec.now in
    let new = subst (λ cursors. AreNew spec.streams spec.open_at cursors (length spec.streams)) (sym c.as_mut_slice.ensures.value) c.in_ok-cursors.ensures.new in
    let is : c.from_residual-in_err-write_whole_listing.result ≡ Err (Play Write) = search rules in
    rw is (broken_listing spec c.args.events.now (g.W.Write.contents c.args.writer.now) (g.W.Write.contents c.write_whole_listing.new.writer)
    (c.in_err-write_whole_listing.ensures.fault spec c.requires.runnable new))

pub returns-clause-ok : goal.returns-clause-ok
returns-clause-ok g c =
    let spec = c.args.spec.now in
    let events = c.args.events.now in
    let new = subst (λ cursors. AreNew spec.streams spec.open_at cursors (length spec.streams)) (sym c.as_mut_slice.ensures.value) c.in_ok-cursors.ensures.new in
    let low = c.open_at.ensures.sound.open_low in
    let high = c.open_at.ensures.sound.open_high in
    let value = c.open_at.ensures.value in
    let open_at : to_z w64 (of_z w64 c.open_at.result) ≡ spec.open_at = omega (arith, ints, value, low, high) in
    record {
      listed = c.in_ok-write_whole_listing.ensures.ok spec c.requires.runnable new;
      made = g.M.File.Write.contents c.in_ok-file.file;
      empty = c.in_ok-file.ensures.empty;
      file = c.in_ok-write_stream_wav.ensures.ok c.args.stream c.args.number spec.open_at (c.requires.runnable.each c.args.number c.args.stream c.requires.is)
          (subst (λ t. HasPulled c.args.stream c.args.number t events c.in_ok-cursor.cursor 0) open_at (c.in_ok-cursor.ensures.stands events)) c.in_ok-file.ensures.empty;
    }
