use Rattle.std.proofs.Common.{[], All, length, refl, sym, subst}
use Rattle.studio_session.specs.Cursor.{IsReadyFor}
use Rattle.studio_session.specs.Play.{AreNew}
use Rattle.studio_run.specs.Buffer.{BreaksOff}
use Rattle.studio_run.specs.Listing.{listing_text}
use Rattle.studio_run.specs.Play.{FailsWriting, IsListing}
use Rattle.studio_run.specs.declared.player.PlayFault.TheVariants.{Write}
use Rattle.studio_run.proofs.PlayLemmas.{told}
use Rattle.studio_run.proofs.player.write_listing_of.Goals as goal

pub write_whole_listing-requires : goal.write_whole_listing-requires
write_whole_listing-requires g c = record {
  empty = c.in_ok-text.ensures;
  ready = subst (λ l. All (IsReadyFor c.args.events.now) l) (sym c.as_mut_slice.ensures.value) (c.in_ok-cursors.ensures.ready c.args.events.now c.requires.paths);
}

pub returns-in_err-write_whole_listing-clause-fault : goal.returns-in_err-write_whole_listing-clause-fault
returns-in_err-write_whole_listing-clause-fault g c =
    let studio = c.args.spec.now in
    let written = g.W.Write.contents c.args.writer.now in
    let written_then = g.W.Write.contents c.write_whole_listing.new.writer in
    let new = subst (λ l. AreNew studio.streams studio.open_at l (length studio.streams)) (sym c.as_mut_slice.ensures.value) c.in_ok-cursors.ensures.new in
    let answer = c.from_residual-in_err-write_whole_listing in
    told (FailsWriting studio IsListing c.args.events.now written written_then) Write answer.result answer.ensures.1
    (λ text is. subst (BreaksOff written [] written_then) (sym is) (c.in_err-write_whole_listing.ensures.fault studio c.requires.runnable new))

pub returns-clause-ok : goal.returns-clause-ok
returns-clause-ok g c =
    let studio = c.args.spec.now in
    let new = subst (λ l. AreNew studio.streams studio.open_at l (length studio.streams)) (sym c.as_mut_slice.ensures.value) c.in_ok-cursors.ensures.new in
    record {
      text = listing_text studio c.args.events.now;
      is = refl;
      wrote = c.in_ok-write_whole_listing.ensures.ok studio c.requires.runnable new;
    }
