use Rattle.std.proofs.Common.{[], All, inl, inr, length, refl, sym, subst}
use Rattle.studio_session.specs.Cursor.{IsReadyFor}
use Rattle.studio_session.specs.Play.{AreNew}
use Rattle.studio_run.specs.Buffer.{BreaksOff, PassesOn}
use Rattle.studio_run.specs.CountedListing.{FailsWithCounts}
use Rattle.studio_run.specs.Listing.{counts_text_of}
use Rattle.studio_run.specs.declared.player.PlayFault.TheVariants.{Memory, Write}
use Rattle.studio_run.proofs.BufferLemmas.{BreaksOff-finished, PassesOn-finished}
use Rattle.studio_run.proofs.PlayLemmas.{told}
use Rattle.studio_run.proofs.outputs.listing.write_both.Goals as goal

pub write_whole_listing-requires-clause-ready : goal.write_whole_listing-requires-clause-ready
write_whole_listing-requires-clause-ready g c =
    subst (λ l. All (IsReadyFor c.args.events.now) l) (sym c.as_mut_slice-cursors.ensures.value) (c.in_ok-cursors.ensures.ready c.args.events.now c.requires.paths)

pub returns-in_err-cursors-clause-fault : goal.returns-in_err-cursors-clause-fault
returns-in_err-cursors-clause-fault g c =
    let written = g.W.Write.contents c.args.writer.now in
    let counted = g.C.Write.contents c.args.counts.now in
    told (FailsWithCounts c.args.spec.now c.args.events.now written written counted counted) Memory c.from_residual.result c.from_residual.ensures.1 (inl (refl, refl))

pub returns-in_err-text-clause-fault : goal.returns-in_err-text-clause-fault
returns-in_err-text-clause-fault g c =
    let written = g.W.Write.contents c.args.writer.now in
    let counted = g.C.Write.contents c.args.counts.now in
    let answer = c.from_residual-in_err-text in
    told (FailsWithCounts c.args.spec.now c.args.events.now written written counted counted) Memory answer.result answer.ensures.1 (inl (refl, refl))

pub returns-in_err-write_whole_listing-clause-fault : goal.returns-in_err-write_whole_listing-clause-fault
returns-in_err-write_whole_listing-clause-fault g c =
    let studio = c.args.spec.now in
    let written = g.W.Write.contents c.args.writer.now in
    let written_then = g.W.Write.contents c.write_whole_listing.new.writer in
    let counted = g.C.Write.contents c.args.counts.now in
    let new = subst (λ l. AreNew studio.streams studio.open_at l (length studio.streams)) (sym c.as_mut_slice-cursors.ensures.value) c.in_ok-cursors.ensures.new in
    let answer = c.from_residual-in_err-write_whole_listing in
    told (FailsWithCounts studio c.args.events.now written written_then counted counted) Write answer.result answer.ensures.1
    (inl ((λ text is. subst (BreaksOff written [] written_then) (sym is) (c.in_err-write_whole_listing.ensures.fault studio c.requires.runnable new)), refl))

pub returns-in_err-write_counts-clause-fault : goal.returns-in_err-write_counts-clause-fault
returns-in_err-write_counts-clause-fault g c =
    let studio = c.args.spec.now in
    let events = c.args.events.now in
    let counted = g.C.Write.contents c.args.counts.now in
    let counted_then = g.C.Write.contents c.write_counts.new.writer in
    let new = subst (λ l. AreNew studio.streams studio.open_at l (length studio.streams)) (sym c.as_mut_slice-cursors.ensures.value) c.in_ok-cursors.ensures.new in
    let pulled = c.in_ok-write_whole_listing.ensures.pulled studio c.requires.runnable new in
    let answer = c.from_residual-in_err-write_counts in
    told (FailsWithCounts studio events (g.W.Write.contents c.args.writer.now) (g.W.Write.contents c.write_whole_listing.new.writer) counted counted_then) Write answer.result answer.ensures.1
    (inr (record {
      fault_is = refl;
      listing = c.in_ok-write_whole_listing.ensures.ok studio c.requires.runnable new;
      part = subst (λ h. BreaksOff counted h counted_then (counts_text_of studio events)) c.in_ok-write_whole_listing.ensures.empty
          (c.in_err-write_counts.ensures.fault studio c.requires.runnable pulled);
    }))

pub returns-in_err-finish-clause-fault : goal.returns-in_err-finish-clause-fault
returns-in_err-finish-clause-fault g c =
    let studio = c.args.spec.now in
    let events = c.args.events.now in
    let counted = g.C.Write.contents c.args.counts.now in
    let held = c.write_counts.new.text in
    let counts = counts_text_of studio events in
    let new = subst (λ l. AreNew studio.streams studio.open_at l (length studio.streams)) (sym c.as_mut_slice-cursors.ensures.value) c.in_ok-cursors.ensures.new in
    let pulled = c.in_ok-write_whole_listing.ensures.pulled studio c.requires.runnable new in
    let answer = c.from_residual-in_err-finish in
    told (FailsWithCounts studio events (g.W.Write.contents c.args.writer.now) (g.W.Write.contents c.write_whole_listing.new.writer) counted (g.C.Write.contents c.finish.new.writer)) Write answer.result answer.ensures.1
    (inr (record {
      fault_is = refl;
      listing = c.in_ok-write_whole_listing.ensures.ok studio c.requires.runnable new;
      part = BreaksOff-finished _ _ _ held counts
          (subst (λ h. PassesOn counted h (g.C.Write.contents c.write_counts.new.writer) held counts) c.in_ok-write_whole_listing.ensures.empty
          (c.in_ok-write_counts.ensures.ok studio c.requires.runnable pulled)) c.in_err-finish.ensures.fault;
    }))

pub returns-clause-ok : goal.returns-clause-ok
returns-clause-ok g c =
    let studio = c.args.spec.now in
    let events = c.args.events.now in
    let held = c.write_counts.new.text in
    let counts = counts_text_of studio events in
    let new = subst (λ l. AreNew studio.streams studio.open_at l (length studio.streams)) (sym c.as_mut_slice-cursors.ensures.value) c.in_ok-cursors.ensures.new in
    let pulled = c.in_ok-write_whole_listing.ensures.pulled studio c.requires.runnable new in
    record {
      listing = c.in_ok-write_whole_listing.ensures.ok studio c.requires.runnable new;
      counts = PassesOn-finished _ _ _ held counts
          (subst (λ h. PassesOn (g.C.Write.contents c.args.counts.now) h (g.C.Write.contents c.write_counts.new.writer) held counts) c.in_ok-write_whole_listing.ensures.empty
          (c.in_ok-write_counts.ensures.ok studio c.requires.runnable pulled)) c.in_ok-finish.ensures.ok;
    }
