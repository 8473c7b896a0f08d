use Rattle.std.proofs.Common.{◌≡◌, ℤ, Option, Some, None, MatchOption, option_copied, slice_get, refl, sym, ap, subst, ◌∙◌, w64}
use Rattle.std.proofs.lemmas.Int.{to_z-of_z}
use Rattle.status_page.specs.declared.snapshot.PathState.{PathState}
use Rattle.live_status.specs.Watch.{IsNoted}
use Rattle.live_status.proofs.EngineStatusLemmas.{found-at}
use Rattle.live_status.proofs.reception_watch.stream_watch.note_path_at.Goals as goal

pub returns-in-Some : goal.returns-in-Some
returns-in-Some c =
    let new = c.note.new.self in
    let old = c.args.watch.now in
    let path = c.in-Some.path.now in
    let at : slice_get c.args.paths.now c.args.place ≡ Some path = sym (found-at c.args.paths.now c.args.place c.get.result c.get.ensures.lookup.1 c.get.ensures.lookup.3) ∙ ap option_copied c.in-Some.is in
    let this : IsNoted c.args.now c.args.window_span c.args.begins path old new = subst (λ (now : ℤ). IsNoted now c.args.window_span c.args.begins path old new) (to_z-of_z w64 c.args.now c.ranges.now) c.note.ensures in
    subst (λ (o : Option PathState). MatchOption o (new ≡ old) (λ p. IsNoted c.args.now c.args.window_span c.args.begins p old new)) (sym at) this

pub returns-in_default : goal.returns-in_default
returns-in_default c =
    let old = c.args.watch.now in
    let at : slice_get c.args.paths.now c.args.place ≡ None = sym (found-at c.args.paths.now c.args.place c.get.result c.get.ensures.lookup.1 c.get.ensures.lookup.3) ∙ ap option_copied c.in_default.is in
    subst (λ (o : Option PathState). MatchOption o (old ≡ old) (λ p. IsNoted c.args.now c.args.window_span c.args.begins p old old)) (sym at) refl
