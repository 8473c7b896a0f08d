-- The snapshot that a page shows, after one snapshot more.
use Rattle.std.proofs.Common.{◌≡◌, List, [], ◌∷◌, ◌++◌, refl, sym, ap, ◌∙◌, append-nil, append_assoc}
use Rattle.status_page.specs.declared.snapshot.Snapshot.{Snapshot}
use Rattle.status_page.specs.Shown.{ShowsLast, last_of}

last_more : (before : Snapshot) (more later : List Snapshot) → last_of (last_of before more) later ≡ last_of before (more ++ later)
last_more before [] later = refl
last_more before (newer ∷ more) later = last_more newer more later

-- no snapshot was taken
pub shows_same : (taken now : List Snapshot) (old new : Snapshot) → now ≡ taken → new ≡ old → ShowsLast taken now old new
shows_same taken now old new same still = record { more = []; follow = same ∙ sym (append-nil taken); shown = still }

-- one was
pub shows_one : (taken now : List Snapshot) (old new newer : Snapshot) → now ≡ taken ++ newer ∷ [] → new ≡ newer → ShowsLast taken now old new
shows_one taken now old new newer follow is = record { more = newer ∷ []; follow = follow; shown = is }

pub shows_more : (taken then now : List Snapshot) (old between new : Snapshot) → ShowsLast taken then old between → ShowsLast then now between new → ShowsLast taken now old new
shows_more taken then now old between new first second = record {
  more = first.more ++ second.more;
  follow = second.follow ∙ ap (λ l. l ++ second.more) first.follow ∙ append_assoc taken first.more second.more;
  shown = second.shown ∙ ap (λ s. last_of s second.more) first.shown ∙ last_more old first.more second.more;
}
