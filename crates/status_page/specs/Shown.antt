-- The snapshot that a page shows, by those that it took.
use Rattle.std.specs.Prelude.{◌≡◌, List, [], ◌∷◌, ◌++◌}
use Rattle.status_page.specs.declared.snapshot.Snapshot.{Snapshot}

-- the last of these snapshots, or the one before them if there is none
abbrev pub last_of : Snapshot → List Snapshot → Snapshot
last_of before [] = before
last_of before (newer ∷ later) = last_of newer later

-- further snapshots were taken, and the page shows the last one that was taken
pub record ShowsLast (taken now : List Snapshot) (old new : Snapshot) : Type 0 where
  pub more : List Snapshot
  pub follow : now ≡ taken ++ more
  pub shown : new ≡ last_of old more
