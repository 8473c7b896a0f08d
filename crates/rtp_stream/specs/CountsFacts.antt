-- Numbers of arrivals by fate and path, and of slots by body.
use Rattle.std.specs.Prelude.{ℕ, zero, suc, ◌+◌, List, [], ◌∷◌}
use Rattle.rtp_stream.specs.declared.fate.Fate.{Fate}
use Rattle.rtp_stream.specs.declared.fate.Fate.TheVariants.{Closed, CountersFull, WrongSource, OffGrid, Late, Ahead, Taken, Double, Unlike, Restarted}
use Rattle.rtp_stream.specs.declared.mark.Body.{Body}
use Rattle.rtp_stream.specs.declared.mark.Body.TheVariants.{Got, Lost}

pub record Tally : Type 0 where
  pub arrived : ℕ
  pub taken : ℕ
  pub taken_by : List ℕ
  pub double : ℕ
  pub unlike : ℕ
  pub off_grid : ℕ
  pub late : ℕ
  pub ahead : ℕ
  pub wrong_source : ℕ
  pub got : ℕ
  pub lost : ℕ
  pub restarts : ℕ

abbrev pub empty_tally : Tally
empty_tally = record { arrived = 0; taken = 0; taken_by = 0 ∷ 0 ∷ 0 ∷ 0 ∷ []; double = 0; unlike = 0; off_grid = 0; late = 0; ahead = 0; wrong_source = 0; got = 0; lost = 0; restarts = 0 }

-- the list with one added to the number at this place
abbrev pub increased_at : ℕ → List ℕ → List ℕ
increased_at place [] = []
increased_at zero (x ∷ xs) = (x + 1) ∷ xs
increased_at (suc place) (x ∷ xs) = x ∷ increased_at place xs

-- the counts after one more arrival; an arrival after a close, or beyond the greatest count, changes nothing
abbrev pub with_fate : Tally → ℕ → Fate → Tally
with_fate t path Closed = t
with_fate t path CountersFull = t
with_fate t path WrongSource = record t { arrived = t.arrived + 1; wrong_source = t.wrong_source + 1 }
with_fate t path OffGrid = record t { arrived = t.arrived + 1; off_grid = t.off_grid + 1 }
with_fate t path Late = record t { arrived = t.arrived + 1; late = t.late + 1 }
with_fate t path Ahead = record t { arrived = t.arrived + 1; ahead = t.ahead + 1 }
with_fate t path Taken = record t { arrived = t.arrived + 1; taken = t.taken + 1; taken_by = increased_at path t.taken_by }
with_fate t path Double = record t { arrived = t.arrived + 1; double = t.double + 1 }
with_fate t path Unlike = record t { arrived = t.arrived + 1; unlike = t.unlike + 1 }
with_fate t path Restarted = record t { arrived = t.arrived + 1; taken = t.taken + 1; taken_by = increased_at path t.taken_by; restarts = t.restarts + 1 }

-- the counts after one more slot
abbrev pub with_body : Tally → Body → Tally
with_body t (Got payload) = record t { got = t.got + 1 }
with_body t Lost = record t { lost = t.lost + 1 }
