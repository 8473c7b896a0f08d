-- The place of a tracker in the events.
use Rattle.std.specs.Prelude.{◌≡◌, ◌+◌, ◌<◌, ℕ}

-- one event more was counted, unless the count is at its greatest
abbrev pub CountsOne : ℕ → ℕ → ℕ → Type 0
CountsOne most before after = before < most → after ≡ before + 1
