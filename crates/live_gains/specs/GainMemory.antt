-- The memory for gains and times, which a message carries or does not.
use Rattle.std.specs.Prelude.{◌≡◌, ℕ, ℤ, List, [], length, Option, Some, None}
use Rattle.live_gains.specs.declared.page_requester.MessageMemory.{MessageMemory}

-- 1 if the memory is not here, and 0 if it is
abbrev pub missing : {T : Type 0} → Option T → ℕ
missing None = 1
missing (Some memory) = 0

-- the gains in a buffer after a copy from the memory: the memory's, if there are as many
abbrev pub CopiesIfFit : Option MessageMemory → List ℤ → List ℤ → Type 0
CopiesIfFit None before after = after ≡ before
CopiesIfFit (Some memory) before after = length memory.gains.items ≡ length before → after ≡ memory.gains.items

-- the times in the memory, if it is here
abbrev pub planned_in : Option MessageMemory → List ℤ
planned_in None = []
planned_in (Some memory) = memory.planned.items
