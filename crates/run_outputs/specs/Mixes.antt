-- The datagrams of a mix with their blocks, as the outputs that take them see them.
use Rattle.std.specs.Prelude.{ℕ, ℤ, List, [], false}
use Rattle.studio_io.specs.declared.mixed_block.Missing.{Missing}
use Rattle.studio_io.specs.declared.mixed_block.MixedBlock.{MixedBlock}

-- a datagram of the mix, the inputs of its block before any gain, and what was missing in it
pub record Mixed : Type 0 where
  pub datagram : List ℕ
  pub inputs : List ℤ
  pub missing : Missing

abbrev pub mixed_of : List ℕ → MixedBlock → Mixed
mixed_of datagram block = record { datagram = datagram; inputs = block.inputs.now; missing = block.missing }

-- a datagram of whose block nothing is known
abbrev pub mixed_alone : List ℕ → Mixed
mixed_alone datagram = record { datagram = datagram; inputs = []; missing = record { streams = 0; is_empty = false } }
