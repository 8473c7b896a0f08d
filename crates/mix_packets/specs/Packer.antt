-- The state of a packer as contracts see it, and what holds for every packer.
use Rattle.std.specs.Prelude.{◌≡◌, ℕ}
use Rattle.mix_packets.specs.declared.out_spec.Output.{Output}
use Rattle.mix_packets.specs.OutSpec.{IsOutput}
use Rattle.mix_packets.specs.Block.{sequence_number_of, timestamp_of}

-- an output, and the number of the block that is next
pub record PackerState : Type 0 where
  pub spec : Output
  pub number : ℕ

-- the sequence number and the timestamp that are kept for the next header are those of the next block
pub record IsInStep (packer : PackerState) (seq ts : ℕ) : Type 0 where
  pub spec_ok : IsOutput packer.spec
  pub seq_is : seq ≡ sequence_number_of packer.spec packer.number
  pub ts_is : ts ≡ timestamp_of packer.spec packer.number
