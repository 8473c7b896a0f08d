-- The studio that the configuration of an import is for, and texts that read back as it.
use Rattle.std.specs.Prelude.{◌≡◌, ℕ, zero, suc, ◌==◌, ℤ, pos, List, [], ◌∷◌, ◌++◌, min, Some, None, if◌then◌else◌}
use Rattle.toml.specs.Data.{Members}
use Rattle.toml.specs.Parse.{parse_document}
use Rattle.rtp_wire.specs.declared.encoding.Enc.TheVariants.{L24}
use Rattle.rtp_stream.specs.declared.stream_spec.Stream.{Stream}
use Rattle.gain_mix.specs.Gain.{rows_of}
use Rattle.gain_mix.specs.Changes.{Changes}
use Rattle.mix_packets.specs.declared.out_spec.Output.{Output}
use Rattle.studio_config.specs.Config.{config_fault_of, studio_of}
use Rattle.studio_config.specs.Studio.{Studio, channel_total}

-- the output has a channel for each input, but at most 8
abbrev pub output_channels : List Stream → ℕ
output_channels streams = min (channel_total streams) 8

abbrev pub imported_output : List Stream → ℕ → Output
imported_output streams frames = record { enc = L24; channels = output_channels streams; frames = frames; pt = 97; ssrc = 1; seq0 = 0; start = pos 0; offset = 0 }

-- the gain from an input to an output: 1 from the input with the output's number, and 0 from the others
abbrev pub unit_gain : ℕ → ℕ → ℤ
unit_gain output input = if output == input then pos 65536 else pos 0

-- an output's gains from this many inputs
abbrev pub unit_row : ℕ → ℕ → List ℤ
unit_row output zero = []
unit_row output (suc inputs) = unit_row output inputs ++ unit_gain output inputs ∷ []

-- the gains of this many outputs, row by row
abbrev pub unit_gains : ℕ → ℕ → List ℤ
unit_gains zero inputs = []
unit_gains (suc outputs) inputs = unit_gains outputs inputs ++ unit_row outputs inputs

-- each output has its own input, unchanged, and the gains never change
abbrev pub imported_gains : List Stream → Changes
imported_gains streams = record {
  first = rows_of (channel_total streams) (output_channels streams) (unit_gains (output_channels streams) (channel_total streams));
  later = [];
}

-- a studio that opens at 0, with these streams and the output of their first channels
pub record IsImported (studio : Studio) (streams : List Stream) (frames : ℕ) : Type 0 where
  pub open_at : studio.open_at ≡ pos 0
  pub has_streams : studio.streams ≡ streams
  pub output : studio.output ≡ imported_output streams frames
  pub gains : studio.schedule ≡ imported_gains streams

-- the text is a configuration without a fault, of that studio
pub record ReadsBack (text : List ℕ) (streams : List Stream) (frames : ℕ) : Type 0 where
  pub members : Members
  pub parsed : parse_document text ≡ Some members
  pub fine : config_fault_of members ≡ None
  pub studio : IsImported (studio_of members) streams frames
