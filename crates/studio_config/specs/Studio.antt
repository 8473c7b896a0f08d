-- The parts of a studio that are fixed before anything happens.
use Rattle.std.specs.Prelude.{◌≡◌, ℕ, ◌^◌, ◌≤◌, ℤ, pos, ◌≤ℤ◌, List, length, sum_by}
use Rattle.rtp_stream.specs.declared.stream_spec.Stream.{Stream}
use Rattle.gain_mix.specs.Gain.{ins_of}
use Rattle.gain_mix.specs.Changes.{Changes}
use Rattle.mix_packets.specs.declared.out_spec.Output.{Output}
use Rattle.studio_config.specs.declared.ports.Ports.{Ports}
use Rattle.studio_config.specs.declared.networks.Networks.{Networks}
use Rattle.studio_config.specs.declared.output_clock.OutputClock.{OutputClock}

-- the specification of a studio, as contracts see it
pub record Studio : Type 0 where
  pub open_at : ℤ
  pub streams : List Stream
  pub output : Output
  pub clock : OutputClock
  pub schedule : Changes
  pub ports : Ports
  pub networks : Networks
  -- the delay of the output's copies in which a stream is missing
  pub late : ℕ

-- the number of channels of all streams
abbrev pub channel_total : List Stream → ℕ
channel_total streams = sum_by (λ (stream : Stream). stream.channels) streams

-- a studio opens at a time from 0 to 2 ^ 60 and has 1 to 16 streams; its first matrix has a row for each channel of the
-- output, and in each row a gain for each channel of the streams
pub record IsStudio (studio : Studio) : Type 0 where
  pub open_low : pos 0 ≤ℤ studio.open_at
  pub open_high : studio.open_at ≤ℤ pos (2 ^ 60)
  pub some_streams : 1 ≤ length studio.streams
  pub few_streams : length studio.streams ≤ 16
  pub outs : length studio.schedule.first ≡ studio.output.channels
  pub ins : ins_of studio.schedule.first ≡ channel_total studio.streams
