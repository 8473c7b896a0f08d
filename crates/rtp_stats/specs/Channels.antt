-- The values that go through the rings of a stream's numbers and of the mix's.
use Rattle.std.specs.Prelude.{◌≡◌, ◌⊎◌, ℕ, ◌<◌, ◌≤◌, max, List, length, drop, replicate, slice_index, ℤ, ◌<ℤ◌, ◌≤ℤ◌}
use Rattle.rtp_wire.specs.declared.encoding.Enc.{Enc}
use Rattle.rtrb.specs.declared.producer.Producer.{Producer}
use Rattle.rtp_stream.specs.declared.counts.Counts.{Counts}
use Rattle.rtp_stream.specs.declared.stream_spec.Stream.{Stream}
use Rattle.rtp_stats.specs.Offer.{Offer}
use Rattle.rtp_stats.specs.Peaks.{peak_of}
use Rattle.rtp_stats.specs.Channel.{Gives, GoesThrough, HasNoPlace}
use Rattle.rtp_stats.specs.Stats.{AreTold, IsByChannel}
use Rattle.rtp_stats.specs.declared.channel.mix_sender.MixStatsSender.{MixStatsSender}
use Rattle.rtp_stats.specs.declared.stats.MixStats.{MixStats}
use Rattle.rtp_stats.specs.declared.stats.StreamStats.{StreamStats}

-- once the clock has reached `next`, these numbers went through the ring, if there was space; before it nothing did
abbrev pub Tells : {A P : Type 0} → Stream → List Offer → Counts → ℤ → ℤ → Producer StreamStats A P → Producer StreamStats A P → Type 0
Tells stream offers counts next now old new =
    ((now <ℤ next) × (new ≡ old)) ⊎ ((numbers : StreamStats) × (next ≤ℤ now) × Gives numbers old new × AreTold stream offers counts now numbers)

-- the peaks, raised by a datagram's samples, which follow its header of 12 octets; places past the channels do not
-- change
pub record AreRaised (enc : Enc) (channels : ℕ) (datagram old new : List ℕ) : Type 0 where
  pub length_is : length new ≡ length old
  pub raised : (channel : ℕ) → channel < channels → slice_index new channel ≡ max (slice_index old channel) (peak_of enc (drop 12 datagram) channels channel)
  pub same : (channel : ℕ) → channels ≤ channel → slice_index new channel ≡ slice_index old channel

-- the peaks of no samples
abbrev pub no_peaks : List ℕ
no_peaks = replicate 8 0

-- numbers with these counts, and with the peaks raised by this datagram, went through the ring, and the peaks begin
-- again; or there was no place for them, and the raised peaks are kept
pub record TellsMix (counts datagram : List ℕ) (old new : MixStatsSender) : Type 0 where
  pub numbers : MixStats
  pub counted : IsByChannel counts numbers
  pub raised : AreRaised old.enc old.channels datagram old.peaks numbers.peaks
  pub told : (GoesThrough numbers old.ring new.ring × (new.peaks ≡ no_peaks)) ⊎ (HasNoPlace old.ring new.ring × (new.peaks ≡ numbers.peaks))
