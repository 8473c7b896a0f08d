-- The numbers of output channels in a snapshot.
use Rattle.std.specs.Prelude.{◌≡◌, ℕ, slice_index_or}
use Rattle.rtp_stats.specs.declared.stats.MixStats.{MixStats}
use Rattle.status_page.specs.declared.snapshot.ChannelState.{ChannelState}

-- a channel with all counts 0
abbrev pub blank_output : ChannelState
blank_output = record { peak = 0; saturated = 0 }

-- the channel at a place has the peak and the count at that place, as far as there are any
abbrev pub HasNumbers : MixStats → ℕ → ChannelState → ChannelState → Type 0
HasNumbers numbers place old new = new ≡ record { peak = slice_index_or numbers.peaks place old.peak; saturated = slice_index_or numbers.saturated place old.saturated }
