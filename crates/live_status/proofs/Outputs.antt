-- Output channels that were filled in with the statistics of a mix.
use Rattle.std.proofs.Common.{◌≡◌, ℕ, ◌<◌, ◌≤◌, List, length, slice_get, Option, Some, None, IfSome, refl, ap, ◌∙◌, arith}
use Rattle.std.proofs.lemmas.Grind.{get_or_default_zero}
use Rattle.std.proofs.lemmas.Option.{get_or_from_slice_get, slice_get_within}
use Rattle.rtp_stats.specs.Stats.{IsByChannel}
use Rattle.rtp_stats.specs.declared.stats.MixStats.{MixStats}
use Rattle.status_page.specs.declared.snapshot.ChannelState.{ChannelState}
use Rattle.live_status.specs.Each.{AreEach}
use Rattle.live_status.specs.Outputs.{HasNumbers}

channel_count : (saturated : List ℕ) (stats : MixStats) (channel count : ℕ) (old new : ChannelState) → length saturated ≤ 8 → IsByChannel saturated stats → HasNumbers stats channel old new → slice_get saturated channel ≡ Some count
    → new.saturated ≡ count
channel_count saturated stats channel count old new few by has at =
    let within = slice_get_within saturated channel count at in
    let eight = by.0 in
    let below : channel < 8 = omega (arith, within, few) in
    ap (λ (o : ChannelState). o.saturated) has
    ∙ get_or_default_zero stats.saturated channel old.saturated (omega (arith, below, eight))
    ∙ by.1 channel below
    ∙ get_or_from_slice_get saturated channel count 0 at

of_channel : (saturated : List ℕ) (channel : ℕ) (new : ChannelState) (found : Option ℕ) → slice_get saturated channel ≡ found → ((count : ℕ) → slice_get saturated channel ≡ Some count → new.saturated ≡ count)
    → IfSome found (λ count. new.saturated ≡ count)
of_channel saturated channel new None at is = tt
of_channel saturated channel new (Some count) at is = is count at

-- each channel has its count
pub counts_shown : (saturated : List ℕ) (stats : MixStats) (olds news : List ChannelState) → length saturated ≤ 8 → IsByChannel saturated stats → AreEach (HasNumbers stats) olds news
    → AreEach (λ channel (old new : ChannelState). IfSome (slice_get saturated channel) (λ count. new.saturated ≡ count)) olds news
counts_shown saturated stats olds news few by has = record {
  length_is = has.length_is;
  each = λ channel old new at_old at_new.
      of_channel saturated channel new (slice_get saturated channel) refl (λ count at. channel_count saturated stats channel count old new few by (has.each channel old new at_old at_new) at);
}
