use Rattle.std.proofs.Common.{◌≡◌, inr, subst, to_z, of_z, w64, rules}
use Rattle.std.proofs.lemmas.Int.{to_z-of_z}
use Rattle.rtp_stats.specs.Stats.{AreTold}
use Rattle.rtp_stats.proofs.channel.stream.StreamStatsSender.send.Goals as goal

pub returns-clause-told : goal.returns-clause-told
returns-clause-told c = λ stream offers told.
    let z : to_z w64 (of_z w64 c.args.now) ≡ c.args.now = to_z-of_z w64 c.args.now c.ranges.now in
    let stats = c.stream_stats-stats.result in
    inr (
      stats,
      search rules,
      c.try_send.ensures.given,
      subst (λ now. AreTold stream offers c.args.counts now stats) z (c.stream_stats-stats.ensures.told stream offers told),
    )
