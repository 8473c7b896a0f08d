use Rattle.std.proofs.Common.{rules, ◌≡◌, ◌∙◌, ◌^◌, ◌<ℤ◌, ◌≤ℤ◌, ◌+ℤ◌, pos, ℤ, Option, Some, subst, sym, to_z, of_z, w64}
use Rattle.rtp_stats.specs.declared.channel.stream.StreamStatsSender.{StreamStatsSender}
use Rattle.rtp_stats.specs.Channels.{Tells}
use Rattle.studio_ends.specs.Stats.{TellsStream}
use Rattle.studio_ends.proofs.stream_end.turns.send_stats.Goals as goal

pub returns-in-Some : goal.returns-in-Some
returns-in-Some c =
    let at : to_z w64 (of_z w64 c.time.result) ≡ c.time.result = search rules in
    subst (λ (o : Option StreamStatsSender). TellsStream c.args.merge.now o (Some c.send.new.self)) (sym c.in-Some.is) (
      c.counts.result,
      c.counts.ensures,
      λ stream offers h.
          subst (λ (t : ℤ). Tells stream offers c.counts.result c.in-Some.sender.next t c.in-Some.sender.ring c.send.new.self.ring)
          (at ∙ c.time.ensures) (c.send.ensures.told stream offers h),
      c.send.ensures.tracker,
      subst (λ (t : ℤ). t <ℤ c.in-Some.sender.next → c.send.new.self.next ≡ c.in-Some.sender.next) (at ∙ c.time.ensures) c.send.ensures.early,
      subst (λ (t : ℤ). c.in-Some.sender.next ≤ℤ t → t ≤ℤ pos (2 ^ 62) → c.send.new.self.next ≡ t +ℤ pos 4800) (at ∙ c.time.ensures) c.send.ensures.waits,
    )
