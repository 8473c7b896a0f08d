use Rattle.std.proofs.Common.{◌≡◌, pos, ◌+ℤ◌, ◌-ℤ◌, ◌^◌, to_z, of_z, w64, arith, sym, ap, subst, ◌∙◌}
use Rattle.std.specs.Int.{saturate_signed}
use Rattle.std.proofs.lemmas.Int.{ints, to_z-of_z}
use Rattle.rtp_stream.specs.Anchor.{deadline_of}
use Rattle.rtp_stream.specs.Nearest.{IsNearest}
use Rattle.rtp_stats.proofs.DeadlineLemmas.{deadline_told}
use Rattle.rtp_stats.proofs.deadlines.deadline_from.Goals as goal

pub returns : goal.returns
returns c stream anchor before number known grid nearby short =
    let from : to_z w64 (of_z w64 c.from-from.result) ≡ pos c.args.known_ts = omega (arith, ints, c.from-from.ensures, c.ranges.known_ts) in
    let told = deadline_told stream anchor before number c.args.known_ts c.args.ts c.args.known_at c.near32.result known grid nearby short (λ n nearest. c.near32.ensures.only n (subst (λ r. IsNearest (2 ^ 31) c.args.ts r n) (sym from) nearest)) in
    let at = to_z-of_z w64 c.args.known_at c.ranges.known_at in
    let low = c.near32.ensures.nearest.not_below in
    let high = c.near32.ensures.nearest.below in
    let apart : to_z w64 (of_z w64 (to_z w64 (of_z w64 c.near32.result) -ℤ to_z w64 (of_z w64 c.from-from.result))) ≡ c.near32.result -ℤ pos c.args.known_ts = omega (arith, ints, from, low, high, c.ranges.known_ts) in
    let is : c.saturating_add.result ≡ deadline_of stream anchor number = c.saturating_add.ensures ∙ ap (λ z. saturate_signed w64 (z +ℤ to_z w64 (of_z w64 (to_z w64 (of_z w64 c.near32.result) -ℤ to_z w64 (of_z w64 c.from-from.result))))) at ∙ ap (λ z. saturate_signed w64 (c.args.known_at +ℤ z)) apart ∙ told in
    omega (arith, ints, is, short.low, short.high)
