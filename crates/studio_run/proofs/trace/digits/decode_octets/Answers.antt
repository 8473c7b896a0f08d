use Rattle.std.proofs.Common.{◌≡◌, ℕ, ◌+◌, ◌*◌, ◌/◌, Some, length, take, subst, arith}
use Rattle.hex.proofs.Pairs.{decode_step}
use Rattle.studio_run.specs.Trace.{octets_of}
use Rattle.studio_run.proofs.DigitLemmas.{digits_of, is_some-true, octets_are}
use Rattle.studio_run.proofs.trace.digits.decode_octets.Goals as goal

pub loop-place-preserved : goal.loop-place-preserved
loop-place-preserved c =
    let text = c.args.text.now in
    let i = c.loop-place.place in
    let good = digits_of text (is_some-true (octets_of text) c.requires.good) in
    decode_step text c.loop-place.buffer i c.octet_of.result (omega arith) (omega arith) (c.octet_of.ensures (good (2 * i) 0 (omega arith)) (good (2 * i + 1) 0 (omega arith)) (2 * i)) c.loop-place.invariant

pub returns-clause-octets : goal.returns-clause-octets
returns-clause-octets c =
    let text = c.args.text.now in
    let done : c.loop-place.place ≡ length text / 2 = omega arith in
    subst (λ (n : ℕ). octets_of text ≡ Some (take n c.loop-place.buffer)) done (octets_are text c.loop-place.buffer c.loop-place.place (is_some-true (octets_of text) c.requires.good) (omega arith) c.loop-place.invariant)
