use Rattle.std.proofs.lemmas.Grind.{common_steps}
use Rattle.std.specs.Prelude.{option_copied}
use Rattle.std.proofs.Common.{◌≡◌, ap, sym, ◌∙◌, ◌*◌, length, take, arith, length-take}
use Rattle.rtp_stream.specs.MarkRef.{body_from}
use Rattle.lane_align.specs.Lane.{body_samples}
use Rattle.lane_align.proofs.SlotLemmas.{silence_at_front}
use Rattle.lane_align.proofs.slot_samples.read_slot.Goals as goal

pub returns-in-None-clause-samples : goal.returns-in-None-clause-samples
returns-in-None-clause-samples c =
    let n = c.args.format.frames * c.args.format.channels in
    let count : c.from.result * c.from-in-None.result ≡ n = ap (λ x. x * c.from-in-None.result) c.from.ensures ∙ ap (λ x. c.args.format.frames * x) c.from-in-None.ensures in
    let within = c.requires.count in
    let long = c.told-buffer in
    let part : length (take (c.from.result * c.from-in-None.result) c.args.buffer.now) ≡ n = length-take (c.from.result * c.from-in-None.result) c.args.buffer.now ∙ omega arith in
    silence_at_front n (length (take (c.from.result * c.from-in-None.result) c.args.buffer.now)) c.fill.new.self _ part (c.fill.ensures.after (λ y e. e))
    ∙ ap (λ p. body_samples c.args.format (body_from (option_copied p))) (sym c.in-None.is)

pub returns-in-Some-clause-samples : goal.returns-in-Some-clause-samples
returns-in-Some-clause-samples c = grind (arith, common_steps)
