use Rattle.std.specs.Prelude.{option_copied}
use Rattle.std.proofs.Common.{◌+◌, ◌++◌, pos, drop, ap, sym, ◌∙◌}
use Rattle.rtp_stream.specs.MarkRef.{body_from}
use Rattle.lane_align.specs.HeldValues.{silence}
use Rattle.lane_align.specs.Presence.{body_presence}
use Rattle.lane_align.proofs.SlotLemmas.{presence_part}
use Rattle.lane_align.proofs.presence.add_presence.Goals as goal

pub returns-in-Some : goal.returns-in-Some
returns-in-Some c =
    c.add.ensures
    ∙ ap (λ xs. record c.args.presence.now { values = c.args.presence.now.values ++ (silence c.args.presence.now.channels (c.args.silent + c.args.gap) ++ xs) })
    (presence_part (pos 1) c.args.skipped c.from-frames.result c.args.frames c.from-frames.ensures c.requires.few
    ∙ ap (λ p. drop c.args.skipped (body_presence c.args.frames (body_from (option_copied p)))) (sym c.in-Some.is))

pub returns-in-None : goal.returns-in-None
returns-in-None c =
    c.add-in-None.ensures
    ∙ ap (λ xs. record c.args.presence.now { values = c.args.presence.now.values ++ (silence c.args.presence.now.channels (c.args.silent + c.args.gap) ++ xs) })
    (presence_part (pos 0) c.args.skipped c.from-frames.result c.args.frames c.from-frames.ensures c.requires.few
    ∙ ap (λ p. drop c.args.skipped (body_presence c.args.frames (body_from (option_copied p)))) (sym c.in-None.is))
