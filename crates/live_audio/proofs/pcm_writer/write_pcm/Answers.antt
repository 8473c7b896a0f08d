use Rattle.std.proofs.Common.{sym, subst}
use Rattle.live_audio.specs.PcmWriter.{HasPiped, HasPipedAll}
use Rattle.live_audio.proofs.PcmLemmas.{all_same, piped_none}
use Rattle.live_audio.proofs.pcm_writer.write_pcm.Goals as goal

pub returns-then-is_last : goal.returns-then-is_last
returns-then-is_last g c = λ mix fresh.
    c.finish.ensures _ _
    (c.in-Ok-eq0.ensures.written _ (all_same _ _ _ _ c.is_last-is_last.ensures.same (c.turns.invariant _ (piped_none _ mix _ fresh))))
    (c.in-Ok-eq0.ensures.empty c.in-Ok-eq0.field-0-test)

pub returns-in-Some-open : goal.returns-in-Some-open
returns-in-Some-open g c = λ mix fresh.
    let before = g.D.Write.contents c.args.output.now in
    let all = c.in-Ok-eq0.ensures.written before (all_same _ _ _ _ c.is_last-is_last.ensures.same (c.turns.invariant before (piped_none before mix _ fresh))) in
    c.break_off.ensures before
    (subst (λ contents. HasPiped before contents c.open.new.self c.open.new.self.octets) (sym c.open.ensures.contents) (all_same _ _ _ _ c.open.ensures.same all).0)

pub turns-preserved-in-Ok-eq0 : goal.turns-preserved-in-Ok-eq0
turns-preserved-in-Ok-eq0 g c = λ before piped.
    subst (λ contents. HasPipedAll before contents c.open.new.self) (sym c.open.ensures.contents)
    (all_same _ _ _ _ c.open.ensures.same (c.in-Ok-eq0.ensures.written before (all_same _ _ _ _ c.is_last-is_last.ensures.same (c.turns.invariant before piped))))

pub turns-preserved : goal.turns-preserved
turns-preserved g c = λ before piped. c.in-Ok.ensures.written before (all_same _ _ _ _ c.is_last-is_last.ensures.same (c.turns.invariant before piped))

pub returns-in-Err : goal.returns-in-Err
returns-in-Err g c = λ mix fresh.
    c.break_off-in-Err.ensures _ (c.in-Err.ensures.stopped _ (all_same _ _ _ _ c.is_last-is_last.ensures.same (c.turns.invariant _ (piped_none _ mix _ fresh))))
