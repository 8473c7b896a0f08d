use Rattle.std.proofs.Common.{◌≡◌, ◌∙◌, Err, refl, rules}
use Rattle.live_audio.proofs.AudioLemmas.{failed_more, moved_more}
use Rattle.live_audio.proofs.writer.AudioWriter.move_blocks.Goals as goal

pub returns-in_err-push-in-Ok-clause-failed : goal.returns-in_err-push-in-Ok-clause-failed
returns-in_err-push-in-Ok-clause-failed g c =
    let is : c.from_residual.result ≡ Err c.in_err-push-in-Ok.field-0.0 = search rules in
    rw is (λ past moved.
    failed_more past _ _ c.args.self.now _ c.args.parts.now _ c.in_err-push-in-Ok.ensures.fault.0 c.pop_entire_slice.new.slice c.in-Ok.ensures.ok.0 refl refl refl refl
    c.in_err-push-in-Ok.ensures.fault.1 c.in_err-push-in-Ok.ensures.same refl refl moved)

pub returns-in_ok-push-in-Ok-clause-moved : goal.returns-in_ok-push-in-Ok-clause-moved
returns-in_ok-push-in-Ok-clause-moved g c = λ past moved.
    moved_more past _ _ c.args.self.now _ c.args.parts.now _ c.args.blocks c.pop_entire_slice.new.slice (c.pop_entire_slice.auto.slice ∙ c.requires.size) c.in-Ok.ensures.ok.0 refl refl refl
    c.saturating_add-self.ensures c.requires.space c.in_ok-push-in-Ok.ensures.ok c.in_ok-push-in-Ok.ensures.counted refl refl refl moved
