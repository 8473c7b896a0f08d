use Rattle.std.proofs.Common.{◌≡◌, Err, rules}
use Rattle.live_audio.proofs.AudioLemmas.{then_err, then_ok}
use Rattle.live_audio.proofs.writer.AudioWriter.write_chunk.Goals as goal

pub returns-in_err-move_blocks-clause-failed : goal.returns-in_err-move_blocks-clause-failed
returns-in_err-move_blocks-clause-failed g c =
    let is : c.from_residual.result ≡ Err c.in_err-move_blocks.field-0.0 = search rules in
    rw is (λ past written. c.in_err-move_blocks.ensures.failed past written.moved)

pub returns-clause-written : goal.returns-clause-written
returns-clause-written g c = then_ok c.renew_if_due.result (λ renewed past written. renewed past (c.in_ok-move_blocks.ensures.moved past written.moved)) c.renew_if_due.ensures.renewed

pub returns-clause-failed : goal.returns-clause-failed
returns-clause-failed g c = then_err c.renew_if_due.result (λ failed past written. failed past (c.in_ok-move_blocks.ensures.moved past written.moved)) c.renew_if_due.ensures.failed
