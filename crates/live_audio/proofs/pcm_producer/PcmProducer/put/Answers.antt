use Rattle.std.proofs.Common.{◌++◌, ◌∙◌, ap}
use Rattle.rtrb.specs.Ring.{sent}
use Rattle.live_audio.proofs.PcmLemmas.{leaves_out, produced_in, produced_out}
use Rattle.live_audio.proofs.pcm_producer.PcmProducer.put.Goals as goal

pub returns-then-not-opens-clause-produced : goal.returns-then-not-opens-clause-produced
returns-then-not-opens-clause-produced c = λ blocks produced.
    produced_out blocks _ _ _ (leaves_out _ c.opens.new.self _ (ap (λ r. sent r) c.opens.ensures.ring) c.opens.ensures.left_out c.leave_out.ensures.left_out) produced

pub returns-in-Ok-clause-produced : goal.returns-in-Ok-clause-produced
returns-in-Ok-clause-produced c = λ blocks produced.
    produced_in blocks _ _ _
    (c.in-Ok.ensures.ok.0 ∙ ap (λ r. sent r ++ c.samples_of.result.now) c.opens.ensures.ring ∙ ap (λ l. sent c.args.self.now.ring ++ l) c.samples_of.ensures)
    c.opens.ensures.left_out produced

pub returns-in-Err-clause-produced : goal.returns-in-Err-clause-produced
returns-in-Err-clause-produced c = λ blocks produced.
    produced_out blocks _ _ _
    (leaves_out _ _ _ (c.in-Err.ensures.full.0.1 ∙ ap (λ r. sent r) c.opens.ensures.ring) c.opens.ensures.left_out c.leave_out-in-Err.ensures.left_out) produced
