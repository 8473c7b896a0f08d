use Rattle.std.proofs.Common.{rules, refl}
use Rattle.studio_io.proofs.SumLemmas.{sums-answer}
use Rattle.studio_rings.proofs.MixWorkerLemmas.{mixes-idle, mixes-one}
use Rattle.studio_rings.proofs.worker.mixer.mix_once.Goals as goal

pub returns-then-is_none-clause-mixes : goal.returns-then-is_none-clause-mixes
returns-then-is_none-clause-mixes g c = let t = c.turn-note.ensures in mixes-idle g.K.Sink.handed _ _ _ _ _ _ _ (search rules) t.taken t.given (t.all (search rules))

pub returns-then-is_none-clause-sums : goal.returns-then-is_none-clause-sums
returns-then-is_none-clause-sums g c = λ before h. h

pub returns-clause-mixes : goal.returns-clause-mixes
returns-clause-mixes g c = let t = c.turn-note.ensures in
    mixes-one g.K.Sink.handed _ _ _ _ _ _ _ _ _ _ _ (search rules) c.add.ensures.blocks c.datagram_len-len.ensures.value refl t.taken t.mixes t.given c.send_block-answer.ensures.handed

pub returns-clause-sums : goal.returns-clause-sums
returns-clause-sums g c = sums-answer c.args.counts.now c.add.new.self c.send_block-answer.result c.add.ensures.blocks c.add.ensures.sent_a c.add.ensures.sent_b _ _ c.send_block-answer.ensures.answered
