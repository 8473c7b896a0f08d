use Rattle.std.proofs.Common.{◌≡◌, true, refl, rules}
use Rattle.live_audio.proofs.AudioLemmas.{begun_next, unbegun, uncreated, unfinished}
use Rattle.live_audio.proofs.writer.AudioWriter.begin_part.Goals as goal

pub returns-then-not-finish_file-clause-ended : goal.returns-then-not-finish_file-clause-ended
returns-then-not-finish_file-clause-ended g c = λ none written. unfinished _ _ _ c.args.self.now c.args.parts.now written

pub returns-in-Ok-begin-clause-begun : goal.returns-in-Ok-begin-clause-begun
returns-in-Ok-begin-clause-begun g c = λ none written.
    let whole : c.finish_file.result ≡ true = search rules in
    begun_next _ _ _ _ _ _ c.args.self.now c.args.parts.now _ c.chunk_of.result.items written none (c.finish_file.ensures whole) c.in-Ok.ensures.closes c.in-Ok.ensures.empty
    c.in-Ok-begin.ensures.empty c.in-Ok-begin.ensures.ok c.in-Ok-begin.ensures.size c.saturating_add-at.ensures c.chunk_of.ensures refl refl

pub returns-in-Err-begin-clause-ended : goal.returns-in-Err-begin-clause-ended
returns-in-Err-begin-clause-ended g c = λ none written.
    let whole : c.finish_file.result ≡ true = search rules in
    unbegun _ _ _ _ _ c.args.self.now c.args.parts.now c.saturating_add-at.result c.chunk_of.result.items written none (c.finish_file.ensures whole) c.in-Ok.ensures.closes c.saturating_add-at.ensures
    c.chunk_of.ensures

pub returns-in-Err-clause-ended : goal.returns-in-Err-clause-ended
returns-in-Err-clause-ended g c = λ none written.
    let whole : c.finish_file.result ≡ true = search rules in
    uncreated _ _ _ _ _ c.args.self.now c.args.parts.now written (c.finish_file.ensures whole) c.in-Err.ensures.same c.in-Err.ensures.kept
