use Rattle.std.proofs.lemmas.Grind.{elements, common_steps}
use Rattle.std.proofs.Common.{arith}
use Rattle.wav_runs.proofs.stream_track.StreamTrack.add_next.Goals as goal

pub overflow_add-self : goal.overflow_add-self
overflow_add-self c = grind (arith, elements)

pub returns-in_err-add_slot-in-Slot-clause-part : goal.returns-in_err-add_slot-in-Slot-clause-part
returns-in_err-add_slot-in-Slot-clause-part c = grind (arith, common_steps)
