use Rattle.std.proofs.lemmas.Grind.{pieces}
use Rattle.std.proofs.Common.{arith}
use Rattle.wav_runs.proofs.stream_events.StreamWav.begin.Goals as goal

pub returns-in-Ok-clause-head : goal.returns-in-Ok-clause-head
returns-in-Ok-clause-head c = search (pieces, arith)
