-- Why a report and its file were not written.
use Rattle.std.proofs.Common.{ℕ, List, Option}
use Rattle.std.specs.Io.KnownBytes.{Consumes, IsAtEnd}
use Rattle.studio_config.specs.Studio.{Studio}
use Rattle.studio_run.specs.Play.{StopsAt, StopsReading}
use Rattle.studio_run.specs.StudioReport.{IsReport}
use Rattle.studio_run.specs.declared.player.PlayFault.{PlayFault}
use Rattle.studio_run.specs.declared.player.PlayFault.TheVariants.{Read, Memory, Trace, Run, Write}
use Rattle.studio_run.proofs.PlayLemmas.{fails_before, fails_read, fails_reading}
use Rattle.wav_runs.specs.declared.fault.WavRunFault.{WavRunFault}
use Rattle.wav_runs.specs.declared.fault.WavRunFault.TheVariants.{Play, Stream, File}
use Rattle.wav_runs.specs.MixRun.{BreaksOffRecording, FailsRecording, IsOfWriters}

-- the input is no trace
pub fails_unread : (studio : Studio) (left left_then a : Option (List ℕ)) (fault : PlayFault) → StopsReading left left_then fault → FailsRecording studio left left_then a a (Play fault)
fails_unread studio left left_then a Read stops = fails_reading studio IsReport left left_then a Read stops
fails_unread studio left left_then a Memory stops = fails_reading studio IsReport left left_then a Memory stops
fails_unread studio left left_then a (Trace fault) stops = fails_reading studio IsReport left left_then a (Trace fault) stops
fails_unread studio left left_then a (Run fault) stops = absurd stops
fails_unread studio left left_then a Write stops = absurd stops

-- the trace has no events that run
pub fails_early : (studio : Studio) (left left_then : Option (List ℕ)) (trace : List ℕ) (a : Option (List ℕ)) (fault : PlayFault) → Consumes left left_then trace → IsAtEnd left_then
    → StopsAt studio trace fault → FailsRecording studio left left_then a a (Play fault)
fails_early studio left left_then trace a Memory read end stops = fails_read studio IsReport left left_then trace a a Memory read end (fails_before studio IsReport trace a Memory stops)
fails_early studio left left_then trace a (Trace fault) read end stops = fails_read studio IsReport left left_then trace a a (Trace fault) read end (fails_before studio IsReport trace a (Trace fault) stops)
fails_early studio left left_then trace a (Run fault) read end stops = fails_read studio IsReport left left_then trace a a (Run fault) read end (fails_before studio IsReport trace a (Run fault) stops)
fails_early studio left left_then trace a Read read end stops = absurd stops
fails_early studio left left_then trace a Write read end stops = absurd stops

-- a writer's fault
pub fails_late : (studio : Studio) (left left_then a b : Option (List ℕ)) (fault : WavRunFault) → IsOfWriters fault → BreaksOffRecording studio left left_then a b
    → FailsRecording studio left left_then a b fault
fails_late studio left left_then a b (Play Read) is broke = absurd is
fails_late studio left left_then a b (Play Memory) is broke = absurd is
fails_late studio left left_then a b (Play (Trace fault)) is broke = absurd is
fails_late studio left left_then a b (Play (Run fault)) is broke = absurd is
fails_late studio left left_then a b (Play Write) is broke = broke
fails_late studio left left_then a b (Stream fault) is broke = absurd is
fails_late studio left left_then a b (File fault) is broke = broke
