-- Why a trace was not drawn.
use Rattle.std.proofs.Common.{ℕ, List, Option}
use Rattle.studio_config.specs.Studio.{Studio}
use Rattle.studio_run.specs.Play.{FailsOf}
use Rattle.studio_run.specs.StudioReport.{IsReport}
use Rattle.studio_run.specs.declared.player.PlayFault.{PlayFault}
use Rattle.studio_run.specs.declared.player.PlayFault.TheVariants.{Read, Memory, Trace, Run, Write}
use Rattle.reception_chart.specs.Chart.{FailsDrawing}

-- a fault before the first write is the same as for the report
pub fails_early : (studio : Studio) (left left_then a b : Option (List ℕ)) (fault : PlayFault) → FailsOf studio IsReport left left_then a b fault
    → FailsDrawing studio left left_then a b fault
fails_early studio left left_then a b Read fails = fails
fails_early studio left left_then a b Memory fails = fails
fails_early studio left left_then a b (Trace fault) fails = fails
fails_early studio left left_then a b (Run fault) fails = fails
fails_early studio left left_then a b Write fails = tt
