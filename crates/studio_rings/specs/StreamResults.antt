-- The results of all streams together.
use Rattle.std.specs.Prelude.{ℕ, List, [], map, flat_map, Option}
use Rattle.studio_config.specs.Studio.{Studio}
use Rattle.studio_ends.specs.Datagrams.{HasGiven}
use Rattle.studio_ends.specs.FreshEnds.{AllFreshRings, AllFreshStreams}
use Rattle.studio_ends.specs.declared.ends.Ends.{Ends}
use Rattle.studio_ends.specs.declared.monitor_end.MonitorEnd.{MonitorEnd}
use Rattle.studio_ends.specs.declared.stream_end.turns.StreamDone.{StreamDone}
use Rattle.rtp_stream.specs.declared.stream_counts.StreamCounts.{StreamCounts}
use Rattle.studio_rings.specs.declared.jobs.StreamResult.{StreamResult}

-- the ends were opened together and not used yet; the monitors' ends may have been taken out
pub record AreOpenedTogether (studio : Studio) (places : ℕ) (ends : Ends) : Type 0 where
  pub streams : AllFreshStreams studio.open_at places studio.streams ends.paths.items ends.streams.items
  pub monitors : List MonitorEnd
  pub rings : AllFreshRings places ends.streams.items monitors ends.mix.sides.items
  pub mix : HasGiven studio ends.mix []

abbrev pub dones_in : List StreamResult → List (Option StreamDone)
dones_in results = map (λ (result : StreamResult). result.done) results

abbrev pub counts_in : List StreamResult → List StreamCounts
counts_in results = map (λ (result : StreamResult). result.counts) results

-- the number of faults of each feed, ordered by stream and then by path
abbrev pub faults_in : List StreamResult → List ℕ
faults_in results = flat_map (λ (result : StreamResult). result.faults.items) results
