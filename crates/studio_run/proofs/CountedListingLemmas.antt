-- Why the listing of a trace and its counts are not both written.
use Rattle.std.proofs.Common.{inl, inr, ℕ, List, Option}
use Rattle.studio_config.specs.Studio.{Studio}
use Rattle.studio_session.specs.Event.{TraceEvent}
use Rattle.studio_run.specs.Play.{IsListing}
use Rattle.studio_run.specs.CountedListing.{FailsWithCounts, FailsWithCountsOf, ReadsEvents}
use Rattle.studio_run.specs.declared.player.PlayFault.{PlayFault}
use Rattle.studio_run.proofs.PlayLemmas.{fails_later, fails_read}

-- the events were read, and then writing failed
pub fails_with_counts : (studio : Studio) (left left_then : Option (List ℕ)) (events : List TraceEvent) (a b x y : Option (List ℕ)) (fault : PlayFault) (reads : ReadsEvents studio left left_then events)
    → FailsWithCounts studio events a b x y fault → FailsWithCountsOf studio left left_then a b x y fault
fails_with_counts studio left left_then events a b x y fault reads (inl (listing, none)) =
    inl (fails_read studio IsListing left left_then reads.trace a b fault reads.read reads.end (fails_later studio IsListing reads.trace events a b fault reads.said reads.runs listing), none)
fails_with_counts studio left left_then events a b x y fault reads (inr breaks) = inr (record { events = events; reads = reads; breaks = breaks })
