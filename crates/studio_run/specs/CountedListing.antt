-- A listing, and the lines of the counts.
use Rattle.std.specs.Prelude.{◌≡◌, List, ℕ, [], Option, None, Ok, ◌⊎◌}
use Rattle.std.specs.Io.KnownBytes.{Appends, Consumes, IsAtEnd}
use Rattle.studio_config.specs.Studio.{Studio}
use Rattle.studio_session.specs.Event.{TraceEvent}
use Rattle.studio_session.specs.Fault.{session_fault_of}
use Rattle.studio_run.specs.Buffer.{BreaksOff}
use Rattle.studio_run.specs.Trace.{trace_events}
use Rattle.studio_run.specs.Listing.{counts_text_of, listing_text}
use Rattle.studio_run.specs.Play.{FailsOf, FailsWriting, IsListing}
use Rattle.studio_run.specs.declared.player.PlayFault.{PlayFault}
use Rattle.studio_run.specs.declared.player.PlayFault.TheVariants.{Write}

-- the listing of these events was written, and the lines of their counts to another writer
pub record ListsAndCounts (studio : Studio) (events : List TraceEvent) (written written_then counted counted_then : Option (List ℕ)) : Type 0 where
  pub listing : Appends written written_then (listing_text studio events)
  pub counts : Appends counted counted_then (counts_text_of studio events)

-- the listing was written, and a prefix of the counts, but not all of them
pub record BreaksOffCounts (studio : Studio) (events : List TraceEvent) (written written_then counted counted_then : Option (List ℕ)) (fault : PlayFault) : Type 0 where
  pub fault_is : fault ≡ Write
  pub listing : Appends written written_then (listing_text studio events)
  pub part : BreaksOff counted [] counted_then (counts_text_of studio events)

-- why the listing and the counts were not both written: the listing failed, and none of the counts was written; or the
-- writing of the counts broke off
abbrev pub FailsWithCounts : Studio → List TraceEvent → Option (List ℕ) → Option (List ℕ) → Option (List ℕ) → Option (List ℕ) → PlayFault → Type 0
FailsWithCounts studio events written written_then counted counted_then fault =
    (FailsWriting studio IsListing events written written_then fault × (counted_then ≡ counted))
    ⊎ BreaksOffCounts studio events written written_then counted counted_then fault

-- all that was left of an input is a trace, and its events have no fault
pub record ReadsEvents (studio : Studio) (left left_then : Option (List ℕ)) (events : List TraceEvent) : Type 0 where
  pub trace : List ℕ
  pub read : Consumes left left_then trace
  pub end : IsAtEnd left_then
  pub said : trace_events trace ≡ Ok events
  pub runs : session_fault_of studio events ≡ None

-- an input was read to its end; the listing of its events was written, and the lines of their counts
pub record ListsAndCountsOf (studio : Studio) (left left_then written written_then counted counted_then : Option (List ℕ)) : Type 0 where
  pub events : List TraceEvent
  pub reads : ReadsEvents studio left left_then events
  pub lists : ListsAndCounts studio events written written_then counted counted_then

-- an input was read to its end; the listing of its events was written, and a prefix of the lines of their counts
pub record BreaksOffCountsOf (studio : Studio) (left left_then written written_then counted counted_then : Option (List ℕ)) (fault : PlayFault) : Type 0 where
  pub events : List TraceEvent
  pub reads : ReadsEvents studio left left_then events
  pub breaks : BreaksOffCounts studio events written written_then counted counted_then fault

-- why the listing and the counts of an input were not both written: the listing failed, and none of the counts was
-- written; or the writing of the counts broke off
abbrev pub FailsWithCountsOf : Studio → Option (List ℕ) → Option (List ℕ) → Option (List ℕ) → Option (List ℕ) → Option (List ℕ) → Option (List ℕ) → PlayFault → Type 0
FailsWithCountsOf studio left left_then written written_then counted counted_then fault =
    (FailsOf studio IsListing left left_then written written_then fault × (counted_then ≡ counted))
    ⊎ BreaksOffCountsOf studio left left_then written written_then counted counted_then fault
