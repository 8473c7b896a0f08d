-- The report of a studio's events, and how far it was written.
use Rattle.std.specs.Prelude.{◌≡◌, ℕ, ◌<◌, ◌≤◌, List, ◌++◌, length, All, Option}
use Rattle.mix_packets.specs.OutSpec.{datagram_length}
use Rattle.mix_packets.specs.declared.out_spec.Output.{Output}
use Rattle.studio_config.specs.Studio.{Studio}
use Rattle.studio_session.specs.Cursor.{CursorState, IsReadyFor}
use Rattle.studio_session.specs.Event.{TraceEvent}
use Rattle.studio_session.specs.Play.{HasPlayed, SessionState}
use Rattle.studio_session.specs.Run.{AreDatagrams, HasGivenBlocks}
use Rattle.studio_run.specs.Buffer.{PassesOn}
use Rattle.studio_run.specs.Listing.{counts_text_of, datagrams_text}

-- a datagram of this output fits the buffer for a datagram, which has 1,452 octets
abbrev pub IsShort : Output → Type 0
IsShort out = datagram_length out ≤ 1452

-- a datagram of this output has samples
abbrev pub HasSamples : Output → Type 0
HasSamples out = 0 < out.frames

-- each cursor can go on with these events
abbrev pub AreReady : List TraceEvent → List CursorState → Type 0
AreReady events cursors = All (IsReadyFor events) cursors

-- a report of events: the lines of the datagrams of exactly the ready blocks, in order, and then those of the counts
pub record IsReport (studio : Studio) (events : List TraceEvent) (text : List ℕ) : Type 0 where
  pub datagrams : List (List ℕ)
  pub ready : AreDatagrams studio events datagrams
  pub whole : text ≡ datagrams_text datagrams ++ counts_text_of studio events

-- the lines of the datagrams of the blocks so far were added after the octets that the buffer held
pub record IsReporting (studio : Studio) (events : List TraceEvent) (written : Option (List ℕ)) (held : List ℕ) (session : SessionState) (written_then : Option (List ℕ)) (held_then : List ℕ) : Type 0 where
  pub datagrams : List (List ℕ)
  pub given : HasGivenBlocks studio events session datagrams
  pub wrote : PassesOn written held written_then held_then (datagrams_text datagrams)

-- the lines of the datagrams of all ready blocks were added after the octets that the buffer held
pub record HasReported (studio : Studio) (events : List TraceEvent) (written : Option (List ℕ)) (held : List ℕ) (session : SessionState) (written_then : Option (List ℕ)) (held_then : List ℕ) : Type 0 where
  pub datagrams : List (List ℕ)
  pub ready : AreDatagrams studio events datagrams
  pub played : HasPlayed studio events session (length datagrams)
  pub wrote : PassesOn written held written_then held_then (datagrams_text datagrams)

-- a report was added after the octets that the buffer held
pub record WritesReport (studio : Studio) (events : List TraceEvent) (written : Option (List ℕ)) (held : List ℕ) (written_then : Option (List ℕ)) (held_then : List ℕ) : Type 0 where
  pub report : List ℕ
  pub is : IsReport studio events report
  pub wrote : PassesOn written held written_then held_then report
