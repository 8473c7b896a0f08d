-- The snapshots that a publisher sends.
use Rattle.std.specs.Prelude.{◌≡◌, ◌≤◌, ◌^◌, ◌-◌, ℕ, ℤ, pos, int_le, Bool, false, ◌||◌, List, length, replicate, Option, option_map, unwrap_or, IsNone, IsSomeAnd, MatchOption}
use Rattle.rtrb.specs.declared.producer.Producer.{Producer}
use Rattle.rtp_stats.specs.Channel.{Gives}
use Rattle.status_page.specs.declared.snapshot.Snapshot.{Snapshot}
use Rattle.live_status.specs.Each.{AreEach}
use Rattle.live_status.specs.Outputs.{blank_output}
use Rattle.live_status.specs.StreamStatus.{IsBlankOf}
use Rattle.live_status.specs.StreamWatch.{ShowsStreams}
use Rattle.live_status.specs.declared.reception_watch.stream_watch.StreamWatch.{StreamWatch}
use Rattle.live_status.specs.declared.count_lines.CountLines.{CountLines}
use Rattle.live_status.specs.declared.publisher.StatusPublisher.{StatusPublisher}
use Rattle.live_status.specs.declared.stream_status.StreamStatus.{StreamStatus}

-- a snapshot in which all counts are 0, with these streams, up to 16 of them, and output channels
pub record IsBlankSnapshot (statuses : List StreamStatus) (channels : ℕ) (snapshot : Snapshot) : Type 0 where
  pub streams : length statuses ≤ 16 → AreEach IsBlankOf statuses snapshot.streams.items
  pub outputs : snapshot.outputs.items ≡ replicate channels blank_output

-- the snapshot that was passed in, with the conditions of its streams and what their watches show; the counts of the mix's
-- datagrams, and the states of the run's record, WAV file and raw PCM, are those that were passed in
pub record IsShown (watches : List StreamWatch) (statuses : List StreamStatus) (now : ℤ) (has_ended : Bool) (given shown : Snapshot) : Type 0 where
  pub streams : ShowsStreams watches statuses now has_ended given.streams.items shown.streams.items
  pub outputs : shown.outputs ≡ given.outputs
  pub sends : shown.failed_sends ≡ given.failed_sends
  pub stale : shown.stale ≡ given.stale
  pub incomplete : shown.incomplete ≡ given.incomplete
  pub sent_late : shown.sent_late ≡ given.sent_late
  pub left_out : shown.left_out ≡ given.left_out
  pub run_outputs : shown.run_outputs ≡ given.run_outputs

-- the snapshot, with these conditions and watches, went through the ring, if there was space
abbrev pub GivesShown : {A P : Type 0} → List StreamWatch → List StreamStatus → ℤ → Bool → Snapshot → Producer Snapshot A P → Producer Snapshot A P → Type 0
GivesShown watches statuses now has_ended given old new = (shown : Snapshot) × IsShown watches statuses now has_ended given shown × Gives shown old new

-- the snapshot goes through the page's ring, if there is a page and space; the page stays
abbrev pub Shows : {A P : Type 0} → List StreamWatch → List StreamStatus → ℤ → Bool → Snapshot → Option (Producer Snapshot A P) → Option (Producer Snapshot A P) → Type 0
Shows watches statuses now has_ended given old new = MatchOption old (IsNone new) (λ ring. IsSomeAnd new (GivesShown watches statuses now has_ended given ring))

-- lines are wanted, and none are due any more, because a write failed
abbrev pub HasStopped : Option CountLines → Type 0
HasStopped lines = IsSomeAnd lines (λ schedule. schedule.next ≡ pos (2 ^ 63 - 1))

module _ {E : Type 0} where
  -- a snapshot is due at this time, or lines are
  abbrev pub is_due_at : StatusPublisher E → ℤ → Bool
  is_due_at publisher now = int_le publisher.next now || unwrap_or (option_map (λ lines. int_le lines.next now) publisher.lines) false
