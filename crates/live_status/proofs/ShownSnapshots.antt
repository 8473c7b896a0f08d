-- Snapshots that a publisher showed, and the lines that it wrote of them.
use Rattle.std.proofs.Common.{◌≡◌, ℕ, ℤ, Bool, List, Option, Some, None, MatchOption, IsNone, IsSomeAnd, subst}
use Rattle.rtrb.specs.declared.producer.Producer.{Producer}
use Rattle.rtp_stats.specs.Channel.{Gives}
use Rattle.status_page.specs.declared.snapshot.Snapshot.{Snapshot}
use Rattle.live_status.specs.Publisher.{HasStopped, IsShown, Shows}
use Rattle.live_status.specs.SnapshotLines.{WritesLines, snapshot_lines}
use Rattle.live_status.specs.declared.count_lines.CountLines.{CountLines}
use Rattle.live_status.specs.declared.reception_watch.stream_watch.StreamWatch.{StreamWatch}
use Rattle.live_status.specs.declared.stream_status.StreamStatus.{StreamStatus}

module _ {A P : Type 0} where
  given : (watches : List StreamWatch) (statuses : List StreamStatus) (now : ℤ) (ended : Bool) (passed shown : Snapshot) (old new : Option (Producer Snapshot A P))
      → IsShown watches statuses now ended passed shown → MatchOption old (IsNone new) (λ ring. IsSomeAnd new (Gives shown ring)) → Shows watches statuses now ended passed old new
  given watches statuses now ended passed shown None new is gives = gives
  given watches statuses now ended passed shown (Some ring) None is gives = gives
  given watches statuses now ended passed shown (Some ring) (Some later) is gives = (shown, is, gives)

  -- the snapshot that was set is the one that went through the ring
  pub shows-given : (watches : List StreamWatch) (statuses : List StreamStatus) (now : ℤ) (ended : Bool) (passed shown : Snapshot) (old mid new : Option (Producer Snapshot A P))
      → IsShown watches statuses now ended passed shown → mid ≡ old → MatchOption mid (IsNone new) (λ ring. IsSomeAnd new (Gives shown ring)) → Shows watches statuses now ended passed old new
  shows-given watches statuses now ended passed shown old mid new is same gives =
      given watches statuses now ended passed shown old new is (subst (λ (page : Option (Producer Snapshot A P)). MatchOption page (IsNone new) (λ ring. IsSomeAnd new (Gives shown ring))) same gives)

-- the same lines, of a publisher that has not changed before and after
pub lines-kept : (old older new newer : Option (List ℕ)) (lines later : Option CountLines) (time now : ℤ) (shown : Snapshot) → older ≡ old → newer ≡ new → lines ≡ later → time ≡ now
    → WritesLines (HasStopped lines) older (snapshot_lines time shown) newer → WritesLines (HasStopped later) old (snapshot_lines now shown) new
lines-kept old older new newer lines later time now shown before after same is wrote =
    subst (λ (t : ℤ). WritesLines (HasStopped later) old (snapshot_lines t shown) new) is
    (subst (λ (l : Option CountLines). WritesLines (HasStopped l) old (snapshot_lines time shown) new) same
    (subst (λ (w : Option (List ℕ)). WritesLines (HasStopped lines) old (snapshot_lines time shown) w) after
    (subst (λ (w : Option (List ℕ)). WritesLines (HasStopped lines) w (snapshot_lines time shown) newer) before wrote)))
