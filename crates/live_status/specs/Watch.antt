-- The state of paths in a snapshot, by their arrival margins, and by the times at which their packets arrived in time,
-- late or too early.
use Rattle.std.specs.Prelude.{◌≡◌, ℕ, max, nat_lt, Bool, true, false, not, ◌&&◌, List, [], fold, slice_get, ℤ, Option, Some, None, option_map, MatchOption, if◌then◌else◌}
use Rattle.rtp_stats.specs.Drift.{MinuteState, drift_of, minute_after, minute_from}
use Rattle.rtp_stats.specs.Margins.{second_of}
use Rattle.rtp_stats.specs.declared.drift.Drift.{Drift}
use Rattle.rtp_stats.specs.declared.arrival_margin.ArrivalMargin.{ArrivalMargin}
use Rattle.status_page.specs.declared.snapshot.CopyCounts.{CopyCounts}
use Rattle.status_page.specs.declared.snapshot.PathState.{PathState}
use Rattle.live_status.specs.Counts.{count_after, in_time_of, is_still, sum_in_64_bits}
use Rattle.live_status.specs.PathSeconds.{condition_at, new_second_watch, watch_after}
use Rattle.live_status.specs.declared.reception_watch.count_watch.CountWatch.{CountWatch}
use Rattle.live_status.specs.declared.reception_watch.arrival_watch.ArrivalWatch.{ArrivalWatch}

-- the packets of a path that were late or too early
abbrev pub astray_of : CopyCounts → ℕ
astray_of copies = sum_in_64_bits copies.late copies.ahead

-- both counts are watched once they are known
abbrev pub in_time_count : Option CopyCounts → ℕ → ℤ → CountWatch → CountWatch
in_time_count None first now watch = watch
in_time_count (Some copies) first now watch = count_after (in_time_of first copies) now watch

abbrev pub astray_count : Option CopyCounts → ℤ → CountWatch → CountWatch
astray_count None now watch = watch
astray_count (Some copies) now watch = count_after (astray_of copies) now watch

-- the margins of the last minute, with those of this second, if there are any
abbrev pub minute_with : Option ArrivalMargin → MinuteState → MinuteState
minute_with None minute = minute
minute_with (Some margin) minute = minute_after margin minute

-- the watch of a path on which nothing has arrived by this time
abbrev pub new_arrival_watch : ℤ → ArrivalWatch
new_arrival_watch now = record {
  minute = record { next = 0; margins = [] };
  in_time = record { count = 0; since = now };
  astray = record { count = 0; since = now };
  second = new_second_watch now;
  condition = None;
  drift = None;
  is_in_time = false;
  is_astray = false;
}

-- the margins that are kept after those of this second were noted; an epoch that begins leaves out all earlier margins
abbrev pub minute_noted : ℕ → Bool → Option ArrivalMargin → MinuteState → MinuteState
minute_noted second begins margin minute = minute_with margin (if begins then minute_from second else minute)

-- packets arrived in the last two seconds, and each was late or too early
abbrev pub is_astray : CountWatch → CountWatch → ℤ → Bool
is_astray in_time astray now = if is_still in_time now then not (is_still astray now) else false

-- the watch of a path, after its state was noted
pub record IsNoted (now : ℤ) (window_span : ℕ) (begins : Bool) (path : PathState) (old new : ArrivalWatch) : Type 0 where
  pub minute_is : new.minute ≡ minute_noted (second_of now) begins path.spare old.minute
  pub in_time_is : new.in_time ≡ in_time_count path.copies path.first now old.in_time
  pub astray_is : new.astray ≡ astray_count path.copies now old.astray
  pub second_is : new.second ≡ watch_after path now path.copies old.second
  pub condition_is : new.condition ≡ condition_at new.second now path.socket path.copies
  pub drift_is : new.drift ≡ drift_of (second_of now) window_span new.minute.margins
  pub in_time : new.is_in_time ≡ not (is_still new.in_time now)
  pub astray : new.is_astray ≡ is_astray new.in_time new.astray now

-- some path is in time
abbrev pub any_in_time : List ArrivalWatch → Bool
any_in_time watches = fold (λ found watch. if watch.is_in_time then true else found) false watches

-- the last 64 packets repeat numbers that were received in time, and no path is in time
abbrev pub repeats : Option CopyCounts → Bool
repeats None = false
repeats (Some copies) = nat_lt 63 copies.repeated

abbrev pub is_repeating : Bool → Bool → Option CopyCounts → Bool
is_repeating has_ended others copies = if has_ended then false else (if others then false else repeats copies)

-- the path in a snapshot, by its watch
abbrev pub shown_path : Bool → Bool → ArrivalWatch → PathState → PathState
shown_path has_ended others watch path = record path {
  condition = watch.condition;
  drift = option_map (λ drift. drift.ppm) watch.drift;
  is_astray = not has_ended && watch.is_astray;
  is_repeating = is_repeating has_ended others path.copies;
}

-- the greater of a time left and that of a path
abbrev pub greater : Option ℕ → ℕ → ℕ
greater None left = left
greater (Some most) left = max most left

abbrev pub with_left : Option ℕ → Option Drift → Option ℕ
with_left most None = most
with_left most (Some drift) = Some (greater most drift.left)

abbrev pub left_with : Option ℕ → ArrivalWatch → Option ℕ
left_with most watch = with_left most watch.drift

-- the time left of the path that has the most
abbrev pub most_left : List ArrivalWatch → Option ℕ
most_left watches = fold left_with None watches

-- the watch at a place noted the path at that place, if there is one
abbrev pub NotesPath : ℤ → ℕ → Bool → List PathState → ℕ → ArrivalWatch → ArrivalWatch → Type 0
NotesPath now window_span begins paths place old new = MatchOption (slice_get paths place) (new ≡ old) (λ path. IsNoted now window_span begins path old new)

-- the path at a place has what the watch at that place shows, if there is one
abbrev pub ShowsPath : Bool → Bool → List ArrivalWatch → ℕ → PathState → PathState → Type 0
ShowsPath has_ended others watches place old new = MatchOption (slice_get watches place) (new ≡ old) (λ watch. new ≡ shown_path has_ended others watch old)
