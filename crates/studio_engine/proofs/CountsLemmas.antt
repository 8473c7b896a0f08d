-- The counts of an engine's streams.
use Rattle.std.proofs.Common.{◌≡◌, inl, inr, ◌<◌, ℕ, zero, suc, ◌+◌, ℤ, true, false, ◌&&◌, List, [], ◌∷◌, ◌++◌, length, take, drop, Some, None, slice_get, refl, sym, ap, subst, ◌∙◌, arith}
use Rattle.std.proofs.lemmas.Bool.{cases_Bool}
use Rattle.std.proofs.lemmas.List.{take_all, take-append-drop, append-nil}
use Rattle.std.proofs.lemmas.Option.{slice_get_within, get_or_from_slice_get}
use Rattle.rtp_stream.specs.declared.stream_spec.Stream.{Stream}
use Rattle.rtp_stream.specs.StreamSpecFacts.{format_of}
use Rattle.rtp_stream.specs.MarkFacts.{MarkView}
use Rattle.rtp_stream.specs.MarkList.{has_end, is_mark_list}
use Rattle.rtp_stream.specs.History.{is_closed}
use Rattle.rtp_stream.specs.Counts.{counts_of}
use Rattle.rtp_stream.specs.PathCounts.{PathTally}
use Rattle.path_merge.specs.Merge.{HasHistory}
use Rattle.path_merge.proofs.MarkListLemmas.{listed}
use Rattle.lane_align.proofs.LawLemmas.{end_stays}
use Rattle.lane_align.proofs.MarkListLemmas.{both_left, both_right}
use Rattle.studio_config.specs.Studio.{Studio}
use Rattle.studio_mix.specs.Feed.{Feed}
use Rattle.studio_mix.specs.Ready.{are_covered, have_ended, is_ready}
use Rattle.studio_mix.proofs.BlockLemmas.{feed_at}
use Rattle.studio_mix.proofs.LawLemmas.{ready_longer}
use Rattle.mix_packets.specs.Block.{block_start}
use Rattle.lane_align.specs.Cover.{last_quiet, last_slot, time_reached}
use Rattle.studio_session.specs.Event.{TraceEvent}
use Rattle.studio_session.specs.Session.{stream_history}
use Rattle.studio_session.specs.Counts.{path_counts_of}
use Rattle.studio_session.specs.Cursor.{CursorState}
use Rattle.studio_session.specs.Play.{feeds_of, stream_marks}
use Rattle.studio_session.specs.Report.{merge_tally_of}
use Rattle.studio_session.proofs.CursorLemmas.{settled}
use Rattle.studio_session.proofs.PlayLemmas.{stream_at}
use Rattle.studio_session.proofs.SessionLemmas.{are_longer}
use Rattle.studio_engine.specs.Engine.{EngineState, HasAllMarks, IsEngine, session_of}
use Rattle.studio_engine.specs.Session.{HasSession}
use Rattle.studio_engine.proofs.FillLemmas.{closed_for, ended_covers}

one : {X : Type 0} (x y : X) → Some x ≡ Some y → x ≡ y
one x y e = cc

ended_at : (feeds : List Feed) (i : ℕ) (feed : Feed) → have_ended feeds ≡ true → slice_get feeds i ≡ Some feed → has_end feed.marks ≡ true
ended_at [] i feed ended at = absurd (let e : None ≡ Some feed = at in cc)
ended_at (f ∷ feeds) zero feed ended at = ap (λ (x : Feed). has_end x.marks) (sym (one f feed at)) ∙ both_left (has_end f.marks) (have_ended feeds) ended
ended_at (f ∷ feeds) (suc i) feed ended at = ended_at feeds i feed (both_right (has_end f.marks) (have_ended feeds) ended) at

-- if the first marks of a mark list have an end, they are the whole list
ended_all : (stream : Stream) (whole marks : List MarkView) → is_mark_list (format_of stream) whole ≡ true → marks ≡ take (length marks) whole → has_end marks ≡ true → marks ≡ whole
ended_all stream whole marks list first ended =
    let k = length marks in
    let split : marks ++ drop k whole ≡ whole = ap (λ l. l ++ drop k whole) first ∙ take-append-drop k whole in
    let none : drop k whole ≡ [] = end_stays (format_of stream) marks (drop k whole) (ap (is_mark_list (format_of stream)) split ∙ list) ended in
    sym (append-nil marks) ∙ ap (λ l. marks ++ l) (sym none) ∙ split

-- a stream of the engine is the stream of the studio with the same number
pub stream_is : (studio : Studio) (engine : EngineState) (events : List TraceEvent) (datagrams : List (List ℕ)) (i : ℕ) (cursor : CursorState) (spec : Stream)
    → HasSession studio engine events datagrams → slice_get engine.cursors i ≡ Some cursor → slice_get studio.streams i ≡ Some spec → cursor.spec ≡ spec
stream_is studio engine events datagrams i cursor spec s at there =
    let played = s.given.played in
    let within : i < length engine.cursors = slice_get_within engine.cursors i cursor at in
    let count = played.count in
    let found = feed_at played.feeds i (omega (arith, within, count)) in
    let feed : Feed = found.0 in
    (played.given i cursor feed at found.1).pulled.spec
    ∙ one feed.stream spec (sym (stream_at studio engine.mixer played.feeds (length datagrams) i feed played.fed found.1) ∙ there)

-- the counts of a merge that returned all its marks
pub counts_whole : (studio : Studio) (engine : EngineState) (events : List TraceEvent) (datagrams : List (List ℕ)) (i : ℕ) (cursor : CursorState) (spec : Stream)
    → IsEngine engine → HasSession studio engine events datagrams → slice_get engine.cursors i ≡ Some cursor → slice_get studio.streams i ≡ Some spec → HasAllMarks engine
    → cursor.merge.counts ≡ merge_tally_of spec i studio.open_at events
counts_whole studio engine events datagrams i cursor spec is s at there all =
    let played = s.given.played in
    let within : i < length engine.cursors = slice_get_within engine.cursors i cursor at in
    let count = played.count in
    let found = feed_at played.feeds i (omega (arith, within, count)) in
    let feed : Feed = found.0 in
    let given = played.given i cursor feed at found.1 in
    let same : feed.stream ≡ spec = one feed.stream spec (sym (stream_at studio engine.mixer played.feeds (length datagrams) i feed played.fed found.1) ∙ there) in
    let cursor_is = get_or_from_slice_get engine.cursors i cursor cursor at in
    let place : cursor.place ≡ length events = ap (λ (c : CursorState). c.place) (sym cursor_is) ∙ is.taken i cursor within ∙ s.count in
    let reading = ap (λ (c : CursorState). c.reading) (sym cursor_is) ∙ is.idle all.idle i cursor within in
    let taken : take cursor.place events ≡ events = take_all cursor.place events (omega (arith, place)) in
    let h = stream_history feed.stream i events in
    let whole = stream_marks feed.stream i studio.open_at events in
    let k = length feed.marks in
    let runs = s.runnable.each i feed.stream (stream_at studio engine.mixer played.feeds (length datagrams) i feed played.fed found.1) in
    let history : HasHistory feed.stream studio.open_at cursor.merge h k = subst (λ l. HasHistory feed.stream studio.open_at cursor.merge (stream_history feed.stream i l) k) taken
    (settled feed.stream studio.open_at cursor.merge cursor.reading (stream_history feed.stream i (take cursor.place events)) k reading given.pulled.stands) in
    let every : take k whole ≡ whole = elim (cases_Bool engine.closed) [
      | inl shut ↦
          let ended = ended_at played.feeds i feed (s.settled (all.given shut)).ended found.1 in
          sym given.first ∙ ended_all feed.stream whole feed.marks (listed feed.stream studio.open_at h runs.some_frames runs.well_timed) given.first ended
      | inr open_yet ↦
          let going : is_closed h ≡ false = sym (closed_for feed.stream i false events) ∙ sym s.closed ∙ open_yet in
          let long = history.all_given going in
          take_all k whole (omega (arith, long))
    ] in
    history.counts ∙ ap (counts_of feed.stream studio.open_at h) every ∙ ap (λ (x : Stream). merge_tally_of x i studio.open_at events) same

-- the counts of the datagrams that a path received
pub path_counts_so_far : (studio : Studio) (engine : EngineState) (events : List TraceEvent) (datagrams : List (List ℕ)) (i path : ℕ) (cursor : CursorState) (spec : Stream) (tally : PathTally)
    → IsEngine engine → HasSession studio engine events datagrams → slice_get engine.cursors i ≡ Some cursor → slice_get studio.streams i ≡ Some spec
    → slice_get cursor.tallies path ≡ Some tally → tally ≡ path_counts_of spec i path events
path_counts_so_far studio engine events datagrams i path cursor spec tally is s at there told =
    let played = s.given.played in
    let within : i < length engine.cursors = slice_get_within engine.cursors i cursor at in
    let count = played.count in
    let found = feed_at played.feeds i (omega (arith, within, count)) in
    let feed : Feed = found.0 in
    let given = played.given i cursor feed at found.1 in
    let same : feed.stream ≡ spec = one feed.stream spec (sym (stream_at studio engine.mixer played.feeds (length datagrams) i feed played.fed found.1) ∙ there) in
    let cursor_is = get_or_from_slice_get engine.cursors i cursor cursor at in
    let place : cursor.place ≡ length events = ap (λ (c : CursorState). c.place) (sym cursor_is) ∙ is.taken i cursor within ∙ s.count in
    let taken : take cursor.place events ≡ events = take_all cursor.place events (omega (arith, place)) in
    given.pulled.counted path tally told
    ∙ ap (path_counts_of feed.stream i path) taken
    ∙ ap (λ (x : Stream). path_counts_of x i path events) same

-- once all streams have ended, no block is ready but those that were returned
pub settled_ready : (studio : Studio) (engine : EngineState) (events : List TraceEvent) (datagrams : List (List ℕ)) → HasSession studio engine events datagrams → engine.settled ≡ true
    → is_ready studio.output (feeds_of studio events) (length datagrams) ≡ false
settled_ready studio engine events datagrams s shut =
    let next = length datagrams in
    let played = s.given.played in
    let no_more = s.settled shut in
    let longer = are_longer studio events (session_of engine) next s.runnable played in
    let covered = every_covers played.feeds (block_start studio.output (next + 1)) no_more.ended in
    ready_longer studio.output played.feeds (feeds_of studio events) next s.runnable.some_frames longer covered ∙ no_more.none
  where
    every_covers : (feeds : List Feed) (t : ℤ) → have_ended feeds ≡ true → are_covered feeds t ≡ true
    every_covers [] t ended = refl
    every_covers (feed ∷ feeds) t ended =
        ap (λ b. b && are_covered feeds t)
        (ended_covers (time_reached (format_of feed.stream).frames (last_slot feed.marks) (last_quiet feed.marks)) (has_end feed.marks) t (both_left (has_end feed.marks) (have_ended feeds) ended))
        ∙ every_covers feeds t (both_right (has_end feed.marks) (have_ended feeds) ended)
