-- Streams of an engine, filled into a blank snapshot.
use Rattle.std.proofs.Common.{◌≡◌, ℕ, zero, suc, ◌<◌, ◌≤◌, ℤ, List, [], ◌∷◌, length, get_or, Option, Some, None, IfSome, MatchOption, Bor, option_copied, slice_get, replicate, refl, sym, ap, subst, ◌∙◌, arith}
use Rattle.status_page.specs.Blank.{blank_path}
use Rattle.std.specs.List.{HoldsAt}
use Rattle.std.proofs.lemmas.Option.{same_Some, slice_get-get_or, slice_get_read, slice_get_within}
use Rattle.studio_engine.specs.Engine.{EngineState}
use Rattle.status_page.specs.declared.snapshot.PathState.{PathState}
use Rattle.status_page.specs.declared.snapshot.StreamState.{StreamState}
use Rattle.live_status.specs.Each.{AreEach}
use Rattle.live_status.specs.Engine.{AreEngineCounts, AreStatsOf, HasEngineBefore, HasEngineCounts, HasEnginePathCounts, IsEnginePath}
use Rattle.live_status.specs.FilledStreams.{FillsStream, HasCounts, with_counts}
use Rattle.live_status.specs.Health.{FillsSocket, FillsSockets, Said}
use Rattle.rtp_stream.specs.declared.counts.Counts.{Counts}
use Rattle.rtp_stream.specs.declared.stream_counts.PathCounts.{PathCounts}
use Rattle.rtp_stream.specs.declared.stream_spec.Stream.{Stream}
use Rattle.live_status.specs.StreamStatus.{IsBlankOf}
use Rattle.live_status.specs.Copies.{IsTold, ShowsCopies, copies_of}
use Rattle.rtp_stats.specs.Offer.{Offer}
use Rattle.rtp_stats.specs.Stats.{AreNumbers, AreTold, no_stats}
use Rattle.rtp_stats.specs.declared.copy_tracker.CopyTracker.{CopyTracker}
use Rattle.rtp_stats.specs.declared.stats.PathStats.{PathStats}
use Rattle.rtp_stats.specs.declared.stats.StreamStats.{StreamStats}
use Rattle.live_status.specs.EngineStatus.{FillsEngineStream, FillsEngineStreamAt, IsEngineStream}
use Rattle.live_status.specs.declared.stream_status.StreamStatus.{StreamStatus}

past : {X : Type 0} (xs : List X) (i : ℕ) → length xs ≤ i → slice_get xs i ≡ None
past [] i h = refl
past (x ∷ xs) zero h = absurd (omega (arith, h))
past (x ∷ xs) (suc i) h = past xs i (omega (arith, h))

-- the element that was found at a place is the one there
pub found-at : {X : Type 0} (xs : List X) (i : ℕ) (r : Option (Bor X)) → IfSome r (λ x. x.now ≡ get_or xs i x.now) → MatchOption r (length xs ≤ i) (λ x. (i < length xs) × HoldsAt (λ y. x.now ≡ y) xs i) → option_copied r ≡ slice_get xs i
found-at xs i None is at = sym (past xs i at)
found-at xs i (Some x) is at = sym (slice_get_read xs (length xs) i x.now refl at.0 is)

-- a path with the same copies shows the same
pub copies-to : (tracker : Option CopyTracker) (place : ℕ) (now : ℤ) (lost : ℕ) (was is : PathState) → is.copies ≡ was.copies → is.spare ≡ was.spare → ShowsCopies tracker place now lost was → ShowsCopies tracker place now lost is
copies-to None place now lost was is copies spare shown = (copies ∙ shown.0, spare ∙ shown.1)
copies-to (Some tracker) place now lost was is copies spare shown = λ stream offers tallied.
    let told = shown stream offers tallied in
    (told.0, told.1, copies ∙ told.2, spare ∙ told.3)

-- the statistics of the path at a place are those of four
told-at : (stream : Stream) (offers : List Offer) (counts : Counts) (now : ℤ) (stats : StreamStats) (place : ℕ) (of_path : PathStats) → place < 4 → AreTold stream offers counts now stats
    → slice_get stats.paths place ≡ Some of_path → AreNumbers stream offers place now of_path
told-at stream offers counts now stats zero of_path few told at =
    subst (λ (p : PathStats). AreNumbers stream offers 0 now p) (same_Some told.a of_path (sym (ap (λ l. slice_get l 0) told.paths) ∙ at)) told.of_a
told-at stream offers counts now stats (suc zero) of_path few told at =
    subst (λ (p : PathStats). AreNumbers stream offers 1 now p) (same_Some told.b of_path (sym (ap (λ l. slice_get l 1) told.paths) ∙ at)) told.of_b
told-at stream offers counts now stats (suc (suc zero)) of_path few told at =
    subst (λ (p : PathStats). AreNumbers stream offers 2 now p) (same_Some told.c of_path (sym (ap (λ l. slice_get l 2) told.paths) ∙ at)) told.of_c
told-at stream offers counts now stats (suc (suc (suc zero))) of_path few told at =
    subst (λ (p : PathStats). AreNumbers stream offers 3 now p) (same_Some told.d of_path (sym (ap (λ l. slice_get l 3) told.paths) ∙ at)) told.of_d
told-at stream offers counts now stats (suc (suc (suc (suc place)))) of_path few told at = absurd (omega (arith, few))

blank-at : (place : ℕ) (of_path : PathStats) → place < 4 → slice_get (replicate 4 no_stats) place ≡ Some of_path → of_path ≡ no_stats
blank-at zero of_path few at = same_Some of_path no_stats (sym at)
blank-at (suc zero) of_path few at = same_Some of_path no_stats (sym at)
blank-at (suc (suc zero)) of_path few at = same_Some of_path no_stats (sym at)
blank-at (suc (suc (suc zero))) of_path few at = same_Some of_path no_stats (sym at)
blank-at (suc (suc (suc (suc place)))) of_path few at = absurd (omega (arith, few))

-- there are statistics of each of the four paths
four-stats : (tracker : Option CopyTracker) (now : ℤ) (stats : StreamStats) → AreStatsOf tracker now stats → length stats.paths ≡ 4
four-stats None now stats are = ap length are
four-stats (Some tracker) now stats are = are.0

-- a path that has these statistics shows its copies
copies-shown : (tracker : Option CopyTracker) (place : ℕ) (now : ℤ) (stats : StreamStats) (of_path : PathStats) (shown : PathState) → place < 4 → AreStatsOf tracker now stats → slice_get stats.paths place ≡ Some of_path
    → shown.copies ≡ Some (copies_of of_path stats.counts.lost) → shown.spare ≡ of_path.spare → ShowsCopies tracker place now stats.counts.lost shown
copies-shown None place now stats of_path shown few are at copies spare =
    let blank = blank-at place of_path few (sym (ap (λ l. slice_get l place) are) ∙ at) in
    (copies ∙ ap (λ (p : PathStats). Some (copies_of p stats.counts.lost)) blank, spare ∙ ap (λ (p : PathStats). p.spare) blank)
copies-shown (Some tracker) place now stats of_path shown few are at copies spare = λ stream offers tallied.
    (of_path, told-at stream offers stats.counts now stats place of_path few (are.1 stream offers tallied) at, copies, spare)

-- a path that was filled with its statistics and with its counts is the engine's
path-filled : (engine : EngineState) (tracker : Option CopyTracker) (number : ℕ) (stats : StreamStats) (counts : List (Option PathCounts)) (place : ℕ) (old mid new : PathState)
    → number < length engine.cursors → AreStatsOf tracker engine.time stats → AreEngineCounts engine number counts → IsTold stats.counts stats.paths place old mid → HasCounts counts place mid new
    → IsEnginePath engine tracker number stats.counts place old new
path-filled engine tracker number stats counts place old mid new within are engines told has =
    let four = four-stats tracker engine.time stats are in
    let numbers = λ (few : place < 4). get_or stats.paths place no_stats in
    let at = λ (few : place < 4). slice_get-get_or stats.paths place no_stats (omega (arith, few, four)) in
    let is = λ (few : place < 4). told (numbers few) (at few) in
    let own = λ (few : place < 4). engines place few within in
    let now = λ (few : place < 4). has ∙ ap (λ (o : Option (Option PathCounts)). with_counts o mid) (own few).1 in
    record {
      first = λ few. ap (λ (p : PathState). p.first) (now few) ∙ ap (λ (p : PathState). p.first) (is few);
      before = λ few.
          subst (λ (p : PathState). HasEngineBefore engine number place p.counts p.datagrams) (sym (now few)) (refl, (own few).2);
      copies = λ few.
          copies-shown tracker place engine.time stats (numbers few) new few are (at few) (ap (λ (p : PathState). p.copies) (now few) ∙ ap (λ (p : PathState). p.copies) (is few))
          (ap (λ (p : PathState). p.spare) (now few) ∙ ap (λ (p : PathState). p.spare) (is few));
    }

paths-filled : (engine : EngineState) (tracker : Option CopyTracker) (number : ℕ) (stats : StreamStats) (counts : List (Option PathCounts)) (olds mids news : List PathState)
    → number < length engine.cursors → AreStatsOf tracker engine.time stats → AreEngineCounts engine number counts → AreEach (IsTold stats.counts stats.paths) olds mids → AreEach (HasCounts counts) mids news
    → AreEach (IsEnginePath engine tracker number stats.counts) olds news
paths-filled engine tracker number stats counts olds mids news within are engines told has = record {
  length_is = has.length_is ∙ told.length_is;
  each = λ place old new at_old at_new.
      let at = slice_get-get_or mids place old (let below = slice_get_within olds place old at_old in let same = told.length_is in omega (arith, below, same)) in
      path-filled engine tracker number stats counts place old (get_or mids place old) new within are engines (told.each place old _ at_old at) (has.each place _ new at at_new);
}

counts-of : (engine : EngineState) (number place : ℕ) (found : Option PathCounts) → IfSome found (HasEnginePathCounts engine number place) → (found ≡ None → length engine.cursors ≤ number) → number < length engine.cursors
    → (counts : PathCounts) × (Some found ≡ Some (Some counts)) × HasEnginePathCounts engine number place counts
counts-of engine number place None has none within = absurd (let past = none refl in omega (arith, within, past))
counts-of engine number place (Some counts) has none within = (counts, refl, has)

-- the counts of four paths, each by its number
pub four-counts : (engine : EngineState) (number : ℕ) (a b c d : Option PathCounts)
    → IfSome a (HasEnginePathCounts engine number 0) → IfSome b (HasEnginePathCounts engine number 1) → IfSome c (HasEnginePathCounts engine number 2) → IfSome d (HasEnginePathCounts engine number 3)
    → (a ≡ None → length engine.cursors ≤ number) → (b ≡ None → length engine.cursors ≤ number) → (c ≡ None → length engine.cursors ≤ number) → (d ≡ None → length engine.cursors ≤ number)
    → AreEngineCounts engine number (a ∷ b ∷ c ∷ d ∷ [])
four-counts engine number a b c d of_a of_b of_c of_d no_a no_b no_c no_d zero few within = counts-of engine number 0 a of_a no_a within
four-counts engine number a b c d of_a of_b of_c of_d no_a no_b no_c no_d (suc zero) few within = counts-of engine number 1 b of_b no_b within
four-counts engine number a b c d of_a of_b of_c of_d no_a no_b no_c no_d (suc (suc zero)) few within = counts-of engine number 2 c of_c no_c within
four-counts engine number a b c d of_a of_b of_c of_d no_a no_b no_c no_d (suc (suc (suc zero))) few within = counts-of engine number 3 d of_d no_d within
four-counts engine number a b c d of_a of_b of_c of_d no_a no_b no_c no_d (suc (suc (suc (suc place)))) few within = absurd (omega (arith, few))

-- a stream that was filled with the statistics and the counts of an engine is the engine's
pub stream-filled : (engine : EngineState) (tracker : Option CopyTracker) (number : ℕ) (stats : Option StreamStats) (counts : List (Option PathCounts)) (old new : StreamState)
    → IfSome stats (λ (s : StreamStats). HasEngineCounts engine number s.counts) → IfSome stats (AreStatsOf tracker engine.time) → (stats ≡ None → length engine.cursors ≤ number)
    → AreEngineCounts engine number counts → FillsStream stats counts old new → FillsEngineStream engine tracker number old new
stream-filled engine tracker number None counts old new whole are none engines f = record {
  name_is = f.name_is;
  condition_is = f.condition_is;
  latency_is = f.latency_is;
  counts = λ within. absurd (let past = none refl in omega (arith, within, past));
  paths = λ within. absurd (let past = none refl in omega (arith, within, past));
}
stream-filled engine tracker number (Some stats) counts old new whole are none engines f = record {
  name_is = f.name_is;
  condition_is = f.condition_is;
  latency_is = f.latency_is;
  counts = λ within. subst (λ (c : Counts). HasEngineCounts engine number c) (sym f.counts_are) whole;
  paths = λ within.
      subst (λ (c : Counts). AreEach (IsEnginePath engine tracker number c) old.paths.items new.paths.items) (sym f.counts_are)
      (paths-filled engine tracker number stats counts old.paths.items f.filled new.paths.items within are engines f.numbers f.datagrams);
}

-- each blank stream that was filled in is the engine's
pub streams-filled : (engine : EngineState) (trackers : List CopyTracker) (statuses : List StreamStatus) (blanks news : List StreamState) → AreEach IsBlankOf statuses blanks → AreEach (FillsEngineStreamAt engine trackers) blanks news → AreEach (IsEngineStream engine trackers) statuses news
streams-filled engine trackers statuses blanks news blank filled = record {
  length_is = filled.length_is ∙ blank.length_is;
  each = λ place one new at_one at_new.
      let at = slice_get-get_or blanks place new (let within = slice_get_within statuses place one at_one in let same = blank.length_is in omega (arith, within, same)) in
      let was = blank.each place one _ at_one at in
      let is = filled.each place _ new at at_new in
      record {
        name_is = is.name_is ∙ was.name_is;
        latency_is = is.latency_is ∙ was.latency_is;
        counts = is.counts;
        paths = λ within. subst (λ (paths : List PathState). AreEach (IsEnginePath engine (slice_get trackers place) place new.counts) paths new.paths.items) was.paths_are (is.paths within);
      };
}

-- if only the sockets of paths changed, the paths still have the engine's numbers
pub paths-kept : (Says : Said → Type 0) (engine : EngineState) (tracker : Option CopyTracker) (number : ℕ) (counts : Counts) (blanks olds news : List PathState) → AreEach (IsEnginePath engine tracker number counts) blanks olds → AreEach (FillsSocket Says number) olds news → AreEach (IsEnginePath engine tracker number counts) blanks news
paths-kept Says engine tracker number counts blanks olds news shown kept = record {
  length_is = kept.length_is ∙ shown.length_is;
  each = λ place blank new at_blank at_new.
      let at = slice_get-get_or olds place new (let within = slice_get_within blanks place blank at_blank in let same = shown.length_is in omega (arith, within, same)) in
      let was = shown.each place blank _ at_blank at in
      let is = (kept.each place _ new at at_new).0 in
      record {
        first = λ few. ap (λ (path : PathState). path.first) is ∙ was.first few;
        before = λ few. subst (λ (path : PathState). HasEngineBefore engine number place path.counts path.datagrams) (sym is) (was.before few);
        copies = λ few. copies-to tracker place engine.time counts.lost _ new (ap (λ (path : PathState). path.copies) is) (ap (λ (path : PathState). path.spare) is) (was.copies few);
      };
}

-- if only the sockets of streams changed, the streams still have the engine's numbers
pub streams-kept : (Says : Said → Type 0) (engine : EngineState) (trackers : List CopyTracker) (statuses : List StreamStatus) (olds news : List StreamState) → AreEach (IsEngineStream engine trackers) statuses olds → AreEach (FillsSockets Says) olds news → AreEach (IsEngineStream engine trackers) statuses news
streams-kept Says engine trackers statuses olds news shown kept = record {
  length_is = kept.length_is ∙ shown.length_is;
  each = λ place one new at_one at_new.
      let at = slice_get-get_or olds place new (let within = slice_get_within statuses place one at_one in let same = shown.length_is in omega (arith, within, same)) in
      let was = shown.each place one _ at_one at in
      let is = kept.each place _ new at at_new in
      record {
        name_is = is.name_is ∙ was.name_is;
        latency_is = is.latency_is ∙ was.latency_is;
        counts = λ within. subst (λ (counts : Counts). HasEngineCounts engine place counts) (sym is.counts_are) (was.counts within);
        paths = λ within.
            paths-kept Says engine (slice_get trackers place) place new.counts (replicate one.paths blank_path) (get_or olds place new).paths.items new.paths.items
            (subst (λ (counts : Counts). AreEach (IsEnginePath engine (slice_get trackers place) place counts) (replicate one.paths blank_path) (get_or olds place new).paths.items) (sym is.counts_are) (was.paths within)) is.paths_are;
      };
}
