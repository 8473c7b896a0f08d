-- A studio's events with a clock reading that is directly followed by another, and without it.
use Rattle.std.proofs.Common.{◌≡◌, ℕ, zero, suc, ◌+◌, ◌-◌, ◌/◌, ◌<◌, Bool, true, false, not, ◌&&◌, ◌||◌, nat_lt, List, [], ◌∷◌, ◌++◌, Option, Some, None, slice_get, ℤ, pos, ◌+ℤ◌, ◌-ℤ◌, refl, sym, ap, subst, ◌∙◌, arith, append_assoc, if◌then◌else◌, flat_map}
use Rattle.std.specs.Prelude.{cond, count_by}
use Rattle.std.specs.Int.{int_max}
use Rattle.std.specs.List.{range_with_len}
use Rattle.std.proofs.lemmas.Grind.{flat_map-append}
use Rattle.std.proofs.lemmas.Bool.Decides.{nat_tests}
use Rattle.std.proofs.lemmas.Int.{ints}
use Rattle.rtp_stream.specs.Counts.{fates_of, is_got, is_lost, tally_of_fates}
use Rattle.rtp_stream.specs.History.{is_tick_in_order, is_well_timed}
use Rattle.rtp_stream.specs.MarkFacts.{MarkView}
use Rattle.rtp_stream.specs.MarkList.{has_end}
use Rattle.rtp_stream.specs.PathCounts.{PathTally}
use Rattle.rtp_stream.specs.Reception.{is_any, is_bad, is_sent, is_wrong_length, is_wrong_type}
use Rattle.rtp_stream.specs.StreamSpecFacts.{format_of}
use Rattle.rtp_stream.specs.declared.event.Event.TheVariants.{Tick as StreamTick}
use Rattle.rtp_stream.specs.declared.fate.Fate.{Fate}
use Rattle.rtp_stream.specs.declared.mark.PacketFormat.{PacketFormat}
use Rattle.rtp_stream.specs.declared.reception.Reception.{Reception}
use Rattle.rtp_stream.specs.declared.stream_spec.Stream.{Stream}
use Rattle.path_merge.proofs.HistoryLemmas.{time_of-append}
use Rattle.path_merge.proofs.MarkGrowthLemmas.{IsTickAt, well_timed_tick}
use Rattle.path_merge.proofs.MarkListLemmas.{listed}
use Rattle.path_merge.proofs.TallyLemmas.{count_by-first}
use Rattle.lane_align.specs.Cover.{cover_of, covers, end_of}
use Rattle.lane_align.specs.Lane.{natural}
use Rattle.lane_align.specs.Value.{frame_at}
use Rattle.gain_mix.specs.Changes.{matrix_at}
use Rattle.gain_mix.specs.Mix.{mixed_frame}
use Rattle.mix_packets.specs.Block.{block_datagram, block_start}
use Rattle.mix_packets.specs.OutSpec.{shift_of}
use Rattle.studio_config.specs.Studio.{Studio}
use Rattle.studio_mix.specs.Feed.{studio_values}
use Rattle.studio_mix.specs.Mixed.{mixed_samples}
use Rattle.studio_mix.specs.Output.{datagram_of}
use Rattle.studio_mix.specs.Ready.{are_covered, block_count, greatest_end, have_ended, is_ready}
use Rattle.studio_session.specs.Counts.{path_counts_of, path_tallies}
use Rattle.studio_session.specs.Event.{Arrival, Closing, Tick, TraceEvent}
use Rattle.studio_session.specs.Fault.{clock_fault, closed_after, event_fault, path_fault, session_fault_from, session_fault_of, time_after}
use Rattle.studio_session.specs.Play.{IsRunnableBy, feeds_from, feeds_of, stream_marks}
use Rattle.studio_session.specs.Pruned.{IsSameRun, pruned_events}
use Rattle.studio_session.specs.Report.{merge_tally_of}
use Rattle.studio_session.specs.Run.{AreDatagrams}
use Rattle.studio_session.specs.Session.{event_in, is_on, received_on, step_of, stream_history}
use Rattle.studio_session.specs.declared.fault.StudioFault.TheVariants.{Path as NoPath, Stream as NoStream}
use Rattle.studio_session.proofs.FaultLemmas.{fault_later, first_none, in_order, later_none, timed_from}
use Rattle.studio_session.proofs.NearLemmas.{AreNear, near_on, near_two, timed_part}
use Rattle.studio_session.proofs.SilenceLemmas.{AreAlike, close_alike}

-- an event with no fault at one place has none at another
path_anywhere : (p q : ℕ) (found : Option Stream) (path : ℕ) → path_fault p found path ≡ None → path_fault q found path ≡ None
path_anywhere p q None path e = absurd (let f : Some (NoStream p) ≡ None = e in cc)
path_anywhere p q (Some stream) path e = by_test (nat_lt path stream.paths) e
  where
    by_test : (b : Bool) → (if b then None else Some (NoPath p)) ≡ None → (if b then None else Some (NoPath q)) ≡ None
    by_test true e = refl
    by_test false e = absurd (let f : Some (NoPath p) ≡ None = e in cc)

event_anywhere : (streams : List Stream) (p q : ℕ) (time : ℤ) (closed : Bool) (event : TraceEvent) → event_fault streams p time closed event ≡ None → event_fault streams q time closed event ≡ None
event_anywhere streams p q time closed (Arrival stream path octets) e = path_anywhere p q (slice_get streams stream) path e
event_anywhere streams p q time closed (Tick u) e = ap (clock_fault q) (in_order p (is_tick_in_order time closed u) e)
event_anywhere streams p q time closed Closing e = refl

events_anywhere : (streams : List Stream) (p q : ℕ) (time : ℤ) (closed : Bool) (events : List TraceEvent) → session_fault_from streams p time closed events ≡ None → session_fault_from streams q time closed events ≡ None
events_anywhere streams p q time closed [] e = refl
events_anywhere streams p q time closed (event ∷ events) e =
    let here = first_none (event_fault streams p time closed event) _ e in
    let rest = later_none (event_fault streams p time closed event) _ e in
    fault_later streams q time closed event events (event_anywhere streams p q time closed event here)
    ∙ events_anywhere streams (suc p) (suc q) (time_after time event) (closed_after closed event) events rest

-- a reading in order after one that is in order is also in order without that one
both_in_order : (time a b : ℤ) (closed : Bool) → is_tick_in_order time closed a ≡ true → is_tick_in_order a closed b ≡ true → is_tick_in_order time closed b ≡ true
both_in_order time a b true one two = one
both_in_order time a b false one two = grind (arith, ints, nat_tests, one, two)

fault_without : (streams : List Stream) (p : ℕ) (time : ℤ) (closed : Bool) (first rest : List TraceEvent) (a b : ℤ) → session_fault_from streams p time closed (first ++ Tick a ∷ Tick b ∷ rest) ≡ None
    → session_fault_from streams p time closed (first ++ Tick b ∷ rest) ≡ None
fault_without streams p time closed [] rest a b e =
    let one = in_order p (is_tick_in_order time closed a) (first_none (event_fault streams p time closed (Tick a)) _ e) in
    let after = later_none (event_fault streams p time closed (Tick a)) _ e in
    let two = in_order (suc p) (is_tick_in_order a closed b) (first_none (event_fault streams (suc p) a closed (Tick b)) _ after) in
    let last = later_none (event_fault streams (suc p) a closed (Tick b)) _ after in
    fault_later streams p time closed (Tick b) rest (ap (clock_fault p) (both_in_order time a b closed one two))
    ∙ events_anywhere streams (suc (suc p)) (suc p) b closed rest last
fault_without streams p time closed (event ∷ first) rest a b e =
    let here = first_none (event_fault streams p time closed event) _ e in
    fault_later streams p time closed event (first ++ Tick b ∷ rest) here
    ∙ fault_without streams (suc p) (time_after time event) (closed_after closed event) first rest a b (later_none (event_fault streams p time closed event) _ e)

-- a reading is no datagram
count_without : (p : TraceEvent → Bool) (a : ℤ) (rest : List TraceEvent) → p (Tick a) ≡ false → (first : List TraceEvent) → count_by p (first ++ Tick a ∷ rest) ≡ count_by p (first ++ rest)
count_without p a rest not_it [] = count_by-first p (Tick a) rest ∙ ap (λ b. cond b 1 0 + count_by p rest) not_it ∙ none (count_by p rest)
  where
    none : (n : ℕ) → 0 + n ≡ n
    none n = omega arith
count_without p a rest not_it (x ∷ first) = count_by-first p x (first ++ Tick a ∷ rest) ∙ ap (λ n. cond (p x) 1 0 + n) (count_without p a rest not_it first) ∙ sym (count_by-first p x (first ++ rest))

received_without : (test : Reception → Bool) (stream : Stream) (number path : ℕ) (first rest : List TraceEvent) (a : ℤ) → received_on test stream number path (first ++ Tick a ∷ rest) ≡ received_on test stream number path (first ++ rest)
received_without test stream number path first rest a = count_without (λ event. is_on test path (step_of stream number event)) a rest refl first

same_tally : (a b c d e a' b' c' d' e' : ℕ) → a ≡ a' → b ≡ b' → c ≡ c' → d ≡ d' → e ≡ e'
    → ◌≡◌ {A = PathTally} (record { offered = a; sent = b; bad = c; wrong_type = d; wrong_length = e; full = 0 }) (record { offered = a'; sent = b'; bad = c'; wrong_type = d'; wrong_length = e'; full = 0 })
same_tally a b c d e a' b' c' d' e' p q r s t = cc

path_without : (stream : Stream) (number path : ℕ) (first rest : List TraceEvent) (a : ℤ) → path_counts_of stream number path (first ++ Tick a ∷ rest) ≡ path_counts_of stream number path (first ++ rest)
path_without stream number path first rest a =
    same_tally _ _ _ _ _ _ _ _ _ _ (received_without is_any stream number path first rest a) (received_without is_sent stream number path first rest a) (received_without is_bad stream number path first rest a) (received_without is_wrong_type stream number path first rest a) (received_without is_wrong_length stream number path first rest a)

paths_without : (stream : Stream) (number : ℕ) (first rest : List TraceEvent) (a : ℤ) (count : ℕ) → path_tallies stream number (first ++ Tick a ∷ rest) count ≡ path_tallies stream number (first ++ rest) count
paths_without stream number first rest a zero = refl
paths_without stream number first rest a (suc count) =
    ap (λ l. l ++ path_counts_of stream number count (first ++ Tick a ∷ rest) ∷ []) (paths_without stream number first rest a count)
    ∙ ap (λ t. path_tallies stream number (first ++ rest) count ++ t ∷ []) (path_without stream number count first rest a)

-- the counts are the same for the same fates and for marks that are alike
tallies_alike : (format : PacketFormat) (fates others : List (ℕ × Fate)) (long short : List MarkView) → fates ≡ others → AreAlike format long short → tally_of_fates fates long ≡ tally_of_fates others short
tallies_alike format fates others long short same alike =
    ap (λ f. tally_of_fates f long) same
    ∙ ap (λ n. record (tally_of_fates others long) { got = n; lost = count_by (λ mark. is_lost mark.kind) long }) alike.got
    ∙ ap (λ n. record (tally_of_fates others long) { got = count_by (λ mark. is_got mark.kind) short; lost = n }) alike.lost

-- the marks and counts of one stream, with a reading and without it
module _ (studio : Studio) (first rest : List TraceEvent) (a b : ℤ) (none : session_fault_of studio (first ++ Tick a ∷ Tick b ∷ rest) ≡ None) where
  none_without : session_fault_of studio (first ++ Tick b ∷ rest) ≡ None
  none_without = fault_without studio.streams 0 studio.open_at false first rest a b none

  module _ (stream : Stream) (number : ℕ) (some : 0 < stream.frames) where
    long_is : stream_history stream number (first ++ Tick a ∷ Tick b ∷ rest) ≡ ((stream_history stream number first ++ StreamTick a ∷ []) ++ StreamTick b ∷ []) ++ stream_history stream number rest
    long_is =
        flat_map-append (λ event. event_in (step_of stream number event)) first (Tick a ∷ Tick b ∷ rest)
        ∙ sym (append_assoc (stream_history stream number first) (StreamTick a ∷ []) (StreamTick b ∷ stream_history stream number rest))
        ∙ sym (append_assoc (stream_history stream number first ++ StreamTick a ∷ []) (StreamTick b ∷ []) (stream_history stream number rest))

    short_is : stream_history stream number (first ++ Tick b ∷ rest) ≡ (stream_history stream number first ++ StreamTick b ∷ []) ++ stream_history stream number rest
    short_is =
        flat_map-append (λ event. event_in (step_of stream number event)) first (Tick b ∷ rest)
        ∙ sym (append_assoc (stream_history stream number first) (StreamTick b ∷ []) (stream_history stream number rest))

    timed_long : is_well_timed studio.open_at (stream_history stream number (first ++ Tick a ∷ Tick b ∷ rest)) ≡ true
    timed_long = timed_from studio.streams stream number 0 studio.open_at false (first ++ Tick a ∷ Tick b ∷ rest) none

    timed_short : is_well_timed studio.open_at (stream_history stream number (first ++ Tick b ∷ rest)) ≡ true
    timed_short = timed_from studio.streams stream number 0 studio.open_at false (first ++ Tick b ∷ rest) none_without

    near : AreNear stream studio.open_at (stream_history stream number (first ++ Tick a ∷ Tick b ∷ rest)) (stream_history stream number (first ++ Tick b ∷ rest))
    near =
        let timed : is_well_timed studio.open_at (((stream_history stream number first ++ StreamTick a ∷ []) ++ StreamTick b ∷ []) ++ stream_history stream number rest) ≡ true = sym (ap (is_well_timed studio.open_at) long_is) ∙ timed_long in
        let others : is_well_timed studio.open_at ((stream_history stream number first ++ StreamTick b ∷ []) ++ stream_history stream number rest) ≡ true = sym (ap (is_well_timed studio.open_at) short_is) ∙ timed_short in
        let second : IsTickAt studio.open_at (stream_history stream number first ++ StreamTick a ∷ []) b = well_timed_tick studio.open_at (stream_history stream number first ++ StreamTick a ∷ []) b (timed_part studio.open_at ((stream_history stream number first ++ StreamTick a ∷ []) ++ StreamTick b ∷ []) (stream_history stream number rest) timed) in
        let one : IsTickAt studio.open_at (stream_history stream number first) a = well_timed_tick studio.open_at (stream_history stream number first) a second.before in
        let start = near_two stream studio.open_at some (stream_history stream number first) a b one (omega (arith, ints, second.not_back, time_of-append studio.open_at (stream_history stream number first) (StreamTick a ∷ []))) second.not_far in
        subst (λ l. AreNear stream studio.open_at l (stream_history stream number (first ++ Tick b ∷ rest))) (sym long_is)
        (subst (AreNear stream studio.open_at (((stream_history stream number first ++ StreamTick a ∷ []) ++ StreamTick b ∷ []) ++ stream_history stream number rest)) (sym short_is)
        (near_on stream studio.open_at some ((stream_history stream number first ++ StreamTick a ∷ []) ++ StreamTick b ∷ []) (stream_history stream number first ++ StreamTick b ∷ []) (stream_history stream number rest) start timed others))

    marks_alike : AreAlike (format_of stream) (stream_marks stream number studio.open_at (first ++ Tick a ∷ Tick b ∷ rest)) (stream_marks stream number studio.open_at (first ++ Tick b ∷ rest))
    marks_alike =
        close_alike stream (format_of stream) (stream_marks stream number studio.open_at (first ++ Tick a ∷ Tick b ∷ rest)) (stream_marks stream number studio.open_at (first ++ Tick b ∷ rest)) near.marks
        (listed stream studio.open_at (stream_history stream number (first ++ Tick a ∷ Tick b ∷ rest)) some timed_long)
        (listed stream studio.open_at (stream_history stream number (first ++ Tick b ∷ rest)) some timed_short)

    tally_same : merge_tally_of stream number studio.open_at (first ++ Tick a ∷ Tick b ∷ rest) ≡ merge_tally_of stream number studio.open_at (first ++ Tick b ∷ rest)
    tally_same = tallies_alike (format_of stream) (fates_of stream studio.open_at (stream_history stream number (first ++ Tick a ∷ Tick b ∷ rest))) (fates_of stream studio.open_at (stream_history stream number (first ++ Tick b ∷ rest))) (stream_marks stream number studio.open_at (first ++ Tick a ∷ Tick b ∷ rest)) (stream_marks stream number studio.open_at (first ++ Tick b ∷ rest)) near.fates marks_alike

-- all streams, which are numbered from `number` on
abbrev pub SameMarks : ℤ → List TraceEvent → List TraceEvent → ℕ → List Stream → Type 0
SameMarks open_at e f number [] = Unit {0}
SameMarks open_at e f number (stream ∷ streams) =
    AreAlike (format_of stream) (stream_marks stream number open_at e) (stream_marks stream number open_at f) × SameMarks open_at e f (suc number) streams

module _ (open_at : ℤ) (e f : List TraceEvent) where
  covered_same : (t : ℤ) (number : ℕ) (streams : List Stream) → SameMarks open_at e f number streams → are_covered (feeds_from open_at e number streams) t ≡ are_covered (feeds_from open_at f number streams) t
  covered_same t number [] same = refl
  covered_same t number (stream ∷ streams) same =
      ap (λ c. covers c t && are_covered (feeds_from open_at e (suc number) streams) t) same.0.cover
      ∙ ap (λ b. covers (cover_of (format_of stream) (stream_marks stream number open_at f)) t && b) (covered_same t (suc number) streams same.1)

  ended_same : (number : ℕ) (streams : List Stream) → SameMarks open_at e f number streams → have_ended (feeds_from open_at e number streams) ≡ have_ended (feeds_from open_at f number streams)
  ended_same number [] same = refl
  ended_same number (stream ∷ streams) same =
      ap (λ b. b && have_ended (feeds_from open_at e (suc number) streams)) same.0.ended
      ∙ ap (λ b. has_end (stream_marks stream number open_at f) && b) (ended_same (suc number) streams same.1)

  end_same : (start : ℤ) (number : ℕ) (streams : List Stream) → SameMarks open_at e f number streams → greatest_end start (feeds_from open_at e number streams) ≡ greatest_end start (feeds_from open_at f number streams)
  end_same start number [] same = refl
  end_same start number (stream ∷ streams) same =
      ap (λ t. int_max t (greatest_end start (feeds_from open_at e (suc number) streams))) (same.0.end start)
      ∙ ap (int_max (end_of (format_of stream) start (stream_marks stream number open_at f))) (end_same start (suc number) streams same.1)

  values_same : (t : ℤ) (number : ℕ) (streams : List Stream) → SameMarks open_at e f number streams → studio_values (feeds_from open_at e number streams) t ≡ studio_values (feeds_from open_at f number streams) t
  values_same t number [] same = refl
  values_same t number (stream ∷ streams) same =
      ap (λ l. l ++ studio_values (feeds_from open_at e (suc number) streams) t) (same.0.frames t)
      ∙ ap (λ l. frame_at (format_of stream) (stream_marks stream number open_at f) t ++ l) (values_same t (suc number) streams same.1)

-- so the same blocks are ready, and their datagrams are the same
rows_same : (row other : ℕ → List ℤ) → ((n : ℕ) → row n ≡ other n) → (ns : List ℕ) → flat_map row ns ≡ flat_map other ns
rows_same row other same [] = refl
rows_same row other same (n ∷ ns) = ap (λ l. l ++ flat_map row ns) (same n) ∙ ap (λ l. other n ++ l) (rows_same row other same ns)

module _ (studio : Studio) (e f : List TraceEvent) (same : SameMarks studio.open_at e f 0 studio.streams) where
  ready_same : (n : ℕ) → is_ready studio.output (feeds_of studio e) n ≡ is_ready studio.output (feeds_of studio f) n
  ready_same n =
      ap (λ c. c && (not (have_ended (feeds_of studio e)) || nat_lt n (block_count studio.output (feeds_of studio e)))) (covered_same studio.open_at e f (block_start studio.output (n + 1)) 0 studio.streams same)
      ∙ ap (λ c. are_covered (feeds_of studio f) (block_start studio.output (n + 1)) && (not c || nat_lt n (block_count studio.output (feeds_of studio e)))) (ended_same studio.open_at e f 0 studio.streams same)
      ∙ ap (λ t. are_covered (feeds_of studio f) (block_start studio.output (n + 1)) && (not (have_ended (feeds_of studio f)) || nat_lt n ((natural (t -ℤ studio.output.start) + (studio.output.frames - 1)) / studio.output.frames))) (end_same studio.open_at e f studio.output.start 0 studio.streams same)

  datagram_same : (n : ℕ) → datagram_of studio (feeds_of studio e) n ≡ datagram_of studio (feeds_of studio f) n
  datagram_same n =
      ap (block_datagram studio.output n)
      (rows_same (λ frame. mixed_samples studio (feeds_of studio e) (block_start studio.output n +ℤ pos frame)) (λ frame. mixed_samples studio (feeds_of studio f) (block_start studio.output n +ℤ pos frame))
      (λ frame. ap (λ v. mixed_frame (matrix_at studio.schedule (block_start studio.output n +ℤ pos frame)) v (shift_of studio.output.enc)) (values_same studio.open_at e f (block_start studio.output n +ℤ pos frame) 0 studio.streams same))
      (range_with_len 0 studio.output.frames))

  datagrams_on : (datagrams : List (List ℕ)) → AreDatagrams studio e datagrams → AreDatagrams studio f datagrams
  datagrams_on datagrams are = record {
    ready = λ n. are.ready n ∙ ready_same n;
    each = λ n datagram at. are.each n datagram at ∙ datagram_same n;
  }

  datagrams_back : (datagrams : List (List ℕ)) → AreDatagrams studio f datagrams → AreDatagrams studio e datagrams
  datagrams_back datagrams are = record {
    ready = λ n. are.ready n ∙ sym (ready_same n);
    each = λ n datagram at. are.each n datagram at ∙ sym (datagram_same n);
  }

-- every stream of a studio that can be run has some frames
abbrev AllSome : List Stream → Type 0
AllSome [] = Unit {0}
AllSome (stream ∷ streams) = (0 < stream.frames) × AllSome streams

all_some : (streams : List Stream) → ((i : ℕ) (stream : Stream) → slice_get streams i ≡ Some stream → 0 < stream.frames) → AllSome streams
all_some [] each = tt
all_some (stream ∷ streams) each = (each 0 stream refl, all_some streams (λ i s at. each (suc i) s at))

module _ (studio : Studio) (runs : IsRunnableBy studio []) (first rest : List TraceEvent) (a b : ℤ) (none : session_fault_of studio (first ++ Tick a ∷ Tick b ∷ rest) ≡ None) where
  same_marks : (streams : List Stream) (number : ℕ) → AllSome streams → SameMarks studio.open_at (first ++ Tick a ∷ Tick b ∷ rest) (first ++ Tick b ∷ rest) number streams
  same_marks [] number some = tt
  same_marks (stream ∷ streams) number some = (marks_alike studio first rest a b none stream number some.0, same_marks streams (suc number) some.1)

  all_same : SameMarks studio.open_at (first ++ Tick a ∷ Tick b ∷ rest) (first ++ Tick b ∷ rest) 0 studio.streams
  all_same = same_marks studio.streams 0 (all_some studio.streams (λ i stream at. (runs.each i stream at).some_frames))

  paths_same : (stream : Stream) (number count : ℕ) → path_tallies stream number (first ++ Tick a ∷ Tick b ∷ rest) count ≡ path_tallies stream number (first ++ Tick b ∷ rest) count
  paths_same stream number count = paths_without stream number first (Tick b ∷ rest) a count

  -- a studio's run with the reading and without it is the same
  pub tick_left_out : IsSameRun studio (first ++ Tick a ∷ Tick b ∷ rest) (first ++ Tick b ∷ rest)
  tick_left_out = record {
    no_fault = none_without studio first rest a b none;
    paths = λ i path stream at. path_without stream i path first (Tick b ∷ rest) a;
    merges = λ i stream at. tally_same studio first rest a b none stream i (runs.each i stream at).some_frames;
    datagrams = datagrams_on studio (first ++ Tick a ∷ Tick b ∷ rest) (first ++ Tick b ∷ rest) all_same;
    datagrams_back = datagrams_back studio (first ++ Tick a ∷ Tick b ∷ rest) (first ++ Tick b ∷ rest) all_same;
    counts = λ counts are. record {
      count = are.count;
      each = λ i stream c at there.
          let its = are.each i stream c at there in
          record { paths = its.paths ∙ paths_same stream i stream.paths; merge = its.merge ∙ tally_same studio first rest a b none stream i (runs.each i stream at).some_frames };
    };
    counts_back = λ counts are. record {
      count = are.count;
      each = λ i stream c at there.
          let its = are.each i stream c at there in
          record { paths = its.paths ∙ sym (paths_same stream i stream.paths); merge = its.merge ∙ sym (tally_same studio first rest a b none stream i (runs.each i stream at).some_frames) };
    };
  }

same_itself : (studio : Studio) (events : List TraceEvent) → session_fault_of studio events ≡ None → IsSameRun studio events events
same_itself studio events none = record { no_fault = none; paths = λ i path stream at. refl; merges = λ i stream at. refl; datagrams = λ datagrams are. are; datagrams_back = λ datagrams are. are; counts = λ counts are. are; counts_back = λ counts are. are }

same_on : (studio : Studio) (e f g : List TraceEvent) → IsSameRun studio e f → IsSameRun studio f g → IsSameRun studio e g
same_on studio e f g one two = record {
  no_fault = two.no_fault;
  paths = λ i path stream at. one.paths i path stream at ∙ two.paths i path stream at;
  merges = λ i stream at. one.merges i stream at ∙ two.merges i stream at;
  datagrams = λ datagrams are. two.datagrams datagrams (one.datagrams datagrams are);
  datagrams_back = λ datagrams are. one.datagrams_back datagrams (two.datagrams_back datagrams are);
  counts = λ counts are. two.counts counts (one.counts counts are);
  counts_back = λ counts are. one.counts_back counts (two.counts_back counts are);
}

-- a studio's run without all readings that are directly followed by another
module _ (studio : Studio) (runs : IsRunnableBy studio []) where
  abbrev Prunes : List TraceEvent → List TraceEvent → Type 0
  Prunes first events = session_fault_of studio (first ++ events) ≡ None → IsSameRun studio (first ++ events) (first ++ pruned_events events)

  -- the events after an event that is not left out
  behind : (first : List TraceEvent) (event : TraceEvent) (events : List TraceEvent) → Prunes (first ++ event ∷ []) events
      → session_fault_of studio (first ++ event ∷ events) ≡ None → IsSameRun studio (first ++ event ∷ events) (first ++ event ∷ pruned_events events)
  behind first event events prunes none =
      let one = append_assoc first (event ∷ []) events in
      let two = append_assoc first (event ∷ []) (pruned_events events) in
      subst (λ l. IsSameRun studio l (first ++ event ∷ pruned_events events)) one
      (subst (IsSameRun studio ((first ++ event ∷ []) ++ events)) two (prunes (ap (session_fault_of studio) one ∙ none)))

  by_next : (first : List TraceEvent) (u : ℤ) (events : List TraceEvent) → Prunes (first ++ Tick u ∷ []) events → Prunes first events → Prunes first (Tick u ∷ events)
  by_next first u [] stays passed none = behind first (Tick u) [] stays none
  by_next first u (Arrival stream path octets ∷ events) stays passed none = behind first (Tick u) (Arrival stream path octets ∷ events) stays none
  by_next first u (Closing ∷ events) stays passed none = behind first (Tick u) (Closing ∷ events) stays none
  by_next first u (Tick v ∷ events) stays passed none =
      let one = tick_left_out studio runs first events u v none in
      same_on studio (first ++ Tick u ∷ Tick v ∷ events) (first ++ Tick v ∷ events) (first ++ pruned_events (Tick v ∷ events)) one (passed one.no_fault)

  prunes_from : (events first : List TraceEvent) → Prunes first events
  prunes_from [] first none = same_itself studio (first ++ []) none
  prunes_from (Arrival stream path octets ∷ events) first none = behind first (Arrival stream path octets) events (prunes_from events (first ++ Arrival stream path octets ∷ [])) none
  prunes_from (Closing ∷ events) first none = behind first Closing events (prunes_from events (first ++ Closing ∷ [])) none
  prunes_from (Tick u ∷ events) first none = by_next first u events (prunes_from events (first ++ Tick u ∷ [])) (prunes_from events first) none

  pub pruned_same : (events : List TraceEvent) → session_fault_of studio events ≡ None → IsSameRun studio events (pruned_events events)
  pruned_same events none = prunes_from events [] none
