-- The first arrival that anchors a stream.
use Rattle.rtp_stream.specs.Epochs.{anchor_in, anchor_of, anchors_of, last_of, placed}
use Rattle.rtp_stream.specs.Grid.{copies_under, first_with, of_width}
use Rattle.std.proofs.Common.{◌≡◌, ℕ, ◌+◌, ◌*◌, ◌^◌, ◌<◌, Bool, true, false, not, ◌&&◌, List, [], ◌∷◌, ◌++◌, length, Option, Some, None, ℤ, pos, ◌+ℤ◌, ◌-ℤ◌, ◌<ℤ◌, refl, sym, ap, subst, ◌∙◌, arith, if◌then◌else◌}
use Rattle.std.specs.Prelude.{int_lt, int_le, nat_lt, nat_eq}
use Rattle.std.proofs.lemmas.Bool.Decides.{nat_tests}
use Rattle.std.proofs.lemmas.Int.{ints}
use Rattle.std.specs.FinMap.{get, FinMap}
use Rattle.std.specs.Ordering.{nat_cmp}
use Rattle.path_merge.proofs.ArrivalLemmas.{marks_of-arrive, stands_after_arrival}
use Rattle.path_merge.proofs.HeldCountLemmas.{FateCounts, with_fate-counts}
use Rattle.path_merge.proofs.HistoryLemmas.{marks_of-in, or_else}
use Rattle.path_merge.proofs.EpochLemmas.{anchor_is, copies_of-since, copies_since-made, heard_of-made, last-push, width_made, since_of, standings_of-made}
use Rattle.rtp_stream.specs.FollowTrack.{no_track, track_at, track_of}
use Rattle.rtp_stream.specs.Follow.{standings_on}
use Rattle.path_merge.proofs.PlaceLemmas.{first_counts}
use Rattle.path_merge.proofs.MarkGrowthLemmas.{AllSlotsBelow, limit_of, slots_below}
use Rattle.path_merge.proofs.AnewLemmas.{own_copy, sound_anew}
use Rattle.path_merge.proofs.RestartOfferLemmas.{all, counts_heard, few, hears, none_above, one_held}
use Rattle.path_merge.proofs.SoundLemmas.{some_window}
use Rattle.rtp_stream.specs.Anchor.{anchor_from, first_media_time, can_anchor, is_source_wanted}
use Rattle.rtp_stream.specs.Copies.{copies_of, copies_of_all, first_copy}
use Rattle.rtp_stream.specs.PathProbation.{no_probation, probation_at, probation_of}
use Rattle.rtp_stream.specs.declared.probation.Probation.{Probation}
use Rattle.rtp_stream.specs.Counts.{counts_of, is_counted_fate, is_restarted, is_taken_fate}
use Rattle.rtp_stream.specs.CountsFacts.{Tally, with_fate}
use Rattle.rtp_stream.specs.Fate.{fate_of, fault_or, first_fate}
use Rattle.rtp_stream.specs.History.{arrival_count, is_closed, is_counting, time_of}
use Rattle.rtp_stream.specs.Marks.{marks_of}
use Rattle.path_merge.specs.Merge.{HasHistory, IsBaseOf, heard_of, slot_count, standings_of}
use Rattle.path_merge.specs.MergeState.{IsAnchoredOrNot, IsSound, IsUnanchored, MergeState}
use Rattle.path_merge.specs.Steps.{IsFirstStep, IsRefusal, Offers}
use Rattle.rtp_stream.specs.StreamSpec.{Fits}
use Rattle.rtp_stream.specs.declared.stream_spec.Stream.{Stream}
use Rattle.rtp_stream.specs.Put.{is_taken, put_answer}
use Rattle.path_merge.specs.Window.{IsEmpty}
use Rattle.rtp_stream.specs.declared.anchor.Anchor.{Anchor}
use Rattle.rtp_stream.specs.declared.event.Event.{Event}
use Rattle.rtp_stream.specs.declared.event.Event.TheVariants.{Arrive}
use Rattle.rtp_stream.specs.declared.fate.Fate.{Fate}
use Rattle.rtp_stream.specs.declared.fate.Fate.TheVariants.{Ahead, Closed, CountersFull, Double, Late, OffGrid, Restarted, Taken, Unlike, WrongSource}
use Rattle.rtp_stream.specs.declared.packet.Packet.{Packet}
use Rattle.rtp_stream.specs.declared.fate.Put.{Put}

-- an order test and its turn
lt-not_le : (a b : ℤ) → int_lt a b ≡ not (int_le b a)
lt-not_le a b = by_test (int_le b a) refl
  where
    by_test : (c : Bool) → int_le b a ≡ c → int_lt a b ≡ not c
    by_test true e = grind (arith, ints, e)
    by_test false e = grind (arith, ints, e)

-- a packet is taken as the first exactly if it may be the first
pub taken-can_anchor : (stream : Stream) (time : ℤ) (packet : Packet) → is_taken_fate (first_fate stream time packet) ≡ can_anchor stream time packet
taken-can_anchor stream time packet =
    let low = lt-not_le (time -ℤ pos stream.latency) (first_media_time stream.clock packet.ts time) in
    let high = lt-not_le (first_media_time stream.clock packet.ts time) (time -ℤ pos stream.latency +ℤ pos (stream.window * stream.frames)) in
    by_tests (is_source_wanted stream.ssrc packet.ssrc) (int_le (first_media_time stream.clock packet.ts time) (time -ℤ pos stream.latency)) (int_le (time -ℤ pos stream.latency +ℤ pos (stream.window * stream.frames)) (first_media_time stream.clock packet.ts time))
    ∙ sym (ap (λ b. is_source_wanted stream.ssrc packet.ssrc && (b && int_lt (first_media_time stream.clock packet.ts time) (time -ℤ pos stream.latency +ℤ pos (stream.window * stream.frames)))) low ∙ ap (λ b. is_source_wanted stream.ssrc packet.ssrc && (not (int_le (first_media_time stream.clock packet.ts time) (time -ℤ pos stream.latency)) && b)) high)
  where
    by_tests : (w l h : Bool) → is_taken_fate (if not w then WrongSource else fault_or (if l then Some Late else if h then Some Ahead else None) Taken) ≡ (w && (not l && not h))
    by_tests false l h = refl
    by_tests true true h = refl
    by_tests true false true = refl
    by_tests true false false = refl

pub record IsFirst (stream : Stream) (time : ℤ) (packet : Packet) : Type 0 where
  pub after : (time -ℤ pos stream.latency) <ℤ first_media_time stream.clock packet.ts time
  pub before : first_media_time stream.clock packet.ts time <ℤ (time -ℤ pos stream.latency +ℤ pos (stream.window * stream.frames))

pub is_first : (stream : Stream) (time : ℤ) (packet : Packet) → can_anchor stream time packet ≡ true → IsFirst stream time packet
is_first stream time packet can = by_tests (is_source_wanted stream.ssrc packet.ssrc) (int_lt (time -ℤ pos stream.latency) (first_media_time stream.clock packet.ts time)) (int_lt (first_media_time stream.clock packet.ts time) (time -ℤ pos stream.latency +ℤ pos (stream.window * stream.frames))) refl refl can
  where
    by_tests : (w a b : Bool) → int_lt (time -ℤ pos stream.latency) (first_media_time stream.clock packet.ts time) ≡ a → int_lt (first_media_time stream.clock packet.ts time) (time -ℤ pos stream.latency +ℤ pos (stream.window * stream.frames)) ≡ b → (w && (a && b)) ≡ true → IsFirst stream time packet
    by_tests true true true ea eb e = record { after = grind (arith, ints, ea); before = grind (arith, ints, eb) }
    by_tests false a b ea eb e = cc
    by_tests true false b ea eb e = cc
    by_tests true true false ea eb e = cc

some_inj : {x y : Packet} → Some x ≡ Some y → x ≡ y
some_inj e = cc

module _ (stream : Stream) (open_at : ℤ) (m : MergeState) (media : ℤ) (s : IsSound m media) (open_yet : m.closed ≡ false) (events : List Event) (k : ℕ) (at : HasHistory stream open_at m events k) (unanchored : m.anchor ≡ None) (space : m.counts.arrived < 2 ^ 62) (path : ℕ) (packet : Packet) (few_paths : path < 4) (seq : packet.seq < 65536) (ts : packet.ts < 2 ^ 32) where
  frames_some : 0 < stream.frames
  frames_some = rw at.spec at s.spec_ok.some_frames

  window_some : 0 < stream.window
  window_some = rw at.spec at (some_window m.spec s.spec_ok)

  still_open : is_closed events ≡ false
  still_open = sym at.closed ∙ open_yet

  -- nothing was held or produced yet
  none_held : IsUnanchored m
  none_held = subst (λ o. IsAnchoredOrNot m media o) unanchored s.anchored

  hearing : is_counting events ≡ true
  hearing = hears stream open_at m media s open_yet events k at space

  no_last : last_of (anchors_of stream open_at events) ≡ None
  no_last = by_last (last_of (anchors_of stream open_at events)) (sym (anchor_is stream open_at events) ∙ sym at.anchor ∙ unanchored)
    where
      by_last : (o : Option (ℕ × Anchor)) → anchor_in o ≡ None → o ≡ None
      by_last None e = refl
      by_last (Some (place, a)) e = cc

  pub fate_first : (new : MergeState) (fate : Fate) → IsFirstStep stream m new path packet fate → fate ≡ fate_of stream open_at events path packet
  fate_first new answer step = step.fate_is ∙ sym (rw (still_open, no_last, sym at.anchor ∙ unanchored, ← at.time) (by_count (arrival_count events) (few stream open_at m media s open_yet events k at space)))
    where
      by_count : (n : ℕ) → n < 2 ^ 62 → (if not (nat_lt n (2 ^ 62)) then CountersFull else first_fate stream m.time packet) ≡ first_fate stream m.time packet
      by_count n h = let yes : nat_lt n (2 ^ 62) ≡ true = grind (arith, nat_tests, h) in rw yes refl

  -- the anchor after the arrival
  last_after : last_of (anchors_of stream open_at (events ++ Arrive path packet ∷ [])) ≡ (if can_anchor stream m.time packet then Some (length events, anchor_from stream m.time packet) else None)
  last_after = last-push stream open_at events (Arrive path packet) ∙ ap (or_else _) no_last ∙ rw (hearing, no_last, ← at.time) (by_test (can_anchor stream m.time packet))
    where
      by_test : (b : Bool) → or_else (last_of (placed (length events) (if b then anchor_from stream m.time packet ∷ [] else []))) None ≡ (if b then Some (length events, anchor_from stream m.time packet) else None)
      by_test true = refl
      by_test false = refl

  anchor_after : anchor_of stream open_at (events ++ Arrive path packet ∷ []) ≡ (if can_anchor stream m.time packet then Some (anchor_from stream m.time packet) else None)
  anchor_after = anchor_is stream open_at (events ++ Arrive path packet ∷ []) ∙ ap anchor_in last_after ∙ by_test (can_anchor stream m.time packet)
    where
      by_test : (b : Bool) → anchor_in (if b then Some (length events, anchor_from stream m.time packet) else None) ≡ (if b then Some (anchor_from stream m.time packet) else None)
      by_test true = refl
      by_test false = refl

  copies_after : copies_of stream open_at (events ++ Arrive path packet ∷ []) ≡ (if can_anchor stream m.time packet then (65536 + packet.seq, packet) ∷ [] else [])
  copies_after = copies_of-since stream open_at (events ++ Arrive path packet ∷ []) ∙ ap (λ o. since_of stream open_at o (events ++ Arrive path packet ∷ [])) last_after ∙ by_test (can_anchor stream m.time packet) refl
    where
      by_test : (b : Bool) → can_anchor stream m.time packet ≡ b → since_of stream open_at (if b then Some (length events, anchor_from stream m.time packet) else None) (events ++ Arrive path packet ∷ []) ≡ (if b then (65536 + packet.seq, packet) ∷ [] else [])
      by_test false e = refl
      by_test true e = copies_since-made stream open_at events (Arrive path packet) (anchor_from stream m.time packet) ∙ ap (λ r. copies_under (of_width stream r) (time_of open_at events) (is_counting events) (Some (anchor_from stream m.time packet)) packet) (width_made stream open_at (anchor_from stream m.time packet) events) ∙ rw (← at.time, hearing) (own_copy (of_width stream stream.window) m.time packet 0 (first_media_time stream.clock packet.ts m.time) frames_some window_some seq ts (is_first stream m.time packet e).after)

  heard_after : (on : ℕ) → heard_of stream open_at (last_of (anchors_of stream open_at (events ++ Arrive path packet ∷ []))) (events ++ Arrive path packet ∷ []) on ≡ []
  heard_after on = ap (λ o. heard_of stream open_at o (events ++ Arrive path packet ∷ []) on) last_after ∙ by_test (can_anchor stream m.time packet)
    where
      by_test : (b : Bool) → heard_of stream open_at (if b then Some (length events, anchor_from stream m.time packet) else None) (events ++ Arrive path packet ∷ []) on ≡ []
      by_test true = heard_of-made stream open_at (anchor_from stream m.time packet) events (Arrive path packet) on
      by_test false = refl

  standings_after : standings_of stream open_at (last_of (anchors_of stream open_at (events ++ Arrive path packet ∷ []))) (events ++ Arrive path packet ∷ []) ≡ []
  standings_after = ap (λ o. standings_of stream open_at o (events ++ Arrive path packet ∷ [])) last_after ∙ by_test (can_anchor stream m.time packet)
    where
      by_test : (b : Bool) → standings_of stream open_at (if b then Some (length events, anchor_from stream m.time packet) else None) (events ++ Arrive path packet ∷ []) ≡ []
      by_test true = standings_of-made stream open_at (anchor_from stream m.time packet) events (Arrive path packet)
      by_test false = refl

  was_untracked : (on : ℕ) → on < 4 → track_at m.tracks on ≡ no_track
  was_untracked on few_on = at.tracks on few_on ∙ ap (λ o. track_of (standings_on on (standings_of stream open_at o events))) no_last

  was_none : (on : ℕ) → on < 4 → probation_at m.probations on ≡ no_probation
  was_none on few_on = at.probation on few_on ∙ ap (λ o. probation_of stream (heard_of stream open_at o events on)) no_last

  taken_is : (new : MergeState) (fate : Fate) → IsFirstStep stream m new path packet fate → is_taken_fate fate ≡ can_anchor stream m.time packet
  taken_is new answer step = ap is_taken_fate step.fate_is ∙ taken-can_anchor stream m.time packet

  none_slotted : slot_count 0 (marks_of stream open_at events) ≡ 0
  none_slotted = none_above 0 (marks_of stream open_at events) (subst (λ o. AllSlotsBelow (limit_of stream o) (marks_of stream open_at events)) (sym at.anchor ∙ unanchored) (rw (marks_of-in stream open_at events) (slots_below stream open_at frames_some (copies_of_all stream open_at events) events at.well_timed still_open)))

  base_after : (new : MergeState) (fate : Fate) → IsFirstStep stream m new path packet fate → IsBaseOf new.anchor new.base (marks_of stream open_at events)
  base_after new fate step = subst (λ o. IsBaseOf o new.base (marks_of stream open_at events)) (sym step.anchor) (by_test (is_taken_fate fate) refl)
    where
      by_test : (b : Bool) → is_taken_fate fate ≡ b → IsBaseOf (if b then Some (anchor_from stream m.time packet) else None) new.base (marks_of stream open_at events)
      by_test true e = omega (arith, step.base e, none_slotted)
      by_test false e = tt

  held_after : (new : MergeState) (fate : Fate) → IsFirstStep stream m new path packet fate → (n : ℕ) → get new.held n ≡ (if nat_lt n new.base then None else first_copy stream open_at (events ++ Arrive path packet ∷ []) n)
  held_after new fate step n = step.held n ∙ by_test (is_taken_fate fate) refl ∙ sym (ap (λ l. if nat_lt n new.base then None else first_with n l) copies_after)
    where
      by_test : (b : Bool) → is_taken_fate fate ≡ b → (if b && nat_eq n (65536 + packet.seq) then Some packet else None) ≡ (if nat_lt n new.base then None else first_with n (if can_anchor stream m.time packet then (65536 + packet.seq, packet) ∷ [] else []))
      by_test false e = rw (sym (taken_is new fate step) ∙ e) (none (nat_lt n new.base))
        where
          none : (b : Bool) → ◌≡◌ {A = Option Packet} None (if b then None else None)
          none true = refl
          none false = refl
      by_test true e = rw (sym (taken_is new fate step) ∙ e, step.base e) (sym (one_held n (65536 + packet.seq) packet))

  pub stands_first : (new : MergeState) (fate : Fate) → IsFirstStep stream m new path packet fate → HasHistory stream open_at new (events ++ Arrive path packet ∷ []) k
  stands_first new fate step = stands_after_arrival stream open_at frames_some m new events k path packet at open_yet (few stream open_at m media s open_yet events k at space) (record {
    spec = ap (λ (x : MergeState). x.spec) step.changed;
    time = ap (λ (x : MergeState). x.time) step.changed;
    anchor = step.anchor ∙ ap (λ b. if b then Some (anchor_from stream m.time packet) else None) (taken_is new fate step) ∙ sym anchor_after;
    base = base_after new fate step;
    probation = λ on few_on. ap (λ (x : MergeState). probation_at x.probations on) step.changed ∙ was_none on few_on ∙ ap (probation_of stream) (sym (heard_after on));
    tracks = λ on few_on. ap (λ (x : MergeState). track_at x.tracks on) step.changed ∙ was_untracked on few_on ∙ ap (λ l. track_of (standings_on on l)) (sym standings_after);
    held = held_after new fate step;
    quiet = ap (λ (x : MergeState). x.quiet) step.changed;
    counts = ap (λ (x : MergeState). x.counts) step.changed ∙ ap (λ t. with_fate t path fate) (at.counts ∙ ap (counts_of stream open_at events) (all stream open_at m media s open_yet events k at)) ∙ sym (counts_heard stream open_at m media s open_yet events k at path packet space fate (fate_first new fate step) (ap is_counted_fate step.fate_is ∙ first_counts stream m.time packet) few_paths);
    closed = ap (λ (x : MergeState). x.closed) step.changed;
    ended = ap (λ (x : MergeState). x.ended) step.changed;
  })

-- a merge that takes its first packet, or refuses it, stays sound
pub sound_refused : (m : MergeState) (media : ℤ) (path : ℕ) (fate : Fate) (counts' : Tally) (probations' : List Probation) → IsSound m media → m.counts.arrived < 2 ^ 62 → is_taken_fate fate ≡ false → counts' ≡ with_fate m.counts path fate → IsSound (record m { counts = counts'; probations = probations' }) media
sound_refused m media path fate counts' probations' s space untaken is_counts = rw is_counts (record {
  spec_ok = s.spec_ok;
  time_low = s.time_low;
  time_high = s.time_high;
  size_is = s.size_is;
  few_arrived = omega (arith, counts.arrived, space);
  anchored = by_anchor m.anchor s.anchored;
})
  where
    counts : FateCounts m.counts (with_fate m.counts path fate) fate
    counts = with_fate-counts m.counts path fate

    taken_same : (with_fate m.counts path fate).taken ≡ m.counts.taken
    taken_same = counts.taken ∙ ap (λ b. m.counts.taken + (if b then 1 else 0)) untaken ∙ same m.counts.taken
      where
        same : (n : ℕ) → n + 0 ≡ n
        same n = omega arith

    untaken_stays : (f : Fate) → is_taken_fate f ≡ false → is_restarted f ≡ false
    untaken_stays Restarted e = cc
    untaken_stays Closed e = refl
    untaken_stays CountersFull e = refl
    untaken_stays WrongSource e = refl
    untaken_stays OffGrid e = refl
    untaken_stays Late e = refl
    untaken_stays Ahead e = refl
    untaken_stays Taken e = cc
    untaken_stays Double e = refl
    untaken_stays Unlike e = refl

    no_restart : (with_fate m.counts path fate).restarts ≡ m.counts.restarts
    no_restart = counts.restarts ∙ ap (λ b. m.counts.restarts + (if b then 1 else 0)) (untaken_stays fate untaken) ∙ same m.counts.restarts
      where
        same : (n : ℕ) → n + 0 ≡ n
        same n = omega arith

    by_anchor : (o : Option Anchor) → IsAnchoredOrNot m media o → IsAnchoredOrNot (record m { counts = with_fate m.counts path fate; probations = probations' }) media o
    by_anchor None an = record { empty = an.empty; none_taken = taken_same ∙ an.none_taken; none_got = counts.got ∙ an.none_got; none_lost = counts.lost ∙ an.none_lost; none_restarted = no_restart ∙ an.none_restarted }
    by_anchor (Some a) an = record {
      epoch_is = omega (arith, no_restart, an.epoch_is);
      few_epochs = omega (arith, counts.more, an.few_epochs);
      bounds = an.bounds;
      media_is = an.media_is;
      next_open = an.next_open;
      next_low = an.next_low;
      next_high = an.next_high;
      held_low = an.held_low;
      held_high = an.held_high;
      held_fits = an.held_fits;
      slots_given = omega (arith, ints, counts.got, counts.lost, an.slots_given);
      taken_are = omega (arith, taken_same, counts.got, an.taken_are);
    }

pub sound_first : (m : MergeState) (media media' : ℤ) (path : ℕ) (packet : Packet) (a : Anchor) (g h : FinMap nat_cmp Packet) (base' size' : ℕ) (counts' : Tally) → IsSound m media → m.anchor ≡ None → m.closed ≡ false → m.counts.arrived < 2 ^ 62 → Fits m.spec packet → packet.seq < 65536 → packet.ts < 2 ^ 32 → can_anchor m.spec m.time packet ≡ true → a ≡ anchor_from m.spec m.time packet → IsEmpty g → ((n : ℕ) → get h n ≡ (if nat_eq n (65536 + packet.seq) then Some packet else get g n)) → base' ≡ 65536 + packet.seq → size' ≡ m.size → counts' ≡ with_fate m.counts path Taken → media' ≡ a.media → IsSound (record m { anchor = Some a; base = base'; size = size'; held = h; counts = counts' }) media'
sound_first m media media' path packet a g h base' size' counts' s is_none open_yet space fits seq ts can is_a empty put is_base is_size is_counts is_media =
    rw (is_media, is_a, is_base, is_size, is_counts) (sound_anew m media (first_media_time m.spec.clock packet.ts m.time) packet 0 g h (with_fate m.counts path Taken) m.probations m.tracks s fits seq ts first.after first.before empty put (omega (arith, counts.restarts, none.none_restarted)) (record {
      few_arrived = omega (arith, counts.arrived, space);
      few_epochs = omega (arith, counts.arrived, counts.restarts, none.none_restarted);
      slots_given = omega (arith, ints, counts.got, counts.lost, none.none_got, none.none_lost, first.after, s.time_low, s.spec_ok.small_latency);
      taken_are = omega (arith, counts.taken, counts.got, none.none_taken, none.none_got);
    }))
  where
    counts : FateCounts m.counts (with_fate m.counts path Taken) Taken
    counts = with_fate-counts m.counts path Taken

    first : IsFirst m.spec m.time packet
    first = is_first m.spec m.time packet can

    none : IsUnanchored m
    none = subst (λ o. IsAnchoredOrNot m media o) is_none s.anchored

-- the steps that the code makes
taken_alone : (stream : Stream) (time : ℤ) (packet : Packet) → is_taken_fate (first_fate stream time packet) ≡ true → first_fate stream time packet ≡ Taken
taken_alone stream time packet = by_tests (not (is_source_wanted stream.ssrc packet.ssrc)) (int_le (first_media_time stream.clock packet.ts time) (time -ℤ pos stream.latency)) (int_le (time -ℤ pos stream.latency +ℤ pos (stream.window * stream.frames)) (first_media_time stream.clock packet.ts time))
  where
    by_tests : (a b c : Bool) → is_taken_fate (if a then WrongSource else fault_or (if b then Some Late else if c then Some Ahead else None) Taken) ≡ true → (if a then WrongSource else fault_or (if b then Some Late else if c then Some Ahead else None) Taken) ≡ Taken
    by_tests true b c e = cc
    by_tests false true c e = cc
    by_tests false false true e = cc
    by_tests false false false e = refl

pub unanchored_at : (m : MergeState) (media : ℤ) → IsSound m media → m.anchor ≡ None → IsUnanchored m
unanchored_at m media s is_none = subst (λ o. IsAnchoredOrNot m media o) is_none s.anchored

pub first_step_refused : (m : MergeState) (media : ℤ) (path : ℕ) (packet : Packet) (answer : Fate) (counts' : Tally) → IsSound m media → m.anchor ≡ None → answer ≡ first_fate m.spec m.time packet → is_taken_fate answer ≡ false → counts' ≡ with_fate m.counts path answer → IsFirstStep m.spec m (record m { counts = counts' }) path packet answer
first_step_refused m media path packet answer counts' s is_none is untaken is_counts = record {
  fate_is = is;
  anchor = is_none ∙ sym (ap (λ b. if b then Some (anchor_from m.spec m.time packet) else None) untaken);
  base = λ taken. absurd (let no = sym untaken ∙ taken in cc);
  held = λ n. (unanchored_at m media s is_none).empty n ∙ sym (ap (λ b. if b && nat_eq n (65536 + packet.seq) then Some packet else None) untaken);
  changed = rw is_counts refl;
  refused = λ _. rw is_counts refl;
}

pub first_step_taken : (m : MergeState) (path : ℕ) (packet : Packet) (a : Anchor) (g h : FinMap nat_cmp Packet) (base' size' : ℕ) (counts' : Tally) → is_taken_fate (first_fate m.spec m.time packet) ≡ true → a ≡ anchor_from m.spec m.time packet → IsEmpty g → ((n : ℕ) → get h n ≡ (if nat_eq n (65536 + packet.seq) then Some packet else get g n)) → base' ≡ 65536 + packet.seq → size' ≡ m.size → counts' ≡ with_fate m.counts path Taken → IsFirstStep m.spec m (record m { anchor = Some a; base = base'; size = size'; held = h; counts = counts' }) path packet Taken
first_step_taken m path packet a g h base' size' counts' taken is_a empty put is_base is_size is_counts = record {
  fate_is = sym (taken_alone m.spec m.time packet taken);
  anchor = ap (λ x. Some x) is_a;
  base = λ _. is_base;
  held = λ n. put n ∙ ap (λ o. if nat_eq n (65536 + packet.seq) then Some packet else o) (empty n);
  changed = rw (is_size, is_counts) refl;
  refused = λ no. cc;
}

-- the put of the first packet, by the window's answer
pub first_put : (packet : Packet) (number : ℕ) (g h : FinMap nat_cmp Packet) (p : Put) → number ≡ 65536 + packet.seq → IsEmpty g → p ≡ put_answer (get g number) packet → ((n : ℕ) → get h n ≡ (if is_taken p && nat_eq n number then Some packet else get g n)) → (n : ℕ) → get h n ≡ (if nat_eq n (65536 + packet.seq) then Some packet else get g n)
first_put packet number g h p is_number empty answer put n =
    let taken : is_taken p ≡ true = ap is_taken (answer ∙ ap (λ o. put_answer o packet) (empty number)) in
    put n ∙ ap (λ b. if b && nat_eq n number then Some packet else get g n) taken ∙ ap (λ k. if nat_eq n k then Some packet else get g n) is_number

-- an offer to a merge with no anchor
pub offers_first : (stream : Stream) (open_at : ℤ) (m : MergeState) (media : ℤ) → IsSound m media → m.closed ≡ false → (events : List Event) (k : ℕ) → HasHistory stream open_at m events k → m.anchor ≡ None → m.counts.arrived < 2 ^ 62 → (path : ℕ) (packet : Packet) → path < 4 → packet.seq < 65536 → packet.ts < 2 ^ 32 → (new : MergeState) (answer : Fate) → IsFirstStep m.spec m new path packet answer → Offers stream open_at new events k path packet answer
offers_first stream open_at m media s open_yet events k at is_none space path packet few_paths seq ts new answer step =
    let step_s : IsFirstStep stream m new path packet answer = subst (λ x. IsFirstStep x m new path packet answer) at.spec step in
    record {
      fate_is = fate_first stream open_at m media s open_yet events k at is_none space path packet few_paths seq ts new answer step_s;
      stands = stands_first stream open_at m media s open_yet events k at is_none space path packet few_paths seq ts new answer step_s;
      kept = marks_of-arrive stream open_at (rw at.spec at s.spec_ok.some_frames) events at.well_timed (sym at.closed ∙ open_yet) path packet;
    }

pub refused_first : (stream : Stream) (old new : MergeState) (path : ℕ) (packet : Packet) (fate : Fate) → IsFirstStep stream old new path packet fate → is_taken_fate fate ≡ false → IsRefusal old new path fate
refused_first stream old new path packet fate step untaken = record {
  held = λ n. ap (λ (x : MergeState). get x.held n) (step.refused untaken);
  other_paths = λ other apart. ap (λ (x : MergeState). probation_at x.probations other) (step.refused untaken);
  other_tracks = λ other apart. ap (λ (x : MergeState). track_at x.tracks other) (step.refused untaken);
  changed = subst (λ (x : MergeState). x ≡ record old { held = x.held; probations = x.probations; tracks = x.tracks; counts = with_fate old.counts path fate }) (sym (step.refused untaken)) refl;
}
