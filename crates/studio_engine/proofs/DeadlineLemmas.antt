-- If nothing arrives, no clock reading before the one that is returned makes the next block ready.
use Rattle.std.proofs.Common.{◌≡◌, ℕ, zero, suc, ◌+◌, ◌-◌, ◌*◌, ◌/◌, ◌%◌, ◌^◌, ◌<◌, ◌≤◌, Bool, true, false, not, ◌&&◌, ◌||◌, List, [], ◌∷◌, ◌++◌, length, map, get_or, set, take, Option, Some, None, slice_get, ℤ, pos, negsuc, ◌+ℤ◌, ◌-ℤ◌, ◌≤ℤ◌, ◌<ℤ◌, refl, sym, ap, subst, ◌∙◌, arith, append-nil, append_assoc, if◌then◌else◌, ◌⊎◌, inl, inr, ⊎_elim}
use Rattle.std.specs.Prelude.{cond, int_le, int_lt, nat_eq, nat_lt, neg_ℤ, unsigned_abs, count_by}
use Rattle.std.specs.Int.{int_max, saturate_signed, w64}
use Rattle.std.specs.Option.{option_map, option_or}
use Rattle.std.proofs.Math.Nat.{add-mul, mul-le-mul_right}
use Rattle.std.proofs.lemmas.Bool.{cases_lt}
use Rattle.std.proofs.lemmas.Bool.Decides.{nat_tests}
use Rattle.std.proofs.lemmas.Grind.{flat_map-append}
use Rattle.std.proofs.lemmas.Int.{by_lt_z, clamps, ints}
use Rattle.std.proofs.lemmas.List.{take_all}
use Rattle.std.proofs.lemmas.Nat.{div-add-mod'}
use Rattle.std.proofs.lemmas.Option.{slice_get-get_or}
use Rattle.rtp_stream.specs.declared.stream_spec.Stream.{Stream}
use Rattle.rtp_stream.specs.declared.anchor.Anchor.{Anchor}
use Rattle.rtp_stream.specs.declared.event.Event.{Event}
use Rattle.rtp_stream.specs.declared.event.Event.TheVariants.{Tick as StreamTick}
use Rattle.rtp_stream.specs.declared.mark.MarkKind.{MarkKind}
use Rattle.rtp_stream.specs.declared.mark.MarkKind.TheVariants.{End, Quiet, Slot}
use Rattle.rtp_stream.specs.declared.packet.Packet.{Packet}
use Rattle.rtp_stream.specs.Anchor.{deadline_of, media_time_of, next_number}
use Rattle.rtp_stream.specs.Copies.{copies_of, copies_of_all}
use Rattle.rtp_stream.specs.Counts.{counts_of, is_got, is_lost}
use Rattle.rtp_stream.specs.CountsFacts.{Tally}
use Rattle.rtp_stream.specs.Epochs.{anchor_of}
use Rattle.rtp_stream.specs.Grid.{first_with}
use Rattle.rtp_stream.specs.History.{is_closed, time_of}
use Rattle.rtp_stream.specs.Laws.{names_in, slot_names}
use Rattle.rtp_stream.specs.MarkFacts.{MarkView}
use Rattle.rtp_stream.specs.MarkList.{has_end, is_end}
use Rattle.rtp_stream.specs.Marks.{body_of, has_slot, is_past_quiets, is_quiet_new, is_slot, marks_of, quiet_mark, slot_mark, slots_between, slots_from, slots_or_quiet}
use Rattle.rtp_stream.specs.StreamSpecFacts.{format_of}
use Rattle.path_merge.specs.Clock.{clock_fault_of}
use Rattle.path_merge.specs.declared.clock.ClockFault.{ClockFault}
use Rattle.path_merge.specs.declared.clock.ClockFault.TheVariants.{Closed, TooFar, WentBack}
use Rattle.path_merge.specs.Merge.{HasHistory, IsBaseOf, slot_count}
use Rattle.path_merge.specs.MergeState.{MergeState}
use Rattle.path_merge.specs.Steps.{next_deadline_of}
use Rattle.path_merge.proofs.DueLemmas.{before_next_number, media_time_of-from, next_number-rises}
use Rattle.path_merge.proofs.GainLemmas.{slots_told}
use Rattle.path_merge.proofs.HistoryLemmas.{anchor_of-tick, marks_in, marks_of-in, time_of-append}
use Rattle.path_merge.proofs.SlotCountLemmas.{next_of, slots_counted}
use Rattle.path_merge.proofs.StepLemmas.{marks_of-tick}
use Rattle.lane_align.specs.Cover.{cover_of, cover_to, covers, last_quiet, last_slot, quiet_of, slot_of, time_reached}
use Rattle.lane_align.specs.declared.last_slot.LastSlot.{LastSlot}
use Rattle.lane_align.proofs.FeedLemmas.{has_end_more, last_quiet_more, last_slot_more}
use Rattle.mix_packets.specs.Block.{block_start}
use Rattle.studio_config.specs.Studio.{Studio}
use Rattle.studio_mix.specs.Feed.{Feed}
use Rattle.studio_mix.specs.Mixer.{HasFeeds, MixerState}
use Rattle.studio_mix.specs.Ready.{are_covered, block_count, have_ended}
use Rattle.studio_session.specs.Cursor.{CursorState}
use Rattle.studio_session.specs.Event.{Tick, TraceEvent}
use Rattle.studio_session.specs.Fault.{closed_at, time_at}
use Rattle.studio_session.specs.Play.{feeds_of, stream_marks}
use Rattle.studio_session.specs.Session.{event_in, step_of, stream_history}
use Rattle.studio_session.proofs.CursorLemmas.{settled}
use Rattle.studio_session.proofs.FaultLemmas.{closed_more, time_more}
use Rattle.studio_session.proofs.PlayLemmas.{set_here, stream_at}
use Rattle.studio_session.proofs.SessionLemmas.{plays_of, whole_at}
use Rattle.studio_engine.specs.Deadline.{IsIdle, IsNotPast, IsUnreadyBefore, RiseBetween}
use Rattle.studio_engine.proofs.NearLemmas.{stream_open, stream_time}

not_le : (a b : ℤ) → b <ℤ a → int_le a b ≡ false
not_le a b h = grind (arith, ints, h)

le_not : (a b : ℤ) → int_le a b ≡ false → b <ℤ a
le_not a b e = by_lt_z b a (λ lt. lt) (λ le. absurd (grind (arith, ints, e, le)))

below : (a b t : ℤ) → a <ℤ t → b <ℤ t → int_max a b <ℤ t
below a b t h g = let top = int_max a b in omega (arith, ints, clamps, h, g)

below_left : (a b t : ℤ) → int_max a b <ℤ t → a <ℤ t
below_left a b t h = let top = int_max a b in omega (arith, ints, clamps, h)

below_right : (a b t : ℤ) → int_max a b <ℤ t → b <ℤ t
below_right a b t h = let top = int_max a b in omega (arith, ints, clamps, h)

-- the mark ends before a time
abbrev EndsBefore : ℕ → ℤ → MarkKind → Type 0
EndsBefore frames end (Slot epoch number media body) = (media +ℤ pos frames) <ℤ end
EndsBefore frames end (Quiet until) = until <ℤ end
EndsBefore frames end End = ⊥

kind_more : (frames : ℕ) (end : ℤ) (kind : MarkKind) (ended : Bool) (slot : Option LastSlot) (quiet : Option ℤ) → covers (cover_to ended (time_reached frames slot quiet)) end ≡ false → EndsBefore frames end kind
    → covers (cover_to (is_end kind || ended) (time_reached frames (option_or (slot_of kind) slot) (option_or (quiet_of kind) quiet))) end ≡ false
kind_more frames end End ended slot quiet un ends = absurd ends
kind_more frames end (Slot epoch number media body) true slot quiet un ends = cc
kind_more frames end (Slot epoch number media body) false slot None un ends = not_le end (media +ℤ pos frames) ends
kind_more frames end (Slot epoch number media body) false None (Some q) un ends = not_le end (int_max (media +ℤ pos frames) q) (below (media +ℤ pos frames) q end ends (le_not end q un))
kind_more frames end (Slot epoch number media body) false (Some s) (Some q) un ends =
    not_le end (int_max (media +ℤ pos frames) q) (below (media +ℤ pos frames) q end ends (below_right (s.media +ℤ pos frames) q end (le_not end (int_max (s.media +ℤ pos frames) q) un)))
kind_more frames end (Quiet until) true slot quiet un ends = cc
kind_more frames end (Quiet until) false None quiet un ends = not_le end until ends
kind_more frames end (Quiet until) false (Some s) None un ends = not_le end (int_max (s.media +ℤ pos frames) until) (below (s.media +ℤ pos frames) until end (le_not end (s.media +ℤ pos frames) un) ends)
kind_more frames end (Quiet until) false (Some s) (Some q) un ends =
    not_le end (int_max (s.media +ℤ pos frames) until) (below (s.media +ℤ pos frames) until end (below_left (s.media +ℤ pos frames) q end (le_not end (int_max (s.media +ℤ pos frames) q) un)) ends)

slotless_before : (xs ys : List MarkView) → has_slot (xs ++ ys) ≡ false → has_slot xs ≡ false
slotless_before [] ys e = refl
slotless_before (mark ∷ xs) ys e = by_test (is_slot mark.kind) e (slotless_before xs ys)
  where
    by_test : (b : Bool) → (b || has_slot (xs ++ ys)) ≡ false → (has_slot (xs ++ ys) ≡ false → has_slot xs ≡ false) → (b || has_slot xs) ≡ false
    by_test false e rest = rest e
    by_test true e rest = cc

no_slot : (a b : Bool) → (not a && b) ≡ true → a ≡ false
no_slot false b e = refl
no_slot true b e = cc

-- a stream whose marks reach a time at this clock reading at the earliest
module _ (stream : Stream) (open_at end reading : ℤ) (some : 0 < stream.frames) where
  abbrev IsUncovered : List MarkView → Type 0
  IsUncovered marks = covers (cover_of (format_of stream) marks) end ≡ false

  uncovered_more : (marks : List MarkView) (mark : MarkView) → IsUncovered marks → EndsBefore stream.frames end mark.kind → IsUncovered (marks ++ mark ∷ [])
  uncovered_more marks mark un ends =
      ap (λ b. covers (cover_to b (time_reached stream.frames (last_slot (marks ++ mark ∷ [])) (last_quiet (marks ++ mark ∷ [])))) end) (has_end_more marks mark)
      ∙ ap (λ s. covers (cover_to (is_end mark.kind || has_end marks) (time_reached stream.frames s (last_quiet (marks ++ mark ∷ [])))) end) (last_slot_more marks mark)
      ∙ ap (λ q. covers (cover_to (is_end mark.kind || has_end marks) (time_reached stream.frames (option_or (slot_of mark.kind) (last_slot marks)) q)) end) (last_quiet_more marks mark)
      ∙ kind_more stream.frames end mark.kind (has_end marks) (last_slot marks) (last_quiet marks) un ends

  -- the slots of some numbers
  run_uncovered : (a : Anchor) (copies : List (ℕ × Packet)) (n count : ℕ) (marks : List MarkView) → ((i : ℕ) → n ≤ i → i < n + count → (media_time_of stream a i +ℤ pos stream.frames) <ℤ end)
      → IsUncovered marks → IsUncovered (marks ++ slots_from stream a copies n count)
  run_uncovered a copies n zero marks ends un = subst IsUncovered (sym (append-nil marks)) un
  run_uncovered a copies n (suc count) marks ends un =
      let mark = slot_mark stream a n (body_of (first_with n copies)) in
      subst IsUncovered (append_assoc marks (mark ∷ []) (slots_from stream a copies (suc n) count))
      (run_uncovered a copies (suc n) count (marks ++ mark ∷ []) (λ i low high. ends i (omega (arith, low)) (omega (arith, high))) (uncovered_more marks mark un (ends n (omega arith) (omega arith))))

  -- if there was no slot, this reading is not after the deadline of the time `end`
  abbrev IsSilent : List MarkView → Type 0
  IsSilent marks = has_slot marks ≡ false → reading ≤ℤ (end +ℤ pos stream.latency)

  quiet_uncovered : (u : ℤ) (marks : List MarkView) → u <ℤ reading → IsSilent marks → IsUncovered marks → IsUncovered (marks ++ slots_or_quiet stream open_at marks u [])
  quiet_uncovered u marks early silent un = by_test (is_quiet_new stream open_at marks (u -ℤ pos stream.latency)) refl
    where
      by_test : (c : Bool) → is_quiet_new stream open_at marks (u -ℤ pos stream.latency) ≡ c → IsUncovered (marks ++ (if c then quiet_mark stream (u -ℤ pos stream.latency) ∷ [] else []))
      by_test false is = subst IsUncovered (sym (append-nil marks)) un
      by_test true is =
          let top = silent (no_slot (has_slot marks) (int_lt (open_at -ℤ pos stream.latency) (u -ℤ pos stream.latency) && is_past_quiets (u -ℤ pos stream.latency) marks) is) in
          uncovered_more marks (quiet_mark stream (u -ℤ pos stream.latency)) un (omega (arith, ints, top, early))

  -- the slots that come due before this reading
  abbrev SlotsEnd : Option Anchor → ℤ → Type 0
  SlotsEnd None time = Unit {0}
  SlotsEnd (Some a) time = (n : ℕ) → next_number stream a time ≤ n → deadline_of stream a n <ℤ reading → (media_time_of stream a n +ℤ pos stream.frames) <ℤ end

  slots_later : (o : Option Anchor) (t u : ℤ) → t ≤ℤ u → SlotsEnd o t → SlotsEnd o u
  slots_later None t u le ends = tt
  slots_later (Some a) t u le ends = λ n low early. ends n (let rise = next_number-rises stream a t u some le in omega (arith, rise, low)) early

  tick_uncovered : (o : Option Anchor) (copies : List (ℕ × Packet)) (t u : ℤ) (marks : List MarkView) → t ≤ℤ u → u <ℤ reading → SlotsEnd o t → IsSilent marks → IsUncovered marks
      → IsUncovered (marks ++ slots_or_quiet stream open_at marks u (slots_between stream copies o t u))
  tick_uncovered None copies t u marks le early ends silent un = quiet_uncovered u marks early silent un
  tick_uncovered (Some a) copies t u marks le early ends silent un = by_count (next_number stream a u - next_number stream a t) refl
    where
      by_count : (c : ℕ) → next_number stream a u - next_number stream a t ≡ c → IsUncovered (marks ++ slots_or_quiet stream open_at marks u (slots_from stream a copies (next_number stream a t) c))
      by_count zero is = quiet_uncovered u marks early silent un
      by_count (suc c) is = run_uncovered a copies (next_number stream a t) (suc c) marks
          (λ i low high.
          let due = before_next_number stream a u i some (omega (arith, low)) (omega (arith, is, high)) in
          ends i low (omega (arith, ints, due, early)))
          un

  -- what holds before this reading, if nothing arrives
  record IsPending (history : List Event) : Type 0 where
    uncovered : IsUncovered (marks_of stream open_at history)
    slots : SlotsEnd (anchor_of stream open_at history) (time_of open_at history)
    silent : IsSilent (marks_of stream open_at history)

  ticked : (history : List Event) (u : ℤ) → is_closed history ≡ false → time_of open_at history ≤ℤ u → u <ℤ reading → IsPending history → IsPending (history ++ StreamTick u ∷ [])
  ticked history u open_yet le early p =
      let more = marks_of-tick stream open_at history u open_yet in
      record {
        uncovered = subst IsUncovered (sym more)
            (tick_uncovered (anchor_of stream open_at history) (copies_of stream open_at history) (time_of open_at history) u (marks_of stream open_at history) le early p.slots p.silent p.uncovered);
        slots = subst (λ t. SlotsEnd (anchor_of stream open_at (history ++ StreamTick u ∷ [])) t) (sym (time_of-append open_at history (StreamTick u ∷ [])))
            (subst (λ o. SlotsEnd o u) (sym (anchor_of-tick stream open_at history u)) (slots_later (anchor_of stream open_at history) (time_of open_at history) u le p.slots));
        silent = λ none. p.silent (slotless_before (marks_of stream open_at history) _ (ap has_slot (sym more) ∙ none));
      }

  read : (number : ℕ) (readings : List ℤ) (events : List TraceEvent) → closed_at false events ≡ false → RiseBetween (time_at open_at events) reading readings
      → IsPending (stream_history stream number events) → IsPending (stream_history stream number (events ++ map Tick readings))
  read number [] events open_yet rise p = subst (λ l. IsPending (stream_history stream number l)) (sym (append-nil events)) p
  read number (u ∷ us) events open_yet rise p =
      let time = stream_time stream number open_at events in
      let one : IsPending (stream_history stream number (events ++ Tick u ∷ [])) = subst IsPending (sym (flat_map-append (λ event. event_in (step_of stream number event)) events (Tick u ∷ [])))
      (ticked (stream_history stream number events) u (stream_open stream number events open_yet) (omega (arith, ints, time, rise.0)) rise.1 p) in
      subst (λ l. IsPending (stream_history stream number l)) (append_assoc events (Tick u ∷ []) (map Tick us))
      (read number us (events ++ Tick u ∷ []) (closed_more false events (Tick u) ∙ open_yet) (subst (λ t. RiseBetween t reading us) (sym (time_more open_at events (Tick u))) rise.2) one)

-- marks without a slot have no slot names
nameless : (marks : List MarkView) → has_slot marks ≡ false → length (slot_names marks) ≡ 0
nameless [] e = refl
nameless (mark ∷ marks) e = by_kind mark.kind e (nameless marks)
  where
    by_kind : (kind : MarkKind) → (is_slot kind || has_slot marks) ≡ false → (has_slot marks ≡ false → length (slot_names marks) ≡ 0) → length (names_in kind ++ slot_names marks) ≡ 0
    by_kind (Slot epoch number media body) e rest = cc
    by_kind (Quiet until) e rest = rest e
    by_kind End e rest = rest e

-- an idle merge: what its next deadline says of its slots
module _ (stream : Stream) (open_at end reading : ℤ) (some : 0 < stream.frames) (m : MergeState) (history : List Event) (k : ℕ) (at : HasHistory stream open_at m history k) (open_yet : is_closed history ≡ false) where
  all : take k (marks_of stream open_at history) ≡ marks_of stream open_at history
  all = let long = at.all_given open_yet in take_all k (marks_of stream open_at history) (omega (arith, long))

  base_of : (a : Anchor) → m.anchor ≡ Some a → m.base ≡ a.number + slot_count a.epoch (marks_of stream open_at history)
  base_of a is = subst (λ l. m.base ≡ a.number + slot_count a.epoch l) all (subst (λ o. IsBaseOf o m.base (take k (marks_of stream open_at history))) is at.base)

  next_is : (a : Anchor) → m.anchor ≡ Some a → m.base ≡ next_number stream a (time_of open_at history)
  next_is a is =
      let anchor : anchor_of stream open_at history ≡ Some a = sym at.anchor ∙ is in
      let counted : next_number stream a (time_of open_at history) ≡ a.number + slot_count a.epoch (marks_in stream open_at (copies_of_all stream open_at history) history) = subst (λ o. IsBaseOf o (next_of stream open_at some o (time_of open_at history)) (marks_in stream open_at (copies_of_all stream open_at history) history)) anchor (slots_counted stream open_at some (copies_of_all stream open_at history) history at.well_timed open_yet) in
      base_of a is ∙ sym (counted ∙ ap (λ l. a.number + slot_count a.epoch l) (sym (marks_of-in stream open_at history)))

  -- the deadlines of slots follow at intervals of a packet's frames
  spaced : (a : Anchor) (b q : ℕ) → a.number ≤ b → media_time_of stream a (b + q) ≡ (media_time_of stream a b +ℤ pos (q * stream.frames))
  spaced a b q le =
      let first = media_time_of-from stream a b le in
      let there = media_time_of-from stream a (b + q) (omega (arith, le)) in
      let split : (b + q) - a.number ≡ (b - a.number) + q = omega (arith, le) in
      let product : ((b + q) - a.number) * stream.frames ≡ (b - a.number) * stream.frames + q * stream.frames = ap (λ x. x * stream.frames) split ∙ add-mul (b - a.number) q stream.frames in
      omega (arith, ints, first, there, product)

  abbrev Late : Option ℤ → Type 0
  Late o = IsNotPast o (nat_eq (m.counts.got + m.counts.lost) 0) stream.frames (end +ℤ pos stream.latency) reading

  slots_end : (o : Option Anchor) → m.anchor ≡ o → Late (option_map (λ (a : Anchor). deadline_of stream a m.base) o) → SlotsEnd stream open_at end reading some o (time_of open_at history)
  slots_end None is late = tt
  slots_end (Some a) is late = λ n low early.
      let base = base_of a is in
      let next = next_is a is in
      let there : m.base + (n - m.base) ≡ n = omega (arith, next, low) in
      let media : media_time_of stream a n ≡ (media_time_of stream a m.base +ℤ pos ((n - m.base) * stream.frames)) =
      subst (λ i. media_time_of stream a i ≡ (media_time_of stream a m.base +ℤ pos ((n - m.base) * stream.frames))) there (spaced a m.base (n - m.base) (omega (arith, base))) in
      let ends = late.0 (n - m.base) (omega (arith, ints, media, early)) in
      omega (arith, ints, media, ends)

  slotless : has_slot (marks_of stream open_at history) ≡ false → nat_eq (m.counts.got + m.counts.lost) 0 ≡ true
  slotless none =
      let counts : m.counts ≡ counts_of stream open_at history (marks_of stream open_at history) = at.counts ∙ ap (counts_of stream open_at history) all in
      let got : m.counts.got ≡ count_by (λ mark. is_got mark.kind) (marks_of stream open_at history) = ap (λ (t : Tally). t.got) counts in
      let lost : m.counts.lost ≡ count_by (λ mark. is_lost mark.kind) (marks_of stream open_at history) = ap (λ (t : Tally). t.lost) counts in
      let told = slots_told (marks_of stream open_at history) in
      let nothing = nameless (marks_of stream open_at history) none in
      let zero_is : m.counts.got + m.counts.lost ≡ 0 = omega (arith, got, lost, told, nothing) in
      grind (arith, nat_tests, zero_is)

  silent_to : (o : Option ℤ) → Late o → nat_eq (m.counts.got + m.counts.lost) 0 ≡ true → reading ≤ℤ (end +ℤ pos stream.latency)
  silent_to None late none = late
  silent_to (Some d) late none = late.1 none

  next_deadline_is : next_deadline_of m ≡ option_map (λ (a : Anchor). deadline_of stream a m.base) m.anchor
  next_deadline_is =
      let shut : m.closed ≡ false = at.closed ∙ open_yet in
      ap (λ b. if b then None else option_map (λ (a : Anchor). deadline_of m.spec a m.base) m.anchor) shut
      ∙ ap (λ (s : Stream). option_map (λ (a : Anchor). deadline_of s a m.base) m.anchor) at.spec

  pending : covers (cover_of (format_of stream) (marks_of stream open_at history)) end ≡ false → Late (next_deadline_of m) → IsPending stream open_at end reading some history
  pending un late = record {
    uncovered = un;
    slots = subst (λ o. SlotsEnd stream open_at end reading some o (time_of open_at history)) at.anchor (slots_end m.anchor refl (subst Late next_deadline_is late));
    silent = λ none. silent_to (next_deadline_of m) late (slotless none);
  }

uncovered_any : (t : ℤ) (feeds : List Feed) (i : ℕ) (feed : Feed) → slice_get feeds i ≡ Some feed → covers (cover_of (format_of feed.stream) feed.marks) t ≡ false → are_covered feeds t ≡ false
uncovered_any t [] i feed at un = absurd (let e : None ≡ Some feed = at in cc)
uncovered_any t (first ∷ feeds) zero feed at un =
    let same : first ≡ feed = one first feed at in
    ap (λ b. b && are_covered feeds t) (ap (λ (f : Feed). covers (cover_of (format_of f.stream) f.marks) t) same ∙ un)
  where
    one : (x y : Feed) → Some x ≡ Some y → x ≡ y
    one x y e = cc
uncovered_any t (first ∷ feeds) (suc i) feed at un = by_test (covers (cover_of (format_of first.stream) first.marks) t) (uncovered_any t feeds i feed at un)
  where
    by_test : (b : Bool) → are_covered feeds t ≡ false → (b && are_covered feeds t) ≡ false
    by_test true e = e
    by_test false e = refl

covered_not : (b : Bool) → true ≡ not b → b ≡ false
covered_not false e = refl
covered_not true e = cc

-- a stream that the block needs keeps it from being ready up to its reading
pub unready_by : (studio : Studio) (events : List TraceEvent) (mixer : MixerState) (cursors : List CursorState) (time : ℤ) (next i : ℕ) (item : CursorState) (end reading : ℤ) → IsIdle studio events mixer cursors time next → i < length cursors
    → ((feeds : List Feed) (number : ℕ) → HasFeeds studio mixer feeds number → end ≡ block_start studio.output (number + 1))
    → ((feeds : List Feed) (number : ℕ) (feed : Feed) → HasFeeds studio mixer feeds number → slice_get feeds i ≡ Some feed → true ≡ not (covers (cover_of (format_of feed.stream) feed.marks) (block_start studio.output (number + 1))))
    → IsNotPast (next_deadline_of (get_or cursors i item).merge) (nat_eq ((get_or cursors i item).merge.counts.got + (get_or cursors i item).merge.counts.lost) 0) (get_or cursors i item).spec.frames (end +ℤ pos (get_or cursors i item).spec.latency) reading
    → IsUnreadyBefore studio events next reading
unready_by studio events mixer cursors time next i item end reading rest within ends wanted late =
    let cursor = get_or cursors i item in
    let played = rest.played in
    let count = played.count in
    let p = plays_of studio events mixer cursors next i cursor played (slice_get-get_or cursors i item within) in
    let here : i < length played.feeds = omega (arith, within, count) in
    let feed_at = set_here played.feeds i p.feed here in
    let stream = p.feed.stream in
    let at : slice_get studio.streams i ≡ Some stream = stream_at studio mixer (set played.feeds i p.feed) next i p.feed p.fed feed_at in
    let run = rest.runs.each i stream at in
    let place : cursor.place ≡ length events = rest.taken i item within in
    let whole : take cursor.place events ≡ events = take_all cursor.place events (omega (arith, place)) in
    let history = stream_history stream i events in
    let has : HasHistory stream studio.open_at cursor.merge history (length p.feed.marks) = subst (λ (es : List TraceEvent). HasHistory stream studio.open_at cursor.merge (stream_history stream i es) (length p.feed.marks)) whole
    (settled stream studio.open_at cursor.merge cursor.reading (stream_history stream i (take cursor.place events)) (length p.feed.marks) (rest.idle i item within) p.given.pulled.stands) in
    let still = stream_open stream i events rest.open_yet in
    let long = has.all_given still in
    let marks : p.feed.marks ≡ stream_marks stream i studio.open_at events = p.given.first ∙ take_all (length p.feed.marks) (stream_marks stream i studio.open_at events) (omega (arith, long)) in
    let t = block_start studio.output (next + 1) in
    let end_is : end ≡ t = ends (set played.feeds i p.feed) next p.fed in
    let un : covers (cover_of (format_of stream) (stream_marks stream i studio.open_at events)) t ≡ false = subst (λ l. covers (cover_of (format_of stream) l) t ≡ false) marks (covered_not _ (wanted (set played.feeds i p.feed) next p.feed p.fed feed_at)) in
    let is_spec : cursor.spec ≡ stream = p.given.pulled.spec in
    let late_s = subst (λ (s : Stream). IsNotPast (next_deadline_of cursor.merge) (nat_eq (cursor.merge.counts.got + cursor.merge.counts.lost) 0) s.frames (t +ℤ pos s.latency) reading) is_spec
    (subst (λ e. IsNotPast (next_deadline_of cursor.merge) (nat_eq (cursor.merge.counts.got + cursor.merge.counts.lost) 0) cursor.spec.frames (e +ℤ pos cursor.spec.latency) reading) end_is late) in
    let here_is : 0 + i ≡ i = omega arith in
    let first = pending stream studio.open_at t reading run.some_frames cursor.merge history (length p.feed.marks) has still un late_s in
    record {
      unready = λ now later rise.
          let after = read stream studio.open_at t reading run.some_frames i (now ∷ later) events rest.open_yet rise first in
          let feeds = feeds_of studio (events ++ map Tick (now ∷ later)) in
          ap (λ b. b && (not (have_ended feeds) || nat_lt next (block_count studio.output feeds)))
          (uncovered_any t feeds i (record { stream = stream; marks = stream_marks stream i studio.open_at (events ++ map Tick (now ∷ later)) })
          (whole_at studio.open_at (events ++ map Tick (now ∷ later)) 0 studio.streams i stream at ∙ ap (λ n. Some (record { stream = stream; marks = stream_marks stream n studio.open_at (events ++ map Tick (now ∷ later)) })) here_is)
          after.uncovered);
    }

-- no reading lies between a time and the one after it
pub unready_first : (studio : Studio) (events : List TraceEvent) (next : ℕ) (time reading : ℤ) → time ≡ time_at studio.open_at events → reading ≤ℤ (time +ℤ pos 1) → IsUnreadyBefore studio events next reading
unready_first studio events next time reading is le = record { unready = λ now later rise. absurd (omega (arith, ints, is, le, rise.0, rise.1)) }

rise_longer : (from to more : ℤ) (readings : List ℤ) → to ≤ℤ more → RiseBetween from to readings → RiseBetween from more readings
rise_longer from to more [] le rise = tt
rise_longer from to more (now ∷ later) le rise = (rise.0, omega (arith, ints, rise.1, le), rise_longer now to more later le rise.2)

pub unready_sooner : (studio : Studio) (events : List TraceEvent) (next : ℕ) (reading sooner : ℤ) → sooner ≤ℤ reading → IsUnreadyBefore studio events next reading → IsUnreadyBefore studio events next sooner
unready_sooner studio events next reading sooner le before = record {
  unready = λ now later rise. before.unready now later (rise_longer (time_at studio.open_at events) sooner reading (now ∷ later) le rise);
}

pub unready_max : (studio : Studio) (events : List TraceEvent) (next : ℕ) (a b : ℤ) → IsUnreadyBefore studio events next a → IsUnreadyBefore studio events next b → IsUnreadyBefore studio events next (int_max a b)
unready_max studio events next a b first second = by_test (int_lt b a)
  where
    by_test : (c : Bool) → IsUnreadyBefore studio events next (cond c a b)
    by_test true = first
    by_test false = second

-- the reading for slots at intervals of a packet's frames: the deadline of the last one that is due before a time
pub not_past_slot : (slot due : ℤ) (frames : ℕ) (slotless : Bool) (result : ℤ) → 0 < frames → slot <ℤ due → result ≡ ((due -ℤ pos 1) -ℤ pos (unsigned_abs ((due -ℤ pos 1) -ℤ slot) % frames))
    → IsNotPast (Some slot) slotless frames due result
not_past_slot slot due frames slotless result some ahead is = by_distance ((due -ℤ pos 1) -ℤ slot) refl
  where
    by_distance : (z : ℤ) → (due -ℤ pos 1) -ℤ slot ≡ z → IsNotPast (Some slot) slotless frames due result
    by_distance (negsuc x) e = absurd (omega (arith, ints, e, ahead))
    by_distance (pos x) e =
        let rest : result ≡ ((due -ℤ pos 1) -ℤ pos (x % frames)) = is ∙ ap (λ z. (due -ℤ pos 1) -ℤ pos (unsigned_abs z % frames)) e in
        let split = div-add-mod' x frames in (
          λ count early.
              let lt : count * frames < (x / frames) * frames = omega (arith, ints, rest, split, e, early) in
              ⊎_elim
              (λ (few : count < x / frames).
              let more : suc count * frames ≤ (x / frames) * frames = mul-le-mul_right frames (omega (arith, few)) in
              omega (arith, ints, rest, split, e, more))
              (λ (many : x / frames ≤ count). absurd (let more : (x / frames) * frames ≤ count * frames = mul-le-mul_right frames many in omega (arith, lt, more)))
              (cases_lt count (x / frames)),
          λ none. omega (arith, ints, rest, e),
        )

-- the next slot is due at that time, or after it
pub not_past_next : (slot due reading : ℤ) (frames : ℕ) (slotless : Bool) → reading ≤ℤ slot → (slotless ≡ true → reading ≤ℤ due) → IsNotPast (Some slot) slotless frames due reading
not_past_next slot due reading frames slotless le silent = (λ count early. absurd (omega (arith, ints, le, early)), silent)

-- what holds for a time holds for a later time
pub not_past_more : (o : Option ℤ) (slotless : Bool) (frames : ℕ) (due more reading : ℤ) → due ≤ℤ more → IsNotPast o slotless frames due reading → IsNotPast o slotless frames more reading
not_past_more None slotless frames due more reading le late = omega (arith, ints, le, late)
not_past_more (Some slot) slotless frames due more reading le late =
    (λ count early. let before = late.0 count early in omega (arith, ints, before, le), λ none. let before = late.1 none in omega (arith, ints, before, le))

-- a saturated sum is at most the sum, if the sum is not below the least value
pub saturated : (z : ℤ) → neg_ℤ (pos (2 ^ 63)) ≤ℤ z → saturate_signed w64 z ≤ℤ z
saturated (pos n) low = grind (arith, ints)
saturated (negsuc n) low = grind (arith, ints, low)

-- the reading for a stream whose next slot is due before the time is
pub slot_reading : (o : Option ℤ) (slot due more result : ℤ) (frames : ℕ) (slotless : Bool) → o ≡ Some slot → 0 < frames → slot <ℤ due → due ≤ℤ more → result ≡ ((due -ℤ pos 1) -ℤ pos (unsigned_abs ((due -ℤ pos 1) -ℤ slot) % frames))
    → IsNotPast o slotless frames more result
slot_reading o slot due more result frames slotless is some ahead le value =
    subst (λ x. IsNotPast x slotless frames more result) (sym is) (not_past_more (Some slot) slotless frames due more result le (not_past_slot slot due frames slotless result some ahead value))

-- the reading for a stream whose next slot is due at that reading or after it
pub next_reading : (o : Option ℤ) (slot more reading : ℤ) (frames : ℕ) (slotless : Bool) → o ≡ Some slot → reading ≤ℤ slot → (slotless ≡ true → reading ≤ℤ more) → IsNotPast o slotless frames more reading
next_reading o slot more reading frames slotless is le silent = subst (λ x. IsNotPast x slotless frames more reading) (sym is) (not_past_next slot more reading frames slotless le silent)

-- if a slot was counted, the number of slots is not 0
pub slot_given : (got lost : ℕ) → ((got ≡ 0) × (lost ≡ 0 → ⊥)) ⊎ (got ≡ 0 → ⊥) → nat_eq (got + lost) 0 ≡ true → ⊥
slot_given got lost (inl none) is = none.1 (let e : got + lost ≡ 0 = grind (arith, nat_tests, is) in omega (arith, e))
slot_given got lost (inr none) is = none (let e : got + lost ≡ 0 = grind (arith, nat_tests, is) in omega (arith, e))

-- if a later reading is a fault and there was no close, it is beyond 2^60
pub too_far : (time reading : ℤ) (fault : ClockFault) → time <ℤ reading → clock_fault_of time false reading ≡ Some fault → pos (2 ^ 60 + 1) ≤ℤ reading
too_far time reading fault later is = by_tests (int_lt reading time) (int_lt (pos (2 ^ 60)) reading) refl refl is
  where
    by_tests : (back far : Bool) → int_lt reading time ≡ back → int_lt (pos (2 ^ 60)) reading ≡ far → (if back then Some WentBack else if far then Some TooFar else if false then Some Closed else None) ≡ Some fault → pos (2 ^ 60 + 1) ≤ℤ reading
    by_tests true far b f e = omega (arith, ints, b, later)
    by_tests false true b f e = omega (arith, ints, f)
    by_tests false false b f e = cc
