-- A list of marks, and the same without a Quiet that another mark follows.
use Rattle.std.proofs.Common.{◌≡◌, ◌⊎◌, inl, inr, ℕ, ◌+◌, Bool, true, false, not, ◌&&◌, ◌||◌, List, [], ◌∷◌, ◌++◌, map, Option, Some, None, unwrap_or, ℤ, pos, ◌+ℤ◌, ◌-ℤ◌, ◌<ℤ◌, ◌≤ℤ◌, int_lt, refl, sym, ap, subst, ◌∙◌, arith, append_assoc, append-nil, if◌then◌else◌}
use Rattle.std.specs.Prelude.{cond, count_by}
use Rattle.std.specs.List.{range_with_len}
use Rattle.std.specs.Option.{option_or}
use Rattle.std.proofs.lemmas.Bool.{false≢true}
use Rattle.std.proofs.lemmas.Bool.Decides.{nat_tests}
use Rattle.std.proofs.lemmas.Int.{ints}
use Rattle.rtp_stream.specs.Counts.{is_got, is_lost}
use Rattle.rtp_stream.specs.MarkFacts.{MarkView}
use Rattle.rtp_stream.specs.MarkList.{can_follow, has_end, is_end, is_mark_list, is_mark_list_after, is_same_format}
use Rattle.rtp_stream.specs.Marks.{has_slot, is_past_quiet, is_past_quiets, is_quiet_new, is_slot, quiet_mark, slots_or_quiet}
use Rattle.rtp_stream.specs.declared.mark.Body.{Body}
use Rattle.rtp_stream.specs.declared.mark.PacketFormat.{PacketFormat}
use Rattle.rtp_stream.specs.declared.mark.MarkKind.{MarkKind}
use Rattle.rtp_stream.specs.declared.mark.MarkKind.TheVariants.{End, Quiet, Slot}
use Rattle.rtp_stream.specs.declared.stream_spec.Stream.{Stream}
use Rattle.path_merge.proofs.JoinLemmas.{has_slot-append, slots_or_quiet-slotted}
use Rattle.path_merge.proofs.TallyLemmas.{count_by-first}
use Rattle.lane_align.specs.declared.last_slot.LastSlot.{LastSlot}
use Rattle.lane_align.specs.Cover.{cover_of, cover_to, end_of, last_quiet, last_slot, quiet_of, slot_of, time_reached}
use Rattle.lane_align.specs.Value.{frame_at, sample_among, sample_in, value_at}
use Rattle.lane_align.proofs.MarkListLemmas.{both_left, both_right, or_none}

-- a mark is a slot, or a Quiet of a later time
abbrev pub IsPast : ℤ → MarkKind → Type 0
IsPast until (Slot epoch number media body) = Unit {0}
IsPast until (Quiet later) = until <ℤ later
IsPast until End = ⊥

abbrev pub BeginsPast : ℤ → List MarkView → Type 0
BeginsPast until [] = ⊥
BeginsPast until (mark ∷ marks) = IsPast until mark.kind

-- the long list has one more Quiet, which a slot or a Quiet of a later time follows
pub record HasMoreSilence (stream : Stream) (long short : List MarkView) : Type 0 where
  pub first : List MarkView
  pub until : ℤ
  pub rest : List MarkView
  pub long_is : long ≡ first ++ quiet_mark stream until ∷ rest
  pub short_is : short ≡ first ++ rest
  pub past : BeginsPast until rest

abbrev pub AreClose : Stream → List MarkView → List MarkView → Type 0
AreClose stream long short = (long ≡ short) ⊎ HasMoreSilence stream long short

past_more : (until : ℤ) (rest more : List MarkView) → BeginsPast until rest → BeginsPast until (rest ++ more)
past_more until [] more past = absurd past
past_more until (mark ∷ rest) more past = past

-- two lists that differ by at most such a Quiet still do after the same further marks
pub close_more : (stream : Stream) (long short more : List MarkView) → AreClose stream long short → AreClose stream (long ++ more) (short ++ more)
close_more stream long short more (inl same) = inl (ap (λ l. l ++ more) same)
close_more stream long short more (inr m) = inr (record {
  first = m.first;
  until = m.until;
  rest = m.rest ++ more;
  long_is = ap (λ l. l ++ more) m.long_is ∙ append_assoc m.first (quiet_mark stream m.until ∷ m.rest) more;
  short_is = ap (λ l. l ++ more) m.short_is ∙ append_assoc m.first m.rest more;
  past = past_more m.until m.rest more m.past;
})

-- an additional Quiet changes none of these
module _ (stream : Stream) (until : ℤ) (rest : List MarkView) where
  slots_with : (first : List MarkView) → has_slot (first ++ quiet_mark stream until ∷ rest) ≡ has_slot (first ++ rest)
  slots_with [] = refl
  slots_with (x ∷ first) = ap (λ b. is_slot x.kind || b) (slots_with first)

  end_with : (first : List MarkView) → has_end (first ++ quiet_mark stream until ∷ rest) ≡ has_end (first ++ rest)
  end_with [] = refl
  end_with (x ∷ first) = ap (λ b. is_end x.kind || b) (end_with first)

  count_with : (p : MarkView → Bool) → p (quiet_mark stream until) ≡ false → (first : List MarkView) → count_by p (first ++ quiet_mark stream until ∷ rest) ≡ count_by p (first ++ rest)
  count_with p not_it [] = count_by-first p (quiet_mark stream until) rest ∙ ap (λ b. cond b 1 0 + count_by p rest) not_it ∙ none (count_by p rest)
    where
      none : (n : ℕ) → 0 + n ≡ n
      none n = omega arith
  count_with p not_it (x ∷ first) = count_by-first p x (first ++ quiet_mark stream until ∷ rest) ∙ ap (λ n. cond (p x) 1 0 + n) (count_with p not_it first) ∙ sym (count_by-first p x (first ++ rest))

  samples_with : (format : PacketFormat) (t : ℤ) (k : ℕ) (first : List MarkView) → sample_among format (first ++ quiet_mark stream until ∷ rest) t k ≡ sample_among format (first ++ rest) t k
  samples_with format t k [] = refl
  samples_with format t k (x ∷ first) = ap (λ o. option_or (sample_in format x.kind t k) o) (samples_with format t k first)

  last_slot_with : (first : List MarkView) → last_slot (first ++ quiet_mark stream until ∷ rest) ≡ last_slot (first ++ rest)
  last_slot_with [] = or_none (last_slot rest)
  last_slot_with (x ∷ first) = ap (λ o. option_or o (slot_of x.kind)) (last_slot_with first)

-- an additional Quiet does not change the last one, if another follows
later_quiet : (o : Option ℤ) (u v : ℤ) → option_or (option_or o (Some v)) (Some u) ≡ option_or o (Some v)
later_quiet None u v = refl
later_quiet (Some w) u v = refl

last_quiet_with : (stream : Stream) (until later : ℤ) (x : MarkView) (rest : List MarkView) → x.kind ≡ Quiet later → (first : List MarkView)
    → last_quiet (first ++ quiet_mark stream until ∷ x ∷ rest) ≡ last_quiet (first ++ x ∷ rest)
last_quiet_with stream until later x rest is [] = rw is (later_quiet (last_quiet rest) until later)
last_quiet_with stream until later x rest is (y ∷ first) = ap (λ o. option_or o (quiet_of y.kind)) (last_quiet_with stream until later x rest is first)

less_too : (a b c : Bool) → (b ≡ true → a ≡ true) → (a && (b && c)) ≡ (b && c)
less_too true b c h = refl
less_too false true c h = absurd (false≢true (h refl))
less_too false false c h = refl

past_with : (stream : Stream) (time until later : ℤ) (x : MarkView) (rest : List MarkView) → x.kind ≡ Quiet later → until <ℤ later → (first : List MarkView)
    → is_past_quiets time (first ++ quiet_mark stream until ∷ x ∷ rest) ≡ is_past_quiets time (first ++ x ∷ rest)
past_with stream time until later x rest is less [] = rw is (less_too (int_lt until time) (int_lt later time) (is_past_quiets time rest) (λ h. grind (arith, ints, less, h)))
past_with stream time until later x rest is less (y ∷ first) = ap (λ b. is_past_quiet time y.kind && b) (past_with stream time until later x rest is less first)

-- whether a further Quiet would be new is the same for both lists
module _ (stream : Stream) (open_at time : ℤ) where
  by_kind : (first : List MarkView) (until : ℤ) (x : MarkView) (rest : List MarkView) (kind : MarkKind) → x.kind ≡ kind → IsPast until kind
      → is_quiet_new stream open_at (first ++ quiet_mark stream until ∷ x ∷ rest) time ≡ is_quiet_new stream open_at (first ++ x ∷ rest) time
  by_kind first until x rest (Slot e n m b) is past =
      let slot : is_slot x.kind ≡ true = ap is_slot is in
      let here : has_slot (first ++ x ∷ rest) ≡ true = has_slot-append first x rest slot in
      let there : has_slot (first ++ quiet_mark stream until ∷ x ∷ rest) ≡ true = slots_with stream until (x ∷ rest) first ∙ here in
      rw (there, here) refl
  by_kind first until x rest (Quiet later) is past =
      rw (slots_with stream until (x ∷ rest) first, past_with stream time until later x rest is past first) refl
  by_kind first until x rest End is past = absurd past

  by_rest : (first : List MarkView) (until : ℤ) (rest : List MarkView) → BeginsPast until rest
      → is_quiet_new stream open_at (first ++ quiet_mark stream until ∷ rest) time ≡ is_quiet_new stream open_at (first ++ rest) time
  by_rest first until [] past = absurd past
  by_rest first until (x ∷ rest) past = by_kind first until x rest x.kind refl past

  pub new_alike : (long short : List MarkView) → AreClose stream long short → is_quiet_new stream open_at long time ≡ is_quiet_new stream open_at short time
  new_alike long short (inl same) = ap (λ l. is_quiet_new stream open_at l time) same
  new_alike long short (inr m) = ap (λ l. is_quiet_new stream open_at l time) m.long_is ∙ by_rest m.first m.until m.rest m.past ∙ ap (λ l. is_quiet_new stream open_at l time) (sym m.short_is)

-- a clock reading produces the same marks after both lists
pub given_alike : (stream : Stream) (open_at : ℤ) (long short : List MarkView) (u : ℤ) (marks : List MarkView) → AreClose stream long short
    → slots_or_quiet stream open_at long u marks ≡ slots_or_quiet stream open_at short u marks
given_alike stream open_at long short u (mark ∷ marks) close = refl
given_alike stream open_at long short u [] close = ap (λ b. if b then quiet_mark stream (u -ℤ pos stream.latency) ∷ [] else []) (new_alike stream open_at (u -ℤ pos stream.latency) long short close)

-- two clock readings produce what the second alone produces, but for a Quiet
abbrev pub BeginsWithSlot : List MarkView → Type 0
BeginsWithSlot [] = Unit {0}
BeginsWithSlot (mark ∷ marks) = is_slot mark.kind ≡ true

slot_past : (until : ℤ) (kind : MarkKind) → is_slot kind ≡ true → IsPast until kind
slot_past until (Slot e n m b) is = tt
slot_past until (Quiet later) is = absurd (false≢true is)
slot_past until End is = absurd (false≢true is)

past_quiet_later : (t u : ℤ) (kind : MarkKind) → t ≤ℤ u → is_past_quiet t kind ≡ true → is_past_quiet u kind ≡ true
past_quiet_later t u (Slot e n m b) le h = refl
past_quiet_later t u (Quiet until) le h = grind (arith, ints, le, h)
past_quiet_later t u End le h = refl

past_quiets_later : (t u : ℤ) (marks : List MarkView) → t ≤ℤ u → is_past_quiets t marks ≡ true → is_past_quiets u marks ≡ true
past_quiets_later t u [] le h = refl
past_quiets_later t u (x ∷ marks) le h =
    rw (past_quiet_later t u x.kind le (both_left (is_past_quiet t x.kind) (is_past_quiets t marks) h)) (past_quiets_later t u marks le (both_right (is_past_quiet t x.kind) (is_past_quiets t marks) h))

past_quiets_push : (u : ℤ) (mark : MarkView) (marks : List MarkView) → is_past_quiets u (marks ++ mark ∷ []) ≡ (is_past_quiets u marks && is_past_quiet u mark.kind)
past_quiets_push u mark [] = with_true (is_past_quiet u mark.kind)
  where
    with_true : (b : Bool) → (b && true) ≡ b
    with_true true = refl
    with_true false = refl
past_quiets_push u mark (x ∷ marks) = ap (λ b. is_past_quiet u x.kind && b) (past_quiets_push u mark marks) ∙ sym (and_assoc (is_past_quiet u x.kind) (is_past_quiets u marks) (is_past_quiet u mark.kind))
  where
    and_assoc : (a b c : Bool) → ((a && b) && c) ≡ (a && (b && c))
    and_assoc true b c = refl
    and_assoc false b c = refl

slots_push : (stream : Stream) (until : ℤ) (marks : List MarkView) → has_slot (marks ++ quiet_mark stream until ∷ []) ≡ has_slot marks
slots_push stream until marks = slots_with stream until [] marks ∙ ap has_slot (append-nil marks)

three : (a b c : Bool) → (not a && (b && c)) ≡ true → (a ≡ false) × (b ≡ true) × (c ≡ true)
three false true true h = (refl, refl, refl)
three true b c h = absurd (false≢true h)
three false false c h = absurd (false≢true h)
three false true false h = absurd (false≢true h)

module _ (stream : Stream) (open_at : ℤ) (marks : List MarkView) (t u : ℤ) (le : t ≤ℤ u) (new : is_quiet_new stream open_at marks t ≡ true) where
  parts : (has_slot marks ≡ false) × (int_lt (open_at -ℤ pos stream.latency) t ≡ true) × (is_past_quiets t marks ≡ true)
  parts = three (has_slot marks) (int_lt (open_at -ℤ pos stream.latency) t) (is_past_quiets t marks) new

  after_open : int_lt (open_at -ℤ pos stream.latency) u ≡ true
  after_open = grind (arith, ints, le, parts.1)

  new_later : is_quiet_new stream open_at marks u ≡ true
  new_later = rw (parts.0, after_open, past_quiets_later t u marks le parts.2) refl

  pushed : is_quiet_new stream open_at (marks ++ quiet_mark stream t ∷ []) u ≡ int_lt t u
  pushed = rw (slots_push stream t marks, parts.0, after_open, past_quiets_push u (quiet_mark stream t) marks, past_quiets_later t u marks le parts.2) refl

module _ (stream : Stream) (open_at : ℤ) (marks : List MarkView) (a b : ℤ) (le : a ≤ℤ b) where
  two_silences : (new : is_quiet_new stream open_at marks (a -ℤ pos stream.latency) ≡ true) → (later : Bool) → int_lt (a -ℤ pos stream.latency) (b -ℤ pos stream.latency) ≡ later
      → AreClose stream ((marks ++ quiet_mark stream (a -ℤ pos stream.latency) ∷ []) ++ slots_or_quiet stream open_at (marks ++ quiet_mark stream (a -ℤ pos stream.latency) ∷ []) b []) (marks ++ slots_or_quiet stream open_at marks b [])
  two_silences new true is =
      let low : (a -ℤ pos stream.latency) ≤ℤ (b -ℤ pos stream.latency) = omega (arith, ints, le) in
      rw (pushed stream open_at marks (a -ℤ pos stream.latency) (b -ℤ pos stream.latency) low new, is, new_later stream open_at marks (a -ℤ pos stream.latency) (b -ℤ pos stream.latency) low new)
      (inr (record {
        first = marks;
        until = a -ℤ pos stream.latency;
        rest = quiet_mark stream (b -ℤ pos stream.latency) ∷ [];
        long_is = append_assoc marks (quiet_mark stream (a -ℤ pos stream.latency) ∷ []) (quiet_mark stream (b -ℤ pos stream.latency) ∷ []);
        short_is = refl;
        past = grind (arith, ints, is);
      }))
  two_silences new false is =
      let low : (a -ℤ pos stream.latency) ≤ℤ (b -ℤ pos stream.latency) = omega (arith, ints, le) in
      let same : (a -ℤ pos stream.latency) ≡ (b -ℤ pos stream.latency) = grind (arith, ints, low, is) in
      rw (pushed stream open_at marks (a -ℤ pos stream.latency) (b -ℤ pos stream.latency) low new, is, new_later stream open_at marks (a -ℤ pos stream.latency) (b -ℤ pos stream.latency) low new)
      (inl (append-nil (marks ++ quiet_mark stream (a -ℤ pos stream.latency) ∷ []) ∙ ap (λ u. marks ++ quiet_mark stream u ∷ []) same))

  silence_first : (second : List MarkView) → BeginsWithSlot second → (new : Bool) → is_quiet_new stream open_at marks (a -ℤ pos stream.latency) ≡ new
      → AreClose stream ((marks ++ (if new then quiet_mark stream (a -ℤ pos stream.latency) ∷ [] else [])) ++ slots_or_quiet stream open_at (marks ++ (if new then quiet_mark stream (a -ℤ pos stream.latency) ∷ [] else [])) b second) (marks ++ slots_or_quiet stream open_at marks b second)
  silence_first second slots false is = inl (ap (λ l. l ++ slots_or_quiet stream open_at l b second) (append-nil marks))
  silence_first [] slots true is = two_silences is (int_lt (a -ℤ pos stream.latency) (b -ℤ pos stream.latency)) refl
  silence_first (x ∷ second) slots true is = inr (record {
    first = marks;
    until = a -ℤ pos stream.latency;
    rest = x ∷ second;
    long_is = append_assoc marks (quiet_mark stream (a -ℤ pos stream.latency) ∷ []) (x ∷ second);
    short_is = refl;
    past = slot_past (a -ℤ pos stream.latency) x.kind slots;
  })

  pub two_readings : (first second : List MarkView) → BeginsWithSlot first → BeginsWithSlot second
      → AreClose stream ((marks ++ slots_or_quiet stream open_at marks a first) ++ slots_or_quiet stream open_at (marks ++ slots_or_quiet stream open_at marks a first) b second) (marks ++ slots_or_quiet stream open_at marks b (first ++ second))
  two_readings [] second none slots = silence_first second slots (is_quiet_new stream open_at marks (a -ℤ pos stream.latency)) refl
  two_readings (x ∷ first) second slots later =
      let slotted : has_slot (marks ++ x ∷ first) ≡ true = has_slot-append marks x first slots in
      inl (ap (λ l. (marks ++ x ∷ first) ++ l) (slots_or_quiet-slotted stream open_at (marks ++ x ∷ first) b second slotted) ∙ append_assoc marks (x ∷ first) second)

-- no Quiet of a mark list is later than the end of its last slot
abbrev IsWithin : ℕ → Option LastSlot → Option ℤ → Type 0
IsWithin frames None quiet = Unit {0}
IsWithin frames (Some slot) None = Unit {0}
IsWithin frames (Some slot) (Some until) = until ≤ℤ (slot.media +ℤ pos frames)

data Bounded (frames : ℕ) : Option MarkKind → Option LastSlot → Option ℤ → Type 0 where
  fresh : Bounded frames None None None
  quiet : (u : ℤ) → Bounded frames (Some (Quiet u)) None (Some u)
  slot : (e n : ℕ) (m : ℤ) (b : Body) (q : Option ℤ) → IsWithin frames (Some (record { epoch = e; number = n; media = m })) q → Bounded frames (Some (Slot e n m b)) (Some (record { epoch = e; number = n; media = m })) q
  ended : (s : Option LastSlot) (q : Option ℤ) → IsWithin frames s q → Bounded frames (Some End) s q

still_within : (frames e n e' n' : ℕ) (m m' : ℤ) (q : Option ℤ) → (m +ℤ pos frames) ≤ℤ m' → IsWithin frames (Some (record { epoch = e; number = n; media = m })) q → IsWithin frames (Some (record { epoch = e'; number = n'; media = m' })) q
still_within frames e n e' n' m m' None le within = tt
still_within frames e n e' n' m m' (Some u) le within = omega (arith, ints, le, within)

bounded_next : (frames : ℕ) (last : Option MarkKind) (s : Option LastSlot) (q : Option ℤ) (next : MarkKind) → Bounded frames last s q → can_follow frames last next ≡ true
    → Bounded frames (Some next) (option_or (slot_of next) s) (option_or (quiet_of next) q)
bounded_next frames last s q (Slot e n m b) fresh h = slot e n m b None tt
bounded_next frames last s q (Quiet v) fresh h = quiet v
bounded_next frames last s q End fresh h = ended None None tt
bounded_next frames last s q (Slot e n m b) (quiet u) h = slot e n m b (Some u) (let le : u ≤ℤ m = grind (arith, ints, h) in omega (arith, ints, le))
bounded_next frames last s q (Quiet v) (quiet u) h = quiet v
bounded_next frames last s q End (quiet u) h = ended None (Some u) tt
bounded_next frames last s q (Slot e' n' m' b') (slot e n m b r within) h =
    slot e' n' m' b' r (still_within frames e n e' n' m m' r (let later : (m +ℤ pos frames) ≤ℤ m' = grind (arith, ints, nat_tests, h) in later) within)
bounded_next frames last s q (Quiet v) (slot e n m b r within) h = absurd (false≢true h)
bounded_next frames last s q End (slot e n m b r within) h = ended (Some (record { epoch = e; number = n; media = m })) r within
bounded_next frames last s q next (ended s0 q0 within) h = absurd (false≢true h)

or_assoc : {A : Type 0} (a b c : Option A) → option_or (option_or a b) c ≡ option_or a (option_or b c)
or_assoc None b c = refl
or_assoc (Some x) b c = refl

bounded_within : (frames : ℕ) (last : Option MarkKind) (s : Option LastSlot) (q : Option ℤ) → Bounded frames last s q → IsWithin frames s q
bounded_within frames last s q fresh = tt
bounded_within frames last s q (quiet u) = tt
bounded_within frames last s q (slot e n m b r within) = within
bounded_within frames last s q (ended s0 q0 within) = within

all_within : (format : PacketFormat) (last : Option MarkKind) (s : Option LastSlot) (q : Option ℤ) (marks : List MarkView) → Bounded format.frames last s q → is_mark_list_after format last marks ≡ true
    → IsWithin format.frames (option_or (last_slot marks) s) (option_or (last_quiet marks) q)
all_within format last s q [] bounded h = bounded_within format.frames last s q bounded
all_within format last s q (x ∷ marks) bounded h =
    let here = both_left (is_same_format x.format format && can_follow format.frames last x.kind) (is_mark_list_after format (Some x.kind) marks) h in
    let follows = both_right (is_same_format x.format format) (can_follow format.frames last x.kind) here in
    let rest = both_right (is_same_format x.format format && can_follow format.frames last x.kind) (is_mark_list_after format (Some x.kind) marks) h in
    rw (or_assoc (last_slot marks) (slot_of x.kind) s, or_assoc (last_quiet marks) (quiet_of x.kind) q)
    (all_within format (Some x.kind) (option_or (slot_of x.kind) s) (option_or (quiet_of x.kind) q) marks (bounded_next format.frames last s q x.kind bounded follows) rest)

within_of : (format : PacketFormat) (marks : List MarkView) → is_mark_list format marks ≡ true → IsWithin format.frames (last_slot marks) (last_quiet marks)
within_of format marks h = rw (or_none (last_slot marks), or_none (last_quiet marks)) at (all_within format None None None marks fresh h)

-- so the last slot alone determines the time that a mark list reaches, if it has a slot
by_slot : (frames : ℕ) (slot : Option LastSlot) (q r : Option ℤ) → IsWithin frames slot q → IsWithin frames slot r → (slot ≡ None → q ≡ r) → time_reached frames slot q ≡ time_reached frames slot r
by_slot frames None q r a b same = ap (time_reached frames None) (same refl)
by_slot frames (Some s) q r a b same = its q a ∙ sym (its r b)
  where
    its : (q : Option ℤ) → IsWithin frames (Some s) q → time_reached frames (Some s) q ≡ Some (s.media +ℤ pos frames)
    its None h = refl
    its (Some u) h = grind (arith, ints, h)

-- a list with a slot has a last slot
found : (first : List MarkView) (x : MarkView) (rest : List MarkView) (s : LastSlot) → slot_of x.kind ≡ Some s → last_slot (first ++ x ∷ rest) ≡ None → ⊥
found [] x rest s is none = by_rest (last_slot rest) (sym (ap (λ o. option_or (last_slot rest) o) is) ∙ none)
  where
    by_rest : (o : Option LastSlot) → option_or o (Some s) ≡ None → ⊥
    by_rest None e = cc
    by_rest (Some r) e = cc
found (y ∷ first) x rest s is none = found first x rest s is (first_none (last_slot (first ++ x ∷ rest)) (slot_of y.kind) none)
  where
    first_none : (o p : Option LastSlot) → option_or o p ≡ None → o ≡ None
    first_none None p e = refl
    first_none (Some r) p e = cc

quiet_alike : (stream : Stream) (first : List MarkView) (until : ℤ) (x : MarkView) (rest : List MarkView) (kind : MarkKind) → x.kind ≡ kind → IsPast until kind → last_slot (first ++ x ∷ rest) ≡ None
    → last_quiet (first ++ quiet_mark stream until ∷ x ∷ rest) ≡ last_quiet (first ++ x ∷ rest)
quiet_alike stream first until x rest (Slot e n m b) is past none = absurd (found first x rest (record { epoch = e; number = n; media = m }) (ap slot_of is) none)
quiet_alike stream first until x rest (Quiet later) is past none = last_quiet_with stream until later x rest is first
quiet_alike stream first until x rest End is past none = absurd past

-- both lists have the same values, ends and counts
pub record AreAlike (format : PacketFormat) (long short : List MarkView) : Type 0 where
  pub ended : has_end long ≡ has_end short
  pub cover : cover_of format long ≡ cover_of format short
  pub end : (start : ℤ) → end_of format start long ≡ end_of format start short
  pub frames : (t : ℤ) → frame_at format long t ≡ frame_at format short t
  pub got : count_by (λ mark. is_got mark.kind) long ≡ count_by (λ mark. is_got mark.kind) short
  pub lost : count_by (λ mark. is_lost mark.kind) long ≡ count_by (λ mark. is_lost mark.kind) short

alike-refl : (format : PacketFormat) (marks : List MarkView) → AreAlike format marks marks
alike-refl format marks = record { ended = refl; cover = refl; end = λ start. refl; frames = λ t. refl; got = refl; lost = refl }

map_same : {X Y : Type 0} (f g : X → Y) (xs : List X) → ((x : X) → f x ≡ g x) → map f xs ≡ map g xs
map_same f g [] same = refl
map_same f g (x ∷ xs) same = ap (λ y. y ∷ map f xs) (same x) ∙ ap (λ l. g x ∷ l) (map_same f g xs same)

module _ (stream : Stream) (format : PacketFormat) (first : List MarkView) (until : ℤ) where
  with_alike : (rest : List MarkView) → BeginsPast until rest → is_mark_list format (first ++ quiet_mark stream until ∷ rest) ≡ true → is_mark_list format (first ++ rest) ≡ true
      → AreAlike format (first ++ quiet_mark stream until ∷ rest) (first ++ rest)
  with_alike [] past listed shorter = absurd past
  with_alike (x ∷ rest) past listed shorter =
      let slot : last_slot (first ++ quiet_mark stream until ∷ x ∷ rest) ≡ last_slot (first ++ x ∷ rest) = last_slot_with stream until (x ∷ rest) first in
      let a : IsWithin format.frames (last_slot (first ++ x ∷ rest)) (last_quiet (first ++ quiet_mark stream until ∷ x ∷ rest)) = subst (λ o. IsWithin format.frames o (last_quiet (first ++ quiet_mark stream until ∷ x ∷ rest))) slot (within_of format (first ++ quiet_mark stream until ∷ x ∷ rest) listed) in
      let reached : time_reached format.frames (last_slot (first ++ quiet_mark stream until ∷ x ∷ rest)) (last_quiet (first ++ quiet_mark stream until ∷ x ∷ rest)) ≡ time_reached format.frames (last_slot (first ++ x ∷ rest)) (last_quiet (first ++ x ∷ rest)) =
      ap (λ o. time_reached format.frames o (last_quiet (first ++ quiet_mark stream until ∷ x ∷ rest))) slot
      ∙ by_slot format.frames (last_slot (first ++ x ∷ rest)) (last_quiet (first ++ quiet_mark stream until ∷ x ∷ rest)) (last_quiet (first ++ x ∷ rest)) a (within_of format (first ++ x ∷ rest) shorter) (λ none. quiet_alike stream first until x rest x.kind refl past none) in
      let end = end_with stream until (x ∷ rest) first in
      record {
        ended = end;
        cover = ap (λ b. cover_to b (time_reached format.frames (last_slot (first ++ quiet_mark stream until ∷ x ∷ rest)) (last_quiet (first ++ quiet_mark stream until ∷ x ∷ rest)))) end ∙ ap (cover_to (has_end (first ++ x ∷ rest))) reached;
        end = λ start. ap (λ o. unwrap_or o start) reached;
        frames = λ t. map_same (value_at format (first ++ quiet_mark stream until ∷ x ∷ rest) t) (value_at format (first ++ x ∷ rest) t) (range_with_len 0 format.channels) (λ k. ap (λ o. unwrap_or o (pos 0)) (samples_with stream until (x ∷ rest) format t k first));
        got = count_with stream until (x ∷ rest) (λ mark. is_got mark.kind) refl first;
        lost = count_with stream until (x ∷ rest) (λ mark. is_lost mark.kind) refl first;
      }

-- mark lists that differ by at most such a Quiet have the same values, ends and counts
pub close_alike : (stream : Stream) (format : PacketFormat) (long short : List MarkView) → AreClose stream long short → is_mark_list format long ≡ true → is_mark_list format short ≡ true → AreAlike format long short
close_alike stream format long short (inl same) listed shorter = subst (AreAlike format long) same (alike-refl format long)
close_alike stream format long short (inr m) listed shorter =
    subst (λ l. AreAlike format l short) (sym m.long_is)
    (subst (AreAlike format (m.first ++ quiet_mark stream m.until ∷ m.rest)) (sym m.short_is)
    (with_alike stream format m.first m.until m.rest m.past (sym (ap (is_mark_list format) m.long_is) ∙ listed) (sym (ap (is_mark_list format) m.short_is) ∙ shorter)))
