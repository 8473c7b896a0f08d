-- One more mark: the last marks, and the values.
use Rattle.std.proofs.Common.{◌≡◌, ◌≤◌, ◌<◌, ◌+◌, ◌*◌, ◌/◌, ℕ, Bool, true, false, ◌&&◌, ◌||◌, List, [], ◌∷◌, ◌++◌, length, get_or, ℤ, pos, ◌+ℤ◌, ◌-ℤ◌, ◌≤ℤ◌, ◌<ℤ◌, Option, Some, None, unwrap_or, unsigned_abs, is_some, if◌then◌else◌, refl, sym, ap, ◌∙◌, arith}
use Rattle.std.proofs.lemmas.Bool.{false≢true}
use Rattle.std.proofs.lemmas.Bool.Decides.{nat_tests}
use Rattle.std.proofs.lemmas.Int.{ints}
use Rattle.std.proofs.lemmas.List.{get_or-replicate, length-replicate}
use Rattle.std.proofs.lemmas.List.FromFn.{length-map-range_with_len, get_or-map-range_with_len}
use Rattle.std.proofs.Math.Nat.{mul-le-mul_right}
use Rattle.rtp_wire.specs.declared.encoding.Enc.{Enc}
use Rattle.rtp_wire.specs.declared.encoding.Enc.TheVariants.{L16, L24}
use Rattle.rtp_wire.specs.Sample.{octets_per_sample, sample_at, sample_count}
use Rattle.std.specs.Option.{option_or}
use Rattle.rtp_stream.specs.MarkFacts.{MarkView, HasLength, payload_length}
use Rattle.rtp_stream.specs.MarkList.{can_follow, is_same_format, is_mark_list_after, is_end, has_end}
use Rattle.rtp_stream.specs.declared.mark.PacketFormat.{PacketFormat}
use Rattle.rtp_stream.specs.declared.mark.Body.{Body}
use Rattle.rtp_stream.specs.declared.mark.Body.TheVariants.{Got, Lost}
use Rattle.rtp_stream.specs.declared.mark.MarkKind.{MarkKind}
use Rattle.rtp_stream.specs.declared.mark.MarkKind.TheVariants.{Slot, Quiet, End}
use Rattle.lane_align.specs.declared.last_slot.LastSlot.{LastSlot}
use Rattle.lane_align.specs.Cover.{slot_of, quiet_of, last_slot, last_quiet}
use Rattle.lane_align.specs.Value.{is_within, sample_of, sample_in, sample_among}
use Rattle.lane_align.specs.Presence.{is_got, brings, is_present}
use Rattle.lane_align.specs.Lane.{IsAfter, frames_between, frames_left, body_samples}
use Rattle.lane_align.proofs.MarkListLemmas.{or_none, both_left, both_right}
use Rattle.lane_align.proofs.LaneLemmas.{past, none, distance}

-- the last marks of a list with one more mark
or_last : {A : Type 0} (a b c : Option A) → option_or (option_or a b) c ≡ option_or a (option_or b c)
or_last None b c = refl
or_last (Some x) b c = refl

pub last_slot_more : (marks : List MarkView) (mark : MarkView) → last_slot (marks ++ mark ∷ []) ≡ option_or (slot_of mark.kind) (last_slot marks)
last_slot_more [] mark = sym (or_none (slot_of mark.kind))
last_slot_more (x ∷ marks) mark = ap (λ o. option_or o (slot_of x.kind)) (last_slot_more marks mark) ∙ or_last (slot_of mark.kind) (last_slot marks) (slot_of x.kind)

pub last_quiet_more : (marks : List MarkView) (mark : MarkView) → last_quiet (marks ++ mark ∷ []) ≡ option_or (quiet_of mark.kind) (last_quiet marks)
last_quiet_more [] mark = sym (or_none (quiet_of mark.kind))
last_quiet_more (x ∷ marks) mark = ap (λ o. option_or o (quiet_of x.kind)) (last_quiet_more marks mark) ∙ or_last (quiet_of mark.kind) (last_quiet marks) (quiet_of x.kind)

or_past : (a b c : Bool) → a || (b || c) ≡ b || (a || c)
or_past true true c = refl
or_past true false c = refl
or_past false b c = refl

pub has_end_more : (marks : List MarkView) (mark : MarkView) → has_end (marks ++ mark ∷ []) ≡ is_end mark.kind || has_end marks
has_end_more [] mark = refl
has_end_more (x ∷ marks) mark = ap (λ b. is_end x.kind || b) (has_end_more marks mark) ∙ or_past (is_end x.kind) (is_end mark.kind) (has_end marks)

-- the samples of a list, and of the marks that follow it
pub sample_among_more : (format : PacketFormat) (marks more : List MarkView) (t : ℤ) (k : ℕ) → sample_among format (marks ++ more) t k ≡ option_or (sample_among format marks t k) (sample_among format more t k)
sample_among_more format [] more t k = refl
sample_among_more format (x ∷ marks) more t k =
    ap (λ o. option_or (sample_in format x.kind t k) o) (sample_among_more format marks more t k)
    ∙ sym (or_last (sample_in format x.kind t k) (sample_among format marks t k) (sample_among format more t k))

-- a slot has no frame before its start, and none after its end
before_slot : (frames : ℕ) (media t : ℤ) → t <ℤ media → is_within frames media t ≡ false
before_slot frames media t h = grind (arith, ints)

past_slot : (frames : ℕ) (media t : ℤ) → (media +ℤ pos frames) ≤ℤ t → is_within frames media t ≡ false
past_slot frames media t h = grind (arith, ints)

in_slot : (frames : ℕ) (media t : ℤ) → media ≤ℤ t → t <ℤ (media +ℤ pos frames) → is_within frames media t ≡ true
in_slot frames media t h g = grind (arith, ints)

pub sample_before : (format : PacketFormat) (e n : ℕ) (m : ℤ) (b : Body) (t : ℤ) (k : ℕ) → t <ℤ m → sample_in format (Slot e n m b) t k ≡ None
sample_before format e n m b t k h = rw (before_slot format.frames m t h) refl

pub sample_past : (format : PacketFormat) (e n : ℕ) (m : ℤ) (b : Body) (t : ℤ) (k : ℕ) → (m +ℤ pos format.frames) ≤ℤ t → sample_in format (Slot e n m b) t k ≡ None
sample_past format e n m b t k h = rw (past_slot format.frames m t h) refl

-- nothing follows an end
pub after_end : (format : PacketFormat) (marks : List MarkView) → is_mark_list_after format (Some End) marks ≡ true → marks ≡ []
after_end format [] h = refl
after_end format (x ∷ marks) h =
    let here = both_left (is_same_format x.format format && false) (is_mark_list_after format (Some x.kind) marks) h in
    absurd (false≢true (both_right (is_same_format x.format format) false here))

unwrap_last : (o : Option LastSlot) (s d : LastSlot) → unwrap_or (option_or o (Some s)) d ≡ unwrap_or o s
unwrap_last None s d = refl
unwrap_last (Some x) s d = refl

pub slot_later : (frames e n : ℕ) (m : ℤ) (b : Body) (e' n' : ℕ) (m' : ℤ) (b' : Body) → can_follow frames (Some (Slot e n m b)) (Slot e' n' m' b') ≡ true → (m +ℤ pos frames) ≤ℤ m'
slot_later frames e n m b e' n' m' b' h = grind (arith, ints, nat_tests)

-- the last slot is not before an earlier one
not_before : (format : PacketFormat) (e n : ℕ) (m : ℤ) (b : Body) (marks : List MarkView) → is_mark_list_after format (Some (Slot e n m b)) marks ≡ true
    → m ≤ℤ (unwrap_or (last_slot marks) (record { epoch = e; number = n; media = m })).media
not_before format e n m b [] h = omega (arith, ints)
not_before format e n m b (x ∷ marks) h =
    let here = both_left (is_same_format x.format format && can_follow format.frames (Some (Slot e n m b)) x.kind) (is_mark_list_after format (Some x.kind) marks) h in
    let follows = both_right (is_same_format x.format format) (can_follow format.frames (Some (Slot e n m b)) x.kind) here in
    let rest = both_right (is_same_format x.format format && can_follow format.frames (Some (Slot e n m b)) x.kind) (is_mark_list_after format (Some x.kind) marks) h in
    (elim x.kind as (λ kind. can_follow format.frames (Some (Slot e n m b)) kind ≡ true → is_mark_list_after format (Some kind) marks ≡ true
    → m ≤ℤ (unwrap_or (option_or (last_slot marks) (slot_of kind)) (record { epoch = e; number = n; media = m })).media) [
      | Slot e' n' m' b' ↦ λ f r.
          let later = slot_later format.frames e n m b e' n' m' b' f in
          let last = not_before format e' n' m' b' marks r in
          let same = ap (λ (s : LastSlot). s.media) (unwrap_last (last_slot marks) (record { epoch = e'; number = n'; media = m' }) (record { epoch = e; number = n; media = m })) in
          omega (arith, ints)
      | Quiet u ↦ λ f r. absurd (false≢true f)
      | End ↦ λ f r. rw (after_end format marks r) (omega (arith, ints))
    ]) follows rest

after_last : (frames : ℕ) (o : Option LastSlot) (s : LastSlot) (u : ℤ) → IsAfter frames (option_or o (Some s)) u → ((unwrap_or o s).media +ℤ pos frames) ≤ℤ u
after_last frames None s u h = h
after_last frames (Some x) s u h = h

after_some : (frames : ℕ) (o p : Option LastSlot) (u : ℤ) → IsAfter frames (option_or o p) u → IsAfter frames o u
after_some frames None p u h = tt
after_some frames (Some x) p u h = h

-- from the end of the last slot on there is no sample
pub silent_after : (format : PacketFormat) (last : Option MarkKind) (marks : List MarkView) (u : ℤ) (k : ℕ) → is_mark_list_after format last marks ≡ true
    → IsAfter format.frames (last_slot marks) u → sample_among format marks u k ≡ None
silent_after format last [] u k h after = refl
silent_after format last (x ∷ marks) u k h after =
    let rest = both_right (is_same_format x.format format && can_follow format.frames last x.kind) (is_mark_list_after format (Some x.kind) marks) h in
    (elim x.kind as (λ kind. is_mark_list_after format (Some kind) marks ≡ true → IsAfter format.frames (option_or (last_slot marks) (slot_of kind)) u
    → option_or (sample_in format kind u k) (sample_among format marks u k) ≡ None) [
      | Slot e n m b ↦ λ r a.
          let first = not_before format e n m b marks r in
          let last' = after_last format.frames (last_slot marks) (record { epoch = e; number = n; media = m }) u a in
          let past' : (m +ℤ pos format.frames) ≤ℤ u = omega (arith, ints) in
          ap (λ o. option_or o (sample_among format marks u k)) (sample_past format e n m b u k past')
          ∙ silent_after format (Some (Slot e n m b)) marks u k r (after_some format.frames (last_slot marks) (Some (record { epoch = e; number = n; media = m })) u a)
      | Quiet until ↦ λ r a. silent_after format (Some (Quiet until)) marks u k r (after_some format.frames (last_slot marks) None u a)
      | End ↦ λ r a. silent_after format (Some End) marks u k r (after_some format.frames (last_slot marks) None u a)
    ]) rest after

-- the samples of a payload of the format's length
count_is : (enc : Enc) (n len : ℕ) → len ≡ n * octets_per_sample enc → len / octets_per_sample enc ≡ n
count_is L16 n len e = omega arith
count_is L24 n len e = omega arith

pub body_length : (format : PacketFormat) (b : Body) → HasLength (payload_length format) b → length (body_samples format b) ≡ format.frames * format.channels
body_length format (Got payload) h =
    length-map-range_with_len (sample_at format.enc payload.items) 0 (sample_count format.enc payload.items)
    ∙ count_is format.enc (format.frames * format.channels) (length payload.items) h
body_length format Lost h = length-replicate (format.frames * format.channels) (pos 0)

pub place_below : (i n k c : ℕ) → i < n → k < c → i * c + k < n * c
place_below i n k c h g = let more : (i + 1) * c ≤ n * c = mul-le-mul_right c (let m : i + 1 ≤ n = omega arith in m) in omega arith

pub body_in : (format : PacketFormat) (b : Body) → HasLength (payload_length format) b → (i k : ℕ) → i < format.frames → k < format.channels
    → get_or (body_samples format b) (i * format.channels + k) (pos 0) ≡ unwrap_or (sample_of format b i k) (pos 0)
body_in format (Got payload) h i k below lt =
    let count = count_is format.enc (format.frames * format.channels) (length payload.items) h in
    let at = i * format.channels + k in
    let within : at < sample_count format.enc payload.items = let p = place_below i format.frames k format.channels below lt in omega arith in
    get_or-map-range_with_len (sample_at format.enc payload.items) 0 (sample_count format.enc payload.items) at at (pos 0) within (omega arith)
body_in format Lost h i k below lt = get_or-replicate (format.frames * format.channels) (i * format.channels + k) (pos 0) (pos 0) (place_below i format.frames k format.channels below lt)

-- where a slot begins, seen from a position: `before` frames after the position, or `skipped` frames before it
pub data Place (held before skipped : ℕ) (m t : ℤ) : Type 0 where
  ahead : m ≡ t +ℤ pos before → skipped ≡ 0 → held ≤ before → Place held before skipped m t
  behind : t ≡ m +ℤ pos skipped → before ≡ 0 → held ≡ 0 → Place held before skipped m t

pub place_of : (frames : ℕ) (slot : Option LastSlot) (m t : ℤ) → IsAfter frames slot m → Place (frames_left frames t slot) (frames_between t m) (frames_between m t) m t
place_of frames None m t after = elim (distance (m -ℤ t)) [
  | past a ↦ elim (distance (t -ℤ m)) [ past b ↦ ahead (omega (arith, ints)) (omega (arith, ints)) (omega arith) | none b z ↦ ahead (omega (arith, ints)) z (omega arith) ]
  | none a y ↦ elim (distance (t -ℤ m)) [ past b ↦ behind (omega (arith, ints)) y refl | none b z ↦ absurd (omega (arith, ints)) ]
]
place_of frames (Some s) m t after = elim (distance (m -ℤ t)) [
  | past a ↦ elim (distance ((s.media +ℤ pos frames) -ℤ t)) [
    | past d ↦ elim (distance (t -ℤ m)) [ past b ↦ ahead (omega (arith, ints)) (omega (arith, ints)) (omega (arith, ints)) | none b z ↦ ahead (omega (arith, ints)) z (omega (arith, ints)) ]
    | none d x ↦ elim (distance (t -ℤ m)) [ past b ↦ ahead (omega (arith, ints)) (omega (arith, ints)) (omega (arith, ints)) | none b z ↦ ahead (omega (arith, ints)) z (omega (arith, ints)) ]
  ]
  | none a y ↦ elim (distance ((s.media +ℤ pos frames) -ℤ t)) [
    | past d ↦ absurd (omega (arith, ints))
    | none d x ↦ elim (distance (t -ℤ m)) [ past b ↦ behind (omega (arith, ints)) y x | none b z ↦ absurd (omega (arith, ints)) ]
  ]
]

pub sample_within : (format : PacketFormat) (e n : ℕ) (m : ℤ) (b : Body) (t : ℤ) (k : ℕ) → m ≤ℤ t → t <ℤ (m +ℤ pos format.frames) → sample_in format (Slot e n m b) t k ≡ sample_of format b (unsigned_abs (t -ℤ m)) k
sample_within format e n m b t k h g = rw (in_slot format.frames m t h g) refl

-- a packet that came has the frame of a time exactly if a mark has a sample of it
some_or : {A : Type 0} (a b : Option A) → is_some (option_or a b) ≡ is_some a || is_some b
some_or None b = refl
some_or (Some x) b = refl

brought : (format : PacketFormat) (m t : ℤ) (e n : ℕ) (b : Body) (k : ℕ) (within : Bool)
    → (is_got b && within) ≡ is_some (if within then sample_of format b (unsigned_abs (t -ℤ m)) k else None)
brought format m t e n (Got payload) k true = refl
brought format m t e n (Got payload) k false = refl
brought format m t e n Lost k true = refl
brought format m t e n Lost k false = refl

brings_is : (format : PacketFormat) (kind : MarkKind) (t : ℤ) (k : ℕ) → brings format.frames kind t ≡ is_some (sample_in format kind t k)
brings_is format (Slot e n m b) t k = brought format m t e n b k (is_within format.frames m t)
brings_is format (Quiet until) t k = refl
brings_is format End t k = refl

pub present_is : (format : PacketFormat) (marks : List MarkView) (t : ℤ) (k : ℕ) → is_present format marks t ≡ is_some (sample_among format marks t k)
present_is format [] t k = refl
present_is format (x ∷ marks) t k =
    ap (λ b. b || is_present format marks t) (brings_is format x.kind t k)
    ∙ ap (λ b. is_some (sample_in format x.kind t k) || b) (present_is format marks t k)
    ∙ sym (some_or (sample_in format x.kind t k) (sample_among format marks t k))
