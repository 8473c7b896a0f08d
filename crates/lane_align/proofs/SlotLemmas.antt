-- The marks that a lane was fed, after one more slot.
use Rattle.std.proofs.Common.{◌≡◌, ◌≤◌, ◌<◌, ◌+◌, ◌*◌, ◌-◌, ◌^◌, ℕ, min, Bool, true, false, not, ◌||◌, List, [], ◌∷◌, ◌++◌, length, take, drop, replicate, get_or, ℤ, pos, ◌+ℤ◌, ◌-ℤ◌, ◌≤ℤ◌, ◌<ℤ◌, Option, Some, None, unwrap_or, unsigned_abs, is_some, refl, sym, ap, subst, ◌∙◌, arith, length-append, length-drop, inl, inr, if◌then◌else◌}
use Rattle.std.proofs.lemmas.Bool.{cases_lt, false≢true}
use Rattle.std.proofs.lemmas.Bool.Decides.{nat_tests}
use Rattle.std.specs.Int.{int_max}
use Rattle.std.proofs.lemmas.Int.{ints, clamps}
use Rattle.std.proofs.lemmas.List.{get_or-drop, get_or_append_left, get_or-append_right, get_or_past, get_or-replicate, length-replicate, drop_all, take-replicate}
use Rattle.std.proofs.lemmas.Slice.{between_is}
use Rattle.std.specs.List.{between, All}
use Rattle.std.proofs.Math.Nat.{mul-le-mul_right}
use Rattle.std.proofs.Math.Seq.{take-append_seam}
use Rattle.std.proofs.lemmas.List.Elements.{All-append, All-drop, All-replicate}
use Rattle.rtp_wire.specs.Sample.{Is24Bits}
use Rattle.std.specs.Option.{option_or}
use Rattle.rtp_stream.specs.declared.stream_spec.Stream.{Stream}
use Rattle.rtp_stream.specs.StreamSpecFacts.{format_of}
use Rattle.rtp_stream.specs.MarkFacts.{MarkView, HasLength, payload_length}
use Rattle.rtp_stream.specs.MarkList.{can_follow, is_same_format, is_mark_list, is_end, has_end}
use Rattle.rtp_stream.specs.declared.mark.PacketFormat.{PacketFormat}
use Rattle.rtp_stream.specs.declared.mark.Body.{Body}
use Rattle.rtp_stream.specs.declared.mark.Body.TheVariants.{Got, Lost}
use Rattle.rtp_stream.specs.declared.mark.MarkKind.TheVariants.{Slot, Quiet, End}
use Rattle.lane_align.specs.declared.last_slot.LastSlot.{LastSlot}
use Rattle.lane_align.specs.Cover.{slot_of, quiet_of, last_slot, last_quiet, time_reached, cover_to, covers}
use Rattle.lane_align.specs.HeldValues.{Held, silence}
use Rattle.lane_align.specs.Presence.{presence_at, body_presence}
use Rattle.lane_align.specs.Value.{sample_of, sample_in, sample_among, value_at}
use Rattle.lane_align.specs.Lane.{LaneState, HasFeed, IsLane, IsSlot, IsAfter, last_kind, is_next, is_wanting, frames_between, frames_left, body_samples, with_slot}
use Rattle.lane_align.proofs.MarkListLemmas.{or_none, both_right}
use Rattle.lane_align.proofs.LaneLemmas.{past, none, distance, times_less, lane_of}
use Rattle.lane_align.proofs.FeedLemmas.{present_is, last_slot_more, last_quiet_more, has_end_more, sample_among_more, sample_before, sample_past, sample_within, silent_after, body_length, body_in, place_below, slot_later, ahead, behind, place_of}

-- the values of a list and a slot after it: those of the list before the slot, and those of the slot from its start on
value_before : (format : PacketFormat) (marks : List MarkView) (mark : MarkView) (e n : ℕ) (m : ℤ) (b : Body) (u : ℤ) (k : ℕ) → mark.kind ≡ Slot e n m b → u <ℤ m
    → value_at format (marks ++ mark ∷ []) u k ≡ value_at format marks u k
value_before format marks mark e n m b u k is_slot early =
    ap (λ o. unwrap_or o (pos 0)) (
    sample_among_more format marks (mark ∷ []) u k
    ∙ ap (λ kind. option_or (sample_among format marks u k) (option_or (sample_in format kind u k) None)) is_slot
    ∙ ap (λ o. option_or (sample_among format marks u k) (option_or o None)) (sample_before format e n m b u k early)
    ∙ or_none (sample_among format marks u k))

value_from : (format : PacketFormat) (marks : List MarkView) (mark : MarkView) (e n : ℕ) (m : ℤ) (b : Body) (u : ℤ) (k : ℕ) → mark.kind ≡ Slot e n m b
    → is_mark_list format marks ≡ true → IsAfter format.frames (last_slot marks) u
    → value_at format (marks ++ mark ∷ []) u k ≡ unwrap_or (sample_in format (Slot e n m b) u k) (pos 0)
value_from format marks mark e n m b u k is_slot listed late =
    ap (λ o. unwrap_or o (pos 0)) (
    sample_among_more format marks (mark ∷ []) u k
    ∙ ap (λ o. option_or o (option_or (sample_in format mark.kind u k) None)) (silent_after format None marks u k listed late)
    ∙ or_none (sample_in format mark.kind u k)
    ∙ ap (λ kind. sample_in format kind u k) is_slot)

-- the presence that a list gives a time is whether it has a sample of it
presence_is : (format : PacketFormat) (marks : List MarkView) (u : ℤ) → presence_at format marks u ≡ (if is_some (sample_among format marks u 0) then pos 1 else pos 0)
presence_is format marks u = ap (λ b. if b then pos 1 else pos 0) (present_is format marks u 0)

presence_before : (format : PacketFormat) (marks : List MarkView) (mark : MarkView) (e n : ℕ) (m : ℤ) (b : Body) (u : ℤ) → mark.kind ≡ Slot e n m b → u <ℤ m
    → presence_at format (marks ++ mark ∷ []) u ≡ presence_at format marks u
presence_before format marks mark e n m b u is_slot early =
    presence_is format (marks ++ mark ∷ []) u
    ∙ ap (λ o. if is_some o then pos 1 else pos 0) (
    sample_among_more format marks (mark ∷ []) u 0
    ∙ ap (λ kind. option_or (sample_among format marks u 0) (option_or (sample_in format kind u 0) None)) is_slot
    ∙ ap (λ o. option_or (sample_among format marks u 0) (option_or o None)) (sample_before format e n m b u 0 early)
    ∙ or_none (sample_among format marks u 0))
    ∙ sym (presence_is format marks u)

presence_own : (format : PacketFormat) (marks : List MarkView) (mark : MarkView) (e n : ℕ) (m : ℤ) (b : Body) (u : ℤ) → mark.kind ≡ Slot e n m b
    → is_mark_list format marks ≡ true → IsAfter format.frames (last_slot marks) u
    → presence_at format (marks ++ mark ∷ []) u ≡ (if is_some (sample_in format (Slot e n m b) u 0) then pos 1 else pos 0)
presence_own format marks mark e n m b u is_slot listed late =
    presence_is format (marks ++ mark ∷ []) u
    ∙ ap (λ o. if is_some o then pos 1 else pos 0) (
    sample_among_more format marks (mark ∷ []) u 0
    ∙ ap (λ o. option_or o (option_or (sample_in format mark.kind u 0) None)) (silent_after format None marks u 0 listed late)
    ∙ or_none (sample_in format mark.kind u 0)
    ∙ ap (λ kind. sample_in format kind u 0) is_slot)

-- the presence of a slot by places
body_present : (frames : ℕ) (format : PacketFormat) (b : Body) (i f : ℕ) → i < frames → get_or (body_presence frames b) i (pos 0) ≡ (if is_some (sample_of format b f 0) then pos 1 else pos 0)
body_present frames format (Got payload) i f below = get_or-replicate frames i (pos 1) (pos 0) below
body_present frames format Lost i f below = get_or-replicate frames i (pos 0) (pos 0) below

length_presence : (frames : ℕ) (b : Body) → length (body_presence frames b) ≡ frames
length_presence frames (Got payload) = length-replicate frames (pos 1)
length_presence frames Lost = length-replicate frames (pos 0)

presence_place : (format : PacketFormat) (e n : ℕ) (m : ℤ) (b : Body) (u : ℤ) (i : ℕ) → u ≡ m +ℤ pos i
    → get_or (body_presence format.frames b) i (pos 0) ≡ (if is_some (sample_in format (Slot e n m b) u 0) then pos 1 else pos 0)
presence_place format e n m b u i at = elim (cases_lt i format.frames) [
  | inl below ↦
      let within = sample_within format e n m b u 0 (omega (arith, ints)) (omega (arith, ints)) in
      body_present format.frames format b i (unsigned_abs (u -ℤ m)) below ∙ sym (ap (λ o. if is_some o then pos 1 else pos 0) within)
  | inr above ↦
      let len = length_presence format.frames b in
      get_or_past (body_presence format.frames b) i (pos 0) (omega arith)
      ∙ sym (ap (λ o. if is_some o then pos 1 else pos 0) (sample_past format e n m b u 0 (omega (arith, ints))))
]

-- the samples of a slot by places, from its beginning on
slot_place : (format : PacketFormat) (e n : ℕ) (m : ℤ) (b : Body) (u : ℤ) (i k : ℕ) → HasLength (payload_length format) b → u ≡ m +ℤ pos i → k < format.channels
    → get_or (body_samples format b) (i * format.channels + k) (pos 0) ≡ unwrap_or (sample_in format (Slot e n m b) u k) (pos 0)
slot_place format e n m b u i k fits at lt = elim (cases_lt i format.frames) [
  | inl below ↦
      let within = sample_within format e n m b u k (omega (arith, ints)) (omega (arith, ints)) in
      let frame : unsigned_abs (u -ℤ m) ≡ i = ap unsigned_abs (let d : u -ℤ m ≡ pos i = omega (arith, ints) in d) in
      body_in format b fits i k below lt ∙ sym (ap (λ o. unwrap_or o (pos 0)) (within ∙ ap (λ f. sample_of format b f k) frame))
  | inr above ↦
      let len = body_length format b fits in
      let more : format.frames * format.channels ≤ i * format.channels = mul-le-mul_right format.channels above in
      get_or_past (body_samples format b) (i * format.channels + k) (pos 0) (omega arith)
      ∙ sym (ap (λ o. unwrap_or o (pos 0)) (sample_past format e n m b u k (omega (arith, ints))))
]

-- values, silence and samples, by places
three_parts : (xs ss : List ℤ) (c held gap skipped f k : ℕ) → length xs ≡ held * c → k < c → (held + gap) ≤ f
    → get_or (xs ++ (silence c gap ++ drop (skipped * c) ss)) (f * c + k) (pos 0) ≡ get_or ss ((skipped + (f - (held + gap))) * c + k) (pos 0)
three_parts xs ss c held gap skipped f k len lt late =
    let j = f - (held + gap) in
    let f_is : f ≡ held + gap + j = omega arith in
    let at : f * c + k ≡ held * c + (gap * c + (j * c + k)) = ap (λ x. x * c + k) f_is ∙ (let e : (held + gap + j) * c + k ≡ held * c + (gap * c + (j * c + k)) = omega arith in e) in
    let gap_len : length (silence c gap) ≡ gap * c = length-replicate (gap * c) (pos 0) in
    ap (λ i. get_or (xs ++ (silence c gap ++ drop (skipped * c) ss)) i (pos 0)) at
    ∙ get_or-append_right xs (silence c gap ++ drop (skipped * c) ss) (held * c) (held * c + (gap * c + (j * c + k))) (pos 0) len (omega arith)
    ∙ ap (λ i. get_or (silence c gap ++ drop (skipped * c) ss) i (pos 0)) (let e : held * c + (gap * c + (j * c + k)) - held * c ≡ gap * c + (j * c + k) = omega arith in e)
    ∙ get_or-append_right (silence c gap) (drop (skipped * c) ss) (gap * c) (gap * c + (j * c + k)) (pos 0) gap_len (omega arith)
    ∙ ap (λ i. get_or (drop (skipped * c) ss) i (pos 0)) (let e : gap * c + (j * c + k) - gap * c ≡ j * c + k = omega arith in e)
    ∙ get_or-drop (skipped * c) ss (j * c + k) (pos 0)
    ∙ ap (λ i. get_or ss i (pos 0)) (let e : skipped * c + (j * c + k) ≡ (skipped + j) * c + k = omega arith in e)

in_silence : (xs ss : List ℤ) (c held gap f k : ℕ) → length xs ≡ held * c → k < c → held ≤ f → f < held + gap
    → get_or (xs ++ (silence c gap ++ ss)) (f * c + k) (pos 0) ≡ pos 0
in_silence xs ss c held gap f k len lt late early =
    let j = f - held in
    let f_is : f ≡ held + j = omega arith in
    let at : f * c + k ≡ held * c + (j * c + k) = ap (λ x. x * c + k) f_is ∙ (let e : (held + j) * c + k ≡ held * c + (j * c + k) = omega arith in e) in
    let gap_len : length (silence c gap) ≡ gap * c = length-replicate (gap * c) (pos 0) in
    let below : j * c + k < gap * c = place_below j gap k c (omega arith) lt in
    ap (λ i. get_or (xs ++ (silence c gap ++ ss)) i (pos 0)) at
    ∙ get_or-append_right xs (silence c gap ++ ss) (held * c) (held * c + (j * c + k)) (pos 0) len (omega arith)
    ∙ ap (λ i. get_or (silence c gap ++ ss) i (pos 0)) (let e : held * c + (j * c + k) - held * c ≡ j * c + k = omega arith in e)
    ∙ get_or_append_left (silence c gap) ss (pos 0) (j * c + k) (omega arith)
    ∙ get_or-replicate (gap * c) (j * c + k) (pos 0) (pos 0) below

-- a time without frames left is not before the end of the last slot
not_left : (frames : ℕ) (t : ℤ) (slot : Option LastSlot) (f : ℕ) → frames_left frames t slot ≤ f → IsAfter frames slot (t +ℤ pos f)
not_left frames t None f h = tt
not_left frames t (Some s) f h = elim (distance ((s.media +ℤ pos frames) -ℤ t)) [ past a ↦ omega (arith, ints) | none a y ↦ omega (arith, ints) ]

-- the values after one more slot, by places: those before the slot are as they were, and those from it on are its own
parts_by_place : (frames c : ℕ) (m t : ℤ) (slot : Option LastSlot) (xs ss : List ℤ) (old new : ℤ → ℕ → ℤ)
    → IsAfter frames slot m → length xs ≡ frames_left frames t slot * c
    → ((f k : ℕ) → k < c → get_or xs (f * c + k) (pos 0) ≡ old (t +ℤ pos f) k)
    → ((u : ℤ) (k : ℕ) → u <ℤ m → new u k ≡ old u k)
    → ((u : ℤ) (i k : ℕ) → u ≡ m +ℤ pos i → IsAfter frames slot u → k < c → get_or ss (i * c + k) (pos 0) ≡ new u k)
    → (f k : ℕ) → k < c
    → get_or (xs ++ (silence c (frames_between t m - frames_left frames t slot) ++ drop (frames_between m t * c) ss)) (f * c + k) (pos 0) ≡ new (t +ℤ pos f) k
parts_by_place frames c m t slot xs ss old new after len same before own_is f k lt =
    let held = frames_left frames t slot in
    let ahead_by = frames_between t m in
    let skipped = frames_between m t in
    let u = t +ℤ pos f in
    elim (cases_lt f held) [
      | inl here ↦
          let early : u <ℤ m = elim (place_of frames slot m t after) [ ahead m_is s h ↦ omega (arith, ints) | behind t_is g h ↦ absurd (omega arith) ] in
          let below : f * c + k < length xs = let p = place_below f held k c here lt in omega arith in
          get_or_append_left xs (silence c (ahead_by - held) ++ drop (skipped * c) ss) (pos 0) (f * c + k) below
          ∙ same f k lt
          ∙ sym (before u k early)
      | inr late ↦ elim (cases_lt f (held + (ahead_by - held))) [
        | inl silent ↦
            let early : u <ℤ m = elim (place_of frames slot m t after) [ ahead m_is s h ↦ omega (arith, ints) | behind t_is g h ↦ absurd (omega arith) ] in
            let past_all : length xs ≤ f * c + k = let p : held * c ≤ f * c = mul-le-mul_right c late in omega arith in
            in_silence xs (drop (skipped * c) ss) c held (ahead_by - held) f k len lt late silent
            ∙ sym (get_or_past xs (f * c + k) (pos 0) past_all)
            ∙ same f k lt
            ∙ sym (before u k early)
        | inr own ↦
            let i = skipped + (f - (held + (ahead_by - held))) in
            let at : u ≡ m +ℤ pos i = elim (place_of frames slot m t after) [ ahead m_is s h ↦ omega (arith, ints) | behind t_is g h ↦ omega (arith, ints) ] in
            three_parts xs ss c held (ahead_by - held) skipped f k len lt own
            ∙ own_is u i k at (not_left frames t slot f late) lt
      ]
    ]

slot_values : (format : PacketFormat) (marks : List MarkView) (mark : MarkView) (e n : ℕ) (m : ℤ) (b : Body) (t : ℤ) (slot : Option LastSlot) (xs : List ℤ)
    → mark.kind ≡ Slot e n m b → HasLength (payload_length format) b → is_mark_list format marks ≡ true → slot ≡ last_slot marks → IsAfter format.frames slot m
    → length xs ≡ frames_left format.frames t slot * format.channels
    → ((f k : ℕ) → k < format.channels → get_or xs (f * format.channels + k) (pos 0) ≡ value_at format marks (t +ℤ pos f) k)
    → (f k : ℕ) → k < format.channels
    → get_or (xs ++ (silence format.channels (frames_between t m - frames_left format.frames t slot) ++ drop (frames_between m t * format.channels) (body_samples format b))) (f * format.channels + k) (pos 0)
    ≡ value_at format (marks ++ mark ∷ []) (t +ℤ pos f) k
slot_values format marks mark e n m b t slot xs is_slot fits listed is_last after len same =
    parts_by_place format.frames format.channels m t slot xs (body_samples format b) (value_at format marks) (value_at format (marks ++ mark ∷ [])) after len same
    (λ u k early. value_before format marks mark e n m b u k is_slot early)
    (λ u i k at late lt.
    slot_place format e n m b u i k fits at lt
    ∙ sym (value_from format marks mark e n m b u k is_slot listed (subst (λ o. IsAfter format.frames o u) is_last late)))

-- the presence after one more slot, by places
slot_presence : (format : PacketFormat) (marks : List MarkView) (mark : MarkView) (e n : ℕ) (m : ℤ) (b : Body) (t : ℤ) (slot : Option LastSlot) (xs : List ℤ)
    → mark.kind ≡ Slot e n m b → is_mark_list format marks ≡ true → slot ≡ last_slot marks → IsAfter format.frames slot m
    → length xs ≡ frames_left format.frames t slot * 1
    → ((f : ℕ) → get_or xs f (pos 0) ≡ presence_at format marks (t +ℤ pos f))
    → (f : ℕ)
    → get_or (xs ++ (silence 1 (frames_between t m - frames_left format.frames t slot) ++ drop (frames_between m t * 1) (body_presence format.frames b))) f (pos 0)
    ≡ presence_at format (marks ++ mark ∷ []) (t +ℤ pos f)
slot_presence format marks mark e n m b t slot xs is_slot listed is_last after len same f =
    let all = xs ++ (silence 1 (frames_between t m - frames_left format.frames t slot) ++ drop (frames_between m t * 1) (body_presence format.frames b)) in
    ap (λ i. get_or all i (pos 0)) (let one : f ≡ f * 1 + 0 = omega arith in one)
    ∙ parts_by_place format.frames 1 m t slot xs (body_presence format.frames b) (λ u k. presence_at format marks u) (λ u k. presence_at format (marks ++ mark ∷ []) u) after len
    (λ g k lt. ap (λ i. get_or xs i (pos 0)) (let one : g * 1 + k ≡ g = omega arith in one) ∙ same g)
    (λ u k early. presence_before format marks mark e n m b u is_slot early)
    (λ u i k at late lt.
    ap (λ j. get_or (body_presence format.frames b) j (pos 0)) (let one : i * 1 + k ≡ i = omega arith in one)
    ∙ presence_place format e n m b u i at
    ∙ sym (presence_own format marks mark e n m b u is_slot listed (subst (λ o. IsAfter format.frames o u) is_last late)))
    f 0 (omega arith)

-- the lane was fed a slot
pub fed_slot : (stream : Stream) (from : ℤ) (size : ℕ) (lane : LaneState) (marks : List MarkView) (t : ℤ) (mark : MarkView) (e n : ℕ) (m : ℤ) (b : Body)
    → HasFeed stream from size lane marks t → mark.kind ≡ Slot e n m b → HasLength (payload_length lane.format) b → IsAfter lane.format.frames lane.slot m
    → length lane.values ≡ frames_left lane.format.frames lane.position lane.slot * lane.format.channels
    → length lane.presence ≡ frames_left lane.format.frames lane.position lane.slot * 1
    → is_mark_list (format_of stream) (marks ++ mark ∷ []) ≡ true
    → HasFeed stream from size (with_slot lane (record { epoch = e; number = n; media = m }) b) (marks ++ mark ∷ []) t
fed_slot stream from size lane marks t mark e n m b fed is_slot fits after len came listed = record {
  format = fed.format;
  start = fed.start;
  block = fed.block;
  position = fed.position;
  mark_list = listed;
  slot = sym (last_slot_more marks mark ∙ ap (λ kind. option_or (slot_of kind) (last_slot marks)) is_slot);
  quiet = fed.quiet ∙ sym (last_quiet_more marks mark ∙ ap (λ kind. option_or (quiet_of kind) (last_quiet marks)) is_slot);
  ended = fed.ended ∙ sym (has_end_more marks mark ∙ ap (λ kind. ◌||◌ (is_end kind) (has_end marks)) is_slot);
  values =
      let format = format_of stream in
      let fits' : HasLength (payload_length format) b = subst (λ (g : PacketFormat). HasLength (payload_length g) b) fed.format fits in
      let after' : IsAfter stream.frames lane.slot m = subst (λ (g : PacketFormat). IsAfter g.frames lane.slot m) fed.format after in
      let len' : length lane.values ≡ frames_left stream.frames t lane.slot * stream.channels =
      len ∙ ap (λ (g : PacketFormat). frames_left g.frames lane.position lane.slot * g.channels) fed.format ∙ ap (λ p. frames_left stream.frames p lane.slot * stream.channels) fed.position in
      let values = slot_values format marks mark e n m b t lane.slot lane.values is_slot fits' fed.mark_list fed.slot after' len' fed.values in
      λ f k lt.
      ap (λ (g : PacketFormat). get_or (lane.values ++ (silence g.channels (frames_between lane.position m - frames_left g.frames lane.position lane.slot) ++ drop (frames_between m lane.position * g.channels) (body_samples g b))) (f * stream.channels + k) (pos 0)) fed.format
      ∙ ap (λ p. get_or (lane.values ++ (silence stream.channels (frames_between p m - frames_left stream.frames p lane.slot) ++ drop (frames_between m p * stream.channels) (body_samples format b))) (f * stream.channels + k) (pos 0)) fed.position
      ∙ values f k lt;
  presence =
      let format = format_of stream in
      let after' : IsAfter stream.frames lane.slot m = subst (λ (g : PacketFormat). IsAfter g.frames lane.slot m) fed.format after in
      let came' : length lane.presence ≡ frames_left stream.frames t lane.slot * 1 =
      came ∙ ap (λ (g : PacketFormat). frames_left g.frames lane.position lane.slot * 1) fed.format ∙ ap (λ p. frames_left stream.frames p lane.slot * 1) fed.position in
      let presence = slot_presence format marks mark e n m b t lane.slot lane.presence is_slot fed.mark_list fed.slot after' came' fed.presence in
      λ f.
      ap (λ (g : PacketFormat). get_or (lane.presence ++ (silence 1 (frames_between lane.position m - frames_left g.frames lane.position lane.slot) ++ drop (frames_between m lane.position * 1) (body_presence g.frames b))) f (pos 0)) fed.format
      ∙ ap (λ p. get_or (lane.presence ++ (silence 1 (frames_between p m - frames_left stream.frames p lane.slot) ++ drop (frames_between m p * 1) (body_presence stream.frames b))) f (pos 0)) fed.position
      ∙ presence f;
}

-- silence before other values
pub silence_at_front : (n k : ℕ) (xs ys : List ℤ) → k ≡ n → xs ≡ replicate k (pos 0) → take n (xs ++ ys) ≡ replicate n (pos 0)
silence_at_front n k xs ys same silent =
    let all : xs ≡ replicate n (pos 0) = silent ∙ ap (λ k. replicate k (pos 0)) same in
    let len : length xs ≡ n = ap length all ∙ length-replicate n (pos 0) in
    ap (λ k. take k (xs ++ ys)) (sym len) ∙ take-append_seam xs ys ∙ all

-- the samples that are read from a slot, from the first frame that is not skipped on
pub slot_part : (format : PacketFormat) (body : Body) (samples : List ℤ) (skipped channels frames : ℕ) → channels ≡ format.channels → frames ≡ format.frames
    → take (format.frames * format.channels) samples ≡ body_samples format body
    → between (skipped * channels) (frames * channels) samples ≡ drop (skipped * format.channels) (body_samples format body)
slot_part format body samples skipped channels frames e_channels e_frames e =
    ap (λ n. between (skipped * n) (frames * n) samples) e_channels
    ∙ ap (λ n. between (skipped * format.channels) (n * format.channels) samples) e_frames
    ∙ between_is samples (skipped * format.channels) (format.frames * format.channels)
    ∙ ap (drop (skipped * format.channels)) e

-- the samples that are added after the values that are held
pub part_added : (held next : Held) (format : PacketFormat) (body : Body) (samples : List ℤ) (silent skipped channels frames : ℕ) → channels ≡ format.channels → frames ≡ format.frames
    → take (format.frames * format.channels) samples ≡ body_samples format body
    → next ≡ record held { values = held.values ++ (silence held.channels silent ++ between (skipped * channels) (frames * channels) samples) }
    → next ≡ record held { values = held.values ++ (silence held.channels silent ++ drop (skipped * format.channels) (body_samples format body)) }
part_added held next format body samples silent skipped channels frames e_channels e_frames e_samples e =
    e ∙ ap (λ xs. record held { values = held.values ++ (silence held.channels silent ++ xs) }) (slot_part format body samples skipped channels frames e_channels e_frames e_samples)

-- skipping more frames than the slot has skips all of them
slot_rest : (ss : List ℤ) (c frames k skipped : ℕ) → length ss ≡ frames * c → skipped ≡ min k frames → drop (skipped * c) ss ≡ drop (k * c) ss
slot_rest ss c frames k skipped len s = elim (cases_lt k frames) [
  | inl some ↦ let same : skipped ≡ k = omega arith in ap (λ x. drop (x * c) ss) same
  | inr all ↦
      let same : skipped ≡ frames = omega arith in
      let more : frames * c ≤ k * c = mul-le-mul_right c all in
      ap (λ x. drop (x * c) ss) same ∙ drop_all (frames * c) ss (omega arith) ∙ sym (drop_all (k * c) ss (omega arith))
]

-- what is added to what is held is silence up to the slot, and the slot from its first frame on that is not skipped
part_joined : (held next : Held) (c frames : ℕ) (t m : ℤ) (slot : Option LastSlot) (xs ss : List ℤ) (silent past_by skipped : ℕ)
    → held.channels ≡ c → xs ≡ held.values → length ss ≡ frames * c
    → silent ≡ frames_between t m - frames_left frames t slot → past_by ≡ frames_between m t → skipped ≡ min past_by frames
    → next ≡ record held { values = held.values ++ (silence held.channels silent ++ drop (skipped * c) ss) }
    → next ≡ record held { values = xs ++ (silence c (frames_between t m - frames_left frames t slot) ++ drop (frames_between m t * c) ss) }
part_joined held next c frames t m slot xs ss silent past_by skipped e_channels e_values len gap e_past e_skipped e =
    let rest : drop (skipped * c) ss ≡ drop (frames_between m t * c) ss = slot_rest ss c frames past_by skipped len e_skipped ∙ ap (λ n. drop (n * c) ss) e_past in
    e
    ∙ ap (λ ys. record held { values = held.values ++ (silence held.channels silent ++ ys) }) rest
    ∙ ap (λ n. record held { values = held.values ++ (silence held.channels n ++ drop (frames_between m t * c) ss) }) gap
    ∙ ap (λ n. record held { values = held.values ++ (silence n (frames_between t m - frames_left frames t slot) ++ drop (frames_between m t * c) ss) }) e_channels
    ∙ ap (λ ys. record held { values = ys ++ (silence c (frames_between t m - frames_left frames t slot) ++ drop (frames_between m t * c) ss) }) (sym e_values)

-- the values that are added to what is held are those that the slot adds to the lane
pub slot_joined : (lane : LaneState) (held came next : Held) (slot : LastSlot) (body : Body) (silent past_by skipped : ℕ)
    → IsLane lane held came → HasLength (payload_length lane.format) body
    → silent ≡ frames_between lane.position slot.media - frames_left lane.format.frames lane.position lane.slot
    → past_by ≡ frames_between slot.media lane.position
    → skipped ≡ min past_by lane.format.frames
    → next ≡ record held { values = held.values ++ (silence held.channels silent ++ drop (skipped * lane.format.channels) (body_samples lane.format body)) }
    → next ≡ record held { values = (with_slot lane slot body).values }
slot_joined lane held came next slot body silent past_by skipped sound fits gap e_past e_skipped e =
    part_joined held next lane.format.channels lane.format.frames lane.position slot.media lane.slot lane.values (body_samples lane.format body) silent past_by skipped
    sound.channels sound.values (body_length lane.format body fits) gap e_past e_skipped e

-- the presence that is added to what is held is that which the slot adds to the lane
pub presence_joined : (lane : LaneState) (held came next : Held) (slot : LastSlot) (body : Body) (silent past_by skipped : ℕ)
    → IsLane lane held came
    → silent ≡ frames_between lane.position slot.media - frames_left lane.format.frames lane.position lane.slot
    → past_by ≡ frames_between slot.media lane.position
    → skipped ≡ min past_by lane.format.frames
    → next ≡ record came { values = came.values ++ (silence came.channels silent ++ drop skipped (body_presence lane.format.frames body)) }
    → next ≡ record came { values = (with_slot lane slot body).presence }
presence_joined lane held came next slot body silent past_by skipped sound gap e_past e_skipped e =
    part_joined came next 1 lane.format.frames lane.position slot.media lane.slot lane.presence (body_presence lane.format.frames body) silent past_by skipped
    sound.one_channel sound.presence (length_presence lane.format.frames body ∙ (let one : lane.format.frames ≡ lane.format.frames * 1 = omega arith in one)) gap e_past e_skipped
    (e ∙ ap (λ n. record came { values = came.values ++ (silence came.channels silent ++ drop n (body_presence lane.format.frames body)) }) (let one : skipped ≡ skipped * 1 = omega arith in one))

-- the same if a part of the silence is stored as values
pub slot_added : (lane : LaneState) (held came next : Held) (slot : LastSlot) (body : Body) (left before stored more block past_by skipped : ℕ)
    → IsLane lane held came → HasLength (payload_length lane.format) body
    → left ≡ frames_left lane.format.frames lane.position lane.slot
    → before ≡ frames_between lane.position slot.media
    → past_by ≡ frames_between slot.media lane.position
    → stored ≡ min (before - left) (block - left) → more ≡ before - left - stored
    → skipped ≡ min past_by lane.format.frames
    → next ≡ record held { values = held.values ++ (silence held.channels (stored + more) ++ drop (skipped * lane.format.channels) (body_samples lane.format body)) }
    → next ≡ record held { values = (with_slot lane slot body).values }
slot_added lane held came next slot body left before stored more block past_by skipped sound fits e_left e_before e_past e_stored e_more e_skipped e =
    let gap : stored + more ≡ frames_between lane.position slot.media - frames_left lane.format.frames lane.position lane.slot = omega arith in
    slot_joined lane held came next slot body (stored + more) past_by skipped sound fits gap e_past e_skipped e

pub presence_added : (lane : LaneState) (held came next : Held) (slot : LastSlot) (body : Body) (left before stored more block past_by skipped : ℕ)
    → IsLane lane held came
    → left ≡ frames_left lane.format.frames lane.position lane.slot
    → before ≡ frames_between lane.position slot.media
    → past_by ≡ frames_between slot.media lane.position
    → stored ≡ min (before - left) (block - left) → more ≡ before - left - stored
    → skipped ≡ min past_by lane.format.frames
    → next ≡ record came { values = came.values ++ (silence came.channels (stored + more) ++ drop skipped (body_presence lane.format.frames body)) }
    → next ≡ record came { values = (with_slot lane slot body).presence }
presence_added lane held came next slot body left before stored more block past_by skipped sound e_left e_before e_past e_stored e_more e_skipped e =
    let gap : stored + more ≡ frames_between lane.position slot.media - frames_left lane.format.frames lane.position lane.slot = omega arith in
    presence_joined lane held came next slot body (stored + more) past_by skipped sound gap e_past e_skipped e

-- what was held, silence up to a slot, and the slot reach from the position to the slot's end
part_length : (c frames : ℕ) (t m : ℤ) (slot : Option LastSlot) (xs ss : List ℤ)
    → IsAfter frames slot m → length xs ≡ frames_left frames t slot * c → length ss ≡ frames * c
    → length (xs ++ (silence c (frames_between t m - frames_left frames t slot) ++ drop (frames_between m t * c) ss)) ≡ frames_between t (m +ℤ pos frames) * c
part_length c frames t m slot xs ss after old ss_len =
    let left = frames_left frames t slot in
    let before = frames_between t m in
    let behind' = frames_between m t in
    let gap_len : length (silence c (before - left)) ≡ (before - left) * c = length-replicate ((before - left) * c) (pos 0) in
    let rest_len = length-drop (behind' * c) ss in
    let inner = length-append (silence c (before - left)) (drop (behind' * c) ss) in
    let outer = length-append xs (silence c (before - left) ++ drop (behind' * c) ss) in
    let own : frames * c - behind' * c ≡ (frames - behind') * c = times_less frames behind' c in
    let sum : left * c + ((before - left) * c + (frames - behind') * c) ≡ (left + (before - left) + (frames - behind')) * c = omega arith in
    let total : left + (before - left) + (frames - behind') ≡ frames_between t (m +ℤ pos frames) = elim (distance ((m +ℤ pos frames) -ℤ t)) [
      | past a ↦ elim (place_of frames slot m t after) [ ahead m_is s h ↦ omega (arith, ints) | behind t_is g h ↦ omega (arith, ints) ]
      | none a y ↦ elim (place_of frames slot m t after) [ ahead m_is s h ↦ absurd (omega (arith, ints)) | behind t_is g h ↦ omega (arith, ints) ]
    ] in
    (let all : length (xs ++ (silence c (before - left) ++ drop (behind' * c) ss)) ≡ left * c + ((before - left) * c + (frames - behind') * c) = omega arith in all)
    ∙ sum
    ∙ ap (λ n. n * c) total

-- the values that a lane holds reach from its position to the end of its last slot, and so does the presence
pub slot_length : (lane : LaneState) (held came : Held) (slot : LastSlot) (body : Body)
    → IsLane lane held came → HasLength (payload_length lane.format) body → IsAfter lane.format.frames lane.slot slot.media
    → length (with_slot lane slot body).values ≡ frames_between lane.position (slot.media +ℤ pos lane.format.frames) * lane.format.channels
slot_length lane held came slot body sound fits after =
    part_length lane.format.channels lane.format.frames lane.position slot.media lane.slot lane.values (body_samples lane.format body) after
    (ap length sound.values ∙ sound.left) (body_length lane.format body fits)

presence_length : (lane : LaneState) (held came : Held) (slot : LastSlot) (body : Body)
    → IsLane lane held came → IsAfter lane.format.frames lane.slot slot.media
    → length (with_slot lane slot body).presence ≡ frames_between lane.position (slot.media +ℤ pos lane.format.frames) * 1
presence_length lane held came slot body sound after =
    part_length 1 lane.format.frames lane.position slot.media lane.slot lane.presence (body_presence lane.format.frames body) after
    (ap length sound.presence ∙ sound.came_left) (length_presence lane.format.frames body ∙ (let one : lane.format.frames ≡ lane.format.frames * 1 = omega arith in one))

-- if there is space for the frames to the slot's end, there is space for all values that are added
pub kept_space : (lane : LaneState) (held came : Held) (slot : LastSlot) (body : Body) (silent past_by skipped : ℕ)
    → IsLane lane held came → HasLength (payload_length lane.format) body
    → silent ≡ frames_between lane.position slot.media - frames_left lane.format.frames lane.position lane.slot
    → past_by ≡ frames_between slot.media lane.position
    → skipped ≡ min past_by lane.format.frames
    → IsAfter lane.format.frames lane.slot slot.media
    → frames_between lane.position (slot.media +ℤ pos lane.format.frames) ≤ lane.capacity
    → length held.values + silent * held.channels + (lane.format.frames * lane.format.channels - skipped * lane.format.channels) ≤ held.capacity
kept_space lane held came slot body silent past_by skipped sound fits gap e_past e_skipped after space =
    let c = lane.format.channels in
    let rest = drop (skipped * c) (body_samples lane.format body) in
    let next = record held { values = held.values ++ (silence held.channels silent ++ rest) } in
    let joined = slot_joined lane held came next slot body silent past_by skipped sound fits gap e_past e_skipped refl in
    let len : length (held.values ++ (silence held.channels silent ++ rest)) ≡ frames_between lane.position (slot.media +ℤ pos lane.format.frames) * c =
    ap (λ (h : Held). length h.values) joined ∙ slot_length lane held came slot body sound fits after in
    let outer = length-append held.values (silence held.channels silent ++ rest) in
    let inner = length-append (silence held.channels silent) rest in
    let gap_len : length (silence held.channels silent) ≡ silent * held.channels = length-replicate (silent * held.channels) (pos 0) in
    let rest_len : length rest ≡ lane.format.frames * c - skipped * c = length-drop (skipped * c) (body_samples lane.format body) ∙ ap (λ n. n - skipped * c) (body_length lane.format body fits) in
    let wide : frames_between lane.position (slot.media +ℤ pos lane.format.frames) * c ≤ lane.capacity * c = mul-le-mul_right c space in
    let e_capacity : held.capacity ≡ lane.capacity * c = sound.capacity in
    omega arith

pub kept_presence : (lane : LaneState) (held came : Held) (slot : LastSlot) (body : Body) (silent past_by skipped : ℕ)
    → IsLane lane held came
    → silent ≡ frames_between lane.position slot.media - frames_left lane.format.frames lane.position lane.slot
    → past_by ≡ frames_between slot.media lane.position
    → skipped ≡ min past_by lane.format.frames
    → IsAfter lane.format.frames lane.slot slot.media
    → frames_between lane.position (slot.media +ℤ pos lane.format.frames) ≤ lane.capacity
    → length came.values + silent * came.channels + (lane.format.frames - skipped) ≤ came.capacity
kept_presence lane held came slot body silent past_by skipped sound gap e_past e_skipped after space =
    let rest = drop skipped (body_presence lane.format.frames body) in
    let next = record came { values = came.values ++ (silence came.channels silent ++ rest) } in
    let joined = presence_joined lane held came next slot body silent past_by skipped sound gap e_past e_skipped refl in
    let len : length (came.values ++ (silence came.channels silent ++ rest)) ≡ frames_between lane.position (slot.media +ℤ pos lane.format.frames) * 1 =
    ap (λ (h : Held). length h.values) joined ∙ presence_length lane held came slot body sound after in
    let outer = length-append came.values (silence came.channels silent ++ rest) in
    let inner = length-append (silence came.channels silent) rest in
    let gap_len : length (silence came.channels silent) ≡ silent * came.channels = length-replicate (silent * came.channels) (pos 0) in
    let rest_len : length rest ≡ lane.format.frames - skipped = length-drop skipped (body_presence lane.format.frames body) ∙ ap (λ n. n - skipped) (length_presence lane.format.frames body) in
    let e_capacity : came.capacity ≡ lane.capacity * 1 = sound.came_capacity in
    omega arith

-- what holds for every lane holds for a lane after one more slot
pub slot_sound : (lane : LaneState) (held came next arrived : Held) (slot : LastSlot) (body : Body) (present : List ℤ)
    → IsLane lane held came → IsSlot (Some slot) → HasLength (payload_length lane.format) body → IsAfter lane.format.frames lane.slot slot.media
    → next ≡ record held { values = (with_slot lane slot body).values } → arrived ≡ record came { values = (with_slot lane slot body).presence } → All Is24Bits (body_samples lane.format body)
    → IsLane (lane_of lane.format lane.start lane.block lane.position (Some slot) lane.quiet lane.ended lane.capacity next.values arrived.values present) next arrived
slot_sound lane held came next arrived slot body present sound small fits after e e_came in_24_bits = record {
  some_channels = sound.some_channels;
  few_channels = sound.few_channels;
  some_frames = sound.some_frames;
  few_frames = sound.few_frames;
  short = sound.short;
  some_block = sound.some_block;
  short_block = sound.short_block;
  not_early = sound.not_early;
  not_late = sound.not_late;
  small_start = sound.small_start;
  slot = small;
  quiet = sound.quiet;
  in_24_bits = subst (λ (h : Held). All Is24Bits h.values) (sym e)
      (All-append Is24Bits lane.values _ (subst (All Is24Bits) (sym sound.values) sound.in_24_bits)
      (All-append Is24Bits (silence lane.format.channels (frames_between lane.position slot.media - frames_left lane.format.frames lane.position lane.slot)) _
      (All-replicate Is24Bits _ (pos 0) (omega arith))
      (All-drop Is24Bits (frames_between slot.media lane.position * lane.format.channels) (body_samples lane.format body) in_24_bits)));
  values = refl;
  channels = ap (λ (h : Held). h.channels) e ∙ sound.channels;
  held_block = ap (λ (h : Held). h.block) e ∙ sound.held_block;
  capacity = ap (λ (h : Held). h.capacity) e ∙ sound.capacity;
  enough_capacity = sound.enough_capacity;
  small_capacity = sound.small_capacity;
  left = ap (λ (h : Held). length h.values) e ∙ slot_length lane held came slot body sound fits after;
  presence = refl;
  one_channel = ap (λ (h : Held). h.channels) e_came ∙ sound.one_channel;
  came_block = ap (λ (h : Held). h.block) e_came ∙ sound.came_block;
  came_capacity = ap (λ (h : Held). h.capacity) e_came ∙ sound.came_capacity;
  came_left = ap (λ (h : Held). length h.values) e_came ∙ presence_length lane held came slot body sound after;
}

-- the silence fits the block
pub block_space : (len left stored block c held_c held_block : ℕ) → len ≡ left * c → held_c ≡ c → held_block ≡ block → left + stored ≤ block → len + stored * held_c ≤ held_block * held_c
block_space len left stored block c held_c held_block e_len e_c e_block h =
    let more : (left + stored) * c ≤ block * c = mul-le-mul_right c h in
    let sum : (left + stored) * c ≡ left * c + stored * c = omega arith in
    let a : stored * held_c ≡ stored * c = ap (λ x. stored * x) e_c in
    let b : held_block * held_c ≡ block * c = ap (λ x. held_block * x) e_c ∙ ap (λ x. x * c) e_block in
    omega arith

pub block_full : (len left stored block c held_c held_block : ℕ) → len ≡ left * c → held_c ≡ c → held_block ≡ block → left + stored ≡ block → len + stored * held_c ≡ held_block * held_c
block_full len left stored block c held_c held_block e_len e_c e_block h =
    let more : (left + stored) * c ≡ block * c = ap (λ x. x * c) h in
    let sum : (left + stored) * c ≡ left * c + stored * c = omega arith in
    let a : stored * held_c ≡ stored * c = ap (λ x. stored * x) e_c in
    let b : held_block * held_c ≡ block * c = ap (λ x. held_block * x) e_c ∙ ap (λ x. x * c) e_block in
    omega arith

pub short_gap : (p m : ℤ) → pos 0 ≤ℤ p → m ≤ℤ pos (2 ^ 61) → frames_between p m ≤ 2 ^ 61
short_gap p m h g = elim (distance (m -ℤ p)) [ past a ↦ omega (arith, ints) | none a y ↦ omega (arith, ints) ]

-- a mark that has no sample at a time changes no value at that time
value_same : (format : PacketFormat) (marks : List MarkView) (mark : MarkView) (u : ℤ) (k : ℕ) → sample_in format mark.kind u k ≡ None → value_at format (marks ++ mark ∷ []) u k ≡ value_at format marks u k
value_same format marks mark u k silent =
    ap (λ o. unwrap_or o (pos 0)) (
    sample_among_more format marks (mark ∷ []) u k
    ∙ ap (λ o. option_or (sample_among format marks u k) (option_or o None)) silent
    ∙ or_none (sample_among format marks u k))

presence_same : (format : PacketFormat) (marks : List MarkView) (mark : MarkView) (u : ℤ) → sample_in format mark.kind u 0 ≡ None → presence_at format (marks ++ mark ∷ []) u ≡ presence_at format marks u
presence_same format marks mark u silent =
    presence_is format (marks ++ mark ∷ []) u
    ∙ ap (λ o. if is_some o then pos 1 else pos 0) (
    sample_among_more format marks (mark ∷ []) u 0
    ∙ ap (λ o. option_or (sample_among format marks u 0) (option_or o None)) silent
    ∙ or_none (sample_among format marks u 0))
    ∙ sym (presence_is format marks u)

-- the lane was fed a Quiet
pub fed_quiet : (stream : Stream) (from : ℤ) (size : ℕ) (lane : LaneState) (marks : List MarkView) (t : ℤ) (mark : MarkView) (until : ℤ)
    → HasFeed stream from size lane marks t → mark.kind ≡ Quiet until → is_mark_list (format_of stream) (marks ++ mark ∷ []) ≡ true
    → HasFeed stream from size (record lane { quiet = Some until }) (marks ++ mark ∷ []) t
fed_quiet stream from size lane marks t mark until fed is_quiet listed = record {
  format = fed.format;
  start = fed.start;
  block = fed.block;
  position = fed.position;
  mark_list = listed;
  slot = fed.slot ∙ sym (last_slot_more marks mark ∙ ap (λ kind. option_or (slot_of kind) (last_slot marks)) is_quiet);
  quiet = sym (last_quiet_more marks mark ∙ ap (λ kind. option_or (quiet_of kind) (last_quiet marks)) is_quiet);
  ended = fed.ended ∙ sym (has_end_more marks mark ∙ ap (λ kind. is_end kind || has_end marks) is_quiet);
  values = λ f k lt. fed.values f k lt ∙ sym (value_same (format_of stream) marks mark (t +ℤ pos f) k (ap (λ kind. sample_in (format_of stream) kind (t +ℤ pos f) k) is_quiet));
  presence = λ f. fed.presence f ∙ sym (presence_same (format_of stream) marks mark (t +ℤ pos f) (ap (λ kind. sample_in (format_of stream) kind (t +ℤ pos f) 0) is_quiet));
}

-- the lane was fed the end
pub fed_end : (stream : Stream) (from : ℤ) (size : ℕ) (lane : LaneState) (marks : List MarkView) (t : ℤ) (mark : MarkView)
    → HasFeed stream from size lane marks t → mark.kind ≡ End → is_mark_list (format_of stream) (marks ++ mark ∷ []) ≡ true
    → HasFeed stream from size (record lane { ended = true }) (marks ++ mark ∷ []) t
fed_end stream from size lane marks t mark fed is_last listed = record {
  format = fed.format;
  start = fed.start;
  block = fed.block;
  position = fed.position;
  mark_list = listed;
  slot = fed.slot ∙ sym (last_slot_more marks mark ∙ ap (λ kind. option_or (slot_of kind) (last_slot marks)) is_last);
  quiet = fed.quiet ∙ sym (last_quiet_more marks mark ∙ ap (λ kind. option_or (quiet_of kind) (last_quiet marks)) is_last);
  ended = sym (has_end_more marks mark ∙ ap (λ kind. is_end kind || has_end marks) is_last);
  values = λ f k lt. fed.values f k lt ∙ sym (value_same (format_of stream) marks mark (t +ℤ pos f) k (ap (λ kind. sample_in (format_of stream) kind (t +ℤ pos f) k) is_last));
  presence = λ f. fed.presence f ∙ sym (presence_same (format_of stream) marks mark (t +ℤ pos f) (ap (λ kind. sample_in (format_of stream) kind (t +ℤ pos f) 0) is_last));
}

-- a slot that is accepted is after the last one
follows_after : (frames : ℕ) (ended : Bool) (slot : Option LastSlot) (quiet : Option ℤ) (e n : ℕ) (m : ℤ) (b : Body) → can_follow frames (last_kind ended slot quiet) (Slot e n m b) ≡ true → IsAfter frames slot m
follows_after frames true slot quiet e n m b h = absurd (false≢true h)
follows_after frames false None quiet e n m b h = tt
follows_after frames false (Some s) quiet e n m b h = slot_later frames s.epoch s.number s.media Lost e n m b h

pub next_after : (lane : LaneState) (mark : MarkView) (e n : ℕ) (m : ℤ) (b : Body) → is_next lane mark ≡ true → mark.kind ≡ Slot e n m b → IsAfter lane.format.frames lane.slot m
next_after lane mark e n m b h is_slot =
    follows_after lane.format.frames lane.ended lane.slot lane.quiet e n m b
    (ap (can_follow lane.format.frames (last_kind lane.ended lane.slot lane.quiet)) (sym is_slot)
    ∙ both_right (is_same_format mark.format lane.format) (can_follow lane.format.frames (last_kind lane.ended lane.slot lane.quiet) mark.kind) h)

-- while the next block needs more marks, less than a block is left
left_of : (frames : ℕ) (t : ℤ) (block : ℕ) (ended : Bool) (slot : Option LastSlot) (quiet : Option ℤ) → 0 < block → not (covers (cover_to ended (time_reached frames slot quiet)) (t +ℤ pos block)) ≡ true → frames_left frames t slot < block
left_of frames t block true slot quiet some h = absurd (false≢true h)
left_of frames t block false None quiet some h = some
left_of frames t block false (Some s) None some h =
    let short : (s.media +ℤ pos frames) <ℤ (t +ℤ pos block) = grind (arith, ints, nat_tests) in
    elim (distance ((s.media +ℤ pos frames) -ℤ t)) [ past a ↦ omega (arith, ints) | none a y ↦ omega (arith, ints) ]
left_of frames t block false (Some s) (Some u) some h =
    let top = int_max (s.media +ℤ pos frames) u in
    let short : top <ℤ (t +ℤ pos block) = grind (arith, ints, nat_tests) in
    let below : (s.media +ℤ pos frames) ≤ℤ top = omega (arith, ints, clamps) in
    elim (distance ((s.media +ℤ pos frames) -ℤ t)) [ past a ↦ omega (arith, ints) | none a y ↦ omega (arith, ints) ]

pub wanted_left : (lane : LaneState) → 0 < lane.block → is_wanting lane (lane.position +ℤ pos lane.block) ≡ true → frames_left lane.format.frames lane.position lane.slot < lane.block
wanted_left lane some h = left_of lane.format.frames lane.position lane.block lane.ended lane.slot lane.quiet some h

-- there is space for a block and a packet
pub slot_space : (held_block block held_c c p capacity held_capacity skipped : ℕ) → held_block ≡ block → held_c ≡ c → block + p ≤ capacity → held_capacity ≡ capacity * c
    → held_block * held_c + (p * c - skipped * c) ≤ held_capacity
slot_space held_block block held_c c p capacity held_capacity skipped e_block e_held enough e_capacity =
    let a : held_block * held_c ≡ block * c = ap (λ x. x * held_c) e_block ∙ ap (λ x. block * x) e_held in
    let sum : (block + p) * c ≡ block * c + p * c = omega arith in
    let wide : (block + p) * c ≤ capacity * c = mul-le-mul_right c enough in
    omega arith

-- frames of a packet, cut from the greatest number of them
pub presence_part : (v : ℤ) (skipped end frames : ℕ) → end ≡ frames → frames ≤ 192 → between skipped end (replicate 192 v) ≡ drop skipped (replicate frames v)
presence_part v skipped end frames e few =
    ap (λ n. between skipped n (replicate 192 v)) e
    ∙ between_is (replicate 192 v) skipped frames
    ∙ ap (drop skipped) (take-replicate frames 192 v few)
