-- The packets that a sender of statistics noted, after one more step of a turn.
use Rattle.std.proofs.Common.{◌≡◌, ℕ, ◌+◌, ◌<◌, inl, inr, Bool, true, false, List, [], ◌∷◌, ◌++◌, length, take, Option, Some, None, ℤ, refl, sym, ap, subst, ◌∙◌, arith, append_assoc, append-nil, if◌then◌else◌}
use Rattle.std.specs.Option.{option_map}
use Rattle.std.proofs.lemmas.Bool.{cases_eq}
use Rattle.path_merge.specs.Merge.{HasHistory, IsBaseOf, slot_count}
use Rattle.path_merge.specs.MergeState.{MergeState}
use Rattle.path_merge.specs.Steps.{next_deadline_of}
use Rattle.path_merge.proofs.HistoryLemmas.{marks_in, marks_of-in}
use Rattle.path_merge.proofs.SlotCountLemmas.{next_of, slots_counted}
use Rattle.path_merge.proofs.StepLemmas.{take_all}
use Rattle.rtp_stats.specs.declared.channel.stream.StreamStatsSender.{StreamStatsSender}
use Rattle.rtp_stream.specs.Anchor.{deadline_of, next_number}
use Rattle.rtp_stream.specs.Copies.{copies_of_all}
use Rattle.rtp_stream.specs.Epochs.{anchor_of}
use Rattle.rtp_stream.specs.Fate.{fate_of}
use Rattle.rtp_stream.specs.History.{is_closed, time_of}
use Rattle.rtp_stream.specs.MarkFacts.{payload_length}
use Rattle.rtp_stream.specs.Marks.{marks_of}
use Rattle.rtp_stream.specs.StreamSpec.{Fits}
use Rattle.rtp_stream.specs.StreamSpecFacts.{format_of}
use Rattle.rtp_stream.specs.declared.anchor.Anchor.{Anchor}
use Rattle.rtp_stream.specs.declared.event.Event.{Event}
use Rattle.rtp_stream.specs.declared.event.Event.TheVariants.{Arrive, Tick, Close}
use Rattle.rtp_stream.specs.declared.packet.Packet.{Packet}
use Rattle.rtp_stream.specs.declared.stream_spec.Stream.{Stream}
use Rattle.studio_ends.specs.Fitting.{fitting}
use Rattle.studio_ends.specs.Stats.{Notes, NotesAll, NotesArrivals, NotesPacket, deadline_after}
use Rattle.studio_ends.specs.StreamTurns.{Joins, arrivals_by, arrivals_from}
use Rattle.studio_ends.proofs.FittingLemmas.{fitting-append, fitting-none, fitting-one}
use Rattle.studio_ends.proofs.TurnLemmas.{arrivals_by-append, arrivals_from-snoc}

abbrev Sender : Type 0
Sender = Option StreamStatsSender

-- events that were noted, and then more
pub notes-append : (stream : Stream) (open_at : ℤ) (before xs ys : List Event) (old mid new : Sender)
    → NotesArrivals stream open_at before xs old mid → NotesArrivals stream open_at (before ++ xs) ys mid new → NotesArrivals stream open_at before (xs ++ ys) old new
notes-append stream open_at before [] ys old mid new h g =
    subst (λ (o : Sender). NotesArrivals stream open_at before ys o new) h (subst (λ es. NotesArrivals stream open_at es ys mid new) (append-nil before) g)
notes-append stream open_at before (Arrive path packet ∷ xs) ys old mid new h g = (
  h.0,
  h.1,
  notes-append stream open_at (before ++ Arrive path packet ∷ []) xs ys h.0 mid new h.2 (subst (λ es. NotesArrivals stream open_at es ys mid new) (sym (append_assoc before (Arrive path packet ∷ []) xs)) g),
)
notes-append stream open_at before (Tick u ∷ xs) ys old mid new h g =
    notes-append stream open_at (before ++ Tick u ∷ []) xs ys old mid new h (subst (λ es. NotesArrivals stream open_at es ys mid new) (sym (append_assoc before (Tick u ∷ []) xs)) g)
notes-append stream open_at before (Close ∷ xs) ys old mid new h g =
    notes-append stream open_at (before ++ Close ∷ []) xs ys old mid new h (subst (λ es. NotesArrivals stream open_at es ys mid new) (sym (append_assoc before (Close ∷ []) xs)) g)

-- the next deadline of a merge is that of its history
module _ (stream : Stream) (open_at : ℤ) (m : MergeState) (events : List Event) (k : ℕ) (some : 0 < stream.frames) (at : HasHistory stream open_at m events k) where
  -- the base of an open merge is the number next due
  base_is : is_closed events ≡ false → (a : Anchor) → m.anchor ≡ Some a → m.base ≡ next_number stream a (time_of open_at events)
  base_is shut a is =
      let anchor : anchor_of stream open_at events ≡ Some a = sym at.anchor ∙ is in
      let all : take k (marks_of stream open_at events) ≡ marks_of stream open_at events = take_all (marks_of stream open_at events) k (at.all_given shut) in
      let base : m.base ≡ a.number + slot_count a.epoch (marks_of stream open_at events) = subst (λ l. m.base ≡ a.number + slot_count a.epoch l) all (subst (λ o. IsBaseOf o m.base (take k (marks_of stream open_at events))) is at.base) in
      let counted : next_number stream a (time_of open_at events) ≡ a.number + slot_count a.epoch (marks_in stream open_at (copies_of_all stream open_at events) events) =
      subst (λ o. IsBaseOf o (next_of stream open_at some o (time_of open_at events)) (marks_in stream open_at (copies_of_all stream open_at events) events)) anchor (slots_counted stream open_at some (copies_of_all stream open_at events) events at.well_timed shut) in
      base ∙ sym (counted ∙ ap (λ l. a.number + slot_count a.epoch l) (sym (marks_of-in stream open_at events)))

  by_anchor : is_closed events ≡ false → (o : Option Anchor) → m.anchor ≡ o
      → option_map (λ a. deadline_of m.spec a m.base) o ≡ option_map (λ a. deadline_of stream a (next_number stream a (time_of open_at events))) o
  by_anchor shut None is = refl
  by_anchor shut (Some a) is = ap Some (ap (λ (s : Stream). deadline_of s a m.base) at.spec ∙ ap (deadline_of stream a) (base_is shut a is))

  by_close : (b : Bool) → is_closed events ≡ b
      → (if b then None else option_map (λ a. deadline_of m.spec a m.base) m.anchor) ≡ (if b then None else option_map (λ a. deadline_of stream a (next_number stream a (time_of open_at events))) (anchor_of stream open_at events))
  by_close true shut = refl
  by_close false shut = by_anchor shut m.anchor refl ∙ ap (option_map (λ a. deadline_of stream a (next_number stream a (time_of open_at events)))) at.anchor

  pub next_deadline_is : next_deadline_of m ≡ deadline_after stream open_at events
  next_deadline_is = ap (λ b. if b then None else option_map (λ a. deadline_of m.spec a m.base) m.anchor) at.closed ∙ by_close (is_closed events) refl

-- no events
pub noted-none : (m : MergeState) (old : Sender) → NotesAll m (λ stream. []) old old
noted-none m old = λ stream open_at events k some h. refl

-- the events of a merge that were noted, and then more
pub noted-trans : (m w : MergeState) (f g h : Stream → List Event) (old mid new : Sender) → ((stream : Stream) → h stream ≡ f stream ++ g stream)
    → Joins m w f → NotesAll m f old mid → NotesAll w g mid new → NotesAll m h old new
noted-trans m w f g h old mid new both joined a b = λ stream open_at events k some s.
    subst (λ l. NotesArrivals stream open_at events l old new) (sym (both stream))
    (notes-append stream open_at events (f stream) (g stream) old mid new (a stream open_at events k some s) (b stream open_at (events ++ f stream) k some (joined.stands stream open_at events k s)))

-- a packet of the stream's length that was offered and noted, and one of another length
noted-fit : (m w : MergeState) (path : ℕ) (packet : Packet) (old new : Sender) → Fits m.spec packet
    → NotesPacket m path packet w old new → Joins m w (λ stream. arrivals_by path (fitting stream (packet ∷ [])))
    → NotesAll m (λ stream. arrivals_by path (fitting stream (packet ∷ []))) old new
noted-fit m w path packet old new fits noted joined = λ stream open_at events k some h.
    let one : fitting stream (packet ∷ []) ≡ packet ∷ [] = fitting-one stream packet (subst (λ (s : Stream). Fits s packet) h.spec fits) in
    let after : HasHistory stream open_at w (events ++ Arrive path packet ∷ []) k = subst (λ l. HasHistory stream open_at w (events ++ arrivals_by path l) k) one (joined.stands stream open_at events k h) in
    let due : next_deadline_of w ≡ deadline_after stream open_at (events ++ Arrive path packet ∷ []) = next_deadline_is stream open_at w (events ++ Arrive path packet ∷ []) k some after in
    let now : w.time ≡ time_of open_at events = joined.time ∙ h.time in
    let fate = fate_of stream open_at events path packet in
    let note : Notes path fate packet (deadline_after stream open_at (events ++ Arrive path packet ∷ [])) (time_of open_at events) old new =
    subst (λ t. Notes path fate packet (deadline_after stream open_at (events ++ Arrive path packet ∷ [])) t old new) now (subst (λ d. Notes path fate packet d w.time old new) due (noted stream open_at events k h)) in
    subst (λ l. NotesArrivals stream open_at events (arrivals_by path l) old new) (sym one) (new, note, refl)

noted-unfit : (m : MergeState) (path : ℕ) (packet : Packet) (old new : Sender) → (Fits m.spec packet → ⊥) → new ≡ old
    → NotesAll m (λ stream. arrivals_by path (fitting stream (packet ∷ []))) old new
noted-unfit m path packet old new unfit same = λ stream open_at events k some h.
    let none : fitting stream (packet ∷ []) ≡ [] = fitting-none stream packet (subst (λ (s : Stream). Fits s packet → ⊥) h.spec unfit) in
    subst (λ l. NotesArrivals stream open_at events (arrivals_by path l) old new) (sym none) same

pub noted-one : (m w : MergeState) (spec : Stream) (path : ℕ) (packet : Packet) (old new : Sender) → m.spec ≡ spec
    → (Fits spec packet → NotesPacket m path packet w old new) → ((Fits spec packet → ⊥) → new ≡ old)
    → Joins m w (λ stream. arrivals_by path (fitting stream (packet ∷ [])))
    → NotesAll m (λ stream. arrivals_by path (fitting stream (packet ∷ []))) old new
noted-one m w spec path packet old new is fit unfit joined = elim (cases_eq (length packet.payload.items) (payload_length (format_of spec))) [
  | inl fits ↦ noted-fit m w path packet old new (subst (λ (s : Stream). Fits s packet) (sym is) fits) (fit fits) joined
  | inr other ↦ noted-unfit m path packet old new (subst (λ (s : Stream). Fits s packet → ⊥) (sym is) other) (unfit other)
]

-- one more packet of a path
pub noted-more : (m w : MergeState) (path : ℕ) (xs : List Packet) (x : Packet) (old mid new : Sender)
    → Joins m w (λ stream. arrivals_by path (fitting stream xs)) → NotesAll m (λ stream. arrivals_by path (fitting stream xs)) old mid
    → NotesAll w (λ stream. arrivals_by path (fitting stream (x ∷ []))) mid new
    → NotesAll m (λ stream. arrivals_by path (fitting stream (xs ++ x ∷ []))) old new
noted-more m w path xs x old mid new = noted-trans m w (λ stream. arrivals_by path (fitting stream xs)) (λ stream. arrivals_by path (fitting stream (x ∷ []))) (λ stream. arrivals_by path (fitting stream (xs ++ x ∷ []))) old mid new
    (λ stream. ap (arrivals_by path) (fitting-append stream xs (x ∷ [])) ∙ arrivals_by-append path (fitting stream xs) (fitting stream (x ∷ [])))

-- the packets of one more path
pub noted-path : (m w : MergeState) (number : ℕ) (taken : List (List Packet)) (xs : List Packet) (old mid new : Sender) → length taken ≡ number
    → Joins m w (λ stream. arrivals_from stream 0 taken) → NotesAll m (λ stream. arrivals_from stream 0 taken) old mid
    → NotesAll w (λ stream. arrivals_by number (fitting stream xs)) mid new
    → NotesAll m (λ stream. arrivals_from stream 0 (taken ++ xs ∷ [])) old new
noted-path m w number taken xs old mid new e = noted-trans m w (λ stream. arrivals_from stream 0 taken) (λ stream. arrivals_by number (fitting stream xs)) (λ stream. arrivals_from stream 0 (taken ++ xs ∷ [])) old mid new
    (λ stream. arrivals_from-snoc stream 0 taken xs ∙ ap (λ n. arrivals_from stream 0 taken ++ arrivals_by n (fitting stream xs)) (let z : 0 + length taken ≡ length taken = omega arith in z ∙ e))
