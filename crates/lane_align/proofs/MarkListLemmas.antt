-- Mark lists, one mark at a time.
use Rattle.std.proofs.Common.{◌≡◌, ℕ, Bool, true, false, ◌&&◌, ◌||◌, List, [], ◌∷◌, ◌++◌, ℤ, pos, ◌+ℤ◌, ◌≤ℤ◌, Option, Some, None, refl, sym, ap, ◌∙◌, arith, inl, inr}
use Rattle.std.proofs.lemmas.Int.{ints}
use Rattle.std.proofs.lemmas.Bool.{cases_Bool, false≢true}
use Rattle.std.proofs.lemmas.Bool.Decides.{nat_tests}
use Rattle.std.specs.Option.{option_or}
use Rattle.rtp_stream.specs.MarkFacts.{MarkView}
use Rattle.rtp_stream.specs.MarkList.{can_follow, is_same_format, is_mark_list_after, is_mark_list, is_end, has_end}
use Rattle.rtp_stream.specs.declared.mark.PacketFormat.{PacketFormat}
use Rattle.rtp_stream.specs.declared.mark.Body.{Body}
use Rattle.rtp_stream.specs.declared.mark.MarkKind.{MarkKind}
use Rattle.rtp_stream.specs.declared.mark.MarkKind.TheVariants.{Slot, Quiet, End}
use Rattle.lane_align.specs.declared.last_slot.LastSlot.{LastSlot}
use Rattle.lane_align.specs.Cover.{slot_of, quiet_of, last_slot, last_quiet}
use Rattle.lane_align.specs.Lane.{last_kind}

-- the kind of the last mark
abbrev pub kind_after : Option MarkKind → List MarkView → Option MarkKind
kind_after last [] = last
kind_after last (mark ∷ marks) = kind_after (Some mark.kind) marks

pub both_left : (a b : Bool) → a && b ≡ true → a ≡ true
both_left true b h = refl
both_left false b h = absurd (false≢true h)

pub both_right : (a b : Bool) → a && b ≡ true → b ≡ true
both_right true b h = h
both_right false b h = absurd (false≢true h)

and_assoc : (a b c : Bool) → (a && b) && c ≡ a && (b && c)
and_assoc true b c = refl
and_assoc false b c = refl

or_turn : (a b c : Bool) → (a || b) || c ≡ b || (a || c)
or_turn true true c = refl
or_turn true false c = refl
or_turn false b c = refl

or_assoc : {A : Type 0} (a b c : Option A) → option_or (option_or a b) c ≡ option_or a (option_or b c)
or_assoc None b c = refl
or_assoc (Some x) b c = refl

pub or_none : {A : Type 0} (a : Option A) → option_or a None ≡ a
or_none None = refl
or_none (Some x) = refl

pub or_false : (a : Bool) → a || false ≡ a
or_false true = refl
or_false false = refl

-- a mark list with one more mark
list_more : (format : PacketFormat) (last : Option MarkKind) (marks : List MarkView) (mark : MarkView)
    → is_mark_list_after format last (marks ++ mark ∷ []) ≡ is_mark_list_after format last marks && (is_same_format mark.format format && can_follow format.frames (kind_after last marks) mark.kind)
list_more format last [] mark = elim (cases_Bool (is_same_format mark.format format && can_follow format.frames last mark.kind)) [
  | inl yes' ↦ rw yes' refl
  | inr no' ↦ rw no' refl
]
list_more format last (x ∷ marks) mark =
    ap (λ b. (is_same_format x.format format && can_follow format.frames last x.kind) && b) (list_more format (Some x.kind) marks mark)
    ∙ sym (and_assoc (is_same_format x.format format && can_follow format.frames last x.kind) (is_mark_list_after format (Some x.kind) marks) (is_same_format mark.format format && can_follow format.frames (kind_after (Some x.kind) marks) mark.kind))

-- if two lists together are a mark list, so is the first one
pub list_before : (format : PacketFormat) (last : Option MarkKind) (marks more : List MarkView) → is_mark_list_after format last (marks ++ more) ≡ true → is_mark_list_after format last marks ≡ true
list_before format last [] more h = refl
list_before format last (x ∷ marks) more h =
    let here = both_left (is_same_format x.format format && can_follow format.frames last x.kind) (is_mark_list_after format (Some x.kind) (marks ++ more)) h in
    let rest = list_before format (Some x.kind) marks more (both_right (is_same_format x.format format && can_follow format.frames last x.kind) (is_mark_list_after format (Some x.kind) (marks ++ more)) h) in
    rw here rest

-- if two lists together are a mark list, the second one may follow the first
pub list_after : (format : PacketFormat) (last : Option MarkKind) (marks more : List MarkView) → is_mark_list_after format last (marks ++ more) ≡ true → is_mark_list_after format (kind_after last marks) more ≡ true
list_after format last [] more h = h
list_after format last (x ∷ marks) more h =
    list_after format (Some x.kind) marks more (both_right (is_same_format x.format format && can_follow format.frames last x.kind) (is_mark_list_after format (Some x.kind) (marks ++ more)) h)

-- how the last mark agrees with the last slot, the last Quiet and the end
pub data Agrees (frames : ℕ) : Option MarkKind → Bool → Option LastSlot → Option ℤ → Type 0 where
  fresh : Agrees frames None false None None
  quiet : (u : ℤ) → Agrees frames (Some (Quiet u)) false None (Some u)
  slot : (e n : ℕ) (m : ℤ) (b : Body) (q : Option ℤ) → ((u : ℤ) → q ≡ Some u → u ≤ℤ (m +ℤ pos frames)) → Agrees frames (Some (Slot e n m b)) false (Some (record { epoch = e; number = n; media = m })) q
  ended : (s : Option LastSlot) (q : Option ℤ) → Agrees frames (Some End) true s q

-- the agreement holds after a mark that may follow
agrees_next : (frames : ℕ) (last : Option MarkKind) (e : Bool) (s : Option LastSlot) (q : Option ℤ) (next : MarkKind)
    → Agrees frames last e s q → can_follow frames last next ≡ true
    → Agrees frames (Some next) (is_end next || e) (option_or (slot_of next) s) (option_or (quiet_of next) q)
agrees_next frames last e s q (Slot e' n' m' b') fresh h = slot e' n' m' b' None (λ u none. absurd (cc))
agrees_next frames last e s q (Quiet u') fresh h = quiet u'
agrees_next frames last e s q End fresh h = ended None None
agrees_next frames last e s q (Slot e' n' m' b') (quiet u) h = slot e' n' m' b' (Some u) (λ v some. let same : u ≡ v = cc in let le : u ≤ℤ m' = grind (arith, ints) in omega (arith, ints))
agrees_next frames last e s q (Quiet u') (quiet u) h = quiet u'
agrees_next frames last e s q End (quiet u) h = ended None (Some u)
agrees_next frames last e s q (Slot e' n' m' b') (slot e0 n0 m0 b0 q0 le) h = slot e' n' m' b' q0 (λ v some. let old = le v some in let later : (m0 +ℤ pos frames) ≤ℤ m' = grind (arith, ints, nat_tests) in omega (arith, ints))
agrees_next frames last e s q (Quiet u') (slot e0 n0 m0 b0 q0 le) h = absurd (false≢true h)
agrees_next frames last e s q End (slot e0 n0 m0 b0 q0 le) h = ended (Some (record { epoch = e0; number = n0; media = m0 })) q0
agrees_next frames last e s q next (ended s0 q0) h = absurd (false≢true h)

agrees_after : (format : PacketFormat) (last : Option MarkKind) (e : Bool) (s : Option LastSlot) (q : Option ℤ) (marks : List MarkView)
    → Agrees format.frames last e s q → is_mark_list_after format last marks ≡ true
    → Agrees format.frames (kind_after last marks) (has_end marks || e) (option_or (last_slot marks) s) (option_or (last_quiet marks) q)
agrees_after format last e s q [] agrees h = agrees
agrees_after format last e s q (x ∷ marks) agrees h =
    let here = both_left (is_same_format x.format format && can_follow format.frames last x.kind) (is_mark_list_after format (Some x.kind) marks) h in
    let follows = both_right (is_same_format x.format format) (can_follow format.frames last x.kind) here in
    let rest = both_right (is_same_format x.format format && can_follow format.frames last x.kind) (is_mark_list_after format (Some x.kind) marks) h in
    rw (or_turn (is_end x.kind) (has_end marks) e, or_assoc (last_slot marks) (slot_of x.kind) s, or_assoc (last_quiet marks) (quiet_of x.kind) q)
    (agrees_after format (Some x.kind) (is_end x.kind || e) (option_or (slot_of x.kind) s) (option_or (quiet_of x.kind) q) marks (agrees_next format.frames last e s q x.kind agrees follows) rest)

-- the agreement holds for each mark list
pub agrees_of : (format : PacketFormat) (marks : List MarkView) → is_mark_list format marks ≡ true → Agrees format.frames (kind_after None marks) (has_end marks) (last_slot marks) (last_quiet marks)
agrees_of format marks h = rw (or_false (has_end marks), or_none (last_slot marks), or_none (last_quiet marks)) at (agrees_after format None false None None marks fresh h)

agrees_follow : (frames : ℕ) (last : Option MarkKind) (e : Bool) (s : Option LastSlot) (q : Option ℤ) (next : MarkKind) → Agrees frames last e s q → can_follow frames last next ≡ can_follow frames (last_kind e s q) next
agrees_follow frames last e s q next fresh = refl
agrees_follow frames last e s q next (quiet u) = refl
agrees_follow frames last e s q (Slot e' n' m' b') (slot e0 n0 m0 b0 q0 le) = refl
agrees_follow frames last e s q (Quiet u') (slot e0 n0 m0 b0 q0 le) = refl
agrees_follow frames last e s q End (slot e0 n0 m0 b0 q0 le) = refl
agrees_follow frames last e s q next (ended s0 q0) = refl

-- a mark list with one more mark is a mark list exactly if that mark may follow the last one
pub next_is : (format : PacketFormat) (marks : List MarkView) (mark : MarkView) → is_mark_list format marks ≡ true
    → is_mark_list format (marks ++ mark ∷ []) ≡ is_same_format mark.format format && can_follow format.frames (last_kind (has_end marks) (last_slot marks) (last_quiet marks)) mark.kind
next_is format marks mark h =
    list_more format None marks mark
    ∙ ap (λ b. b && (is_same_format mark.format format && can_follow format.frames (kind_after None marks) mark.kind)) h
    ∙ ap (λ b. is_same_format mark.format format && b) (agrees_follow format.frames (kind_after None marks) (has_end marks) (last_slot marks) (last_quiet marks) mark.kind (agrees_of format marks h))
