-- More marks: the values of a list and its cover that do not change.
use Rattle.std.proofs.Common.{◌≡◌, ℕ, Bool, true, ◌&&◌, List, [], ◌∷◌, ◌++◌, ℤ, pos, ◌+ℤ◌, ◌≤ℤ◌, ◌<ℤ◌, Option, Some, None, unwrap_or, is_some, refl, sym, ap, subst, ◌∙◌, arith, append_assoc, inl, inr, if◌then◌else◌}
use Rattle.std.proofs.lemmas.Bool.{cases_Bool, false≢true}
use Rattle.std.proofs.lemmas.Int.{ints, clamps}
use Rattle.std.proofs.lemmas.List.{append-nil}
use Rattle.std.specs.Int.{int_max}
use Rattle.std.specs.Option.{option_or}
use Rattle.rtp_stream.specs.MarkFacts.{MarkView}
use Rattle.rtp_stream.specs.MarkList.{can_follow, is_same_format, is_mark_list_after, is_mark_list, has_end}
use Rattle.rtp_stream.specs.declared.mark.PacketFormat.{PacketFormat}
use Rattle.rtp_stream.specs.declared.mark.MarkKind.{MarkKind}
use Rattle.rtp_stream.specs.declared.mark.MarkKind.TheVariants.{Slot, Quiet, End}
use Rattle.lane_align.specs.declared.last_slot.LastSlot.{LastSlot}
use Rattle.lane_align.specs.Cover.{last_slot, last_quiet, time_reached, cover_to, cover_of, covers}
use Rattle.lane_align.specs.Value.{sample_in, sample_among, value_at}
use Rattle.lane_align.specs.Presence.{is_present}
use Rattle.lane_align.specs.AcceptedMarks.{accepted_with, accepted_after, accepted_marks}
use Rattle.lane_align.proofs.MarkListLemmas.{kind_after, both_left, both_right, or_none, list_before, list_after, Agrees, fresh, quiet, slot, ended, agrees_of}
use Rattle.lane_align.proofs.FeedLemmas.{present_is, sample_among_more, sample_before, slot_later, after_end}

-- the last mark reaches a time
Reaches : ℕ → Option MarkKind → ℤ → Type 0
Reaches frames None t = ⊥
Reaches frames (Some (Quiet u)) t = t ≤ℤ u
Reaches frames (Some (Slot e n m b)) t = t ≤ℤ (m +ℤ pos frames)
Reaches frames (Some End) t = Unit {0}

reaches_next : (frames : ℕ) (last : Option MarkKind) (next : MarkKind) (t : ℤ) → Reaches frames last t → can_follow frames last next ≡ true → Reaches frames (Some next) t
unfolding Reaches
reaches_next frames None next t r h = absurd r
reaches_next frames (Some (Quiet u)) (Slot e n m b) t r h = let le : u ≤ℤ m = grind (arith, ints) in omega (arith, ints)
reaches_next frames (Some (Quiet u)) (Quiet v) t r h = let lt : u <ℤ v = grind (arith, ints) in omega (arith, ints)
reaches_next frames (Some (Quiet u)) End t r h = tt
reaches_next frames (Some (Slot e n m b)) (Slot e' n' m' b') t r h = let later = slot_later frames e n m b e' n' m' b' h in omega (arith, ints)
reaches_next frames (Some (Slot e n m b)) (Quiet u) t r h = absurd (false≢true h)
reaches_next frames (Some (Slot e n m b)) End t r h = tt
reaches_next frames (Some End) next t r h = absurd (false≢true h)

silent_next : (format : PacketFormat) (last : Option MarkKind) (next : MarkKind) (t : ℤ) (k : ℕ) → Reaches format.frames last (t +ℤ pos 1) → can_follow format.frames last next ≡ true → sample_in format next t k ≡ None
unfolding Reaches
silent_next format None next t k r h = absurd r
silent_next format (Some (Quiet u)) (Slot e n m b) t k r h = let le : u ≤ℤ m = grind (arith, ints) in sample_before format e n m b t k (omega (arith, ints))
silent_next format (Some (Quiet u)) (Quiet v) t k r h = refl
silent_next format (Some (Quiet u)) End t k r h = refl
silent_next format (Some (Slot e n m b)) (Slot e' n' m' b') t k r h = let later = slot_later format.frames e n m b e' n' m' b' h in sample_before format e' n' m' b' t k (omega (arith, ints))
silent_next format (Some (Slot e n m b)) (Quiet u) t k r h = absurd (false≢true h)
silent_next format (Some (Slot e n m b)) End t k r h = refl
silent_next format (Some End) next t k r h = absurd (false≢true h)

silent_more : (format : PacketFormat) (last : Option MarkKind) (more : List MarkView) (t : ℤ) (k : ℕ) → Reaches format.frames last (t +ℤ pos 1) → is_mark_list_after format last more ≡ true → sample_among format more t k ≡ None
silent_more format last [] t k r h = refl
silent_more format last (x ∷ more) t k r h =
    let here = both_left (is_same_format x.format format && can_follow format.frames last x.kind) (is_mark_list_after format (Some x.kind) more) h in
    let follows = both_right (is_same_format x.format format) (can_follow format.frames last x.kind) here in
    let rest = both_right (is_same_format x.format format && can_follow format.frames last x.kind) (is_mark_list_after format (Some x.kind) more) h in
    ap (λ o. option_or o (sample_among format more t k)) (silent_next format last x.kind t k r follows)
    ∙ silent_more format (Some x.kind) more t k (reaches_next format.frames last x.kind (t +ℤ pos 1) r follows) rest

reaches_more : (format : PacketFormat) (last : Option MarkKind) (more : List MarkView) (t : ℤ) → Reaches format.frames last t → is_mark_list_after format last more ≡ true → Reaches format.frames (kind_after last more) t
reaches_more format last [] t r h = r
reaches_more format last (x ∷ more) t r h =
    let here = both_left (is_same_format x.format format && can_follow format.frames last x.kind) (is_mark_list_after format (Some x.kind) more) h in
    let follows = both_right (is_same_format x.format format) (can_follow format.frames last x.kind) here in
    let rest = both_right (is_same_format x.format format && can_follow format.frames last x.kind) (is_mark_list_after format (Some x.kind) more) h in
    reaches_more format (Some x.kind) more t (reaches_next format.frames last x.kind t r follows) rest

-- a time that is covered is one that the last mark reaches
reaches_of : (frames : ℕ) (last : Option MarkKind) (e : Bool) (s : Option LastSlot) (q : Option ℤ) (t : ℤ) → Agrees frames last e s q → covers (cover_to e (time_reached frames s q)) t ≡ true → Reaches frames last t
unfolding Reaches
reaches_of frames last e s q t fresh h = absurd (false≢true h)
reaches_of frames last e s q t (quiet u) h = grind (arith, ints)
reaches_of frames last e s None t (slot e0 n0 m0 b0 q0 le) h = grind (arith, ints)
reaches_of frames last e s (Some u) t (slot e0 n0 m0 b0 q0 le) h =
    let top = int_max (m0 +ℤ pos frames) u in
    let below : t ≤ℤ top = grind (arith, ints) in
    let old = le u refl in
    omega (arith, ints, clamps)
reaches_of frames last e s q t (ended s0 q0) h = tt

covers_of : (frames : ℕ) (last : Option MarkKind) (e : Bool) (s : Option LastSlot) (q : Option ℤ) (t : ℤ) → Agrees frames last e s q → Reaches frames last t → covers (cover_to e (time_reached frames s q)) t ≡ true
unfolding Reaches
covers_of frames last e s q t fresh r = absurd r
covers_of frames last e s q t (quiet u) r = grind (arith, ints)
covers_of frames last e s None t (slot e0 n0 m0 b0 q0 le) r = grind (arith, ints)
covers_of frames last e s (Some u) t (slot e0 n0 m0 b0 q0 le) r =
    let top = int_max (m0 +ℤ pos frames) u in
    let below : t ≤ℤ top = omega (arith, ints, clamps) in
    grind (arith, ints)
covers_of frames last e s q t (ended s0 q0) r = refl

kind_after_more : (last : Option MarkKind) (marks more : List MarkView) → kind_after last (marks ++ more) ≡ kind_after (kind_after last marks) more
kind_after_more last [] more = refl
kind_after_more last (x ∷ marks) more = kind_after_more (Some x.kind) marks more

-- samples before the cover stay the same after more marks, and so do values and presence
samples_stay : (format : PacketFormat) (marks more : List MarkView) (t : ℤ) (k : ℕ) → is_mark_list format (marks ++ more) ≡ true → covers (cover_of format marks) (t +ℤ pos 1) ≡ true
    → sample_among format (marks ++ more) t k ≡ sample_among format marks t k
samples_stay format marks more t k listed covered =
    let before = list_before format None marks more listed in
    let after = list_after format None marks more listed in
    let reached = reaches_of format.frames (kind_after None marks) (has_end marks) (last_slot marks) (last_quiet marks) (t +ℤ pos 1) (agrees_of format marks before) covered in
    sample_among_more format marks more t k
    ∙ ap (λ o. option_or (sample_among format marks t k) o) (silent_more format (kind_after None marks) more t k reached after)
    ∙ or_none (sample_among format marks t k)

pub values_stay : (format : PacketFormat) (marks more : List MarkView) (t : ℤ) (k : ℕ) → is_mark_list format (marks ++ more) ≡ true → covers (cover_of format marks) (t +ℤ pos 1) ≡ true
    → value_at format (marks ++ more) t k ≡ value_at format marks t k
values_stay format marks more t k listed covered = ap (λ o. unwrap_or o (pos 0)) (samples_stay format marks more t k listed covered)

pub presence_stays : (format : PacketFormat) (marks more : List MarkView) (t : ℤ) → is_mark_list format (marks ++ more) ≡ true → covers (cover_of format marks) (t +ℤ pos 1) ≡ true
    → is_present format (marks ++ more) t ≡ is_present format marks t
presence_stays format marks more t listed covered =
    present_is format (marks ++ more) t 0 ∙ ap is_some (samples_stay format marks more t 0 listed covered) ∙ sym (present_is format marks t 0)

-- a time that is covered stays covered after more marks
pub cover_stays : (format : PacketFormat) (marks more : List MarkView) (t : ℤ) → is_mark_list format (marks ++ more) ≡ true → covers (cover_of format marks) t ≡ true
    → covers (cover_of format (marks ++ more)) t ≡ true
cover_stays format marks more t listed covered =
    let before = list_before format None marks more listed in
    let after = list_after format None marks more listed in
    let reached = reaches_of format.frames (kind_after None marks) (has_end marks) (last_slot marks) (last_quiet marks) t (agrees_of format marks before) covered in
    covers_of format.frames (kind_after None (marks ++ more)) (has_end (marks ++ more)) (last_slot (marks ++ more)) (last_quiet (marks ++ more)) t (agrees_of format (marks ++ more) listed)
    (subst (λ o. Reaches format.frames o t) (sym (kind_after_more None marks more)) (reaches_more format (kind_after None marks) more t reached after))

ends_last : (frames : ℕ) (last : Option MarkKind) (s : Option LastSlot) (q : Option ℤ) → Agrees frames last true s q → last ≡ Some End
ends_last frames last s q (ended s0 q0) = refl

-- nothing follows the end
pub end_stays : (format : PacketFormat) (marks more : List MarkView) → is_mark_list format (marks ++ more) ≡ true → has_end marks ≡ true → more ≡ []
end_stays format marks more listed is_over =
    let agrees = subst (λ e. Agrees format.frames (kind_after None marks) e (last_slot marks) (last_quiet marks)) is_over (agrees_of format marks (list_before format None marks more listed)) in
    let last = ends_last format.frames (kind_after None marks) (last_slot marks) (last_quiet marks) agrees in
    after_end format more (subst (λ o. is_mark_list_after format o more ≡ true) last (list_after format None marks more listed))

-- the accepted marks begin with those that were accepted before, and are a mark list
pub record Extends (format : PacketFormat) (accepted result : List MarkView) : Type 0 where
  pub more : List MarkView
  pub is : result ≡ accepted ++ more
  pub listed : is_mark_list format result ≡ true

accepted_extends : (format : PacketFormat) (accepted marks : List MarkView) → is_mark_list format accepted ≡ true → Extends format accepted (accepted_after format accepted marks)
accepted_extends format accepted [] listed = record { more = []; is = sym (append-nil accepted); listed = listed }
accepted_extends format accepted (x ∷ marks) listed = elim (cases_Bool (is_mark_list format (accepted ++ x ∷ []))) [
  | inl fits ↦
      let same : accepted_with format accepted x ≡ accepted ++ x ∷ [] = ap (λ b. if b then accepted ++ x ∷ [] else accepted) fits in
      let rest = accepted_extends format (accepted ++ x ∷ []) marks fits in
      let here : accepted_after format (accepted_with format accepted x) marks ≡ accepted_after format (accepted ++ x ∷ []) marks = ap (λ a. accepted_after format a marks) same in
      record { more = x ∷ rest.more; is = here ∙ rest.is ∙ append_assoc accepted (x ∷ []) rest.more; listed = ap (is_mark_list format) here ∙ rest.listed }
  | inr strange ↦
      let same : accepted_with format accepted x ≡ accepted = ap (λ b. if b then accepted ++ x ∷ [] else accepted) strange in
      let rest = accepted_extends format accepted marks listed in
      let here : accepted_after format (accepted_with format accepted x) marks ≡ accepted_after format accepted marks = ap (λ a. accepted_after format a marks) same in
      record { more = rest.more; is = here ∙ rest.is; listed = ap (is_mark_list format) here ∙ rest.listed }
]

accepted_in_turn : (format : PacketFormat) (accepted marks more : List MarkView) → accepted_after format accepted (marks ++ more) ≡ accepted_after format (accepted_after format accepted marks) more
accepted_in_turn format accepted [] more = refl
accepted_in_turn format accepted (x ∷ marks) more = accepted_in_turn format (accepted_with format accepted x) marks more

pub accepted_more : (format : PacketFormat) (came more : List MarkView) → Extends format (accepted_marks format came) (accepted_marks format (came ++ more))
accepted_more format came more =
    let first = accepted_extends format [] came refl in
    subst (λ l. Extends format (accepted_marks format came) l) (sym (accepted_in_turn format [] came more)) (accepted_extends format (accepted_marks format came) more first.listed)

pub accepted_listed : (format : PacketFormat) (came : List MarkView) → is_mark_list format (accepted_marks format came) ≡ true
accepted_listed format came = (accepted_extends format [] came refl).listed

pub accepted_next : (format : PacketFormat) (came : List MarkView) (mark : MarkView) → accepted_marks format (came ++ mark ∷ []) ≡ accepted_with format (accepted_marks format came) mark
accepted_next format came mark = accepted_in_turn format [] came (mark ∷ [])

accepted_whole : (format : PacketFormat) (accepted marks : List MarkView) → is_mark_list format (accepted ++ marks) ≡ true → accepted_after format accepted marks ≡ accepted ++ marks
accepted_whole format accepted [] listed = sym (append-nil accepted)
accepted_whole format accepted (x ∷ marks) listed =
    let listed' : is_mark_list format ((accepted ++ x ∷ []) ++ marks) ≡ true = ap (is_mark_list format) (append_assoc accepted (x ∷ []) marks) ∙ listed in
    let fits = list_before format None (accepted ++ x ∷ []) marks listed' in
    let same : accepted_with format accepted x ≡ accepted ++ x ∷ [] = ap (λ b. if b then accepted ++ x ∷ [] else accepted) fits in
    ap (λ a. accepted_after format a marks) same ∙ accepted_whole format (accepted ++ x ∷ []) marks listed' ∙ append_assoc accepted (x ∷ []) marks

pub accepted_all : (format : PacketFormat) (marks : List MarkView) → is_mark_list format marks ≡ true → accepted_marks format marks ≡ marks
accepted_all format marks listed = accepted_whole format [] marks listed

pub accepted_values_stay : (format : PacketFormat) (came more : List MarkView) (t : ℤ) (k : ℕ) → covers (cover_of format (accepted_marks format came)) (t +ℤ pos 1) ≡ true
    → value_at format (accepted_marks format (came ++ more)) t k ≡ value_at format (accepted_marks format came) t k
accepted_values_stay format came more t k covered =
    let all = accepted_more format came more in
    ap (λ l. value_at format l t k) all.is
    ∙ values_stay format (accepted_marks format came) all.more t k (ap (is_mark_list format) (sym all.is) ∙ all.listed) covered
