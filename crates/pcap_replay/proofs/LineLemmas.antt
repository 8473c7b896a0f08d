-- The lines of an engine's datagrams, one after another.
use Rattle.std.proofs.Common.{◌≡◌, ◌⊎◌, inl, inr, ◌≤◌, ℕ, Bool, true, false, List, [], ◌∷◌, ◌++◌, length, take, ℤ, pos, ◌^◌, if◌then◌else◌, Option, Some, None, is_some, refl, sym, ap, subst, ◌∙◌, arith, append_assoc, append-nil}
use Rattle.std.specs.Prelude.{int_lt}
use Rattle.std.proofs.lemmas.Bool.Decides.{nat_tests}
use Rattle.std.proofs.lemmas.Int.{ints}
use Rattle.std.proofs.lemmas.Grind.{flat_map-append}
use Rattle.path_merge.specs.Clock.{clock_fault_of}
use Rattle.path_merge.specs.declared.clock.ClockFault.{ClockFault}
use Rattle.path_merge.specs.declared.clock.ClockFault.TheVariants.{WentBack, TooFar, Closed}
use Rattle.studio_config.specs.Studio.{Studio}
use Rattle.studio_mix.proofs.FirstBlockLemmas.{written_is}
use Rattle.studio_session.specs.Event.{TraceEvent}
use Rattle.studio_engine.specs.Engine.{EngineState}
use Rattle.studio_engine.specs.Session.{Gives, HasSession, turned}
use Rattle.studio_engine.proofs.EngineLemmas.{turned_same}
use Rattle.studio_run.specs.Buffer.{BreaksOff, PassesOn}
use Rattle.studio_run.specs.Report.{datagram_line}
use Rattle.studio_run.specs.Listing.{datagrams_text}
use Rattle.studio_run.proofs.BufferLemmas.{BreaksOff-later, PassesOn-none, PassesOn-trans}
use Rattle.pcap_replay.specs.Lines.{BreaksLines, GivesLines, Hearing, Tells}

pub line_more : (datagrams : List (List ℕ)) (datagram : List ℕ) → datagrams_text (datagrams ++ datagram ∷ []) ≡ datagrams_text datagrams ++ datagram_line datagram
line_more datagrams datagram = flat_map-append datagram_line datagrams (datagram ∷ []) ∙ ap (λ l. datagrams_text datagrams ++ l) (append-nil (datagram_line datagram))

pub lines_more : (datagrams more : List (List ℕ)) → datagrams_text (datagrams ++ more) ≡ datagrams_text datagrams ++ datagrams_text more
lines_more datagrams more = flat_map-append datagram_line datagrams more

-- no datagram was returned yet
pub gives_none : (studio : Studio) (engine : EngineState) (events same : List TraceEvent) (datagrams : List (List ℕ)) (a : Option (List ℕ)) (h : List ℕ) (H : Hearing) → events ≡ same
    → HasSession studio engine events datagrams → GivesLines studio engine same datagrams a h a h H H
gives_none studio engine events same datagrams a h H e s = record {
  more = [];
  stands = subst (HasSession studio engine same) (sym (append-nil datagrams)) (subst (λ l. HasSession studio engine l datagrams) e s);
  wrote = PassesOn-none a h;
  told = λ es told. subst (H es) (sym (append-nil datagrams)) told;
}

-- an observer receives one datagram more
abbrev pub Hears : Hearing → Hearing → List ℕ → Type 0
Hears K L datagram = (events : List TraceEvent) (datagrams : List (List ℕ)) → K events datagrams → L events (datagrams ++ datagram ∷ [])

tells_more : (H K L : Hearing) (datagrams more : List (List ℕ)) (output datagram : List ℕ) → output ≡ datagram → Tells H datagrams K (datagrams ++ more) → Hears K L output
    → Tells H datagrams L (datagrams ++ (more ++ datagram ∷ []))
tells_more H K L datagrams more output datagram is before hears = λ events told.
    subst (L events) (append_assoc datagrams more (datagram ∷ []))
    (subst (λ d. L events ((datagrams ++ more) ++ d ∷ [])) is (hears events (datagrams ++ more) (before events told)))

-- one more datagram was returned, and its line follows
pub gives_more : (studio : Studio) (old new : EngineState) (events more same : List TraceEvent) (datagrams : List (List ℕ)) (a b c : Option (List ℕ)) (h i j before after : List ℕ) (H K L : Hearing) (len : ℕ)
    → more ≡ same → length after ≡ length before → len ≤ length before → (g : GivesLines studio old events datagrams a h b i H K) → Gives studio new more (datagrams ++ g.more) before after len
    → Hears K L (take len after) → PassesOn b i c j (datagram_line (take len after)) → GivesLines studio new same datagrams a h c j H L
gives_more studio old new events more same datagrams a b c h i j before after H K L len e long within g d hears line =
    let is : take len after ≡ d.datagram = written_is d.datagram before after len d.written long within in
    record {
      more = g.more ++ d.datagram ∷ [];
      stands = subst (HasSession studio new same) (append_assoc datagrams g.more (d.datagram ∷ [])) (subst (λ l. HasSession studio new l ((datagrams ++ g.more) ++ d.datagram ∷ [])) e d.stands);
      wrote = subst (PassesOn a h c j) (sym (line_more g.more d.datagram))
          (PassesOn-trans a b c h i j (datagrams_text g.more) (datagram_line d.datagram) g.wrote (subst (λ l. PassesOn b i c j (datagram_line l)) is line));
      told = tells_more H K L datagrams g.more (take len after) d.datagram is g.told hears;
    }

-- one more datagram was returned, and a part of its line was written
pub breaks_more : (studio : Studio) (old new : EngineState) (events more same : List TraceEvent) (datagrams : List (List ℕ)) (a b c : Option (List ℕ)) (h i before after : List ℕ) (H K L : Hearing) (len : ℕ)
    → more ≡ same → length after ≡ length before → len ≤ length before → (g : GivesLines studio old events datagrams a h b i H K) → Gives studio new more (datagrams ++ g.more) before after len
    → Hears K L (take len after) → BreaksOff b i c (datagram_line (take len after)) → BreaksLines studio new same datagrams a h c H L
breaks_more studio old new events more same datagrams a b c h i before after H K L len e long within g d hears line =
    let is : take len after ≡ d.datagram = written_is d.datagram before after len d.written long within in
    record {
      more = g.more ++ d.datagram ∷ [];
      stands = subst (HasSession studio new same) (append_assoc datagrams g.more (d.datagram ∷ [])) (subst (λ l. HasSession studio new l ((datagrams ++ g.more) ++ d.datagram ∷ [])) e d.stands);
      broke = subst (BreaksOff a h c) (sym (line_more g.more d.datagram))
          (BreaksOff-later a b c h i (datagrams_text g.more) (datagram_line d.datagram) g.wrote (subst (λ l. BreaksOff b i c (datagram_line l)) is line));
      told = tells_more H K L datagrams g.more (take len after) d.datagram is g.told hears;
    }

-- the last datagram was returned
pub gives_last : (studio : Studio) (old new : EngineState) (events more same : List TraceEvent) (datagrams : List (List ℕ)) (a b : Option (List ℕ)) (h i : List ℕ) (H K : Hearing)
    → more ≡ same → (g : GivesLines studio old events datagrams a h b i H K) → HasSession studio new more (datagrams ++ g.more) → GivesLines studio new same datagrams a h b i H K
gives_last studio old new events more same datagrams a b h i H K e g s = record { more = g.more; stands = subst (λ l. HasSession studio new l (datagrams ++ g.more)) e s; wrote = g.wrote; told = g.told }

-- a turn that goes on is the same turn
pub turned_twice : (first at next now : ℤ) (events : List TraceEvent) → (at ≡ first) ⊎ (at ≡ now) → (next ≡ at) ⊎ (next ≡ now) → turned at next (turned first at events) ≡ turned first next events
turned_twice first at next now events (inl here) goes =
    ap (turned at next) (sym (turned_same first at events here)) ∙ ap (λ t. turned t next events) here
turned_twice first at next now events (inr there) goes =
    let same : next ≡ at = elim goes [ inl stays ↦ stays | inr comes ↦ comes ∙ sym there ] in
    sym (turned_same at next (turned first at events) same) ∙ ap (λ t. turned first t events) (sym same)

pub goes_twice : (first at next now : ℤ) → (at ≡ first) ⊎ (at ≡ now) → (next ≡ at) ⊎ (next ≡ now) → (next ≡ first) ⊎ (next ≡ now)
goes_twice first at next now from (inr comes) = inr comes
goes_twice first at next now (inl here) (inl stays) = inl (stays ∙ here)
goes_twice first at next now (inr there) (inl stays) = inr (stays ∙ there)

-- a clock that takes a reading takes it again
still_fine : (back far closed : Bool) → (if back then Some WentBack else if far then Some TooFar else if closed then Some Closed else None) ≡ None
    → (if false then Some WentBack else if far then Some TooFar else if closed then Some Closed else None) ≡ None
still_fine true far closed e = absurd (let f : Some WentBack ≡ None = e in cc)
still_fine false far closed e = e

pub fine_still : (first at now : ℤ) (closed : Bool) → (at ≡ first) ⊎ (at ≡ now) → clock_fault_of first closed now ≡ None → clock_fault_of at closed now ≡ None
fine_still first at now closed (inl here) fine = ap (λ t. clock_fault_of t closed now) here ∙ fine
fine_still first at now closed (inr there) fine =
    let same : int_lt now at ≡ false = grind (arith, ints, nat_tests, there) in
    ap (λ b. if b then Some WentBack else if int_lt (pos (2 ^ 60)) now then Some TooFar else if closed then Some Closed else None) same
    ∙ still_fine (int_lt now first) (int_lt (pos (2 ^ 60)) now) closed fine

refused : {X : Type 0} (o : Option X) (x : X) → o ≡ None → o ≡ Some x → ⊥
refused o x e f = (let g : None ≡ Some x = sym e ∙ f in cc)

pub not_refused : (first at now : ℤ) (closed : Bool) (fault : ClockFault) → (at ≡ first) ⊎ (at ≡ now) → clock_fault_of first closed now ≡ None → clock_fault_of at closed now ≡ Some fault → ⊥
not_refused first at now closed fault from fine is = refused (clock_fault_of at closed now) fault (fine_still first at now closed from fine) is

none_of : {X : Type 0} (o : Option X) → is_some o ≡ false → o ≡ None
none_of None e = refl
none_of (Some x) e = absurd (let f : false ≡ true = sym e in cc)

-- a clock that is open takes a reading that was tested
pub takes : (at : ℤ) (closed : Bool) (now : ℤ) (some : Bool) → closed ≡ false → some ≡ is_some (clock_fault_of at false now) → some ≡ false → clock_fault_of at closed now ≡ None
takes at closed now some f is without = ap (λ b. clock_fault_of at b now) f ∙ none_of (clock_fault_of at false now) (sym is ∙ without)

pub other_is : (a b m n : ℤ) → m ≡ n → (a ≡ b) ⊎ (a ≡ m) → (a ≡ b) ⊎ (a ≡ n)
other_is a b m n e (inl p) = inl p
other_is a b m n e (inr q) = inr (q ∙ e)
