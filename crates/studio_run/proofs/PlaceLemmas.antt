-- The places of a trace's datagrams in its text.
use Rattle.std.proofs.Common.{◌≡◌, ℕ, suc, ◌+◌, ◌-◌, ◌<◌, ◌≤◌, List, ◌∷◌, [], ◌++◌, Option, Some, None, length, take, drop, take-append-drop, append_assoc, length-append, length-take, sym, ◌∙◌, ap, subst, refl, arith}
use Rattle.std.specs.Prelude.{IfSome, IsSome, slice_range}
use Rattle.std.proofs.Math.Seq.{take-append_seam, drop-append_seam}
use Rattle.studio_session.specs.Event.{Arrival}
use Rattle.studio_run.specs.Trace.{octets_of}
use Rattle.studio_run.specs.LineEvent.{IsLast, IsLineOf, said_in, octets_by}
use Rattle.studio_run.specs.Places.{event_at, IsPlace, text_event, digits_in}
use Rattle.studio_run.specs.declared.trace.line.LineEvent.{LineEvent}
use Rattle.studio_run.specs.declared.trace.line.LineEvent.TheVariants.{Arrive, Tick, Close}

-- a part between two others
range-middle : (front middle back : List ℕ) → slice_range (front ++ (middle ++ back)) (length front) (length front + length middle) ≡ middle
range-middle front middle back =
    let width : length front + length middle - length front ≡ length middle = omega arith in
    ap (λ n. take n (drop (length front) (front ++ (middle ++ back)))) width ∙ ap (take (length middle)) (drop-append_seam front (middle ++ back)) ∙ take-append_seam middle back

-- the place of the digits of a line's event
pub record Stands (text : List ℕ) (event : LineEvent) (end : ℕ) : Type 0 where
  pub said : event_at text (text_event end event) ≡ said_in event
  pub place : IsPlace text (text_event end event)
  pub digits : digits_in event ≤ end

Stands-at : (text front line after : List ℕ) (event : LineEvent) (end : ℕ) → text ≡ front ++ (line ++ after) → end ≡ length front + length line → length line ≤ 4096 → IsLast line event → Stands text event end
Stands-at text front line after (Arrive stream path digits) end whole is short last =
    let before : List ℕ = front ++ last.0.0 in
    let parts : text ≡ before ++ (digits.now ++ after) =
    whole ∙ ap (λ l. front ++ (l ++ after)) last.0.1 ∙ ap (λ l. front ++ l) (append_assoc last.0.0 digits.now after) ∙ sym (append_assoc front last.0.0 (digits.now ++ after)) in
    let long : length line ≡ length last.0.0 + length digits.now = ap length last.0.1 ∙ length-append last.0.0 digits.now in
    let wide : length before ≡ length front + length last.0.0 = length-append front last.0.0 in
    let all : length text ≡ length before + (length digits.now + length after) = ap length parts ∙ length-append before (digits.now ++ after) ∙ ap (λ n. length before + n) (length-append digits.now after) in
    let stop : end ≡ length before + length digits.now = omega (arith, is, long, wide) in
    let start : end - length digits.now ≡ length before = omega (arith, stop) in
    let range : slice_range text (end - length digits.now) end ≡ digits.now =
    ap (λ n. slice_range text n end) start ∙ ap (λ n. slice_range text (length before) n) stop ∙ ap (λ t. slice_range t (length before) (length before + length digits.now)) parts ∙ range-middle before digits.now after in record {
      said = ap (λ d. Arrival stream path (octets_by d)) range;
      place = (omega (arith, start, stop), omega (arith, stop, all), omega (arith, start, stop, long, short), subst (λ d. IsSome (octets_of d)) (sym range) last.1);
      digits = omega (arith, stop);
    }
Stands-at text front line after (Tick time) end whole is short last = record { said = refl; place = tt; digits = omega arith }
Stands-at text front line after Close end whole is short last = record { said = refl; place = tt; digits = omega arith }

-- a line that was read from the place `at` on ends at `end`
pub record EndsLine (text : List ℕ) (at : ℕ) (line : List ℕ) (event : Option LineEvent) (end : ℕ) : Type 0 where
  pub front : take (end + 1) text ≡ take at text ++ (line ++ (10 ∷ []))
  pub further : at ≤ end
  pub within : end < length text
  pub stands : IfSome event (λ e. Stands text e end)

stands-some : (text front line after : List ℕ) (event : Option LineEvent) (end : ℕ) → text ≡ front ++ (line ++ after) → end ≡ length front + length line → length line ≤ 4096 → IfSome event (IsLast line) → IfSome event (λ e. Stands text e end)
stands-some text front line after None end whole is short last = tt
stands-some text front line after (Some event) end whole is short last = Stands-at text front line after event end whole is short last

pub EndsLine-of : (text : List ℕ) (at : ℕ) (rest : List ℕ) (count : ℕ) (event : Option LineEvent) (after : List ℕ) → rest ≡ drop at text → at ≤ length text → (read : IsLineOf rest count event after) → EndsLine text at read.line event (length text - length after - 1)
EndsLine-of text at rest count event after from inside read =
    let front : List ℕ = take at text in
    let line : List ℕ = read.line in
    let whole : text ≡ front ++ (line ++ (10 ∷ after)) = sym (take-append-drop at text) ∙ ap (λ l. front ++ l) (sym from ∙ read.whole) in
    let first : length front ≡ at = omega (arith, length-take at text) in
    let all : length text ≡ length front + (length line + suc (length after)) = ap length whole ∙ length-append front (line ++ (10 ∷ after)) ∙ ap (λ n. length front + n) (length-append line (10 ∷ after)) in
    let end : length text - length after - 1 ≡ length front + length line = omega (arith, all) in
    let grouped : text ≡ (front ++ (line ++ (10 ∷ []))) ++ after = whole ∙ ap (λ l. front ++ l) (sym (append_assoc line (10 ∷ []) after)) ∙ sym (append_assoc front (line ++ (10 ∷ [])) after) in
    let wide : length (front ++ (line ++ (10 ∷ []))) ≡ length front + (length line + 1) = length-append front (line ++ (10 ∷ [])) ∙ ap (λ n. length front + n) (length-append line (10 ∷ [])) in
    let next : length text - length after - 1 + 1 ≡ length (front ++ (line ++ (10 ∷ []))) = omega (arith, end, wide) in record {
      front = ap (λ n. take n text) next ∙ ap (take (length (front ++ (line ++ (10 ∷ []))))) grouped ∙ take-append_seam (front ++ (line ++ (10 ∷ []))) after;
      further = omega (arith, end, first);
      within = omega (arith, end, all);
      stands = stands-some text front line (10 ∷ after) event (length text - length after - 1) whole end read.short read.last;
    }
