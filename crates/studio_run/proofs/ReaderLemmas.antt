-- The part of a trace that was read, line by line.
use Rattle.std.proofs.Common.{◌≡◌, ℕ, ◌+◌, ◌<◌, ◌≤◌, List, [], ◌∷◌, ◌++◌, Ok, Err, length, take, drop, take-append-drop, append-nil, append_assoc, length-append, length-take, sym, ◌∙◌, ap, subst, arith}
use Rattle.std.proofs.lemmas.Bool.{le-ltb}
use Rattle.std.proofs.lemmas.List.{take_all}
use Rattle.studio_session.specs.Event.{TraceEvent}
use Rattle.studio_run.specs.Trace.{BeginsWithEvents, FailsInLine, GivesEvents, HasEvents, ReadsLine, fault_in, lines_of, lines_said, prepend, trace_events}
use Rattle.studio_run.specs.declared.trace.fault.TraceFaultKind.{TraceFaultKind}
use Rattle.studio_run.proofs.ReadLineLemmas.{prepend-none, prepend-prepend}

-- nothing was read yet
pub gives-none : GivesEvents [] 0 0 []
gives-none rest = sym (prepend-none (lines_said 1 0 (lines_of rest)))

-- one more line was read
pub gives-line : (front line : List ℕ) (lines count : ℕ) (before said : List TraceEvent) → GivesEvents front lines count before → ReadsLine line count said → GivesEvents (front ++ (line ++ (10 ∷ []))) (lines + 1) (count + length said) (before ++ said)
gives-line front line lines count before said gives reads rest =
    ap (λ t. lines_said 1 0 (lines_of t)) (append_assoc front (line ++ (10 ∷ [])) rest ∙ ap (λ l. front ++ l) (append_assoc line (10 ∷ []) rest))
    ∙ gives (line ++ (10 ∷ rest)) ∙ ap (prepend before) (reads (lines + 1) rest) ∙ prepend-prepend before said (lines_said (lines + 1 + 1) (count + length said) (lines_of rest))

-- one more line without an event was read
pub gives-silent : (front line : List ℕ) (lines count : ℕ) (before : List TraceEvent) → GivesEvents front lines count before → ReadsLine line count [] → GivesEvents (front ++ (line ++ (10 ∷ []))) (lines + 1) count (before ++ [])
gives-silent front line lines count before gives reads rest =
    let same : count + 0 ≡ count = omega arith in
    gives-line front line lines count before [] gives reads rest ∙ ap (λ n. prepend (before ++ []) (lines_said (lines + 1 + 1) n (lines_of rest))) same

-- the events of a text that is not too long are those of its lines
said-few : (text : List ℕ) → length text ≤ 67108864 → trace_events text ≡ lines_said 1 0 (lines_of text)
said-few text few = rw (le-ltb 67108864 (length text) few)

-- the events of whole lines are those of a text that ends after them
pub gives-alone : (front : List ℕ) (lines count : ℕ) (events : List TraceEvent) → GivesEvents front lines count events → length front ≤ 67108864 → trace_events front ≡ Ok events
gives-alone front lines count events gives few =
    said-few front few ∙ ap (λ t. lines_said 1 0 (lines_of t)) (sym (append-nil front)) ∙ gives [] ∙ ap Ok (append-nil events)

-- the text was read to its end
pub gives-all : (text : List ℕ) (at lines count : ℕ) (events : List TraceEvent) → GivesEvents (take at text) lines count events → length text ≤ 67108864 → length text ≤ at → trace_events text ≡ Ok events
gives-all text at lines count events gives few ended =
    gives-alone text lines count events (subst (λ t. GivesEvents t lines count events) (take_all at text ended) gives) few

-- the next line has a fault
pub gives-fault : (text rest : List ℕ) (at lines count : ℕ) (events : List TraceEvent) (kind : TraceFaultKind) → GivesEvents (take at text) lines count events → length text ≤ 67108864 → rest ≡ drop at text → FailsInLine rest count kind → trace_events text ≡ Err (fault_in (lines + 1) kind)
gives-fault text rest at lines count events kind gives few from fails =
    said-few text few ∙ ap (λ t. lines_said 1 0 (lines_of t)) (sym (ap (λ r. take at text ++ r) from ∙ take-append-drop at text)) ∙ gives rest ∙ ap (prepend events) (fails (lines + 1))

-- an event was read
pub gives-some : (text : List ℕ) (at lines count : ℕ) (before : List TraceEvent) (event : TraceEvent) → GivesEvents (take at text) lines count (before ++ (event ∷ [])) → length text ≤ 67108864 → BeginsWithEvents text
gives-some text at lines count before event gives few =
    let short : length (take at text) ≤ 67108864 = omega (arith, length-take at text) in
    let some : 0 < length (before ++ (event ∷ [])) = omega (arith, length-append before (event ∷ [])) in record {
      front = take at text;
      rest = drop at text;
      whole = sym (take-append-drop at text);
      few = few;
      events = subst HasEvents (sym (gives-alone (take at text) lines count (before ++ (event ∷ [])) gives short)) some;
    }
