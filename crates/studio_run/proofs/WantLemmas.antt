-- An allocation failure is not a fault of a trace's text.
use Rattle.std.proofs.Common.{ℕ, ◌+◌, List, [], ◌∷◌, Bool, true, false, nat_lt, length, Option, Some, None, Result, Ok, Err, if◌then◌else◌}
use Rattle.std.specs.Prelude.{◌==◌, IfErr, codes}
use Rattle.std.specs.Str.{bytes_eq}
use Rattle.studio_session.specs.Event.{TraceEvent}
use Rattle.studio_run.specs.Fields.{fields_of}
use Rattle.studio_run.specs.Trace.{arrival, arrival_of, arrival_on, close_of, fields_said, fault_in, is_silent, line_and_rest, line_said, lines_of, lines_said, number_of, octets_of, path_of, prepend, reading, tick_of, trace_events, with_event}
use Rattle.studio_run.specs.declared.trace.fault.TraceFault.{TraceFault}
use Rattle.studio_run.specs.declared.trace.fault.TraceFaultKind.{TraceFaultKind}
use Rattle.studio_run.specs.declared.trace.fault.TraceFaultKind.TheVariants.{TooLong, Cut, Word, Fields, Number, Hex, TooMany, Memory}

-- a kind of fault that a text can have
abbrev pub IsOfText : TraceFaultKind → Type 0
IsOfText TooLong = Unit {0}
IsOfText Cut = Unit {0}
IsOfText Word = Unit {0}
IsOfText Fields = Unit {0}
IsOfText Number = Unit {0}
IsOfText Hex = Unit {0}
IsOfText TooMany = Unit {0}
IsOfText Memory = ⊥

module _ {T F : Type 0} (P : F → Type 0) where
  of_either : (test : Bool) (one other : Result T F) → IfErr one P → IfErr other P → IfErr (if test then one else other) P
  of_either true one other first second = first
  of_either false one other first second = second

of_reading : (time : Option ℕ) → IfErr (reading time) IsOfText
of_reading None = tt
of_reading (Some time) = tt

of_arrival : (path : ℕ) (stream : Option ℕ) (octets : Option (List ℕ)) → IfErr (arrival path stream octets) IsOfText
of_arrival path None octets = tt
of_arrival path (Some stream) None = tt
of_arrival path (Some stream) (Some octets) = tt

of_tick : (fields : List (List ℕ)) → IfErr (tick_of fields) IsOfText
of_tick [] = tt
of_tick (time ∷ []) = of_reading (number_of 9223372036854775807 time)
of_tick (time ∷ more ∷ fields) = tt

of_fields_of_arrival : (path : ℕ) (fields : List (List ℕ)) → IfErr (arrival_of path fields) IsOfText
of_fields_of_arrival path [] = tt
of_fields_of_arrival path (stream ∷ []) = tt
of_fields_of_arrival path (stream ∷ octets ∷ []) = of_arrival path (number_of 15 stream) (octets_of octets)
of_fields_of_arrival path (stream ∷ octets ∷ more ∷ fields) = tt

of_close : (fields : List (List ℕ)) → IfErr (close_of fields) IsOfText
of_close [] = tt
of_close (more ∷ fields) = tt

of_path : (path : Option ℕ) (fields : List (List ℕ)) → IfErr (arrival_on path fields) IsOfText
of_path None fields = tt
of_path (Some path) fields = of_fields_of_arrival path fields

of_fields : (fields : List (List ℕ)) → IfErr (fields_said fields) IsOfText
of_fields [] = tt
of_fields (word ∷ rest) = of_either IsOfText (bytes_eq word (codes "tick")) _ _ (of_tick rest) (of_either IsOfText (bytes_eq word (codes "close")) _ _ (of_close rest) (of_path (path_of word) rest))

of_event : (said : Result TraceEvent TraceFaultKind) → IfErr said IsOfText → IfErr (with_event said) IsOfText
of_event (Ok event) is = tt
of_event (Err kind) is = is

of_line : (line : List ℕ) → IfErr (line_said line) IsOfText
of_line line = of_either IsOfText (is_silent line) _ _ tt (of_event (fields_said (fields_of line)) (of_fields (fields_of line)))

abbrev pub IsFaultOfText : TraceFault → Type 0
IsFaultOfText fault = IsOfText fault.kind

of_more : (events : List TraceEvent) (said : Result (List TraceEvent) TraceFault) → IfErr said IsFaultOfText → IfErr (prepend events said) IsFaultOfText
of_more events (Ok more) is = tt
of_more events (Err fault) is = is

of_rest : (number count : ℕ) (said : Result (Option TraceEvent) TraceFaultKind) (silent given : Result (List TraceEvent) TraceFault) → IfErr said IsOfText → IfErr silent IsFaultOfText → IfErr given IsFaultOfText → IfErr (line_and_rest number count said silent given) IsFaultOfText
of_rest number count (Err kind) silent given is first second = is
of_rest number count (Ok None) silent given is first second = first
of_rest number count (Ok (Some event)) silent given is first second = of_either IsFaultOfText (nat_lt count 1000000) _ _ (of_more (event ∷ []) given second) tt

of_lines : (number count : ℕ) (lines : List (List ℕ)) → IfErr (lines_said number count lines) IsFaultOfText
of_lines number count [] = tt
of_lines number count (last ∷ []) = of_either IsFaultOfText (nat_lt 4096 (length last)) _ _ tt (of_either {T = List TraceEvent} IsFaultOfText (length last == 0) (Ok []) (Err (fault_in number Cut)) tt tt)
of_lines number count (line ∷ next ∷ more) =
    of_either IsFaultOfText (nat_lt 4096 (length line)) _ _ tt (of_rest number count (line_said line) _ _ (of_line line) (of_lines (number + 1) count (next ∷ more)) (of_lines (number + 1) (count + 1) (next ∷ more)))

-- the fault of a trace is one of its text
pub of_trace : (trace : List ℕ) → IfErr (trace_events trace) IsFaultOfText
of_trace trace = of_either IsFaultOfText (nat_lt 67108864 (length trace)) _ _ tt (of_lines 1 0 (lines_of trace))
