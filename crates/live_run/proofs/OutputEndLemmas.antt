-- The ends of a run's outputs, without the task of its page, which is an output that takes nothing of the run.
use Rattle.std.proofs.Common.{◌≡◌, ◌∙◌, Bool, true, false, Option, Some, None, Result, Ok, Err, IfOk, refl, ap}
use Rattle.studio_io.specs.declared.output_kind.OutputKind.{OutputKind}
use Rattle.studio_io.specs.declared.output_state.OutputEnd.{OutputEnd}
use Rattle.run_outputs.specs.Ends.{AreEndsIn, either_end, end_if}
use Rattle.run_outputs.specs.declared.ends.OutputEnds.{OutputEnds}
use Rattle.live_run.specs.declared.fault.LiveFault.{LiveFault}
use Rattle.live_run.specs.declared.run_end.RunEnd.{RunEnd}

-- the parts of a task, each of type N, say no end
abbrev no_end : {N : Type 0} → N → OutputKind → Option OutputEnd
no_end part kind = None

-- so the other part of the outputs says all
next_to_none : {N : Type 0} (part : Option N) (kind : OutputKind) (end : Option OutputEnd) → either_end (end_if no_end part kind) end ≡ end
next_to_none (Some part) kind end = refl
next_to_none None kind end = refl

module _ {N E M : Type 0} (P : Type 0) (events_ended : E → OutputKind → Option OutputEnd) (mix_ended : M → OutputKind → Option OutputEnd) (mix_in : P → Option N × M) where
  -- the end that both parts of the events say, and that both parts of the mix say
  abbrev events_both : Option N × E → OutputKind → Option OutputEnd
  events_both events kind = either_end (end_if no_end events.0 kind) (events_ended events.1 kind)

  abbrev mix_both : P → OutputKind → Option OutputEnd
  mix_both mix kind = either_end (end_if no_end (mix_in mix).0 kind) (mix_ended (mix_in mix).1 kind)

  ends_of : (one_thread : Bool) (ends : OutputEnds) → AreEndsIn one_thread events_both mix_both ends → AreEndsIn one_thread events_ended mix_ended ends
  ends_of true ends h = (
    h.0.1,
    (mix_in h.1).1,
    λ kind. h.2 kind
        ∙ ap (λ end. either_end end (mix_both h.1 kind)) (next_to_none h.0.0 kind (events_ended h.0.1 kind))
        ∙ ap (either_end (events_ended h.0.1 kind)) (next_to_none (mix_in h.1).0 kind (mix_ended (mix_in h.1).1 kind)),
  )
  ends_of false ends h = ((mix_in h.0).1, λ kind. h.1 kind ∙ next_to_none (mix_in h.0).0 kind (mix_ended (mix_in h.0).1 kind))

  pub ends-next-to : (one_thread : Bool) (result : Result RunEnd LiveFault)
      → IfOk result (λ end. AreEndsIn one_thread events_both mix_both end.outputs)
      → IfOk result (λ end. AreEndsIn one_thread events_ended mix_ended end.outputs)
  ends-next-to one_thread (Ok end) h = ends_of one_thread end.outputs h
  ends-next-to one_thread (Err fault) h = h
