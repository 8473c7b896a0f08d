-- Why the outputs of a run ended before it, as the run's own parts of them say.
use Rattle.std.specs.Prelude.{◌≡◌, Bool, true, false, List, [], ◌∷◌, Option, Some, None}
use Rattle.studio_io.specs.Outputs.{end_of, state_of}
use Rattle.studio_io.specs.declared.output_kind.OutputKind.{OutputKind}
use Rattle.studio_io.specs.declared.output_kind.OutputKind.TheVariants.{Record, Wav, Pcm}
use Rattle.studio_io.specs.declared.output_state.OutputEnd.{OutputEnd}
use Rattle.studio_io.specs.declared.output_state.OutputEnd.TheVariants.{Write, Slow, Unfit, Closed}
use Rattle.studio_io.specs.declared.output_states.OutputStates.{OutputStates}
use Rattle.run_outputs.specs.declared.ends.OutputEnds.{OutputEnds}

-- the end of the output of a kind
abbrev pub end_in : OutputKind → OutputEnds → Option OutputEnd
end_in Record ends = ends.record
end_in Wav ends = ends.wav
end_in Pcm ends = ends.pcm

-- the end that one part of an output says, or else the one that the other part says
abbrev pub either_end : Option OutputEnd → Option OutputEnd → Option OutputEnd
either_end (Some end) other = Some end
either_end None other = other

-- the end that a part says, if there is one
abbrev pub end_if : {O : Type 0} → (O → OutputKind → Option OutputEnd) → Option O → OutputKind → Option OutputEnd
end_if ended (Some output) kind = ended output kind
end_if ended None kind = None

-- an end that is a fault of the output; that its reader went away is none
abbrev pub fault_in : Option OutputEnd → Option OutputEnd
fault_in None = None
fault_in (Some Write) = Some Write
fault_in (Some Slow) = Some Slow
fault_in (Some Unfit) = Some Unfit
fault_in (Some Closed) = None

-- the fault of the output of a kind: by what the run's own parts say, or else by its state, which its writer set
abbrev pub fault_of : OutputEnds → OutputStates → OutputKind → Option OutputEnd
fault_of ends states kind = fault_in (either_end (end_in kind ends) (end_of (state_of kind states)))

-- the output of this kind with its fault, if it has one, or else the other
abbrev pub fault_or : OutputKind → Option OutputEnd → Option (OutputKind × OutputEnd) → Option (OutputKind × OutputEnd)
fault_or kind None other = other
fault_or kind (Some end) other = Some (kind, end)

-- the first output of these kinds that has a fault, with the fault
unfoldable pub first_fault_in : List OutputKind → OutputEnds → OutputStates → Option (OutputKind × OutputEnd)
first_fault_in [] ends states = None
first_fault_in (kind ∷ kinds) ends states = fault_or kind (fault_of ends states kind) (first_fault_in kinds ends states)

module _ {M : Type 0} where
  -- a part of a run's outputs that takes its mix says so
  abbrev pub HasMixEnds : (M → OutputKind → Option OutputEnd) → OutputEnds → Type 0
  HasMixEnds ended ends = (mix : M) × ((kind : OutputKind) → end_in kind ends ≡ ended mix kind)

module _ {E M : Type 0} where
  -- these two parts of a run's outputs say so: the one that takes its events, and the one that takes its mix
  abbrev pub AreEndsOf : (E → OutputKind → Option OutputEnd) → (M → OutputKind → Option OutputEnd) → E → M → OutputEnds → Type 0
  AreEndsOf events_ended mix_ended events mix ends = (kind : OutputKind) → end_in kind ends ≡ either_end (events_ended events kind) (mix_ended mix kind)

  -- the parts of its outputs that a run returned say so; a run by workers returns none that takes events
  abbrev pub AreEndsIn : Bool → (E → OutputKind → Option OutputEnd) → (M → OutputKind → Option OutputEnd) → OutputEnds → Type 0
  AreEndsIn true events_ended mix_ended ends = (events : E) × (mix : M) × AreEndsOf events_ended mix_ended events mix ends
  AreEndsIn false events_ended mix_ended ends = HasMixEnds mix_ended ends
