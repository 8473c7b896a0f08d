-- Worked cases of the first output of a run that ended by a fault.
use Rattle.std.specs.Prelude.{◌≡◌, [], ◌∷◌, Some, None, refl}
use Rattle.studio_io.specs.declared.output_kind.OutputKind.TheVariants.{Record, Wav, Pcm}
use Rattle.studio_io.specs.declared.output_kind.TheConstants.{OUTPUT_KINDS}
use Rattle.studio_io.specs.declared.output_state.OutputCounts.{OutputCounts}
use Rattle.studio_io.specs.declared.output_state.OutputEnd.TheVariants.{Write, Slow, Closed}
use Rattle.studio_io.specs.declared.output_state.OutputState.TheVariants.{Writing, Ended}
use Rattle.studio_io.specs.declared.output_states.OutputStates.{OutputStates}
use Rattle.run_outputs.specs.Ends.{first_fault_in}
use Rattle.run_outputs.specs.declared.ends.OutputEnds.{OutputEnds}

-- WAV was written to its end, and the reader of raw PCM went away
abbrev states : OutputCounts → OutputStates
states counts = record { by_kind = Ended counts Write ∷ Writing counts ∷ Ended counts Closed ∷ [] }

-- the run's own part of WAV was too slow: that comes before the state of raw PCM, and a reader that went away is no fault

slow : (counts : OutputCounts) (ends : OutputEnds) → ends.record ≡ None → ends.wav ≡ Some Slow → first_fault_in (Wav ∷ Pcm ∷ []) ends (states counts) ≡ Some (Wav, Slow)
unfolding first_fault_in
slow counts ends none is = rw is refl

closed : (counts : OutputCounts) (ends : OutputEnds) → ends.pcm ≡ None → first_fault_in (Pcm ∷ []) ends (states counts) ≡ None
unfolding first_fault_in
closed counts ends none = rw none refl

-- where the run's own part says nothing, the state does

written : (counts : OutputCounts) (ends : OutputEnds) → ends.record ≡ None → first_fault_in OUTPUT_KINDS ends (states counts) ≡ Some (Record, Write)
unfolding first_fault_in
written counts ends none = rw none refl
