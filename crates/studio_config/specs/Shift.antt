-- A studio that opens at another time. Its other times move by as much, but for those of an output by the media clock.
use Rattle.std.specs.Prelude.{ℤ, ◌+ℤ◌, ◌-ℤ◌, List, [], ◌∷◌, Option, None, map}
use Rattle.gain_mix.specs.Changes.{Changes}
use Rattle.gain_mix.specs.Schedule.{has_times}
use Rattle.mix_packets.specs.Aligned.{aligned}
use Rattle.mix_packets.specs.OutSpec.{is_start}
use Rattle.mix_packets.specs.declared.out_spec.Output.{Output}
use Rattle.studio_config.specs.Studio.{Studio}
use Rattle.studio_config.specs.Rows.{first_in, at_key, range_fault}
use Rattle.studio_config.specs.declared.output_clock.OutputClock.{OutputClock}
use Rattle.studio_config.specs.declared.output_clock.OutputClock.TheVariants.{Run, Media}
use Rattle.studio_config.specs.declared.config.keys.Key.TheVariants as key
use Rattle.studio_config.specs.declared.config.fault.ConfigTable.TheVariants as place
use Rattle.studio_config.specs.declared.config.fault.SpecError.{SpecError}

-- a change that comes `by` sampling instants later
abbrev pub shifted_change : ℤ → ℤ × List (List ℤ) → ℤ × List (List ℤ)
shifted_change by change = (change.0 +ℤ by, change.1)

-- changes that come `by` sampling instants later
abbrev pub shifted_changes : ℤ → List (ℤ × List (List ℤ)) → List (ℤ × List (List ℤ))
shifted_changes by changes = map (shifted_change by) changes

-- the output of a studio that opens `by` sampling instants later, at this time: by the clock of the run its start moves by
-- as much, and by the media clock it begins at another of its blocks
abbrev pub shifted_output : OutputClock → ℤ → ℤ → Output → Output
shifted_output Run by open_at output = record output { start = output.start +ℤ by }
shifted_output Media by open_at output = aligned open_at output

-- the changes of the gains of that output
abbrev pub shifted_schedule : OutputClock → ℤ → Changes → Changes
shifted_schedule Run by schedule = record schedule { later = shifted_changes by schedule.later }
shifted_schedule Media by schedule = schedule

-- the studio opened at this time
abbrev pub shifted : ℤ → Studio → Studio
shifted open_at studio =
    let by = open_at -ℤ studio.open_at in
    record studio {
      open_at = open_at;
      output = shifted_output studio.clock by open_at studio.output;
      schedule = shifted_schedule studio.clock by studio.schedule;
    }

-- the fault of an output that starts at this time
abbrev pub start_fault : ℤ → Option SpecError
start_fault start = at_key place.Output key.Start (range_fault (is_start start))

-- the fault of changes at these times
abbrev pub changes_fault : List (ℤ × List (List ℤ)) → Option SpecError
changes_fault changes = at_key place.Output key.Change (range_fault (has_times changes))

-- the fault of changes that moved, which those of an output by the media clock do not
abbrev pub moved_fault : OutputClock → List (ℤ × List (List ℤ)) → Option SpecError
moved_fault Run changes = changes_fault changes
moved_fault Media changes = None

-- the fault of the first of a shifted studio's times that is not from 0 to 2 ^ 60
abbrev pub shift_fault_of : Studio → Option SpecError
shift_fault_of studio =
    first_in (
    at_key place.Top key.OpenAt (range_fault (is_start studio.open_at))
    ∷ start_fault studio.output.start
    ∷ moved_fault studio.clock studio.schedule.later
    ∷ [])
