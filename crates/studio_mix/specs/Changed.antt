-- A studio with one or more further changes of gains.
use Rattle.std.specs.Prelude.{ℤ, List, [], ◌∷◌, map, Option}
use Rattle.gain_mix.specs.Changes.{Changes, with_change}
use Rattle.gain_mix.specs.Gain.{rows_of}
use Rattle.gain_mix.specs.LiveSchedule.{change_fault_of}
use Rattle.gain_mix.specs.declared.live_schedule.ChangeFault.{ChangeFault}
use Rattle.mix_packets.specs.Block.{block_start}
use Rattle.studio_config.specs.Studio.{Studio, channel_total}
use Rattle.studio_mix.specs.Mixer.{MixerState}

-- the same studio, but from `at` on these rows are in force
abbrev pub with_rows : Studio → ℤ → List (List ℤ) → Studio
with_rows studio at rows = record studio { schedule = with_change studio.schedule at rows }

-- the same studio, but from `at` on these gains are in force, row by row
abbrev pub with_gains : Studio → ℤ → List ℤ → Studio
with_gains studio at gains = with_rows studio at (rows_of (channel_total studio.streams) studio.output.channels gains)

-- why a mixer refuses a change; a change may not begin before the next block, since earlier blocks were returned
abbrev pub gains_fault_of : MixerState → ℤ → List ℤ → Option ChangeFault
gains_fault_of mixer at gains = change_fault_of mixer.schedule (block_start mixer.packer.spec mixer.packer.number) at gains

-- a change of a studio's gains, with the gains divided into rows
abbrev pub rows_in : Studio → ℤ × List ℤ → ℤ × List (List ℤ)
rows_in studio change = (change.0, rows_of (channel_total studio.streams) studio.output.channels change.1)

-- a schedule with these changes, one after another
abbrev pub with_each : Changes → List (ℤ × List (List ℤ)) → Changes
with_each schedule [] = schedule
with_each schedule (change ∷ more) = with_each (with_change schedule change.0 change.1) more

-- the same studio, but with these changes of gains, one after another
abbrev pub with_changes : Studio → List (ℤ × List ℤ) → Studio
with_changes studio changes = record studio { schedule = with_each studio.schedule (map (rows_in studio) changes) }
