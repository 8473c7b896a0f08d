-- Worked cases of the causes of a replay's faults, computed.
use Rattle.std.specs.Prelude.{◌≡◌, ℕ, ℤ, pos, List, [], ◌∷◌, Some, None, true, false, refl}
use Rattle.std.proofs.Common.{arith}
use Rattle.pcap_flows.specs.declared.import.clock.CaptureClock.{CaptureClock}
use Rattle.studio_mix.specs.Mixer.{MixerState}
use Rattle.pcap_replay.specs.Causes.{IsLongStep, count_on, fits_time, refusal_of}
use Rattle.pcap_replay.specs.Record.{place_with}
use Rattle.pcap_replay.specs.declared.fault.RecordedChangeFault.TheVariants as refusal

abbrev clock_at : ℕ → CaptureClock
clock_at reading = record { origin = None; reading = reading }

-- from 10 s on the clock may move on by 5 s: a step of 5 s and one sampling instant is too long, and has 6 s
a_step_is_rounded_up : IsLongStep 240000 (clock_at 480000) (clock_at 720001) 6
a_step_is_rounded_up = record { long = omega arith; rounded = refl }

-- one of whole seconds is not rounded
whole_seconds_stay : IsLongStep 240000 (clock_at 480000) (clock_at 768000) 6
whole_seconds_stay = record { long = omega arith; rounded = refl }

-- a step of just the longest is no fault
the_longest_is_allowed : (seconds : ℕ) → IsLongStep 240000 (clock_at 480000) (clock_at 720000) seconds → ⊥
the_longest_is_allowed seconds is = let long = is.long in omega (arith, long)

-- two changes after the first are the second and the third
changes_count_on : (first second : ℤ × List ℤ) → count_on 1 (first ∷ second ∷ []) ≡ 3
changes_count_on first second = refl

-- the count stays at the greatest number
changes_count_no_further : (change : ℤ × List ℤ) → count_on 18446744073709551615 (change ∷ []) ≡ 18446744073709551615
changes_count_no_further change = refl

-- times that fit 64 bits, and the first that does not
times_fit : fits_time 48000 (pos 9223372036854727807) ≡ true
times_fit = refl

a_late_time_does_not : fits_time 48000 (pos 9223372036854727808) ≡ false
a_late_time_does_not = refl

-- octets that are no change are refused by every mixer
no_change_is_refused : (mixer : MixerState) → refusal_of mixer 0 None ≡ Some refusal.Octets
no_change_is_refused mixer = refl

-- a change whose time does not fit is refused for its time, whatever its gains are
late_change_is_refused : (mixer : MixerState) (gain : ℤ) → refusal_of mixer 48000 (Some (record { at = pos 9223372036854727808; next_block = 0; gains = gain ∷ [] })) ≡ Some refusal.Time
late_change_is_refused mixer gain = refl

-- the first mark of a close is at octet 24, and another one behind it does not count
the_first_close_is_placed : place_with None 0 24 ≡ 24
the_first_close_is_placed = refl

later_closes_do_not_count : (time : ℕ) → place_with (Some time) 24 100 ≡ 24
later_closes_do_not_count time = refl
