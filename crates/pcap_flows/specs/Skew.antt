-- The skew of two paths: the delays of the packets of one behind the same ones on the other (SMPTE ST 2022-7).
use Rattle.std.specs.Prelude.{◌≡◌, ℕ, ◌/◌, Bool, true, false, ℤ, pos, ◌-ℤ◌, int_lt, List, [], ◌∷◌, length, replicate, slice_index_or, Option, Some, None, unwrap_or, is_some, ◌==◌, if◌then◌else◌}
use Rattle.std.specs.Int.{w64, saturate_signed}
use Rattle.std.specs.List.Sorted.{IsPermutation, IsSorted}
use Rattle.std.specs.Ordering.{int_cmp}
use Rattle.pcap_flows.specs.declared.skew.Skew.{Skew}
use Rattle.pcap_flows.specs.declared.skew.Times.{Times}
use Rattle.pcap_flows.specs.declared.skew.DelayBounds.{DelayBounds}

-- the delay of the second path's packet behind the first path's, in nanoseconds; negative if the second is earlier, and
-- at most what 64 bits with a sign can say
abbrev pub delay_of : ℕ → ℕ → ℤ
delay_of first second = saturate_signed w64 (pos second -ℤ pos first)

-- the least, the median and the greatest of delays in ascending order; the median of an even number of delays is the
-- lower of the middle two
abbrev pub skew_in : List ℤ → Option Skew
skew_in [] = None
skew_in (delay ∷ more) = Some (record {
  least = delay;
  median = slice_index_or (delay ∷ more) (length more / 2) delay;
  greatest = slice_index_or (delay ∷ more) (length more) delay;
  is_part = false;
})

-- the lesser and the greater of two delays
abbrev pub lesser : ℤ → ℤ → ℤ
lesser one other = if int_lt other one then other else one

abbrev pub greater : ℤ → ℤ → ℤ
greater one other = if int_lt one other then other else one

-- the bounds of delays with one more
abbrev pub bounds_with : Option DelayBounds → ℤ → DelayBounds
bounds_with None delay = record { least = delay; greatest = delay }
bounds_with (Some bounds) delay = record { least = lesser bounds.least delay; greatest = greater bounds.greatest delay }

-- the skew of some delays, and of others of which only the bounds are known: the median is that of the first alone
abbrev pub skew_within : Option DelayBounds → Option Skew → Option Skew
skew_within None skew = skew
skew_within (Some bounds) None = None
skew_within (Some bounds) (Some skew) = Some (record {
  least = lesser skew.least bounds.least;
  median = skew.median;
  greatest = greater skew.greatest bounds.greatest;
  is_part = true;
})

-- the skew is that of these delays, in whichever order they came, and of others with these bounds
pub record IsSkewOf (delays : List ℤ) (others : Option DelayBounds) (skew : Option Skew) : Type 0 where
  pub in_order : List ℤ
  pub same : IsPermutation delays in_order
  pub ascending : IsSorted int_cmp in_order
  pub is : skew ≡ skew_within others (skew_in in_order)

-- no packet with a number yet
abbrev pub no_times : ℕ → Times
no_times number = record { number = number; first = None; second = None }

-- no packet with any 16 bits
unfoldable pub no_numbers : List Times
no_numbers = replicate 65_536 (no_times 0)

-- the times of a number; another number with the same 16 bits takes its place
abbrev pub times_for : Times → ℕ → Times
times_for times number = if times.number == number then times else no_times number

-- the times with that of a packet on the first path or on the second; the first packet on a path counts
abbrev pub times_with : Times → Bool → ℕ → Times
times_with times true time = record { number = times.number; first = Some (unwrap_or times.first time); second = times.second }
times_with times false time = record { number = times.number; first = times.first; second = Some (unwrap_or times.second time) }

-- the delay that times of both paths have
abbrev pub delay_between : Option ℕ → Option ℕ → Option ℤ
delay_between None second = None
delay_between (Some first) None = None
delay_between (Some first) (Some second) = Some (delay_of first second)

abbrev pub delay_in : Times → Option ℤ
delay_in times = delay_between times.first times.second

-- the delay that a packet adds: that of its number, if both paths now have a time and one had none before
abbrev pub delay_added : Times → Times → Option ℤ
delay_added before after = if is_some (delay_in before) then None else delay_in after
