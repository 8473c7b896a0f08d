-- The times of the packets of two flows, and the delays of one flow behind the other.
use Rattle.std.specs.Prelude.{ℕ, ◌||◌, Bool, ℤ, List, [], ◌∷◌, ◌++◌, length, nat_lt, set, slice_index_or, Option, Some, None, unwrap_or, max, if◌then◌else◌}
use Rattle.pcap_flows.specs.declared.packet.FlowPacket.{FlowPacket}
use Rattle.pcap_flows.specs.declared.pair_times.FlowPair.{FlowPair}
use Rattle.pcap_flows.specs.declared.pair_times.PairTimes.{PairTimes}
use Rattle.pcap_flows.specs.declared.skew.Times.{Times}
use Rattle.pcap_flows.specs.declared.skew.DelayBounds.{DelayBounds}
use Rattle.pcap_flows.specs.FlowPacket.{same_flow}
use Rattle.pcap_flows.specs.ReceivedNumbers.{first_number, number_near}
use Rattle.pcap_flows.specs.Skew.{bounds_with, no_times, no_numbers, times_for, times_with, delay_added}

-- what was seen of a pair: the greatest number so far, for each 16 bits the times of their last number, the first 262,144
-- delays, and the bounds of the others
pub record PairView : Type 0 where
  pub pair : FlowPair
  pub greatest : Option ℕ
  pub times : List Times
  pub delays : List ℤ
  pub others : Option DelayBounds

-- the extended number of a packet
abbrev pub number_after : Option ℕ → ℕ → ℕ
number_after None seq = first_number seq
number_after (Some greatest) seq = number_near greatest seq

-- nothing was seen
abbrev pub pair_begun : FlowPair → PairView
pair_begun pair = record { pair = pair; greatest = None; times = no_numbers; delays = []; others = None }

-- a number was seen
abbrev pub pair_numbered : PairView → ℕ → PairView
pair_numbered p number = record { pair = p.pair; greatest = Some (max (unwrap_or p.greatest number) number); times = p.times; delays = p.delays; others = p.others }

-- a delay is added to those that are kept, or to the bounds of the others
abbrev pub pair_delayed : PairView → Option ℤ → PairView
pair_delayed p None = p
pair_delayed p (Some delay) =
    if nat_lt (length p.delays) 262_144
    then record { pair = p.pair; greatest = p.greatest; times = p.times; delays = p.delays ++ delay ∷ []; others = p.others }
    else record { pair = p.pair; greatest = p.greatest; times = p.times; delays = p.delays; others = Some (bounds_with p.others delay) }

-- a packet's time takes the place of `before`, the times of its number so far
abbrev pub pair_set : PairView → ℕ → Times → Times → PairView
pair_set p seq before after =
    pair_delayed (record { pair = p.pair; greatest = p.greatest; times = set p.times seq after; delays = p.delays; others = p.others }) (delay_added before after)

abbrev pub pair_before : PairView → ℕ → Bool → ℕ → Times → PairView
pair_before p seq on_first time before = pair_set p seq before (times_with before on_first time)

abbrev pub pair_timed : PairView → ℕ → ℕ → Bool → Option ℕ → PairView
pair_timed p number seq on_first None = p
pair_timed p number seq on_first (Some time) = pair_before p seq on_first time (times_for (slice_index_or p.times seq (no_times 0)) number)

-- a packet on the first path or on the second
abbrev pub pair_counting : PairView → FlowPacket → Bool → ℕ → PairView
pair_counting p packet on_first number = pair_timed (pair_numbered p number) number packet.seq on_first packet.time

-- the pair after one more packet; one of neither flow changes nothing
unfoldable pub pair_with : PairView → FlowPacket → PairView
pair_with p packet =
    if same_flow packet.key p.pair.first || same_flow packet.key p.pair.second
    then pair_counting p packet (same_flow packet.key p.pair.first) (number_after p.greatest packet.seq)
    else p

-- the view of the value in the code
abbrev pub pair_view : PairTimes → PairView
pair_view p = record { pair = p.pair; greatest = p.greatest; times = p.times.items; delays = p.delays.items; others = p.others }
