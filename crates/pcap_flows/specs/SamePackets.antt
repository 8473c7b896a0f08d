-- Flows that carry the same packets (SMPTE ST 2022-7): numbers and timestamps of their common packets agree.
use Rattle.std.specs.Prelude.{ℕ, ◌+◌, Bool, false, List, position, slice_get, option_and_then, Option, Some, None, ◌==◌, ◌&&◌, not}
use Rattle.std.specs.List.{zip, list_any}
use Rattle.pcap_flows.specs.declared.packet.FlowKey.{FlowKey}
use Rattle.pcap_flows.specs.declared.received_numbers.Received.{Received}
use Rattle.pcap_flows.specs.Flow.{FlowView}

-- two packets, of one flow and of another, with the same 16 bits
abbrev pub Pair : Type 0
Pair = Received × Received

-- both packets arrived
abbrev pub both_came : Pair → Bool
both_came pair = not (pair.0.number == 0) && not (pair.1.number == 0)

-- both packets have one timestamp
abbrev pub has_one_stamp : Pair → Bool
has_one_stamp pair = pair.0.ts == pair.1.ts

-- both packets arrived, with one timestamp
abbrev pub is_shared : Pair → Bool
is_shared pair = both_came pair && has_one_stamp pair

-- the numbers of two pairs have the same difference. Each flow counts its cycles from its own first packet, so the
-- numbers of a common packet may differ, but all of them by the same
abbrev pub has_difference_of : Pair → Pair → Bool
has_difference_of base pair = pair.0.number + base.1.number == pair.1.number + base.0.number

-- both packets arrived and are the same packet by that difference, but their timestamps differ
abbrev pub contradicts : Pair → Pair → Bool
contradicts base pair = both_came pair && has_difference_of base pair && not (has_one_stamp pair)

abbrev pub both : Option Received → Option Received → Option Pair
both None other = None
both (Some one) None = None
both (Some one) (Some other) = Some (one, other)

-- the packets of both flows with these 16 bits
abbrev pub pair_at : List Received → List Received → ℕ → Option Pair
pair_at ones others seq = both (slice_get ones seq) (slice_get others seq)

-- the first packet in common
abbrev pub first_shared : List Received → List Received → Option Pair
first_shared ones others = option_and_then (pair_at ones others) (position is_shared (zip ones others))

abbrev pub agree_from : List Pair → Option Pair → Bool
agree_from pairs None = false
agree_from pairs (Some base) = not (list_any (contradicts base) pairs)

-- the flows have a packet in common, and no packet contradicts it
abbrev pub agree : List Received → List Received → Bool
agree ones others = agree_from (zip ones others) (first_shared ones others)

-- two flows of one source and payload type whose common packets agree
abbrev pub carry_same_packets : FlowKey → FlowView → FlowKey → FlowView → Bool
carry_same_packets key flow other_key other =
    (key.ssrc == other_key.ssrc) && (key.pt == other_key.pt) && agree flow.numbers.last_seen other.numbers.last_seen
