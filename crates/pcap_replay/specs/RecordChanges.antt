-- The changes of gains in a capture's packets, and the studio with these changes.
use Rattle.std.specs.Prelude.{◌≡◌, ◌⊎◌, ℕ, ℤ, pos, ◌+ℤ◌, List, [], ◌∷◌, ◌++◌, Option, Some, None}
use Rattle.std.specs.List.{flat_map}
use Rattle.pcap_file.specs.Packet.{PacketView}
use Rattle.pcap_file.specs.RecordedChange.{ChangeView, change_of}
use Rattle.pcap_flows.specs.Trace.{octets_of}
use Rattle.studio_config.specs.Studio.{Studio}
use Rattle.studio_mix.specs.Changed.{with_changes}
use Rattle.pcap_replay.specs.Routing.{PlanView, opening_of, role_of}
use Rattle.pcap_replay.specs.declared.routing.PacketRole.{PacketRole}
use Rattle.pcap_replay.specs.declared.routing.PacketRole.TheVariants as role

-- the change in a payload, if it is one: its time counts from an opening
abbrev pub changes_by : ℕ → Option ChangeView → List (ℤ × List ℤ)
changes_by from None = []
changes_by from (Some change) = (pos from +ℤ change.at, change.gains) ∷ []

abbrev pub changes_with : ℕ → PacketView → PacketRole → List (ℤ × List ℤ)
changes_with from packet role.Passed = []
changes_with from packet (role.Arrival target) = []
changes_with from packet role.Change = changes_by from (change_of (octets_of packet.ip.body))

-- the changes in a capture's packets, in their order; only a record has some, and only if they are not skipped
abbrev pub changes_of : PlanView → List PacketView → List (ℤ × List ℤ)
changes_of plan packets = flat_map (λ packet. changes_with (opening_of plan) packet (role_of plan packet)) packets

-- the studio with the changes in these packets
abbrev pub changed_by : Studio → PlanView → List PacketView → Studio
changed_by studio plan packets = with_changes studio (changes_of plan packets)

-- `some` has all of these packets, or all but the last
abbrev pub AreAllButLast : List PacketView → List PacketView → Type 0
AreAllButLast some packets = (packets ≡ some) ⊎ ((packet : PacketView) × (packets ≡ some ++ packet ∷ []))
