-- Captures that are no records, and records whose changes are skipped, change no gains.
use Rattle.std.proofs.Common.{◌≡◌, ◌+◌, ◌-◌, ℕ, Bool, true, false, nat_lt, ◌==◌, List, [], ◌∷◌, ◌++◌, Option, Some, None, if◌then◌else◌, refl, ap, ◌∙◌}
use Rattle.pcap_file.specs.Packet.{PacketView}
use Rattle.pcap_flows.specs.Trace.{route_of}
use Rattle.pcap_flows.specs.declared.routes.Route.{Route}
use Rattle.rtp_stream.specs.declared.stream_spec.Stream.{Stream}
use Rattle.lane_align.specs.Lane.{natural}
use Rattle.studio_config.specs.Studio.{Studio}
use Rattle.pcap_replay.specs.RecordChanges.{changes_of, changes_with}
use Rattle.pcap_replay.specs.Routing.{Flows, places_of, role_at, role_of_route}
use Rattle.pcap_replay.specs.declared.changes.RecordedChanges.TheVariants.{Skipped}
use Rattle.pcap_replay.specs.declared.routing.PacketRole.{PacketRole}
use Rattle.pcap_replay.specs.declared.routing.PacketRole.TheVariants as role

by_route : (packet : PacketView) (route : Option Route) → changes_with 0 packet (role_of_route route) ≡ []
by_route packet None = refl
by_route packet (Some route) = refl

pub flows_change_none : (routes : List Route) (packets : List PacketView) → changes_of (Flows routes) packets ≡ []
flows_change_none routes [] = refl
flows_change_none routes (packet ∷ packets) =
    ap (λ l. l ++ changes_of (Flows routes) packets) (by_route packet (route_of routes packet)) ∙ flows_change_none routes packets

by_if : (b : Bool) (from : ℕ) (packet : PacketView) (one other : PacketRole) → changes_with from packet one ≡ [] → changes_with from packet other ≡ [] → changes_with from packet (if b then one else other) ≡ []
by_if true from packet one other e f = e
by_if false from packet one other e f = f

by_place : (from number : ℕ) (packet : PacketView) (streams : List Stream) (place : ℕ) → changes_with from packet (role_at Skipped number streams place) ≡ []
unfolding role_at
by_place from number packet [] place = by_if (place == 0) from packet role.Passed (role.Arrival (record { stream = number; path = 0 })) refl refl
by_place from number packet (stream ∷ streams) place =
    by_if (nat_lt place stream.paths) from packet (role.Arrival (record { stream = number; path = place })) (role_at Skipped (number + 1) streams (place - stream.paths)) refl
    (by_place from (number + 1) packet streams (place - stream.paths))

pub skipped_change_none : (studio : Studio) (longest : ℕ) (packets : List PacketView) → changes_of (places_of studio Skipped longest) packets ≡ []
skipped_change_none studio longest [] = refl
skipped_change_none studio longest (packet ∷ packets) =
    ap (λ l. l ++ changes_of (places_of studio Skipped longest) packets) (by_place (natural studio.open_at) 0 packet studio.streams packet.interface) ∙ skipped_change_none studio longest packets
