use Rattle.std.proofs.Common.{◌≡◌, map, take}
use Rattle.pcap_flows.specs.Routes.{route_of_path}
use Rattle.pcap_flows.proofs.routes.routes_for.Given as goal

-- the routes of the paths so far
abbrev pub invariant-loop-place : goal.invariant-loop-place
invariant-loop-place l = l.routes.items ≡ map (route_of_path l.chosen) (take l.place l.chosen)
