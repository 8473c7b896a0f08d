use Rattle.std.proofs.Common.{◌≡◌, map, take}
use Rattle.pcap_flows.specs.PairTimes.{pair_begun, pair_view}
use Rattle.pcap_flows.proofs.stream_list.first_times.Given as goal

-- the pairs before the place, before their first packets
abbrev pub invariant-loop-place : goal.invariant-loop-place
invariant-loop-place l = map pair_view l.times.items ≡ map pair_begun (take l.place l.pairs)
