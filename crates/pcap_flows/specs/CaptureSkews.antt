-- The skews of pairs of flows, over a whole capture.
use Rattle.std.specs.Prelude.{◌≡◌, ℕ, Bool, List, [], ◌∷◌, ◌++◌, length, map, take, drop, Option, Some, None, Ok, Err}
use Rattle.pcap_file.specs.Capture.{Item}
use Rattle.pcap_file.specs.Entries.{Entry}
use Rattle.pcap_file.specs.Reader.{HasReturned, packets_among}
use Rattle.pcap_file.specs.declared.block_parser.BlockParser.{BlockParser}
use Rattle.pcap_flows.specs.declared.packet.FlowPacket.{FlowPacket}
use Rattle.pcap_flows.specs.declared.pair_times.FlowPair.{FlowPair}
use Rattle.pcap_flows.specs.declared.skew.Skew.{Skew}
use Rattle.pcap_flows.specs.declared.stream_list.StreamList.{StreamList}
use Rattle.pcap_flows.specs.FlowPacket.{flow_packet_of}
use Rattle.pcap_flows.specs.PairTimes.{PairView, pair_begun, pair_with}
use Rattle.pcap_flows.specs.Skew.{IsSkewOf}

-- pairs after one more packet of a capture; one that is no RTP changes nothing
abbrev pub pairs_told : List PairView → Option FlowPacket → List PairView
pairs_told pairs None = pairs
pairs_told pairs (Some packet) = map (λ pair. pair_with pair packet) pairs

-- pairs after one item of a capture
abbrev pub pairs_with : List PairView → Item → List PairView
pairs_with pairs (Ok packet) = pairs_told pairs (flow_packet_of packet)
pairs_with pairs (Err fault) = pairs

-- pairs after these items of a capture, one after the other
unfoldable pub pairs_after : List PairView → List Item → List PairView
pairs_after pairs [] = pairs
pairs_after pairs (item ∷ items) = pairs_after (pairs_with pairs item) items

-- the pairs, first as `begun`, are those after the packets among the entries that were returned
pub record HasPairs (file : List ℕ) (left : Option (List ℕ)) (begun pairs : List PairView) (parts : BlockParser) (held : List ℕ) (ended : Bool) : Type 0 where
  pub entries : List Entry
  pub told : HasReturned file entries left parts held ended
  pub seen : pairs ≡ pairs_after begun (map Ok (packets_among entries))

-- there is one skew for each pair, that of its delays
abbrev pub AreSkewsOf : List PairView → List (Option Skew) → Type 0
AreSkewsOf [] [] = Unit {0}
AreSkewsOf [] (skew ∷ skews) = ⊥
AreSkewsOf (pair ∷ pairs) [] = ⊥
AreSkewsOf (pair ∷ pairs) (skew ∷ skews) = IsSkewOf pair.delays pair.others skew × AreSkewsOf pairs skews

-- the skews of these pairs were appended
pub record AppendsSkews (pairs : List PairView) (old new : List (Option Skew)) : Type 0 where
  pub skews : List (Option Skew)
  pub appended : new ≡ old ++ skews
  pub are : AreSkewsOf pairs skews

-- the next pairs of a list, at most 16, whose skews are still to be measured, before their first packets
abbrev pub next_pairs : StreamList → List PairView
next_pairs list = map pair_begun (take 16 (drop (length list.skews.items) list.pairs.items))

-- the skews of a list's next pairs were measured over these items of a capture
pub record Measures (items : List Item) (old new : StreamList) : Type 0 where
  pub pairs : new.pairs ≡ old.pairs
  pub skews : AppendsSkews (pairs_after (next_pairs old) items) old.skews.items new.skews.items
