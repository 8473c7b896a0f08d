use Rattle.std.proofs.Common.{◌≡◌, ℕ, List, map, Ok}
use Rattle.pcap_file.specs.Entries.{Entry}
use Rattle.pcap_file.specs.ReadBuffer.{octets_of}
use Rattle.pcap_file.specs.Reader.{HasReturned, packets_among}
use Rattle.pcap_flows.specs.PairTimes.{PairView, pair_view}
use Rattle.pcap_flows.specs.CaptureSkews.{HasPairs, pairs_after}
use Rattle.pcap_flows.proofs.capture_skews.add_all.Given as goal

-- the pairs have the packets so far
abbrev pub invariant-parts : goal.invariant-parts
invariant-parts g l = (file : List ℕ) (begun : List PairView) (entries : List Entry) → HasReturned file entries (g.R.Read.remaining l.fn.reader) l.fn.parts (octets_of l.fn.window) l.fn.window.ended
    → map pair_view l.fn.times.items ≡ pairs_after begun (map Ok (packets_among entries))
    → HasPairs file (g.R.Read.remaining l.reader) begun (map pair_view l.times.items) l.parts (octets_of l.window) l.window.ended
