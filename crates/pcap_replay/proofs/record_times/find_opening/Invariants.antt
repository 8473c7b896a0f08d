use Rattle.std.proofs.Common.{[], ℕ, List}
use Rattle.pcap_file.specs.ReadBuffer.{octets_of}
use Rattle.pcap_file.specs.Reader.{HasReturned}
use Rattle.pcap_replay.proofs.record_times.find_opening.Given as goal

-- no entry was returned so far
abbrev pub invariant-parts : goal.invariant-parts
invariant-parts g l = (file : List ℕ) → HasReturned file [] (g.R.Read.remaining l.fn.reader) l.fn.parts (octets_of l.fn.window) l.fn.window.ended
    → HasReturned file [] (g.R.Read.remaining l.reader) l.parts (octets_of l.window) l.window.ended
