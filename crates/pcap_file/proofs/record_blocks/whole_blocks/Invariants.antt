use Rattle.std.proofs.Common.{◌-◌, length}
use Rattle.pcap_file.proofs.WholeBlocksLemmas.{HasPassed}
use Rattle.pcap_file.proofs.record_blocks.whole_blocks.Given as goal

-- the blocks so far are the first
abbrev pub invariant-loop-is_datagram : goal.invariant-loop-is_datagram
invariant-loop-is_datagram l = HasPassed l.paths l.octets l.blocks

abbrev pub decreases-loop-is_datagram : goal.decreases-loop-is_datagram
decreases-loop-is_datagram l = length l.octets - l.blocks.len
