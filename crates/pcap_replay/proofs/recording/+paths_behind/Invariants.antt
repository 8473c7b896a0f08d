use Rattle.std.proofs.Common.{length}
use Rattle.pcap_replay.proofs.recording.+paths_behind.Given as goal

-- each call has fewer streams
abbrev pub decreases-paths_behind : goal.decreases-paths_behind
decreases-paths_behind l = length l.streams.now
