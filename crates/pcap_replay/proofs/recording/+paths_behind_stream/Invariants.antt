use Rattle.pcap_replay.proofs.recording.+paths_behind_stream.Given as goal

-- each call has one path less
abbrev pub decreases-paths_behind_stream : goal.decreases-paths_behind_stream
decreases-paths_behind_stream l = l.count
