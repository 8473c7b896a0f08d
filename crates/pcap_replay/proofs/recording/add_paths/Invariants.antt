use Rattle.std.proofs.Common.{ℕ, List, map}
use Rattle.pcap_file.specs.ReadBuffer.{octets_of}
use Rattle.pcap_file.specs.Described.{HasDescribed}
use Rattle.pcap_replay.specs.RecordedPaths.{texts_of}
use Rattle.pcap_replay.proofs.recording.add_paths.Given as goal

-- the paths so far are those that the blocks so far describe
abbrev pub invariant-parts : goal.invariant-parts
invariant-parts g l = (file : List ℕ) → HasDescribed file (map texts_of l.fn.paths.items) (g.R.Read.remaining l.fn.reader) l.fn.parts (octets_of l.fn.window) l.fn.window.ended
    → HasDescribed file (map texts_of l.paths.items) (g.R.Read.remaining l.reader) l.parts (octets_of l.window) l.window.ended
