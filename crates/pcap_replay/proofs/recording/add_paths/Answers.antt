use Rattle.std.proofs.Common.{map, drop, rules, sym}
use Rattle.pcap_file.specs.ReadBuffer.{octets_of}
use Rattle.pcap_replay.specs.RecordedPaths.{texts_of}
use Rattle.pcap_replay.proofs.CaseLemmas.{some_is}
use Rattle.pcap_replay.proofs.RecordedPathLemmas.{consumed_as}
use Rattle.pcap_replay.proofs.recording.add_paths.Goals as goal

pub returns-then-not-branch : goal.returns-then-not-branch
returns-then-not-branch g c = λ file told.
    sym (c.in_ok-has_block.ensures.all (search rules) file _ (c.parts.invariant file told))

-- a next record or block is there
pub add_path-requires : goal.add_path-requires
add_path-requires g c = c.in_ok-has_block.ensures.next (search rules)

pub returns-in-None : goal.returns-in-None
returns-in-None g c = λ file told.
    c.in_ok-len.ensures.all c.in-None.is file _ (c.in_ok-has_block.ensures.described file _ (c.parts.invariant file told))

pub parts-preserved : goal.parts-preserved
parts-preserved g c = λ file told.
    let left = g.R.Read.remaining c.has_block.new.reader in
    let window = c.has_block.new.window in
    let next = some_is c.in_ok-len.field-0 c.in-Some.len _ c.in-Some.is c.in_ok-len.ensures.described file left (c.in_ok-has_block.ensures.described file _ (c.parts.invariant file told)) in
    consumed_as file (map texts_of c.add_path.new.paths.items) left c.add_path.new.parts (drop c.in-Some.len (octets_of window)) (octets_of c.consume.new.self) window.ended c.consume.new.self.ended
    c.consume.ensures.octets c.consume.ensures.ended next
