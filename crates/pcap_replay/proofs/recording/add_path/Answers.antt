use Rattle.std.proofs.Common.{map, sym, ◌∙◌}
use Rattle.pcap_replay.specs.RecordedPaths.{texts_of}
use Rattle.pcap_replay.proofs.RecordedPathLemmas.{described_texts, no_more_texts}
use Rattle.pcap_replay.proofs.recording.add_path.Goals as goal

pub returns-in-Err-clause-all : goal.returns-in-Err-clause-all
returns-in-Err-clause-all c = λ _ file left told. sym (c.in-Err.ensures.all file _ left told)

pub returns-then-is_some-clause-all : goal.returns-then-is_some-clause-all
returns-then-is_some-clause-all c = λ _ file left told.
    no_more_texts file (map texts_of c.args.paths.now.items) left _ _ _ _ c.in-Ok.part.packet (sym c.is_some.ensures ∙ c.if-is_some.true) (c.in-Ok.ensures.described file _ left told)

pub returns-in_ok-add_texts-in-Ok-clause-described : goal.returns-in_ok-add_texts-in-Ok-clause-described
returns-in_ok-add_texts-in-Ok-clause-described c = λ file left told.
    described_texts file (map texts_of c.args.paths.now.items) (map texts_of c.add_texts.new.paths.items) left _ _ _ _ c.in-Ok.part.packet _
    (sym c.is_some.ensures ∙ c.if-is_some.false) (c.interface_texts.ensures.block c.in-Ok.ensures.front) c.in_ok-add_texts-in-Ok.ensures (c.in-Ok.ensures.described file _ left told)
