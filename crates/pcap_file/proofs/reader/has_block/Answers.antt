use Rattle.std.proofs.lemmas.Grind.{elements, common_steps}
use Rattle.std.proofs.Common.{sym, ◌∙◌, rules, arith}
use Rattle.std.proofs.lemmas.List.{nil_from_length}
use Rattle.pcap_file.proofs.DescribedLemmas.{described_end}
use Rattle.pcap_file.proofs.ReaderLemmas.{none_taken, told_end}
use Rattle.pcap_file.proofs.reader.has_block.Goals as goal

pub returns-then-is_empty-clause-end : goal.returns-then-is_empty-clause-end
returns-then-is_empty-clause-end g c = λ _ file entries told.
    told_end file entries _ _ _ _ (sym c.front.ensures ∙ nil_from_length c.front.result.now (search rules)) c.in_ok-fill.ensures.filled (c.in_ok-fill.ensures.returned file entries told)

pub returns-then-is_empty-clause-none : goal.returns-then-is_empty-clause-none
returns-then-is_empty-clause-none g c = λ _. none_taken _ (sym c.front.ensures ∙ nil_from_length c.front.result.now (search rules))

pub returns-then-is_empty-clause-next : goal.returns-then-is_empty-clause-next
returns-then-is_empty-clause-next c = grind (arith, elements)

pub returns-clause-next : goal.returns-clause-next
returns-clause-next c = grind (arith, common_steps)

pub returns-then-is_empty-clause-all : goal.returns-then-is_empty-clause-all
returns-then-is_empty-clause-all g c = λ _ file texts told.
    described_end file texts _ _ _ _ (sym c.front.ensures ∙ nil_from_length c.front.result.now (search rules)) c.in_ok-fill.ensures.filled (c.in_ok-fill.ensures.described file texts told)
