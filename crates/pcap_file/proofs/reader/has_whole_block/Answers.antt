use Rattle.std.proofs.lemmas.Grind.{elements}
use Rattle.std.proofs.Common.{◌∙◌, inl, inr, sym, arith}
use Rattle.pcap_file.proofs.ReaderLemmas.{ends_whole, ends_cut, told_cut}
use Rattle.pcap_file.proofs.reader.has_whole_block.Goals as goal

pub returns-then-not-branch-clause-end : goal.returns-then-not-branch-clause-end
returns-then-not-branch-clause-end g c = λ _ file entries told. inl (c.in_ok-has_block.ensures.end c.if-not-branch.true file entries told)

pub returns-then-not-branch-clause-cut : goal.returns-then-not-branch-clause-cut
returns-then-not-branch-clause-cut g c = λ _ file entries told.
    ends_whole file entries c.args.parts.now _ (c.in_ok-has_block.ensures.none c.if-not-branch.true) (c.in_ok-has_block.ensures.end c.if-not-branch.true file entries told)

pub returns-then-is_cut-clause-end : goal.returns-then-is_cut-clause-end
returns-then-is_cut-clause-end g c = λ _ file entries told.
    inr (told_cut file entries _ _ _ _ c.front.result.now c.front.ensures (c.in_ok-has_block.ensures.next c.if-not-branch.false) (sym c.is_cut.ensures ∙ c.if-is_cut.true)
    (c.in_ok-has_block.ensures.returned file entries told))

pub returns-then-is_cut-clause-cut : goal.returns-then-is_cut-clause-cut
returns-then-is_cut-clause-cut g c = λ _ file entries told.
    ends_cut file entries _ _ _ _ c.front.result.now c.front.ensures (c.in_ok-has_block.ensures.next c.if-not-branch.false) (sym c.is_cut.ensures ∙ c.if-is_cut.true)
    (c.in_ok-has_block.ensures.returned file entries told)

pub returns-clause-end : goal.returns-clause-end
returns-clause-end c = grind (arith, elements)

pub returns-then-not-branch-clause-next : goal.returns-then-not-branch-clause-next
returns-then-not-branch-clause-next c = grind (arith, elements)

pub returns-clause-cut : goal.returns-clause-cut
returns-clause-cut c = grind (arith, elements)

pub returns-then-is_cut-clause-next : goal.returns-then-is_cut-clause-next
returns-then-is_cut-clause-next c = grind (arith, elements)

pub returns-clause-next : goal.returns-clause-next
returns-clause-next c = grind (arith, elements)
