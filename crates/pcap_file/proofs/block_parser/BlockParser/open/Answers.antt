use Rattle.std.proofs.Common.{List, ℕ, ◌++◌, drop, sym, ap, ◌∙◌}
use Rattle.pcap_file.specs.declared.cursor.Format.TheVariants as format
use Rattle.pcap_file.specs.Section.{SectionView}
use Rattle.pcap_file.specs.Capture.{packets_from}
use Rattle.pcap_file.specs.Entries.{entries_from}
use Rattle.pcap_file.specs.Described.{texts_from}
use Rattle.pcap_file.proofs.DescribedLemmas.{texts_pcap, texts_pcapng}
use Rattle.pcap_file.proofs.EntryLemmas.{listed_pcap, listed_pcapng}
use Rattle.pcap_file.proofs.BlockParserLemmas.{opened_none, opened_pcap, opened_pcapng}
use Rattle.pcap_file.proofs.block_parser.BlockParser.open.Goals as goal

pub returns-then-is_pcapng-clause-parts : goal.returns-then-is_pcapng-clause-parts
returns-then-is_pcapng-clause-parts c = λ rest enough.
    let front : List ℕ = c.args.front.now in
    opened_pcapng front rest (sym c.if-is_pcapng.ensures) enough
    ∙ ap (λ (section : SectionView). packets_from (record { format = format.Pcapng; section = section }) 0 (front ++ rest)) (sym c.new.ensures)

pub returns-then-is_pcapng-clause-entries : goal.returns-then-is_pcapng-clause-entries
returns-then-is_pcapng-clause-entries c = λ rest enough.
    let front : List ℕ = c.args.front.now in
    listed_pcapng front rest (sym c.if-is_pcapng.ensures) enough
    ∙ ap (λ (section : SectionView). entries_from (record { format = format.Pcapng; section = section }) (front ++ rest)) (sym c.new.ensures)

pub returns-in-Ok-clause-entries : goal.returns-in-Ok-clause-entries
returns-in-Ok-clause-entries c = λ rest enough.
    let front : List ℕ = c.args.front.now in
    listed_pcap front rest c.in-Ok.pcap (sym c.if-is_pcapng.ensures) (sym c.in-Ok.ensures.header) enough
    ∙ ap (λ (section : SectionView). entries_from (record { format = format.Pcap c.in-Ok.pcap; section = section }) (drop 24 (front ++ rest))) (sym c.new-in-Ok.ensures)

pub returns-in-Ok-clause-parts : goal.returns-in-Ok-clause-parts
returns-in-Ok-clause-parts c = λ rest enough.
    let front : List ℕ = c.args.front.now in
    opened_pcap front rest c.in-Ok.pcap (sym c.if-is_pcapng.ensures) (sym c.in-Ok.ensures.header) enough
    ∙ ap (λ (section : SectionView). packets_from (record { format = format.Pcap c.in-Ok.pcap; section = section }) 24 (drop 24 (front ++ rest))) (sym c.new-in-Ok.ensures)

pub returns-in-Err-clause-fault : goal.returns-in-Err-clause-fault
returns-in-Err-clause-fault c = λ rest enough.
    opened_none c.args.front.now rest c.in-Err.kind (sym c.if-is_pcapng.ensures) (sym c.in-Err.ensures.header) enough

pub returns-then-is_pcapng-clause-texts : goal.returns-then-is_pcapng-clause-texts
returns-then-is_pcapng-clause-texts c = λ rest enough.
    let front : List ℕ = c.args.front.now in
    texts_pcapng front rest (sym c.if-is_pcapng.ensures) enough
    ∙ ap (λ (section : SectionView). texts_from (record { format = format.Pcapng; section = section }) (front ++ rest)) (sym c.new.ensures)

pub returns-in-Ok-clause-texts : goal.returns-in-Ok-clause-texts
returns-in-Ok-clause-texts c = λ rest enough.
    let front : List ℕ = c.args.front.now in
    texts_pcap front rest c.in-Ok.pcap (sym c.if-is_pcapng.ensures) (sym c.in-Ok.ensures.header) enough
    ∙ ap (λ (section : SectionView). texts_from (record { format = format.Pcap c.in-Ok.pcap; section = section }) (drop 24 (front ++ rest))) (sym c.new-in-Ok.ensures)
