use Rattle.std.proofs.Common.{◌≡◌, ◌-◌, List, ℕ, length, take, drop, sym, ap, ◌∙◌, false}
use Rattle.std.proofs.lemmas.List.{take_rest}
use Rattle.pcap_file.specs.declared.cursor.Format.TheVariants as format
use Rattle.pcap_file.specs.Section.{SectionView, no_section}
use Rattle.pcap_file.specs.Capture.{packets_from, is_pcapng}
use Rattle.pcap_file.proofs.CaptureLemmas.{packets_of-pcap}
use Rattle.pcap_file.proofs.capture.open.Goals as goal

pub returns-in-Ok-clause-packets : goal.returns-in-Ok-clause-packets
returns-in-Ok-clause-packets c =
    let octets : List ℕ = c.args.octets.now in
    let other : is_pcapng octets ≡ false = sym c.if-is_pcapng.ensures in
    let behind = λ (section : SectionView) (rest : List ℕ). packets_from (record { format = format.Pcap c.in-Ok.pcap; section = section }) 24 rest in
    ap (λ section. behind section (take (length octets - 24) (drop 24 octets))) c.new-in-Ok.ensures
    ∙ ap (behind no_section) (take_rest octets 24)
    ∙ sym (packets_of-pcap octets c.in-Ok.pcap other (sym c.in-Ok.ensures.header))
