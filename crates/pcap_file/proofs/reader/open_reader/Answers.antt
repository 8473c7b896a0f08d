use Rattle.std.proofs.Common.{◌≤◌, ◌≡◌, ◌∙◌, [], length, drop, ap, sym, subst}
use Rattle.pcap_file.specs.ReadBuffer.{octets_of}
use Rattle.pcap_file.specs.Reader.{HasReturned}
use Rattle.pcap_file.specs.Described.{HasDescribed}
use Rattle.pcap_file.proofs.DescribedLemmas.{described_open}
use Rattle.pcap_file.proofs.ReaderLemmas.{fault_open, lent_within, some_of, told_open}
use Rattle.pcap_file.proofs.reader.open_reader.Goals as goal

pub consume-requires : goal.consume-requires
consume-requires g c =
    subst (λ n. n ≤ length (octets_of c.fill_header.new.window)) (sym c.place.ensures)
    (lent_within (octets_of c.fill_header.new.window) c.in-Ok.parts.place (subst (λ f. c.in-Ok.parts.place ≤ length f) c.front.ensures c.in-Ok.ensures.place))

pub returns-in-Ok-clause-returned : goal.returns-in-Ok-clause-returned
returns-in-Ok-clause-returned g c =
    let held = octets_of c.fill_header.new.window in
    let left = g.R.Read.remaining c.fill_header.new.reader in
    let parts = c.in-Ok.parts in
    let octets : octets_of c.consume.new.self ≡ drop parts.place held = c.consume.ensures.octets ∙ ap (λ n. drop n held) c.place.ensures in
    some_of (g.R.Read.remaining c.args.reader.now) _ (λ file is.
    subst (λ h. HasReturned file [] left parts h c.consume.new.self.ended) (sym octets)
    (subst (λ e. HasReturned file [] left parts (drop parts.place held) e) (sym c.consume.ensures.ended)
    (told_open file (g.R.Read.remaining c.args.reader.now) left parts held c.fill_header.new.window.ended c.front.result.now c.front.ensures is c.in_ok-fill_header.ensures.ok
    c.in-Ok.ensures.parts c.in-Ok.ensures.entries c.in-Ok.ensures.place)))

pub returns-in-Err-clause-fault : goal.returns-in-Err-clause-fault
returns-in-Err-clause-fault g c =
    some_of (g.R.Read.remaining c.args.reader.now) _ (λ file is.
    fault_open file _ _ _ _ c.in-Err.fault c.front.result.now c.front.ensures is c.in_ok-fill_header.ensures.ok c.in-Err.ensures.fault)

pub returns-in-Ok-clause-described : goal.returns-in-Ok-clause-described
returns-in-Ok-clause-described g c =
    let held = octets_of c.fill_header.new.window in
    let left = g.R.Read.remaining c.fill_header.new.reader in
    let parts = c.in-Ok.parts in
    let octets : octets_of c.consume.new.self ≡ drop parts.place held = c.consume.ensures.octets ∙ ap (λ n. drop n held) c.place.ensures in
    some_of (g.R.Read.remaining c.args.reader.now) _ (λ file is.
    subst (λ h. HasDescribed file [] left parts h c.consume.new.self.ended) (sym octets)
    (subst (λ e. HasDescribed file [] left parts (drop parts.place held) e) (sym c.consume.ensures.ended)
    (described_open file (g.R.Read.remaining c.args.reader.now) left parts held c.fill_header.new.window.ended c.front.result.now c.front.ensures is c.in_ok-fill_header.ensures.ok
    c.in-Ok.ensures.texts c.in-Ok.ensures.place)))
