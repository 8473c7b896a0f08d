use Rattle.std.proofs.Common.{length, sym, subst, ◌≤◌}
use Rattle.std.proofs.Common.{option_map}
use Rattle.pcap_file.specs.Packet.{packet_view}
use Rattle.pcap_file.specs.ReadBuffer.{octets_of}
use Rattle.pcap_file.proofs.DescribedLemmas.{described_fault, described_next, on_err}
use Rattle.pcap_file.proofs.ReaderLemmas.{err_both, lent_some, lent_within, ok_both, ok_each, told_fault, told_next}
use Rattle.pcap_file.proofs.reader.next_block.Goals as goal

pub next-requires-clause-some : goal.next-requires-clause-some
next-requires-clause-some c = subst (λ f. 1 ≤ length f) (sym c.front.ensures) (lent_some (octets_of c.args.window.now) c.requires.some)

pub returns-clause-len : goal.returns-clause-len
returns-clause-len c = ok_both c.next.result _ _ _ (λ part within _. lent_within (octets_of c.args.window.now) part.len (subst (λ f. part.len ≤ length f) c.front.ensures within.1)) c.next.ensures.len c.next.ensures.len

pub returns-clause-returned : goal.returns-clause-returned
returns-clause-returned c =
    ok_each c.next.result _ _ _ _ (λ part within next lists file entries left.
    told_next file entries left c.args.parts.now c.next.new.self (octets_of c.args.window.now) c.args.window.now.ended part.len (option_map packet_view part.packet) part.mark c.front.result.now c.front.ensures
    c.requires.filled within.1 next lists) c.next.ensures.len c.next.ensures.part c.next.ensures.entries

pub returns-clause-fault : goal.returns-clause-fault
returns-clause-fault c =
    err_both c.next.result _ _ _ (λ fault next lists file entries left.
    told_fault file entries left c.args.parts.now (octets_of c.args.window.now) c.args.window.now.ended fault c.front.result.now c.front.ensures c.requires.filled next lists) c.next.ensures.fault c.next.ensures.no_entry

pub returns-clause-front : goal.returns-clause-front
returns-clause-front c = ok_both c.next.result _ _ _ (λ part within _. subst (λ f. part.len ≤ length f) c.front.ensures within.1) c.next.ensures.len c.next.ensures.len

pub returns-clause-described : goal.returns-clause-described
returns-clause-described c =
    ok_both c.next.result _ _ _ (λ part within texts file before left.
    described_next file before left c.args.parts.now c.next.new.self (octets_of c.args.window.now) c.args.window.now.ended part.len (option_map packet_view part.packet) c.front.result.now c.front.ensures
    c.requires.filled within.1 texts) c.next.ensures.len c.next.ensures.texts

pub returns-clause-all : goal.returns-clause-all
returns-clause-all c =
    on_err c.next.result _ _ (λ none file texts left.
    described_fault file texts left c.args.parts.now (octets_of c.args.window.now) c.args.window.now.ended c.front.result.now c.front.ensures c.requires.filled none) c.next.ensures.no_text
