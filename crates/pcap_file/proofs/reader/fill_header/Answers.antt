use Rattle.std.proofs.Common.{length, sym, subst, ◌≤◌, ◌<◌, ◌≡◌, ◌∙◌, false, true, arith}
use Rattle.pcap_file.specs.ReadBuffer.{octets_of}
use Rattle.pcap_file.proofs.ReaderLemmas.{header_more, lent_few, lent_header, longer_by}
use Rattle.pcap_file.proofs.reader.fill_header.Goals as goal

pub returns-then-front-ge-FILE_HEADER-clause-ok : goal.returns-then-front-ge-FILE_HEADER-clause-ok
returns-then-front-ge-FILE_HEADER-clause-ok g c =
    let inv = c.reads.invariant in
    record {
      read = inv.read;
      few = omega (arith, inv.few);
      enough = λ _. lent_header (octets_of c.reads.window) (subst (λ f. 24 ≤ length f) c.front.ensures c.if-front-ge-FILE_HEADER.true);
      end = λ e. absurd (let f : false ≡ true = sym inv.going ∙ e in cc);
    }

pub reads-preserved : goal.reads-preserved
reads-preserved g c =
    let inv = c.reads.invariant in
    let reads = c.in_ok-read_more.ensures.ok in
    let few : length (octets_of c.reads.window) < 24 = lent_few (octets_of c.reads.window) (subst (λ f. length f < 24) c.front.ensures c.if-front-ge-FILE_HEADER.false) in
    let by = longer_by _ _ _ _ _ reads in
    let going : c.read_more.new.self.ended ≡ false = sym c.is_ended.ensures ∙ c.if-is_ended.false in
    record {
      read = header_more _ _ _ _ _ _ inv.read reads;
      few = omega (arith, few, by, reads.few);
      some = omega (arith, inv.some, by, reads.some going);
      going = going;
    }
