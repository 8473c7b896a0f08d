use Rattle.pcap_file.proofs.DescribedLemmas.{described_more}
use Rattle.pcap_file.proofs.ReaderLemmas.{told_more}
use Rattle.pcap_file.proofs.reader.fill.Goals as goal

pub reads-preserved : goal.reads-preserved
reads-preserved g c = record {
  told = λ file entries told. told_more file entries _ _ _ _ _ _ _ (c.reads.invariant.told file entries told) c.in_ok-read_more.ensures.ok;
  described = λ file texts told. described_more file texts _ _ _ _ _ _ _ (c.reads.invariant.described file texts told) c.in_ok-read_more.ensures.ok;
}
