use Rattle.std.proofs.Common.{◌∙◌, ◌==◌, ◌&&◌, nat_lt, ap, inl, inr}
use Rattle.pcap_file.specs.Octets.{number_at}
use Rattle.pcap_file.specs.declared.decode.endian.Endian.TheVariants.{Little}
use Rattle.pcap_file.proofs.WholeBlocksLemmas.{cut_none, datagram_front, is_block, wrong_none}
use Rattle.pcap_file.proofs.record_blocks.block_at.Goals as goal

pub returns-then-len-lt-MIN_BLOCK_LEN-clause-none : goal.returns-then-len-lt-MIN_BLOCK_LEN-clause-none
returns-then-len-lt-MIN_BLOCK_LEN-clause-none c =
    elim c.then-len-lt-MIN_BLOCK_LEN.either [
      | inl short ↦ λ _. wrong_none c.args.octets.now c.read_u32-len.result c.read_u32-len.ensures short
      | inr cut ↦ λ _. cut_none c.args.octets.now c.read_u32-len.result c.read_u32-len.ensures cut.1
    ]

pub returns-clause-block : goal.returns-clause-block
returns-clause-block c = is_block c.args.octets.now c.read_u32-len.result c.read_u32-len.ensures c.if-len-lt-MIN_BLOCK_LEN.false c.if-len-octets.false

pub returns-clause-datagram : goal.returns-clause-datagram
returns-clause-datagram c =
    ap (λ k. (k == 6) && nat_lt c.read_u32-interface.result c.args.paths) c.read_u32-kind.ensures
    ∙ ap (λ k. (number_at Little 4 0 c.args.octets.now == 6) && nat_lt k c.args.paths) c.read_u32-interface.ensures
    ∙ datagram_front c.args.octets.now c.read_u32-len.result c.args.paths c.if-len-lt-MIN_BLOCK_LEN.false c.if-len-octets.false
