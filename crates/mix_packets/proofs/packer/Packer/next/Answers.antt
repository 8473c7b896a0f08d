use Rattle.std.proofs.lemmas.Grind.{elements}
use Rattle.std.proofs.Common.{◌≡◌, ap, ◌∙◌, arith}
use Rattle.std.specs.Prelude.{false}
use Rattle.rtp_wire.specs.Head.{Head}
use Rattle.mix_packets.specs.Packer.{PackerState}
use Rattle.mix_packets.specs.Block.{block_head}
use Rattle.mix_packets.proofs.BlockLemmas.{datagram-written}
use Rattle.mix_packets.proofs.packer.Packer.next.Goals as goal

pub returns-clause-written : goal.returns-clause-written
returns-clause-written c =
    let head : Head = record { marker = false; pt = c.pt.result; seq = c.self.inside.seq; ts = c.self.inside.ts; ssrc = c.ssrc.result } in
    let state : PackerState = record { spec = c.self.inside.spec; number = c.self.inside.number } in
    let same : head ≡ block_head state.spec state.number = rw (c.pt.ensures.value, c.self.invariant.seq_is, c.self.invariant.ts_is, c.ssrc.ensures) in
    datagram-written c.args.self.now.spec c.args.self.now.number c.args.block.now c.args.out.now c.write_head-start.new.out c.write_samples-octets.new.out c.write_head-start.result head c.enc.result
    c.write_head-start.ensures.len
    (same ∙ ap (λ (p : PackerState). block_head p.spec p.number) c.self.view_is)
    (c.enc.ensures ∙ ap (λ (p : PackerState). p.spec.enc) c.self.view_is)
    c.requires.whole
    c.write_head-start.ensures.written
    c.write_samples-octets.ensures.written

pub write_samples-octets-requires-clause-fit : goal.write_samples-octets-requires-clause-fit
write_samples-octets-requires-clause-fit c = grind (arith, elements)

pub invariant_of-self : goal.invariant_of-self
invariant_of-self c = grind (arith, elements)
