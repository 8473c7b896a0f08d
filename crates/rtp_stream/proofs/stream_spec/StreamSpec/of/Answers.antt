use Rattle.std.proofs.Common.{◌≡◌, ◌<◌, ◌^◌, None, ap, sym, ◌∙◌, arith, rules}
use Rattle.rtp_stream.specs.declared.mark.PacketFormat.{PacketFormat}
use Rattle.rtp_stream.specs.StreamSpecFacts.{HasNoFault, packets_fault_of, format_of}
use Rattle.rtp_stream.proofs.StreamSpecLemmas.{HasNoFault-of}
use Rattle.rtp_stream.proofs.stream_spec.StreamSpec.of.Goals as goal

pub invariant_of-result : goal.invariant_of-result
invariant_of-result c =
    let stream = c.args.stream in
    let packets : packets_fault_of (format_of stream) stream.pt ≡ None = ap (λ (f : PacketFormat). packets_fault_of f stream.pt) (sym c.format.ensures) ∙ c.in_ok-check_packets.ensures.ok in
    let fits = c.well_formed in
    let small : stream.latency < 2 ^ 32 = omega arith in
    let fine : HasNoFault stream = HasNoFault-of stream packets c.in_ok-check_times.ensures.ok small in
    record { fine = fine; len = search rules }
