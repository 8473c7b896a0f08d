use Rattle.std.proofs.Common.{◌∙◌, ap, take, drop}
use Rattle.pcap_file.proofs.ReadBufferLemmas.{front_is}
use Rattle.pcap_file.proofs.reader.buffer.ReadBuffer.front.Goals as goal

pub returns : goal.returns
returns c =
    front_is c.deref.result.now c.args.self.now.passed c.min.result 983040 c.min.ensures
    ∙ ap (λ l. take 983040 (drop c.args.self.now.passed l)) c.deref.ensures.value
