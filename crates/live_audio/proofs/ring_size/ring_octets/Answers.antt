use Rattle.std.proofs.Common.{◌≡◌, ◌≤◌, ◌+◌, ◌*◌, arith, ap, ◌∙◌}
use Rattle.std.proofs.Math.Nat.{mul-le-mul_right}
use Rattle.wav_file.specs.Header.{frame_length}
use Rattle.live_audio.proofs.ring_size.ring_octets.Goals as goal

pub returns-clause-all : goal.returns-clause-all
returns-clause-all c = λ place stream is.
    let latency : stream.latency ≤ c.greatest_latency.result = c.greatest_latency.ensures place stream is in
    let more : stream.latency + c.args.spare ≤ c.from.result + c.from-2.result = omega (arith, latency, c.from.ensures, c.from-2.ensures) in
    let scaled : (stream.latency + c.args.spare) * frame_length c.args.format ≤ (c.from.result + c.from-2.result) * frame_length c.args.format = mul-le-mul_right (frame_length c.args.format) more in
    let length : c.from-3.result ≡ frame_length c.args.format = c.from-3.ensures ∙ c.frame_len.ensures in
    let product = ap (λ k. (c.from.result + c.from-2.result) * k) length in
    omega (arith, scaled, product, c.max.ensures)
