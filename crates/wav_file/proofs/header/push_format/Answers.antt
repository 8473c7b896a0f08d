use Rattle.std.proofs.Common.{◌≡◌, ◌*◌, ◌++◌, ℕ, List, codes, ap, ◌∙◌, arith}
use Rattle.byteorder.specs.Endian.{little_bytes}
use Rattle.rtp_wire.specs.Sample.{octets_per_sample}
use Rattle.wav_file.specs.Header.{frame_length}
use Rattle.wav_file.proofs.HeaderLemmas.{before, piece}
use Rattle.wav_file.proofs.header.push_format.Goals as goal

pub returns-clause-items : goal.returns-clause-items
returns-clause-items c =
    let h : List ℕ = c.args.head.now.items in
    let i1 : List ℕ = c.push.new.head.items in
    let i2 : List ℕ = c.push-2.new.head.items in
    let i3 : List ℕ = c.push-3.new.head.items in
    let i4 : List ℕ = c.push-4.new.head.items in
    let i5 : List ℕ = c.push-5.new.head.items in
    let i6 : List ℕ = c.push-6.new.head.items in
    let i7 : List ℕ = c.push-7.new.head.items in
    let i8 : List ℕ = c.push-8.new.head.items in
    let p1 : List ℕ = codes "fmt " in
    let p2 : List ℕ = little_bytes 4 16 in
    let p3 : List ℕ = little_bytes 2 1 in
    let p4 : List ℕ = little_bytes 2 c.args.format.channels in
    let p5 : List ℕ = little_bytes 4 48000 in
    let p6 : List ℕ = little_bytes 4 (48000 * frame_length c.args.format) in
    let p7 : List ℕ = little_bytes 2 (frame_length c.args.format) in
    let p8 : List ℕ = little_bytes 2 (8 * octets_per_sample c.args.format.enc) in
    let a2 : i2 ≡ i1 ++ p2 = piece i1 i2 _ p2 c.push-2.ensures.items (c.to_le_bytes.ensures) in
    let a3 : i3 ≡ i2 ++ p3 = piece i2 i3 _ p3 c.push-3.ensures.items (c.to_le_bytes-2.ensures) in
    let a4 : i4 ≡ i3 ++ p4 = piece i3 i4 _ p4 c.push-4.ensures.items (c.to_le_bytes-3.ensures ∙ ap (little_bytes 2) c.from.ensures) in
    let a5 : i5 ≡ i4 ++ p5 = piece i4 i5 _ p5 c.push-5.ensures.items (c.to_le_bytes-4.ensures) in
    let a6 : i6 ≡ i5 ++ p6 = piece i5 i6 _ p6 c.push-6.ensures.items (c.to_le_bytes-5.ensures ∙ ap (little_bytes 4) (omega (arith, c.from-2.ensures, c.frame_len-frame.ensures))) in
    let a7 : i7 ≡ i6 ++ p7 = piece i6 i7 _ p7 c.push-7.ensures.items (c.to_le_bytes-6.ensures ∙ ap (little_bytes 2) c.frame_len-frame.ensures) in
    let a8 : i8 ≡ i7 ++ p8 = piece i7 i8 _ p8 c.push-8.ensures.items (c.to_le_bytes-7.ensures ∙ ap (little_bytes 2) (omega (arith, c.octets.ensures))) in
    before h i1 i8 p1 (p2 ++ (p3 ++ (p4 ++ (p5 ++ (p6 ++ (p7 ++ (p8))))))) c.push.ensures.items (before i1 i2 i8 p2 (p3 ++ (p4 ++ (p5 ++ (p6 ++ (p7 ++ (p8)))))) a2 (before i2 i3 i8 p3 (p4 ++ (p5 ++ (p6 ++ (p7 ++ (p8))))) a3 (before i3 i4 i8 p4 (p5 ++ (p6 ++ (p7 ++ (p8)))) a4 (before i4 i5 i8 p5 (p6 ++ (p7 ++ (p8))) a5 (before i5 i6 i8 p6 (p7 ++ (p8)) a6 (before i6 i7 i8 p7 (p8) a7 a8))))))
