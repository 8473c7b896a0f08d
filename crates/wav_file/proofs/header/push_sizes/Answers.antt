use Rattle.std.proofs.Common.{◌≡◌, ◌++◌, ℕ, List}
use Rattle.byteorder.specs.Endian.{little_bytes}
use Rattle.wav_file.proofs.HeaderLemmas.{before, piece}
use Rattle.wav_file.proofs.header.push_sizes.Goals as goal

pub returns-clause-items : goal.returns-clause-items
returns-clause-items c =
    let h : List ℕ = c.args.head.now.items in
    let i1 : List ℕ = c.push.new.head.items in
    let i2 : List ℕ = c.push-2.new.head.items in
    let i3 : List ℕ = c.push-3.new.head.items in
    let i4 : List ℕ = c.push-4.new.head.items in
    let i5 : List ℕ = c.push-5.new.head.items in
    let i6 : List ℕ = c.push-6.new.head.items in
    let p1 : List ℕ = c.args.name.now in
    let p2 : List ℕ = little_bytes 4 28 in
    let p3 : List ℕ = little_bytes 8 c.args.all in
    let p4 : List ℕ = little_bytes 8 c.args.count in
    let p5 : List ℕ = little_bytes 8 c.args.frames in
    let p6 : List ℕ = little_bytes 4 0 in
    let a2 : i2 ≡ i1 ++ p2 = piece i1 i2 _ p2 c.push-2.ensures.items (c.to_le_bytes.ensures) in
    let a3 : i3 ≡ i2 ++ p3 = piece i2 i3 _ p3 c.push-3.ensures.items (c.to_le_bytes-2.ensures) in
    let a4 : i4 ≡ i3 ++ p4 = piece i3 i4 _ p4 c.push-4.ensures.items (c.to_le_bytes-3.ensures) in
    let a5 : i5 ≡ i4 ++ p5 = piece i4 i5 _ p5 c.push-5.ensures.items (c.to_le_bytes-4.ensures) in
    let a6 : i6 ≡ i5 ++ p6 = piece i5 i6 _ p6 c.push-6.ensures.items (c.to_le_bytes-5.ensures) in
    before h i1 i6 p1 (p2 ++ (p3 ++ (p4 ++ (p5 ++ (p6))))) c.push.ensures.items (before i1 i2 i6 p2 (p3 ++ (p4 ++ (p5 ++ (p6)))) a2 (before i2 i3 i6 p3 (p4 ++ (p5 ++ (p6))) a3 (before i3 i4 i6 p4 (p5 ++ (p6)) a4 (before i4 i5 i6 p5 (p6) a5 a6))))
