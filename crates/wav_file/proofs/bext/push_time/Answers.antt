use Rattle.std.proofs.Common.{◌≡◌, ◌++◌, ◌/◌, ◌%◌, ℕ, List}
use Rattle.wav_file.specs.Bext.{two_digits}
use Rattle.wav_file.proofs.HeaderLemmas.{before, piece}
use Rattle.wav_file.proofs.bext.push_time.Goals as goal

pub returns-clause-items : goal.returns-clause-items
returns-clause-items c =
    let h : List ℕ = c.args.text.now.items in
    let i1 : List ℕ = c.push.new.text.items in
    let i2 : List ℕ = c.push-2.new.text.items in
    let i3 : List ℕ = c.push-3.new.text.items in
    let i4 : List ℕ = c.push-4.new.text.items in
    let i5 : List ℕ = c.push-5.new.text.items in
    let p1 : List ℕ = two_digits (c.args.instant / 172800000) in
    let p2 : List ℕ = c.args.between.now in
    let p3 : List ℕ = two_digits (c.args.instant / 2880000 % 60) in
    let p4 : List ℕ = c.args.between.now in
    let p5 : List ℕ = two_digits (c.args.instant / 48000 % 60) in
    let a1 : i1 ≡ h ++ p1 = piece h i1 _ p1 c.push.ensures.items (c.two_digits.ensures) in
    let a2 : i2 ≡ i1 ++ p2 = c.push-2.ensures.items in
    let a3 : i3 ≡ i2 ++ p3 = piece i2 i3 _ p3 c.push-3.ensures.items (c.two_digits-2.ensures) in
    let a4 : i4 ≡ i3 ++ p4 = c.push-4.ensures.items in
    let a5 : i5 ≡ i4 ++ p5 = piece i4 i5 _ p5 c.push-5.ensures.items (c.two_digits-3.ensures) in
    before h i1 i5 p1 (p2 ++ (p3 ++ (p4 ++ (p5)))) a1 (before i1 i2 i5 p2 (p3 ++ (p4 ++ (p5))) a2 (before i2 i3 i5 p3 (p4 ++ (p5)) a3 (before i3 i4 i5 p4 (p5) a4 (a5))))
