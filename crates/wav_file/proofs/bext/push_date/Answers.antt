use Rattle.std.proofs.Common.{◌≡◌, ◌++◌, ◌/◌, ℕ, List, unsigned_abs, FitsSigned, w16, ap, ◌∙◌, arith}
use Rattle.std.proofs.lemmas.Int.{to_z-of_z}
use Rattle.jiff_core.proofs.SignedLemmas.{signed_arith}
use Rattle.wav_file.specs.Bext.{two_digits}
use Rattle.wav_file.proofs.HeaderLemmas.{before, piece}
use Rattle.wav_file.proofs.bext.push_date.Goals as goal

pub returns-clause-items : goal.returns-clause-items
returns-clause-items c =
    let fits : FitsSigned w16 c.args.date.year = omega (arith, signed_arith, c.args.date.year_in) in
    let own : c.unsigned_abs.result ≡ unsigned_abs c.args.date.year = simp to_z-of_z at c.unsigned_abs.ensures.value in
    let h : List ℕ = c.args.text.now.items in
    let i1 : List ℕ = c.push.new.text.items in
    let i2 : List ℕ = c.push-2.new.text.items in
    let i3 : List ℕ = c.push-3.new.text.items in
    let i4 : List ℕ = c.push-4.new.text.items in
    let i5 : List ℕ = c.push-5.new.text.items in
    let i6 : List ℕ = c.push-6.new.text.items in
    let p1 : List ℕ = two_digits (unsigned_abs c.args.date.year / 100) in
    let p2 : List ℕ = two_digits (unsigned_abs c.args.date.year) in
    let p3 : List ℕ = c.args.between.now in
    let p4 : List ℕ = two_digits c.args.date.month in
    let p5 : List ℕ = c.args.between.now in
    let p6 : List ℕ = two_digits c.args.date.day in
    let a1 : i1 ≡ h ++ p1 = piece h i1 _ p1 c.push.ensures.items (c.two_digits.ensures ∙ ap (λ n. two_digits (n / 100)) (c.from-year.ensures ∙ own)) in
    let a2 : i2 ≡ i1 ++ p2 = piece i1 i2 _ p2 c.push-2.ensures.items (c.two_digits-2.ensures ∙ ap two_digits (c.from-year.ensures ∙ own)) in
    let a3 : i3 ≡ i2 ++ p3 = c.push-3.ensures.items in
    let a4 : i4 ≡ i3 ++ p4 = piece i3 i4 _ p4 c.push-4.ensures.items (c.two_digits-3.ensures ∙ ap two_digits c.from.ensures) in
    let a5 : i5 ≡ i4 ++ p5 = c.push-5.ensures.items in
    let a6 : i6 ≡ i5 ++ p6 = piece i5 i6 _ p6 c.push-6.ensures.items (c.two_digits-4.ensures ∙ ap two_digits c.from-2.ensures) in
    before h i1 i6 p1 (p2 ++ (p3 ++ (p4 ++ (p5 ++ (p6))))) a1 (before i1 i2 i6 p2 (p3 ++ (p4 ++ (p5 ++ (p6)))) a2 (before i2 i3 i6 p3 (p4 ++ (p5 ++ (p6))) a3 (before i3 i4 i6 p4 (p5 ++ (p6)) a4 (before i4 i5 i6 p5 (p6) a5 (a6)))))
