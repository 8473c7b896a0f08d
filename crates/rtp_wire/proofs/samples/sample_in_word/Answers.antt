use Rattle.std.proofs.Common.{◌≡◌, ◌*◌, ℕ, List, drop, sym, ap, subst, ◌∙◌, arith, rules, ℤ, to_z, of_z, w32}
use Rattle.std.specs.Int.Signed.{shr_z, mag_shr}
use Rattle.byteorder.specs.Endian.{big_number}
use Rattle.std.proofs.lemmas.Int.{to_z-of_z}
use Rattle.std.proofs.lemmas.List.{take_rest, length-drop}
use Rattle.std.specs.Int.RustNames.{FitsSigned}
use Rattle.rtp_wire.proofs.OctetsLemmas.{AreOctets-drop}
use Rattle.rtp_wire.proofs.SampleLemmas.{word_sample}
use Rattle.rtp_wire.proofs.samples.sample_in_word.Goals as goal

pub returns : goal.returns
returns c =
    let octets : List ℕ = c.args.octets.now in
    let ys : List ℕ = drop (3 * c.args.index) octets in
    let r : ℤ = c.read_i32.result in
    let fits : FitsSigned w32 r = search rules in
    let whole : r ≡ to_z w32 (big_number 4 ys) = c.read_i32.ensures ∙ ap (λ l. to_z w32 (big_number 4 l)) (take_rest octets (3 * c.args.index)) in
    let shift : shr_z (to_z w32 (of_z w32 r)) 256 ≡ shr_z r 256 = ap (λ z. shr_z z 256) (to_z-of_z w32 r fits) in
    let smaller = mag_shr r 256 in
    let fits_shifted : FitsSigned w32 (shr_z r 256) = record { sfits = omega (arith, smaller, fits.sfits) } in
    let fits_too : FitsSigned w32 (shr_z (to_z w32 (of_z w32 r)) 256) = subst (λ z. FitsSigned w32 z) (sym shift) fits_shifted in
    to_z-of_z w32 (shr_z (to_z w32 (of_z w32 r)) 256) fits_too
    ∙ shift
    ∙ word_sample ys r (AreOctets-drop octets (3 * c.args.index) (λ i. omega (arith, c.type_inv.octets i))) (omega (arith, length-drop (3 * c.args.index) octets)) whole
