use Rattle.std.proofs.Common.{◌≡◌, ◌+◌, ◌-◌, ◌/◌, ◌++◌, ℕ, List, ℤ, length, map, drop, ap, ◌∙◌, arith, rules, w32}
use Rattle.std.specs.List.{range_with_len}
use Rattle.std.proofs.lemmas.Int.{to_z-of_z}
use Rattle.std.specs.Int.RustNames.{FitsSigned}
use Rattle.rtp_wire.specs.declared.encoding.Enc.TheVariants.{L24}
use Rattle.rtp_wire.specs.Sample.{sample_at}
use Rattle.rtp_wire.proofs.SampleLemmas.{fill_more}
use Rattle.rtp_wire.proofs.samples.read_24.Goals as goal

pub loop-i-preserved : goal.loop-i-preserved
loop-i-preserved c =
    let fits : FitsSigned w32 c.sample_in_word.result = search rules in
    fill_more (sample_at L24 c.args.octets.now) c.loop-i.out c.args.out.now c.loop-i.i _ (omega arith) (to_z-of_z w32 c.sample_in_word.result fits ∙ c.sample_in_word.ensures) c.loop-i.invariant

pub returns-clause-samples : goal.returns-clause-samples
returns-clause-samples c =
    let f : ℕ → ℤ = sample_at L24 c.args.octets.now in
    let count : ℕ = length c.args.octets.now / 3 in
    let old : List ℤ = c.args.out.now in
    let fits : FitsSigned w32 c.sample.result = search rules in
    let at_last : c.loop-i.i ≡ count - 1 = omega arith in
    let all : count - 1 + 1 ≡ count = omega arith in
    let before : c.loop-i.out ≡ map f (range_with_len 0 (count - 1)) ++ drop (count - 1) old =
    c.loop-i.invariant ∙ ap (λ n. map f (range_with_len 0 n) ++ drop n old) at_last in
    fill_more f c.loop-i.out old (count - 1) _ (omega arith) (to_z-of_z w32 c.sample.result fits ∙ c.sample.ensures) before
    ∙ ap (λ n. map f (range_with_len 0 n) ++ drop n old) all
