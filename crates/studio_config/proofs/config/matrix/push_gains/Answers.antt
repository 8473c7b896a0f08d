use Rattle.std.proofs.Common.{◌≡◌, ℕ, ◌<◌, ℤ, true, List, ◌∷◌, ◌++◌, [], length, get_or, map, take, FitsSigned, w32, ap, sym, ◌∙◌, arith, rules}
use Rattle.std.proofs.lemmas.List.{append_assoc}
use Rattle.std.proofs.lemmas.Grind.{common_steps}
use Rattle.std.specs.List.{list_all}
use Rattle.toml.specs.View.{view}
use Rattle.toml.specs.declared.value.Value.{Value}
use Rattle.studio_config.specs.Values.{gain_in}
use Rattle.studio_config.specs.OutputTable.{is_gain}
use Rattle.studio_config.proofs.StepLemmas.{passes, map-more, map-all}
use Rattle.studio_config.proofs.config.matrix.push_gains.Goals as goal

-- a gain fits 32 bits
fits : (gain : ℤ) → is_gain gain ≡ true → FitsSigned w32 gain
fits gain small = grind (arith, common_steps)

-- each gain that is read fits 32 bits
fits_at : (more : List Value) (i : ℕ) (value : Value) (gain : ℤ) → list_all (λ v. is_gain (gain_in (view v))) more ≡ true → i < length more → value ≡ get_or more i value → gain ≡ gain_in (view value) → FitsSigned w32 gain
fits_at more i value gain all below is same = fits gain (ap is_gain same ∙ passes more i (λ v. is_gain (gain_in (view v))) value all below is)

pub overflow_cast-gain : goal.overflow_cast-gain
overflow_cast-gain c =
    let small = fits_at c.args.more.now c.loop-value.value-index c.value-item.result c.gain_in-gain.result c.requires.in_range c.loop-value-test.true c.value-item.is c.gain_in-gain.ensures in
    search rules

pub loop-value-preserved : goal.loop-value-preserved
loop-value-preserved c =
    let gain = λ (v : Value). gain_in (view v) in
    let small = fits_at c.args.more.now c.loop-value.value-index c.value-item.result c.gain_in-gain.result c.requires.in_range c.loop-value-test.true c.value-item.is c.gain_in-gain.ensures in
    let pushed : c.push.new.self.items ≡ c.loop-value.gains.items ++ gain c.value-item.result ∷ [] = search rules in
    pushed
    ∙ ap (λ gains. gains ++ gain c.value-item.result ∷ []) c.loop-value.invariant
    ∙ append_assoc c.args.gains.now.items (map gain (take c.loop-value.value-index c.args.more.now)) (gain c.value-item.result ∷ [])
    ∙ ap (λ gains. c.args.gains.now.items ++ gains) (sym (map-more c.args.more.now c.loop-value.value-index gain c.value-item.result c.loop-value-test.true c.value-item.is))

pub returns : goal.returns
returns c =
    c.loop-value.invariant
    ∙ ap (λ gains. c.args.gains.now.items ++ gains) (map-all c.args.more.now c.loop-value.value-index (λ (v : Value). gain_in (view v)) c.loop-value-test.false)
