use Rattle.std.proofs.Common.{◌≡◌, ◌∷◌, ◌++◌, [], take, ap, sym, ◌∙◌, rules}
use Rattle.std.proofs.lemmas.List.{take_more, take_all, flat_map_more}
use Rattle.std.specs.List.{flat_map}
use Rattle.toml.specs.View.{view}
use Rattle.toml.specs.declared.value.Value.{Value}
use Rattle.gain_mix.specs.Matrix.{has_range}
use Rattle.studio_config.specs.Values.{row_in}
use Rattle.studio_config.proofs.StepLemmas.{passes}
use Rattle.studio_config.proofs.config.matrix.flat_gains.Goals as goal

pub push_row-requires : goal.push_row-requires
push_row-requires c = record {
  in_range = passes c.args.rows.now c.loop-row.row-index (λ v. has_range (row_in (view v))) c.row-item.result c.requires.in_range c.loop-row-test.true c.row-item.is;
}

pub loop-row-preserved : goal.loop-row-preserved
loop-row-preserved c =
    let row = λ (v : Value). row_in (view v) in
    let rows = c.args.rows.now in
    let i = c.loop-row.row-index in
    let value = c.row-item.result in
    let pushed : c.push_row.new.gains.items ≡ c.loop-row.gains.items ++ row value = search rules in
    pushed
    ∙ ap (λ gains. gains ++ row value) c.loop-row.invariant
    ∙ flat_map_more row [] (take i rows) value
    ∙ ap (flat_map row) (ap (λ v. take i rows ++ v ∷ []) c.row-item.is ∙ sym (take_more rows i value c.loop-row-test.true))

pub returns : goal.returns
returns c =
    c.loop-row.invariant
    ∙ ap (flat_map (λ (v : Value). row_in (view v))) (take_all c.loop-row.row-index c.args.rows.now c.loop-row-test.false)
