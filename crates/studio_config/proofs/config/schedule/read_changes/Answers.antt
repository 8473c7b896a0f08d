use Rattle.std.proofs.Common.{◌≡◌, ℕ, ◌∷◌, ◌++◌, [], Err, map, take, inl, inr, ⊎_elim, ap, sym, ◌∙◌, rules}
use Rattle.std.proofs.lemmas.List.{map-append}
use Rattle.toml.specs.View.{view}
use Rattle.toml.specs.declared.value.Value.{Value}
use Rattle.studio_config.specs.Values.{members_in, is_table}
use Rattle.studio_config.specs.OutputTable.{matrix_fault, change_of}
use Rattle.studio_config.specs.declared.config.fault.ConfigTable.TheVariants as at
use Rattle.studio_config.proofs.StepLemmas.{passes, map-more, map-all, fault-here, fault-later, fault-end}
use Rattle.studio_config.proofs.config.schedule.read_changes.Goals as goal

pub table_of-requires : goal.table_of-requires
table_of-requires c =
    passes c.args.changes.now c.loop-number.number (λ t. is_table (view t)) c.index-changes-number.result c.requires.tables c.loop-number-test.true c.index-changes-number.is

pub returns-in_err-change-clause-fault : goal.returns-in_err-change-clause-fault
returns-in_err-change-clause-fault c =
    let read = λ (t : Value). members_in (view t) in
    let fault = λ (n : ℕ). matrix_fault c.args.outs c.args.ins (at.Change n) in
    let e = c.in_err-change.field-0.0 in
    let is : c.from_residual.result ≡ Err e = search rules in
    rw is (⊎_elim
    (λ memory. inl memory)
    (λ faulty. inr (c.loop-number.invariant.left ∙ fault-here c.args.changes.now c.loop-number.number fault read c.index-changes-number.result e c.loop-number-test.true c.index-changes-number.is (ap (fault c.loop-number.number) (sym c.table_of.ensures) ∙ faulty)))
    c.in_err-change.ensures.fault)

pub loop-number-preserved : goal.loop-number-preserved
loop-number-preserved c =
    let read = λ (t : Value). members_in (view t) in
    let fault = λ (n : ℕ). matrix_fault c.args.outs c.args.ins (at.Change n) in
    let changes = c.args.changes.now in
    let n = c.loop-number.number in
    let value = c.index-changes-number.result in
    let below = c.loop-number-test.true in
    let ms = map read (take n changes) in
    let more = map-more changes n read value below c.index-changes-number.is in
    let pushed : c.push.new.self.items ≡ c.loop-number.later.items ++ c.in_ok-change.change ∷ [] = search rules in
    record {
      so_far = pushed
          ∙ ap (λ items. items ++ c.in_ok-change.change ∷ []) c.loop-number.invariant.so_far
          ∙ ap (λ change. map change_of ms ++ change ∷ []) (c.in_ok-change.ensures.change ∙ ap change_of c.table_of.ensures)
          ∙ sym (ap (map change_of) more ∙ map-append change_of ms (read value ∷ []));
      left = c.loop-number.invariant.left
          ∙ fault-later changes n fault read value below c.index-changes-number.is (ap (fault n) (sym c.table_of.ensures) ∙ c.in_ok-change.ensures.ok);
    }

pub returns-clause-ok : goal.returns-clause-ok
returns-clause-ok c =
    c.loop-number.invariant.left
    ∙ fault-end c.args.changes.now c.loop-number.number (λ (n : ℕ). matrix_fault c.args.outs c.args.ins (at.Change n)) (λ (t : Value). members_in (view t)) c.loop-number-test.false

pub returns-clause-changes : goal.returns-clause-changes
returns-clause-changes c =
    c.loop-number.invariant.so_far
    ∙ ap (map change_of) (map-all c.args.changes.now c.loop-number.number (λ (t : Value). members_in (view t)) c.loop-number-test.false)
