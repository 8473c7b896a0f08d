use Rattle.std.proofs.Common.{◌≡◌, true, false, ◌∙◌, sym}
use Rattle.std.specs.List.{list_all}
use Rattle.toml.specs.View.{table_view}
use Rattle.studio_config.specs.Rows.{names_of, is_known}
use Rattle.studio_config.proofs.ViewLemmas.{names_known}
use Rattle.studio_config.proofs.config.unknown_keys.check_known.Goals as goal

pub returns-then-has_only-clause-ok : goal.returns-then-has_only-clause-ok
returns-then-has_only-clause-ok c =
    let known : list_all (is_known c.args.keys.now) (names_of (table_view c.args.table.now)) ≡ true = names_known c.args.keys.now c.args.table.now.entries ∙ sym c.has_only.ensures ∙ c.if-has_only.true in
    rw known

pub returns-else-has_only-clause-fault : goal.returns-else-has_only-clause-fault
returns-else-has_only-clause-fault c =
    let known : list_all (is_known c.args.keys.now) (names_of (table_view c.args.table.now)) ≡ false = names_known c.args.keys.now c.args.table.now.entries ∙ sym c.has_only.ensures ∙ c.if-has_only.false in
    rw known
