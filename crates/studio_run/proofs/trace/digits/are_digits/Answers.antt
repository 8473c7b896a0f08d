use Rattle.std.proofs.Common.{sym}
use Rattle.std.proofs.lemmas.List.Folds.{list_all_more}
use Rattle.hex.specs.Hex.{is_hex_digit}
use Rattle.studio_run.proofs.trace.digits.are_digits.Goals as goal

pub loop-octet-preserved : goal.loop-octet-preserved
loop-octet-preserved c = rw (c.is_digit-all.ensures, c.loop-octet.invariant) (sym (list_all_more is_hex_digit c.args.text.now c.loop-octet.octet-index 0 c.loop-octet-test.true))
