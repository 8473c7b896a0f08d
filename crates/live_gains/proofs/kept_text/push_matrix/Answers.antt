use Rattle.std.proofs.Common.{◌≡◌, ◌++◌, ℤ, List, OnOk, sym, subst, w64}
use Rattle.std.proofs.lemmas.Int.{to_z-of_z}
use Rattle.studio_io.specs.Gains.{gains_in}
use Rattle.studio_io.proofs.GainLemmas.{gains_joined}
use Rattle.live_gains.specs.KeptText.{line_text}
use Rattle.live_gains.proofs.kept_text.push_matrix.Goals as goal

pub returns : goal.returns
returns c =
    let joined : gains_in c.args.matrix.now ≡ c.gains.result.now = gains_joined c.args.matrix.now c.gains.result.now c.gains.ensures.by_row c.gains.ensures.len in
    let at : OnOk c.push_line.result (c.push_line.new.text.items ≡ c.args.text.now.items ++ line_text c.args.at c.gains.result.now) =
    subst (λ (t : ℤ). OnOk c.push_line.result (c.push_line.new.text.items ≡ c.args.text.now.items ++ line_text t c.gains.result.now)) (to_z-of_z w64 c.args.at c.ranges.at) c.push_line.ensures in
    subst (λ (gains : List ℤ). OnOk c.push_line.result (c.push_line.new.text.items ≡ c.args.text.now.items ++ line_text c.args.at gains)) (sym joined) at
