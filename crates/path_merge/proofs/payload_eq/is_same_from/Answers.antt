use Rattle.std.proofs.Common.{◌-◌, length, take, drop, ap, ◌∙◌}
use Rattle.std.specs.Prelude.{bytes_eq}
use Rattle.std.proofs.lemmas.List.{take_rest}
use Rattle.path_merge.proofs.OctetLemmas.{same_rest}
use Rattle.path_merge.proofs.payload_eq.is_same_from.Goals as goal

pub returns : goal.returns
returns c =
    let a = c.args.a.now in
    let b = c.args.b.now in
    let from = c.args.from in
    c.eq.ensures
    ∙ ap (λ l. bytes_eq l (take (length b - from) (drop from b))) (take_rest a from)
    ∙ ap (bytes_eq (drop from a)) (take_rest b from)
    ∙ same_rest from a b c.requires.same
