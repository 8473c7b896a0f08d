use Rattle.std.proofs.Common.{◌≡◌, ◌∙◌, ap, length, rules, sym}
use Rattle.std.specs.Vec.{vec_len}
use Rattle.json.specs.Value.{value_view}
use Rattle.json.proofs.Trees.{view-Object}
use Rattle.status_page.specs.GainBodies.{members_in}
use Rattle.status_page.proofs.BodyLemmas.{count_of-members}
use Rattle.status_page.proofs.control.body.members.Goals as goal

pub returns-in-Object : goal.returns-in-Object
returns-in-Object c =
    let seen = ap value_view c.in-Object.is ∙ view-Object c.in-Object.members in
    let same : vec_len c.in-Object.members ≡ length c.in-Object.members.items = search rules in
    c.len.ensures ∙ same ∙ sym (count_of-members c.in-Object.members.items) ∙ ap members_in (sym seen)
