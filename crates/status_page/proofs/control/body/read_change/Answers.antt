use Rattle.std.proofs.Common.{◌≡◌, Option, Err, IfOk, subst, sym, ap}
use Rattle.json.specs.Json.{Json}
use Rattle.status_page.specs.GainBodies.{change_of}
use Rattle.status_page.proofs.BodyLemmas.{value_of-none, value_of-text}
use Rattle.status_page.proofs.control.body.read_change.Goals as goal

pub returns-in-Ok-clause-change : goal.returns-in-Ok-clause-change
returns-in-Ok-clause-change c =
    let found = value_of-text c.args.body.now _ c.in-Ok.ensures.ok.0 c.in-Ok.ensures.ok.1 in
    subst (λ (value : Option Json). IfOk c.change_with_buffer.result (λ change. change ≡ change_of c.args.shape.outs c.args.shape.ins value)) (sym found) c.change_with_buffer.ensures.change

pub returns-in-Ok-clause-buffer : goal.returns-in-Ok-clause-buffer
returns-in-Ok-clause-buffer c =
    let found = value_of-text c.args.body.now _ c.in-Ok.ensures.ok.0 c.in-Ok.ensures.ok.1 in
    rw found c.change_with_buffer.ensures.buffer

pub returns-in-Err-Invalid-clause-change : goal.returns-in-Err-Invalid-clause-change
returns-in-Err-Invalid-clause-change c =
    let none = c.in-Err-Invalid.ensures.invalid (ap Err c.in-Err-Invalid.field-0-is) in
    ap (change_of c.args.shape.outs c.args.shape.ins) (sym (value_of-none c.args.body.now none))
