use Rattle.std.proofs.Common.{◌≤◌, ap, sym, subst, arith}
use Rattle.studio_session.specs.Cursor.{CursorState, at_place}
use Rattle.studio_session.proofs.cursor.Cursor.pass_to.Goals as goal

pub invariant_of-self : goal.invariant_of-self
invariant_of-self c =
    let onward : c.self.inside.place ≤ c.args.place = subst (λ (s : CursorState). s.place ≤ c.args.place) (sym c.self.view_is) c.requires.onward in
    record {
      spec = c.self.invariant.spec;
      four = c.self.invariant.four;
      few = λ path tally at. let most = c.self.invariant.few path tally at in omega (arith, most, onward);
      can = c.self.invariant.can;
    }

pub returns : goal.returns
returns c = ap (at_place c.args.place) c.self.view_is
