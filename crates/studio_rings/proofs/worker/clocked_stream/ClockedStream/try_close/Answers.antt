use Rattle.std.proofs.Common.{◌≡◌, refl, rules, to_z, of_z, w64}
use Rattle.studio_rings.proofs.StreamTurnLemmas.{arrived-drained, goes-look, is_closed_by, looked-either, same_marks, tokens-looked}
use Rattle.studio_rings.proofs.worker.clocked_stream.ClockedStream.try_close.Goals as goal

pub returns-in-Ok-clause-closed : goal.returns-in-Ok-clause-closed
returns-in-Ok-clause-closed g c =
    let s = c.args.self.end in
    let looked = looked-either s c.close.new.self c.in-Ok.ensures.rings in
    record {
      marks = same_marks s c.close.new.self c.in-Ok.ensures.others.0;
      closed = is_closed_by s.merge c.close.new.self.merge c.in-Ok.ensures.closed;
      stands = c.in-Ok.ensures.stands c.args.self.open_yet;
      arrived = arrived-drained s c.close.new.self looked (c.in-Ok.ensures.ok c.args.self.open_yet);
    }

pub returns-in-Err-clause-later : goal.returns-in-Err-clause-later
returns-in-Err-clause-later g c =
    let s = c.args.self.end in
    let same : to_z w64 (of_z w64 c.args.self.now) ≡ c.args.self.now = search rules in
    goes-look g.C.Clock.told c.args.self _ (looked-either s c.close.new.self c.in-Err.ensures.rings) c.in-Err.ensures.err c.in-Err.ensures.others.0 c.in-Err.ensures.others.2 same refl

pub returns-in-Err-clause-tokens : goal.returns-in-Err-clause-tokens
returns-in-Err-clause-tokens g c =
    let s = c.args.self.end in
    tokens-looked s.sides.items c.close.new.self.sides.items (looked-either s c.close.new.self c.in-Err.ensures.rings)
