use Rattle.std.proofs.Common.{ℤ, sym, subst, to_z, of_z, w64}
use Rattle.std.proofs.lemmas.Int.{to_z-of_z}
use Rattle.studio_mix.specs.Changed.{with_gains}
use Rattle.studio_mix.proofs.ChangedLemmas.{both_ok}
use Rattle.studio_engine.specs.Engine.{EngineState}
use Rattle.studio_engine.specs.Session.{HasSession}
use Rattle.studio_engine.proofs.ChangedLemmas.{session_changed}
use Rattle.studio_engine.proofs.engine.Engine.change_gains.Goals as goal

pub returns-clause-stands : goal.returns-clause-stands
returns-clause-stands c =
    both_ok c.change_gains.result _ _ _ (λ later stands studio events datagrams session.
    let i = c.self.inside in
    let old : EngineState = record { mixer = i.mixer; cursors = i.cursors.cursors; time = i.time; turning = i.turning; closed = i.closed; settled = i.settled; count = i.cursors.count } in
    let new : EngineState = record { mixer = c.change_gains.new.self; cursors = i.cursors.cursors; time = i.time; turning = i.turning; closed = i.closed; settled = i.settled; count = i.cursors.count } in
    let session' : HasSession studio old events datagrams = subst (λ e. HasSession studio e events datagrams) (sym c.self.view_is) session in
    subst (λ (at : ℤ). HasSession (with_gains studio at c.args.gains.now) new events datagrams) (to_z-of_z w64 c.args.at c.ranges.at)
    (session_changed studio old c.change_gains.new.self (to_z w64 (of_z w64 c.args.at)) c.args.gains.now events datagrams (stands studio) c.change_gains.ensures.lanes later session'))
    c.change_gains.ensures.later c.change_gains.ensures.stands

pub returns-clause-ready : goal.returns-clause-ready
returns-clause-ready c =
    both_ok c.change_gains.result _ _ _ (λ later stands studio events datagrams ready.
    let i = c.self.inside in
    let old : EngineState = record { mixer = i.mixer; cursors = i.cursors.cursors; time = i.time; turning = i.turning; closed = i.closed; settled = i.settled; count = i.cursors.count } in
    let new : EngineState = record { mixer = c.change_gains.new.self; cursors = i.cursors.cursors; time = i.time; turning = i.turning; closed = i.closed; settled = i.settled; count = i.cursors.count } in
    let session' : HasSession studio old events datagrams = subst (λ e. HasSession studio e events datagrams) (sym c.self.view_is) ready.stands in
    record {
      stands = subst (λ (at : ℤ). HasSession (with_gains studio at c.args.gains.now) new events datagrams) (to_z-of_z w64 c.args.at c.ranges.at)
          (session_changed studio old c.change_gains.new.self (to_z w64 (of_z w64 c.args.at)) c.args.gains.now events datagrams (stands studio) c.change_gains.ensures.lanes later session');
      none = ready.none;
    })
    c.change_gains.ensures.later c.change_gains.ensures.stands
