use Rattle.std.proofs.Common.{inr, of_z, subst, to_z, w64}
use Rattle.std.proofs.lemmas.Int.{to_z-of_z}
use Rattle.live_io.specs.RecordBlocks.{IsUnfit}
use Rattle.live_io.proofs.record.observer.RecordObserver.record_change.Goals as goal

pub returns-in-None-clause-puts : goal.returns-in-None-clause-puts
returns-in-None-clause-puts c =
    let self = c.args.self.now in
    let gains = c.args.gains.now in
    let at = to_z w64 (of_z w64 c.args.at) in
    λ goes. inr (
      c.note_unfit.ensures.unfit goes,
      subst (λ t. IsUnfit self.open_at self.gains_interface c.args.time t gains) (to_z-of_z w64 c.args.at c.ranges.at)
          (subst (λ t. IsUnfit self.open_at self.gains_interface t at gains) (to_z-of_z w64 c.args.time c.ranges.time) (c.change.ensures.unfit c.in-None.is)),
    )
