use Rattle.std.proofs.Common.{◌+◌, List, Option, length, sym, refl, subst, to_z, of_z, w64, arith}
use Rattle.std.proofs.lemmas.Option.{slice_get_read}
use Rattle.arrayvec.specs.ArrayString.{ArrayString}
use Rattle.live_status.specs.StreamStatus.{IsNewStatus, IsNewStatusAt}
use Rattle.live_status.specs.declared.stream_status.StreamStatus.{StreamStatus}
use Rattle.live_status.proofs.Each.{IsBegun, begun-push}
use Rattle.live_status.proofs.stream_status.StreamStatus.of_streams.Goals as goal

pub loop-number-preserved : goal.loop-number-preserved
loop-number-preserved c =
    let now = to_z w64 (of_z w64 c.args.now) in
    let P = IsNewStatusAt c.args.names.now now in
    let n = c.loop-number.number in
    let streams = c.args.streams.now in
    let stream = c.index-streams-number.result in
    let at = slice_get_read streams (length streams) n stream refl (omega arith) c.index-streams-number.is in
    let this : P n stream c.new.result = subst (λ (name : Option ArrayString). IsNewStatus name now stream c.new.result) c.name_at.ensures c.new.ensures in
    subst (λ (items : List StreamStatus). IsBegun P (n + 1) streams items) (sym {A = List StreamStatus} c.in_ok-push.ensures.items) (begun-push P n streams c.loop-number.statuses.items stream c.new.result c.loop-number.invariant at this)
