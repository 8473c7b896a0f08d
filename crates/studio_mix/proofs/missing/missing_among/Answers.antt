use Rattle.std.proofs.Common.{◌≡◌, ◌+◌, ◌||◌, true, false, if◌then◌else◌, ap, sym, subst, refl, ◌∙◌, arith, to_z, of_z, w64}
use Rattle.rtp_stream.specs.declared.mark.PacketFormat.{PacketFormat}
use Rattle.gain_mix.specs.Gain.{ins_of}
use Rattle.studio_mix.specs.Lanes.{lane_channels}
use Rattle.studio_mix.specs.MissingLanes.{is_used_where, heard_lanes}
use Rattle.studio_mix.proofs.MissingLemmas.{AreCounted, whole_lanes, one_counted, channels_within, missing_by}
use Rattle.studio_mix.proofs.missing.missing_among.Goals.{then-is_used_where, else-is_used_where, then-is_heard, else-is_heard}
use Rattle.studio_mix.proofs.missing.missing_among.Goals as goal

pub returns-then-are_whole : goal.returns-then-are_whole
returns-then-are_whole c =
    sym (ap (λ n. missing_by n (heard_lanes c.args.schedule.now c.args.time 0 c.args.lanes.now))
    (whole_lanes c.args.schedule.now c.args.time 0 c.args.lanes.now (sym c.are_whole.ensures ∙ c.if-are_whole.true)))

pub loop-lane-preserved : goal.loop-lane-preserved
loop-lane-preserved c =
    let a = c.args in
    let t = to_z w64 (of_z w64 a.time) in
    let l = c.loop-lane in
    let lane = c.lane-item.result in
    let width = c.from-channels.result in
    let wide : width ≡ lane.format.channels = c.from-channels.ensures ∙ ap (λ (f : PacketFormat). f.channels) c.format.ensures.value in
    let missing = is_used_where false lane.present a.schedule.now t l.at width in
    let said : c.is_used_where.result ≡ missing = c.is_used_where.ensures ∙ ap (λ ps. is_used_where false ps a.schedule.now t l.at width) c.present.ensures.value in
    let streams : c.if-is_used_where.streams ≡ l.streams + (if missing then 1 else 0) = elim c.if-is_used_where.branch [
      | then-is_used_where w ↦ w.streams-is ∙ ap (λ b. l.streams + (if b then 1 else 0)) (sym w.if-is_used_where.true ∙ said)
      | else-is_used_where w ↦ w.streams-is ∙ (let none : l.streams ≡ l.streams + 0 = omega arith in none) ∙ ap (λ b. l.streams + (if b then 1 else 0)) (sym w.if-is_used_where.false ∙ said)
    ] in
    let heard = is_used_where true lane.present a.schedule.now t l.at width in
    let heard_is : c.if-is_heard.is_heard ≡ (l.is_heard || heard) = elim c.if-is_heard.branch [
      | then-is_heard w ↦ w.is_heard-is ∙ w.if-is_heard.true ∙ ap (λ b. b || heard) (sym w.if-is_heard.true)
      | else-is_heard w ↦ w.is_heard-is ∙ w.is_used_where-is_heard.ensures ∙ ap (λ ps. is_used_where true ps a.schedule.now t l.at width) w.present-else-is_heard.ensures.value ∙ ap (λ b. b || heard) (sym w.if-is_heard.false)
    ] in
    subst (λ s. AreCounted a.schedule.now t a.lanes.now s c.if-is_heard.is_heard (l.at + width) (l.lane-index + 1)) (sym streams)
    (one_counted a.schedule.now t a.lanes.now l.streams l.is_heard l.at l.lane-index lane (if missing then 1 else 0) c.if-is_heard.is_heard width l.invariant c.loop-lane-test.true c.lane-item.is wide refl heard_is)

pub overflow_add-at : goal.overflow_add-at
overflow_add-at c =
    let a = c.args in
    let l = c.loop-lane in
    let wide : c.from-channels.result ≡ c.lane-item.result.format.channels = c.from-channels.ensures ∙ ap (λ (f : PacketFormat). f.channels) c.format.ensures.value in
    let within = channels_within a.schedule.now (to_z w64 (of_z w64 a.time)) a.lanes.now l.streams l.is_heard l.at l.lane-index c.lane-item.result c.from-channels.result (lane_channels a.lanes.now) l.invariant c.loop-lane-test.true c.lane-item.is wide refl in
    let narrow = c.requires.narrow in
    omega (arith, within, narrow)

pub is_used_where-requires-clause-within : goal.is_used_where-requires-clause-within
is_used_where-requires-clause-within c =
    let a = c.args in
    let l = c.loop-lane in
    let wide : c.from-channels.result ≡ c.lane-item.result.format.channels = c.from-channels.ensures ∙ ap (λ (f : PacketFormat). f.channels) c.format.ensures.value in
    channels_within a.schedule.now (to_z w64 (of_z w64 a.time)) a.lanes.now l.streams l.is_heard l.at l.lane-index c.lane-item.result c.from-channels.result (ins_of a.schedule.now.first) l.invariant c.loop-lane-test.true c.lane-item.is wide c.requires.width
