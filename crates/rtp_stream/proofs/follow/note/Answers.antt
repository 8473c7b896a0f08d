use Rattle.std.proofs.Common.{◌≡◌, ◌<◌, arith, ap, sym, ◌∙◌}
use Rattle.std.specs.Prelude.{length, nat_eq, slice_set}
use Rattle.rtp_stream.specs.FollowTrack.{track_after, track_at}
use Rattle.rtp_stream.proofs.FollowLemmas.{track_at-get, track_at-other, track_at-set}
use Rattle.rtp_stream.proofs.follow.note.Goals as goal

pub returns-clause-value : goal.returns-clause-value
returns-clause-value c =
    let place = c.from-place.ensures ∙ c.number.ensures.value in
    let within : c.from-place.result < length c.args.tracks.now = omega (arith, c.told-tracks, place, c.number.ensures.few, c.number.ensures.value) in
    c.update.ensures ∙ ap (λ t. track_after t c.args.standing.now) (sym (track_at-get c.from-place.result c.args.tracks.now _ within) ∙ ap (track_at c.args.tracks.now) place)

pub returns-clause-heard : goal.returns-clause-heard
returns-clause-heard c =
    let place = c.from-place.ensures ∙ c.number.ensures.value in
    let within : c.from-place.result < length c.args.tracks.now = omega (arith, c.told-tracks, place, c.number.ensures.few, c.number.ensures.value) in
    ap (track_at (slice_set c.args.tracks.now c.from-place.result c.update.new.self)) (sym place) ∙ track_at-set c.from-place.result c.args.tracks.now c.update.new.self within

pub returns-clause-others : goal.returns-clause-others
returns-clause-others c = λ other apart.
    let place = c.from-place.ensures ∙ c.number.ensures.value in
    track_at-other other c.from-place.result c.args.tracks.now c.update.new.self (ap (nat_eq other) place ∙ apart)
