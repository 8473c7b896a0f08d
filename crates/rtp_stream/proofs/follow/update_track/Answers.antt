use Rattle.std.proofs.Common.{◌≡◌, ◌^◌, ◌<◌, ◌&&◌, true, false, ℕ, Bool, refl, arith, ap, subst, sym, ◌∙◌, rules}
use Rattle.std.specs.Prelude.{nat_eq, nat_lt}
use Rattle.std.proofs.lemmas.Bool.Decides.{nat_tests}
use Rattle.rtp_stream.specs.PacketRef.{packet_of}
use Rattle.rtp_stream.specs.Anchor.{is_source_wanted}
use Rattle.rtp_stream.specs.Follow.{end_since, has_wire_size, is_astray, is_following, standing_of}
use Rattle.rtp_stream.specs.FollowTrack.{is_slip_by, width_by, standing_by, track_after, track_at}
use Rattle.rtp_stream.specs.declared.follow.Standing.{Standing}
use Rattle.rtp_stream.proofs.FollowLemmas.{slip_is}
use Rattle.rtp_stream.proofs.follow.update_track.Goals as goal

pub returns-clause-heard : goal.returns-clause-heard
returns-clause-heard c =
    let judged : (is_following c.args.spec.now.clock && is_source_wanted c.args.spec.now.ssrc (packet_of c.args.packet.now).ssrc) ≡ true = sym c.is_judged.ensures ∙ c.if-not-is_judged.false in
    let stands : c.standing_at-standing.result ≡ standing_by c.args.spec.now c.args.anchor.now c.args.moment.next c.args.moment.time c.args.tracks.now c.args.path (packet_of c.args.packet.now) =
    c.standing_at-standing.ensures c.args.spec.now c.args.anchor.now (width_by c.args.spec.now c.args.anchor.now c.args.moment.next c.args.moment.time c.args.tracks.now) c.requires.place
    ∙ ap (λ e. standing_of c.args.spec.now c.args.anchor.now c.args.moment.next c.args.moment.time (width_by c.args.spec.now c.args.anchor.now c.args.moment.next c.args.moment.time c.args.tracks.now) e c.args.path (packet_of c.args.packet.now)) c.end_of.ensures in
    ap (track_at c.note-track.new.tracks) (sym (ap (λ (s : Standing). s.path) stands)) ∙ c.note-track.ensures.heard ∙ c.note-track.ensures.value
    ∙ ap (λ (s : Standing). track_after (track_at c.args.tracks.now s.path) s) stands ∙ sym (rw judged refl)

pub returns-clause-others : goal.returns-clause-others
returns-clause-others c = λ other apart.
    let stands : c.standing_at-standing.result ≡ standing_by c.args.spec.now c.args.anchor.now c.args.moment.next c.args.moment.time c.args.tracks.now c.args.path (packet_of c.args.packet.now) =
    c.standing_at-standing.ensures c.args.spec.now c.args.anchor.now (width_by c.args.spec.now c.args.anchor.now c.args.moment.next c.args.moment.time c.args.tracks.now) c.requires.place
    ∙ ap (λ e. standing_of c.args.spec.now c.args.anchor.now c.args.moment.next c.args.moment.time (width_by c.args.spec.now c.args.anchor.now c.args.moment.next c.args.moment.time c.args.tracks.now) e c.args.path (packet_of c.args.packet.now)) c.end_of.ensures in
    c.note-track.ensures.others other (ap (nat_eq other) (ap (λ (s : Standing). s.path) stands) ∙ apart)

pub returns-clause-slip : goal.returns-clause-slip
returns-clause-slip c =
    let judged : (is_following c.args.spec.now.clock && is_source_wanted c.args.spec.now.ssrc (packet_of c.args.packet.now).ssrc) ≡ true = sym c.is_judged.ensures ∙ c.if-not-is_judged.false in
    let stands : c.standing_at-standing.result ≡ standing_by c.args.spec.now c.args.anchor.now c.args.moment.next c.args.moment.time c.args.tracks.now c.args.path (packet_of c.args.packet.now) =
    c.standing_at-standing.ensures c.args.spec.now c.args.anchor.now (width_by c.args.spec.now c.args.anchor.now c.args.moment.next c.args.moment.time c.args.tracks.now) c.requires.place
    ∙ ap (λ e. standing_of c.args.spec.now c.args.anchor.now c.args.moment.next c.args.moment.time (width_by c.args.spec.now c.args.anchor.now c.args.moment.next c.args.moment.time c.args.tracks.now) e c.args.path (packet_of c.args.packet.now)) c.end_of.ensures in
    let seq : (packet_of c.args.packet.now).seq < 2 ^ 16 = search rules in
    let ts : (packet_of c.args.packet.now).ts < 2 ^ 32 = search rules in
    let noted : c.note-track.result ≡ track_after (track_at c.args.tracks.now c.args.path) (standing_by c.args.spec.now c.args.anchor.now c.args.moment.next c.args.moment.time c.args.tracks.now c.args.path (packet_of c.args.packet.now)) =
    c.note-track.ensures.value ∙ ap (λ (s : Standing). track_after (track_at c.args.tracks.now s.path) s) stands in
    slip_is c.args.spec.now c.args.anchor.now c.args.moment.next c.args.moment.time c.args.tracks.now c.args.path (packet_of c.args.packet.now) c.standing_at-standing.result c.note-track.result c.is_slip.result judged seq ts stands noted c.is_slip.ensures
