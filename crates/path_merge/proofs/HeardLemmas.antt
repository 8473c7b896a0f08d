-- An arrival that counts, by the probation and the track that the code computes.
use Rattle.std.proofs.Common.{◌≡◌, ℕ, ◌≤◌, Bool, true, false, ◌&&◌, ◌||◌, List, Option, Some, None, ℤ, refl, sym, ap, ◌∙◌, arith, if◌then◌else◌}
use Rattle.std.specs.Prelude.{nat_eq}
use Rattle.path_merge.specs.MergeState.{MergeState}
use Rattle.path_merge.specs.Steps.{IsHeardStep, epoch_media, opening_of}
use Rattle.rtp_stream.specs.Anchor.{is_source_wanted}
use Rattle.rtp_stream.specs.PathProbation.{is_complete, probation_at, probation_heard}
use Rattle.rtp_stream.specs.FollowTrack.{is_early, is_slip_by, width_by, track_at, track_heard}
use Rattle.rtp_stream.specs.Probation.{is_off}
use Rattle.rtp_stream.specs.Follow.{empties, is_following}
use Rattle.rtp_stream.specs.declared.stream_spec.Stream.{Stream}
use Rattle.rtp_stream.specs.declared.anchor.Anchor.{Anchor}
use Rattle.rtp_stream.specs.declared.packet.Packet.{Packet}
use Rattle.rtp_stream.specs.declared.probation.Probation.{Probation}
use Rattle.rtp_stream.specs.declared.follow.Track.{Track}

pub heard_step : (m : MergeState) (a : Anchor) (path : ℕ) (packet : Packet) (off : Bool) (probations' : List Probation) (tracks' : List Track)
    → off ≡ is_off m.spec a m.base packet → probation_at probations' path ≡ probation_heard m.spec (probation_at m.probations path) off packet
    → ((other : ℕ) → nat_eq other path ≡ false → probation_at probations' other ≡ probation_at m.probations other)
    → track_at tracks' path ≡ track_heard m.spec a m.base m.time m.tracks path packet
    → ((other : ℕ) → nat_eq other path ≡ false → track_at tracks' other ≡ track_at m.tracks other)
    → IsHeardStep m (record m { probations = probations'; tracks = tracks' }) a path packet
heard_step m a path packet off probations' tracks' is_off_is heard others tracked other_tracks = record {
  probation = heard ∙ ap (λ b. probation_heard m.spec (probation_at m.probations path) b packet) is_off_is;
  other_paths = others;
  track = tracked;
  other_tracks = other_tracks;
  changed = refl;
}

-- the test whether an epoch may open
module _ (m : MergeState) (a : Anchor) (path : ℕ) (packet : Packet) where
  abbrev may_open : Bool
  may_open = is_source_wanted m.spec.ssrc packet.ssrc && (is_complete (probation_heard m.spec (probation_at m.probations path) (is_off m.spec a m.base packet) packet) || is_slip_by m.spec a m.base m.time m.tracks path packet)

  pub either_is : (off completes slips either : Bool) (probations' : List Probation)
      → off ≡ is_off m.spec a m.base packet → probation_at probations' path ≡ probation_heard m.spec (probation_at m.probations path) off packet
      → completes ≡ (is_source_wanted m.spec.ssrc packet.ssrc && is_complete (probation_at probations' path))
      → slips ≡ (is_source_wanted m.spec.ssrc packet.ssrc && is_slip_by m.spec a m.base m.time m.tracks path packet)
      → either ≡ (completes || slips)
      → either ≡ (is_source_wanted m.spec.ssrc packet.ssrc && (is_complete (probation_heard m.spec (probation_at m.probations path) (is_off m.spec a m.base packet) packet) || is_slip_by m.spec a m.base m.time m.tracks path packet))
  either_is off completes slips either probations' is_off_is heard complete slip is =
      is
      ∙ ap (λ c. c || slips) (complete ∙ ap (λ p. is_source_wanted m.spec.ssrc packet.ssrc && is_complete p) (heard ∙ ap (λ b. probation_heard m.spec (probation_at m.probations path) b packet) is_off_is))
      ∙ ap (λ s. (is_source_wanted m.spec.ssrc packet.ssrc && is_complete (probation_heard m.spec (probation_at m.probations path) (is_off m.spec a m.base packet) packet)) || s) slip
      ∙ joined (is_source_wanted m.spec.ssrc packet.ssrc) (is_complete (probation_heard m.spec (probation_at m.probations path) (is_off m.spec a m.base packet) packet)) (is_slip_by m.spec a m.base m.time m.tracks path packet)
    where
      joined : (w c s : Bool) → ((w && c) || (w && s)) ≡ (w && (c || s))
      joined true c s = refl
      joined false c s = refl

  pub opening_some : (either : Bool) → either ≡ (is_source_wanted m.spec.ssrc packet.ssrc && (is_complete (probation_heard m.spec (probation_at m.probations path) (is_off m.spec a m.base packet) packet) || is_slip_by m.spec a m.base m.time m.tracks path packet)) → either ≡ true → epoch_media m a packet ≡ opening_of m a path packet
  opening_some either is opens = sym (ap (λ b. if b then epoch_media m a packet else None) (sym is ∙ opens))

  pub opening_none : (either : Bool) → either ≡ (is_source_wanted m.spec.ssrc packet.ssrc && (is_complete (probation_heard m.spec (probation_at m.probations path) (is_off m.spec a m.base packet) packet) || is_slip_by m.spec a m.base m.time m.tracks path packet)) → either ≡ false → None ≡ opening_of m a path packet
  opening_none either is stays = sym (ap (λ b. if b then epoch_media m a packet else None) (sym is ∙ stays))

-- the width is never more than the window
pub width_few : (stream : Stream) (a : Anchor) (next : ℕ) (time : ℤ) (tracks : List Track) → width_by stream a next time tracks ≤ stream.window
width_few stream a next time tracks = by_test (is_following stream.clock && empties a next (λ path. is_early (track_at tracks path) time) (λ path. (track_at tracks path).end))
  where
    by_test : (b : Bool) → (if b then 0 else stream.window) ≤ stream.window
    by_test true = omega arith
    by_test false = omega arith
