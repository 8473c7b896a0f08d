-- A packet with a place in the window, by a clock that does not follow its sender.
use Rattle.std.proofs.Common.{◌≡◌, ℕ, ◌+◌, Bool, true, false, not, ◌&&◌, ◌||◌, None, Result, Ok, Err, refl, ap, ◌∙◌, if◌then◌else◌}
use Rattle.std.specs.Prelude.{is_some, nat_eq, nat_lt}
use Rattle.path_merge.specs.MergeState.{MergeState}
use Rattle.path_merge.specs.Steps.{epoch_media, opens_epoch}
use Rattle.rtp_stream.specs.Anchor.{is_source_wanted}
use Rattle.rtp_stream.specs.Fate.{place_of}
use Rattle.rtp_stream.specs.Grid.{extended_number, of_width, is_on_grid}
use Rattle.rtp_stream.specs.PathProbation.{is_complete, probation_at, probation_heard}
use Rattle.rtp_stream.specs.FollowTrack.{is_slip_by, width_by}
use Rattle.rtp_stream.specs.Probation.{is_off}
use Rattle.rtp_stream.specs.Follow.{is_following}
use Rattle.rtp_stream.specs.declared.stream_spec.Stream.{Stream}
use Rattle.rtp_stream.specs.declared.anchor.Anchor.{Anchor}
use Rattle.rtp_stream.specs.declared.fate.Fate.{Fate}
use Rattle.rtp_stream.specs.declared.fate.Fate.TheVariants.{Ahead, Late, OffGrid, WrongSource}
use Rattle.rtp_stream.specs.declared.packet.Packet.{Packet}

-- a packet with a place is in step
pub placed_in_step : (stream : Stream) (width : ℕ) (a : Anchor) (next : ℕ) (packet : Packet) (number : ℕ) → Ok number ≡ place_of (of_width stream width) a next packet → is_off stream a next packet ≡ false
placed_in_step stream width a next packet number is = by_tests (nat_eq packet.ssrc a.source) (is_on_grid stream a (extended_number packet next) packet.ts) (nat_lt (extended_number packet next) next) (nat_lt (extended_number packet next) (next + width)) is
  where
    by_tests : (t g l h : Bool) → ◌≡◌ {A = Result ℕ Fate} (Ok number) (if not t then Err WrongSource else if not g then Err OffGrid else if l then Err Late else if not h then Err Ahead else Ok (extended_number packet next)) → (not t || not g) ≡ false
    by_tests true true l h e = refl
    by_tests true false l h e = cc
    by_tests false g l h e = cc

module _ (m : MergeState) (a : Anchor) (path : ℕ) (packet : Packet) (plain : is_following m.spec.clock ≡ false) where
  -- the window has its width
  pub width_whole : width_by m.spec a m.base m.time m.tracks ≡ m.spec.window
  width_whole = rw plain refl

  module _ (on : is_off m.spec a m.base packet ≡ false) where
    -- a packet in step opens no epoch
    pub in_step_stays : opens_epoch m a path packet ≡ false
    in_step_stays =
        ap (λ off. is_some (if is_source_wanted m.spec.ssrc packet.ssrc && (is_complete (probation_heard m.spec (probation_at m.probations path) off packet) || is_slip_by m.spec a m.base m.time m.tracks path packet) then epoch_media m a packet else None)) on
        ∙ by_wanted (is_source_wanted m.spec.ssrc packet.ssrc) refl
      where
        no_slip : is_slip_by m.spec a m.base m.time m.tracks path packet ≡ false
        no_slip = rw plain refl

        by_wanted : (w : Bool) → is_source_wanted m.spec.ssrc packet.ssrc ≡ w → is_some (if w && (is_complete (probation_heard m.spec (probation_at m.probations path) false packet) || is_slip_by m.spec a m.base m.time m.tracks path packet) then epoch_media m a packet else None) ≡ false
        by_wanted false wanted = refl
        by_wanted true wanted = rw (wanted, no_slip) refl
