-- The epoch that a packet may open: nothing is held, and media time goes on.
use Rattle.std.proofs.Common.{◌≡◌, ℕ, ◌-◌, ◌<◌, ◌≤◌, Bool, true, false, ◌&&◌, ◌||◌, Some, None, IsSome, ℤ, refl, ap, ◌∙◌, arith, if◌then◌else◌, ⊎_elim}
use Rattle.std.specs.Prelude.{nat_le}
use Rattle.std.specs.FinMap.{get}
use Rattle.std.proofs.lemmas.Bool.{cases_lt}
use Rattle.std.proofs.lemmas.Bool.Decides.{nat_tests}
use Rattle.path_merge.proofs.HeldCountLemmas.{held_count-none, held_count-some, no_packet}
use Rattle.path_merge.proofs.SoundLemmas.{anchored_at}
use Rattle.rtp_stream.specs.Anchor.{is_restart_in_reach, is_source_wanted, media_time_of, restart_media_time}
use Rattle.path_merge.specs.MergeState.{IsAnchored, IsSound, MergeState, held_count, holds_nothing}
use Rattle.rtp_stream.specs.PathProbation.{is_complete, probation_at, probation_heard}
use Rattle.rtp_stream.specs.FollowTrack.{is_slip_by}
use Rattle.rtp_stream.specs.Probation.{is_off}
use Rattle.path_merge.specs.Steps.{epoch_media, opening_of}
use Rattle.path_merge.specs.Window.{IsEmpty}
use Rattle.rtp_stream.specs.declared.anchor.Anchor.{Anchor}
use Rattle.rtp_stream.specs.declared.packet.Packet.{Packet}

module _ (m : MergeState) (media : ℤ) (a : Anchor) (s : IsSound m media) (is_a : m.anchor ≡ Some a) (open_yet : m.closed ≡ false) where
  an : IsAnchored m media a
  an = anchored_at m media m.anchor a is_a s.anchored

  some_held : (n : ℕ) → IsSome (get m.held n) → 0 < held_count m.held m.base m.spec.window
  some_held n some = held_count-some m.held n m.base m.spec.window (an.held_low n some) (omega (arith, an.held_high n some, an.next_open open_yet)) some

  pub nothing_held : holds_nothing m ≡ true → IsEmpty m.held
  nothing_held none n = no_packet (get m.held n) (λ some. absurd (grind (arith, nat_tests, none, some_held n some)))

  -- nothing is held exactly if the end of what is held is at most the base
  pub nothing_is : (e : ℕ) → ((n : ℕ) → m.base ≤ n → IsSome (get m.held n) → n < e) → (m.base < e → IsSome (get m.held (e - 1))) → holds_nothing m ≡ nat_le e m.base
  nothing_is e past_all reached = ⊎_elim
      (λ lt. let some : 0 < held_count m.held m.base m.spec.window = some_held (e - 1) (reached lt) in grind (arith, nat_tests, some, lt))
      (λ ge. let none : held_count m.held m.base m.spec.window ≡ 0 = held_count-none m.held m.base m.spec.window (λ n. no_packet (get m.held n) (λ some. absurd (omega (arith, ge, an.held_low n some, past_all n (an.held_low n some) some)))) in grind (arith, nat_tests, none, ge))
      (cases_lt m.base e)

-- the epoch that a packet may open, by its two tests
pub epoch_media_is : (m : MergeState) (a : Anchor) (packet : Packet) (none reach : Bool) → holds_nothing m ≡ none → is_restart_in_reach m.spec m.time (media_time_of m.spec a m.base) (restart_media_time m.spec.clock packet.ts m.time (media_time_of m.spec a m.base)) ≡ reach → (if none && reach then Some (restart_media_time m.spec.clock packet.ts m.time (media_time_of m.spec a m.base)) else None) ≡ epoch_media m a packet
epoch_media_is m a packet none reach is_none in_reach = rw (is_none, in_reach) refl

pub epoch_media_none : (m : MergeState) (a : Anchor) (packet : Packet) → holds_nothing m ≡ false → None ≡ epoch_media m a packet
epoch_media_none m a packet some = rw some refl

-- the facts of a packet that opens an epoch
pub record Opens (m : MergeState) (a : Anchor) (packet : Packet) (media : ℤ) : Type 0 where
  pub nothing : holds_nothing m ≡ true
  pub media_is : media ≡ restart_media_time m.spec.clock packet.ts m.time (media_time_of m.spec a m.base)
  pub continues_media_time : is_restart_in_reach m.spec m.time (media_time_of m.spec a m.base) media ≡ true

pub opening_is : (m : MergeState) (a : Anchor) (path : ℕ) (packet : Packet) (media : ℤ) → Some media ≡ opening_of m a path packet → Opens m a packet media
opening_is m a path packet media is = by_tests (is_source_wanted m.spec.ssrc packet.ssrc && (is_complete (probation_heard m.spec (probation_at m.probations path) (is_off m.spec a m.base packet) packet) || is_slip_by m.spec a m.base m.time m.tracks path packet)) (holds_nothing m) (is_restart_in_reach m.spec m.time (media_time_of m.spec a m.base) (restart_media_time m.spec.clock packet.ts m.time (media_time_of m.spec a m.base))) refl refl is
  where
    some_inj : {x y : ℤ} → Some x ≡ Some y → x ≡ y
    some_inj e = cc

    by_tests : (c n r : Bool) → holds_nothing m ≡ n → is_restart_in_reach m.spec m.time (media_time_of m.spec a m.base) (restart_media_time m.spec.clock packet.ts m.time (media_time_of m.spec a m.base)) ≡ r → Some media ≡ (if c then (if n && r then Some (restart_media_time m.spec.clock packet.ts m.time (media_time_of m.spec a m.base)) else None) else None) → Opens m a packet media
    by_tests true true true is_n is_r e = record { nothing = is_n; media_is = some_inj e; continues_media_time = ap (is_restart_in_reach m.spec m.time (media_time_of m.spec a m.base)) (some_inj e) ∙ is_r }
    by_tests false n r is_n is_r e = cc
    by_tests true false r is_n is_r e = cc
    by_tests true true false is_n is_r e = cc
