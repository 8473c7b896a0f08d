-- The anchors of a history, one by one: their places, their epochs, and the packets that make them.
use Rattle.std.proofs.Common.{◌≡◌, ℕ, zero, suc, ◌+◌, ◌*◌, ◌^◌, ◌<◌, ◌≤◌, Bool, true, false, ◌&&◌, ◌||◌, List, [], ◌∷◌, ◌++◌, length, Option, Some, None, ℤ, pos, ◌+ℤ◌, ◌-ℤ◌, ◌≤ℤ◌, ◌<ℤ◌, refl, sym, ap, ◌∙◌, arith, append-nil, length-append, if◌then◌else◌}
use Rattle.std.specs.Prelude.{nat_eq, nat_le, nat_lt}
use Rattle.std.proofs.Math.Nat.{mod-lt}
use Rattle.std.proofs.lemmas.Bool.Decides.{nat_tests}
use Rattle.std.proofs.lemmas.Int.{ints}
use Rattle.path_merge.proofs.EpochLemmas.{WithinLength, heard_of-push, no_anchors, place_within, width_made}
use Rattle.path_merge.proofs.FirstLemmas.{is_first}
use Rattle.path_merge.proofs.HistoryLemmas.{IsNextEpoch, anchors_of-push, by_last_event, or_else}
use Rattle.path_merge.proofs.MarkGrowthLemmas.{limit_of}
use Rattle.rtp_stream.proofs.ProbationLemmas.{by_last, complete_is, last_of-push, probation_of-push}
use Rattle.path_merge.proofs.AnewLemmas.{GoesOn, in_reach, itself_eq, own_copy}
use Rattle.rtp_stream.specs.Anchor.{anchor_from, can_anchor, is_source_wanted, media_time_of, next_number, restart_from, restart_media_time}
use Rattle.rtp_stream.specs.EpochLaws.{anchor_with, epochs_in}
use Rattle.rtp_stream.specs.Epochs.{anchor_in, anchors_after, anchors_at, anchors_of, can_restart, copies_since, continues_media_time, copies_under_at, is_all_given, last_of, placed}
use Rattle.rtp_stream.specs.Grid.{copies_under, end_of_copies, of_width}
use Rattle.rtp_stream.specs.Follow.{is_following, is_slip}
use Rattle.rtp_stream.specs.History.{is_counting, time_of}
use Rattle.rtp_stream.specs.Laws.{numbers_from}
use Rattle.rtp_stream.specs.PathProbation.{is_complete, probation_after, probation_of}
use Rattle.rtp_stream.specs.Probation.{completes_probation, heard_since, is_off}
use Rattle.rtp_stream.specs.declared.stream_spec.Stream.{Stream}
use Rattle.rtp_stream.specs.declared.anchor.Anchor.{Anchor}
use Rattle.rtp_stream.specs.declared.event.Event.{Event}
use Rattle.rtp_stream.specs.declared.event.Event.TheVariants.{Arrive, Close, Tick}
use Rattle.rtp_stream.specs.declared.packet.Packet.{Packet}
use Rattle.rtp_stream.specs.declared.probation.Probation.{Probation}

-- all anchors have their places up to this one
abbrev pub AllWithin : ℕ → List (ℕ × Anchor) → Type 0
AllWithin len [] = Unit {0}
AllWithin len ((place, a) ∷ anchors) = (place ≤ len) × AllWithin len anchors

AllWithin-raise : (low high : ℕ) (anchors : List (ℕ × Anchor)) → low ≤ high → AllWithin low anchors → AllWithin high anchors
AllWithin-raise low high [] le all = tt
AllWithin-raise low high ((place, a) ∷ anchors) le all = (omega (arith, le, all.0), AllWithin-raise low high anchors le all.1)

AllWithin-append : (len : ℕ) (xs ys : List (ℕ × Anchor)) → AllWithin len xs → AllWithin len ys → AllWithin len (xs ++ ys)
AllWithin-append len [] ys p q = q
AllWithin-append len ((place, a) ∷ xs) ys p q = (p.0, AllWithin-append len xs ys p.1 q)

placed_within : (len place : ℕ) (anchors : List Anchor) → place ≤ len → AllWithin len (placed place anchors)
placed_within len place [] le = tt
placed_within len place (a ∷ anchors) le = (le, placed_within len place anchors le)

-- the anchor of an epoch, in one list and then another
pub anchor_with-append : (epoch : ℕ) (xs ys : List (ℕ × Anchor)) → anchor_with epoch (xs ++ ys) ≡ or_else (anchor_with epoch xs) (anchor_with epoch ys)
anchor_with-append epoch [] ys = refl
anchor_with-append epoch ((place, a) ∷ xs) ys = by_test (nat_eq a.epoch epoch) (anchor_with-append epoch xs ys)
  where
    by_test : (b : Bool) → anchor_with epoch (xs ++ ys) ≡ or_else (anchor_with epoch xs) (anchor_with epoch ys) → (if b then Some a else anchor_with epoch (xs ++ ys)) ≡ or_else (if b then Some a else anchor_with epoch xs) (anchor_with epoch ys)
    by_test true rest = refl
    by_test false rest = rest

-- the last anchor is that of its epoch
abbrev pub IsOwn : Option Anchor → List (ℕ × Anchor) → Type 0
IsOwn None anchors = Unit {0}
IsOwn (Some a) anchors = anchor_with a.epoch anchors ≡ Some a

-- the epochs of these anchors count up from 0, and there is none after the last
pub record HasEpochs (stream : Stream) (anchors : List (ℕ × Anchor)) : Type 0 where
  pub count : limit_of stream (anchor_in (last_of anchors)) ≡ length anchors
  pub epochs : epochs_in anchors ≡ numbers_from 0 (length anchors)
  pub own : IsOwn (anchor_in (last_of anchors)) anchors
  pub later : (epoch : ℕ) → limit_of stream (anchor_in (last_of anchors)) ≤ epoch → anchor_with epoch anchors ≡ None

-- one number more, at the end
numbers_from-next : (n count : ℕ) → numbers_from n (suc count) ≡ numbers_from n count ++ (n + count) ∷ []
numbers_from-next n zero = let same : n ≡ n + 0 = omega arith in ap (λ m. m ∷ []) same
numbers_from-next n (suc count) =
    let next : suc n + count ≡ n + suc count = omega arith in
    ap (λ l. n ∷ l) (numbers_from-next (suc n) count ∙ ap (λ m. numbers_from (suc n) count ++ m ∷ []) next)

epochs_in-append : (xs ys : List (ℕ × Anchor)) → epochs_in (xs ++ ys) ≡ epochs_in xs ++ epochs_in ys
epochs_in-append [] ys = refl
epochs_in-append ((place, a) ∷ xs) ys = ap (λ l. a.epoch ∷ l) (epochs_in-append xs ys)

-- a packet that completes a probation has 16 and 32 bits
probation_small : (stream : Stream) (heard : List (Bool × Packet)) → ((probation_of stream heard).seq < 65536) × ((probation_of stream heard).ts < 4294967296)
probation_small stream = by_last (λ heard. ((probation_of stream heard).seq < 65536) × ((probation_of stream heard).ts < 4294967296)) (omega arith, omega arith) (λ heard one before. rw (probation_of-push stream heard one) (after (probation_of stream heard) one))
  where
    after : (p : Probation) (one : Bool × Packet) → ((probation_after stream p one).seq < 65536) × ((probation_after stream p one).ts < 4294967296)
    after p (false, packet) = (omega arith, omega arith)
    after p (true, packet) = (mod-lt (packet.seq + 1) (omega arith), mod-lt (packet.ts + stream.frames) (omega arith))

complete_small : (stream : Stream) (heard : List (Bool × Packet)) (off : Bool) (packet : Packet) → completes_probation stream (heard ++ (off, packet) ∷ []) ≡ true → (packet.seq < 65536) × (packet.ts < 4294967296)
complete_small stream heard off packet completes = by_off off (sym (complete_is stream (heard ++ (off, packet) ∷ []) ∙ ap is_complete (probation_of-push stream heard (off, packet))) ∙ completes)
  where
    -- with one test false, one packet alone is in sequence
    alone : (k : Bool) (n : ℕ) → nat_le 8 (if k && false then n else 1) ≡ true → (packet.seq < 65536) × (packet.ts < 4294967296)
    alone true n e = cc
    alone false n e = cc

    by_tests : (p : Probation) (a b c : Bool) → nat_eq packet.seq p.seq ≡ b → nat_eq packet.ts p.ts ≡ c → (p.seq < 65536) × (p.ts < 4294967296) → (n : ℕ) → nat_le 8 (if nat_lt 0 p.count && (a && (b && c)) then n else 1) ≡ true → (packet.seq < 65536) × (packet.ts < 4294967296)
    by_tests p true true true eb ec small n e = (grind (arith, nat_tests, eb, small.0), grind (arith, nat_tests, ec, small.1))
    by_tests p false b c eb ec small n e = alone (nat_lt 0 p.count) n e
    by_tests p true false c eb ec small n e = alone (nat_lt 0 p.count) n e
    by_tests p true true false eb ec small n e = alone (nat_lt 0 p.count) n e

    by_off : (off : Bool) → is_complete (probation_after stream (probation_of stream heard) (off, packet)) ≡ true → (packet.seq < 65536) × (packet.ts < 4294967296)
    by_off false e = cc
    by_off true e = by_tests (probation_of stream heard) (nat_eq packet.ssrc (probation_of stream heard).source) _ _ refl refl (probation_small stream heard) _ e

-- a packet that shows its sender to be astray has 16 and 32 bits too
slip_small : (stream : Stream) (open_at : ℤ) (place : ℕ) (a : Anchor) (events : List Event) (path : ℕ) (packet : Packet) → is_slip stream open_at place a events path packet ≡ true → (packet.seq < 65536) × (packet.ts < 4294967296)
slip_small stream open_at place a events path packet = by_tests (is_following stream.clock) (nat_lt packet.seq (2 ^ 16)) (nat_lt packet.ts (2 ^ 32)) _ refl refl
  where
    by_tests : (f s t r : Bool) → nat_lt packet.seq (2 ^ 16) ≡ s → nat_lt packet.ts (2 ^ 32) ≡ t → (f && ((s && t) && r)) ≡ true → (packet.seq < 65536) × (packet.ts < 4294967296)
    by_tests true true true r es et e = (grind (arith, nat_tests, es), grind (arith, nat_tests, et))
    by_tests false s t r es et e = cc
    by_tests true false t r es et e = cc
    by_tests true true false r es et e = cc

-- the facts of an anchor that a packet makes after another anchor
pub record Restarts (stream : Stream) (open_at : ℤ) (events : List Event) (path : ℕ) (packet : Packet) (place : ℕ) (a b : Anchor) : Type 0 where
  pub not_back : media_time_of stream a (next_number stream a (time_of open_at events)) ≤ℤ b.media
  pub all_given : end_of_copies (copies_since stream open_at place a events) ≤ next_number stream a (time_of open_at events)
  pub own : copies_under_at stream (length events) b open_at events (Arrive path packet) ≡ (b.number, packet) ∷ []

abbrev pub Follows : Stream → ℤ → List Event → ℕ → Packet → Option (ℕ × Anchor) → Anchor → Type 0
Follows stream open_at events path packet None b = Unit {0}
Follows stream open_at events path packet (Some (place, a)) b = Restarts stream open_at events path packet place a b

-- the facts of an anchor that a packet makes
pub record IsMade (stream : Stream) (open_at : ℤ) (events : List Event) (path : ℕ) (packet : Packet) (old : Option (ℕ × Anchor)) (b : Anchor) : Type 0 where
  pub early : (time_of open_at events -ℤ pos stream.latency) <ℤ b.media
  pub within : b.media <ℤ (time_of open_at events -ℤ pos stream.latency +ℤ pos (stream.window * stream.frames))
  pub next : IsNextEpoch stream open_at (anchor_in old) (Some b)
  pub follows : Follows stream open_at events path packet old b

module _ (stream : Stream) (open_at : ℤ) (some : 0 < stream.frames) where
  restarts : (events : List Event) (path : ℕ) (packet : Packet) (place : ℕ) (a : Anchor) → place < length events → is_counting events ≡ true → can_restart stream open_at place a events path packet ≡ true → IsMade stream open_at events path packet (Some (place, a)) (restart_from stream (time_of open_at events) a (next_number stream a (time_of open_at events)) packet)
  restarts events path packet place a within counts can = by_tests (continues_media_time stream (time_of open_at events) a packet) (is_all_given stream open_at place a events) (is_source_wanted stream.ssrc packet.ssrc) refl refl refl can
    where
      media : ℤ
      media = restart_media_time stream.clock packet.ts (time_of open_at events) (media_time_of stream a (next_number stream a (time_of open_at events)))

      here : is_source_wanted stream.ssrc packet.ssrc ≡ true → heard_since stream open_at place a (events ++ Arrive path packet ∷ []) path ≡ heard_since stream open_at place a events path ++ (is_off stream a (next_number stream a (time_of open_at events)) packet, packet) ∷ []
      here wanted =
          heard_of-push stream open_at (Some (place, a)) events (Arrive path packet) path within
          ∙ ap (λ l. heard_since stream open_at place a events path ++ l) (rw (counts, itself_eq path, wanted) refl)

      by_either : (c : Bool) → completes_probation stream (heard_since stream open_at place a (events ++ Arrive path packet ∷ []) path) ≡ c → is_source_wanted stream.ssrc packet.ssrc ≡ true → (c || is_slip stream open_at place a events path packet) ≡ true → (packet.seq < 65536) × (packet.ts < 4294967296)
      by_either true is wanted e = complete_small stream (heard_since stream open_at place a events path) (is_off stream a (next_number stream a (time_of open_at events)) packet) packet (ap (completes_probation stream) (sym (here wanted)) ∙ is)
      by_either false is wanted e = slip_small stream open_at place a events path packet e

      wide : (w f : ℕ) (low high : ℤ) → low <ℤ high → high <ℤ (low +ℤ pos (w * f)) → 0 < w
      wide zero f low high after before = absurd (omega (arith, ints, after, before))
      wide (suc w) f low high after before = omega arith

      by_tests : (b c w : Bool) → continues_media_time stream (time_of open_at events) a packet ≡ b → is_all_given stream open_at place a events ≡ c → is_source_wanted stream.ssrc packet.ssrc ≡ w → (b && (c && (w && (completes_probation stream (heard_since stream open_at place a (events ++ Arrive path packet ∷ []) path) || is_slip stream open_at place a events path packet)))) ≡ true → IsMade stream open_at events path packet (Some (place, a)) (restart_from stream (time_of open_at events) a (next_number stream a (time_of open_at events)) packet)
      by_tests true true true go given wanted completes =
          let on : GoesOn stream (time_of open_at events) (media_time_of stream a (next_number stream a (time_of open_at events))) (restart_media_time stream.clock packet.ts (time_of open_at events) (media_time_of stream a (next_number stream a (time_of open_at events)))) = in_reach stream (time_of open_at events) (media_time_of stream a (next_number stream a (time_of open_at events))) (restart_media_time stream.clock packet.ts (time_of open_at events) (media_time_of stream a (next_number stream a (time_of open_at events)))) go in
          let small = by_either (completes_probation stream (heard_since stream open_at place a (events ++ Arrive path packet ∷ []) path)) refl wanted completes in
          record {
            early = on.after;
            within = on.before;
            next = refl;
            follows = record {
              not_back = on.not_back;
              all_given = grind (arith, nat_tests, given);
              own = ap (λ width. copies_under (of_width stream width) (time_of open_at events) (is_counting events) (Some (restart_from stream (time_of open_at events) a (next_number stream a (time_of open_at events)) packet)) packet) (width_made stream open_at (restart_from stream (time_of open_at events) a (next_number stream a (time_of open_at events)) packet) events) ∙ rw counts (own_copy (of_width stream stream.window) (time_of open_at events) packet (a.epoch + 1) (restart_media_time stream.clock packet.ts (time_of open_at events) (media_time_of stream a (next_number stream a (time_of open_at events)))) some (wide stream.window stream.frames _ _ on.after on.before) small.0 small.1 on.after);
            };
          }
      by_tests false c w go given wanted e = cc
      by_tests true false w go given wanted e = cc
      by_tests true true false go given wanted e = cc

  -- an arrival makes no anchor, or one
  pub by_anchor_made : (events : List Event) (path : ℕ) (packet : Packet) (P : List (ℕ × Anchor) → Type 0) → P [] → ((b : Anchor) → IsMade stream open_at events path packet (last_of (anchors_of stream open_at events)) b → P ((length events, b) ∷ [])) → P (anchors_at stream open_at (anchors_of stream open_at events) events (Arrive path packet))
  by_anchor_made events path packet P none = by_counting (is_counting events) refl (last_of (anchors_of stream open_at events)) (place_within stream open_at events)
    where
      by_first : (c : Bool) → can_anchor stream (time_of open_at events) packet ≡ c → ((b : Anchor) → IsMade stream open_at events path packet None b → P ((length events, b) ∷ [])) → P (placed (length events) (if c then anchor_from stream (time_of open_at events) packet ∷ [] else []))
      by_first false can made = none
      by_first true can made = made (anchor_from stream (time_of open_at events) packet) (record { early = (is_first stream (time_of open_at events) packet can).after; within = (is_first stream (time_of open_at events) packet can).before; next = refl; follows = tt })

      by_next : (place : ℕ) (a : Anchor) → place < length events → is_counting events ≡ true → (c : Bool) → can_restart stream open_at place a events path packet ≡ c → ((b : Anchor) → IsMade stream open_at events path packet (Some (place, a)) b → P ((length events, b) ∷ [])) → P (placed (length events) (if c then restart_from stream (time_of open_at events) a (next_number stream a (time_of open_at events)) packet ∷ [] else []))
      by_next place a within counts false can made = none
      by_next place a within counts true can made = made (restart_from stream (time_of open_at events) a (next_number stream a (time_of open_at events)) packet) (restarts events path packet place a within counts can)

      by_counting : (c : Bool) → is_counting events ≡ c → (o : Option (ℕ × Anchor)) → WithinLength (length events) o → ((b : Anchor) → IsMade stream open_at events path packet o b → P ((length events, b) ∷ [])) → P (if c then placed (length events) (anchors_after stream open_at o events path packet) else [])
      by_counting false counts o within made = none
      by_counting true counts None within made = by_first (can_anchor stream (time_of open_at events) packet) refl made
      by_counting true counts (Some (place, a)) within made = by_next place a within counts (can_restart stream open_at place a events path packet) refl made

  -- every anchor has its place in the history
  pub all_within : (events : List Event) → AllWithin (length events) (anchors_of stream open_at events)
  all_within = by_last_event (λ events. AllWithin (length events) (anchors_of stream open_at events)) (rw (no_anchors stream open_at) tt) (λ events event before.
      rw (anchors_of-push stream open_at events event)
      (AllWithin-append (length (events ++ event ∷ [])) (anchors_of stream open_at events) (anchors_at stream open_at (anchors_of stream open_at events) events event)
      (AllWithin-raise (length events) (length (events ++ event ∷ [])) (anchors_of stream open_at events) (omega (arith, length-append events (event ∷ []))) before)
      (here events event)))
    where
      here : (events : List Event) (event : Event) → AllWithin (length (events ++ event ∷ [])) (anchors_at stream open_at (anchors_of stream open_at events) events event)
      here events (Tick u) = tt
      here events Close = tt
      here events (Arrive path packet) = by_anchor_made events path packet (AllWithin (length (events ++ Arrive path packet ∷ []))) tt (λ b made. (omega (arith, length-append events (Arrive path packet ∷ [])), tt))

  -- one more anchor, of the next epoch
  one_epoch_more : (n : ℕ) (anchors : List (ℕ × Anchor)) (b : Anchor) → IsNextEpoch stream open_at (anchor_in (last_of anchors)) (Some b) → HasEpochs stream anchors → HasEpochs stream (anchors ++ (n, b) ∷ [])
  one_epoch_more n anchors b next has = record {
    count = rw (last_of-push anchors (n, b)) (omega (arith, own_epoch, longer));
    epochs =
        epochs_in-append anchors ((n, b) ∷ [])
        ∙ ap (λ l. l ++ b.epoch ∷ []) has.epochs
        ∙ ap (λ e. numbers_from 0 (length anchors) ++ e ∷ []) up
        ∙ sym (ap (numbers_from 0) longer ∙ numbers_from-next 0 (length anchors));
    own = rw (last_of-push anchors (n, b)) (anchor_with-append b.epoch anchors ((n, b) ∷ []) ∙ rw (has.later b.epoch (omega (arith, before (anchor_in (last_of anchors)) next)), itself_eq b.epoch) refl);
    later = λ epoch le.
        let above : b.epoch + 1 ≤ epoch = rw (last_of-push anchors (n, b)) at le in
        anchor_with-append epoch anchors ((n, b) ∷ []) ∙ rw (has.later epoch (omega (arith, before (anchor_in (last_of anchors)) next, above)), another epoch above) refl;
  }
    where
      before : (o : Option Anchor) → IsNextEpoch stream open_at o (Some b) → limit_of stream o ≡ b.epoch
      before None next = sym next
      before (Some a) next = sym next

      own_epoch : b.epoch ≡ length anchors
      own_epoch = sym (before (anchor_in (last_of anchors)) next) ∙ has.count

      up : b.epoch ≡ 0 + length anchors
      up = omega (arith, own_epoch)

      longer : length (anchors ++ (n, b) ∷ []) ≡ suc (length anchors)
      longer = omega (arith, length-append anchors ((n, b) ∷ []))

      another : (epoch : ℕ) → b.epoch + 1 ≤ epoch → nat_eq b.epoch epoch ≡ false
      another epoch le = grind (arith, nat_tests, le)

  -- each epoch has one anchor
  pub has_epochs : (events : List Event) → HasEpochs stream (anchors_of stream open_at events)
  has_epochs = by_last_event (λ events. HasEpochs stream (anchors_of stream open_at events)) (rw (no_anchors stream open_at) (record { count = refl; epochs = refl; own = tt; later = λ epoch le. refl })) step
    where
      step : (events : List Event) (event : Event) → HasEpochs stream (anchors_of stream open_at events) → HasEpochs stream (anchors_of stream open_at (events ++ event ∷ []))
      step events (Tick u) before = rw (anchors_of-push stream open_at events (Tick u), append-nil) before
      step events Close before = rw (anchors_of-push stream open_at events Close, append-nil) before
      step events (Arrive path packet) before =
          rw (anchors_of-push stream open_at events (Arrive path packet))
          (by_anchor_made events path packet (λ made. HasEpochs stream (anchors_of stream open_at events ++ made)) (rw append-nil before) (λ b made. one_epoch_more (length events) (anchors_of stream open_at events) b made.next before))
