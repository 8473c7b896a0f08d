-- If every number that was sent lies within half a cycle, the received history has one epoch.
use Rattle.std.proofs.Common.{◌≡◌, ℕ, ◌<◌, ◌≤◌, Bool, true, false, ◌&&◌, ◌||◌, List, [], ◌∷◌, ◌++◌, length, Some, ℤ, refl, sym, ap, subst, ◌∙◌, arith, append-nil, append_assoc, if◌then◌else◌}
use Rattle.path_merge.proofs.EpochLemmas.{WithinLength, heard_of-push, no_anchors, place_within}
use Rattle.path_merge.proofs.HistoryLemmas.{anchors_of-push, arrival_count-append, time_of-append}
use Rattle.rtp_stream.proofs.ProbationLemmas.{complete_is, probation_of-push}
use Rattle.path_merge.proofs.AnewLemmas.{itself_eq}
use Rattle.path_merge.proofs.SentHistoryLemmas.{anchors_closed, base_first, base_high, close_shuts, marks_near, open_next}
use Rattle.path_merge.proofs.FullNumberLemmas.{near_on_grid}
use Rattle.rtp_stream.specs.Anchor.{is_source_wanted, next_number}
use Rattle.rtp_stream.specs.Epochs.{anchors_after, anchors_at, anchors_of, can_restart, continues_media_time, is_all_given, last_of, placed}
use Rattle.rtp_stream.specs.History.{arrival_count, is_closed, is_counting, time_of}
use Rattle.rtp_stream.specs.Marks.{marks_of}
use Rattle.rtp_stream.specs.PathProbation.{is_complete}
use Rattle.rtp_stream.specs.Probation.{completes_probation, heard_since, is_off}
use Rattle.rtp_stream.specs.Follow.{is_following, is_slip}
use Rattle.rtp_stream.specs.Sent.{Arrives, BeginsWith, Closes, IsNear, IsOneEpoch, IsWithinReach, SentEvent, SentPacket, Ticks, marks_by_number, wire_history, wire_packet}
use Rattle.rtp_stream.specs.declared.stream_spec.Stream.{Stream}
use Rattle.rtp_stream.specs.declared.anchor.Anchor.{Anchor}
use Rattle.rtp_stream.specs.declared.event.Event.{Event}
use Rattle.rtp_stream.specs.declared.event.Event.TheVariants.{Arrive, Close, Tick}
use Rattle.rtp_stream.specs.declared.packet.Packet.{Packet}

-- a packet that isn't off completes no probation
on_grid_completes_none : (stream : Stream) (heard : List (Bool × Packet)) (packet : Packet) → completes_probation stream (heard ++ (false, packet) ∷ []) ≡ false
on_grid_completes_none stream heard packet = complete_is stream (heard ++ (false, packet) ∷ []) ∙ ap is_complete (probation_of-push stream heard (false, packet))

module _ (stream : Stream) (open_at : ℤ) (plain : is_following stream.clock ≡ false) (before : List Event) (path : ℕ) (packet : Packet) (place : ℕ) (a : Anchor) (on : is_off stream a (next_number stream a (time_of open_at before)) packet ≡ false) (within : place < length before) (counts : is_counting before ≡ true) where
  -- a packet on the grid opens no epoch
  opens_none : can_restart stream open_at place a before path packet ≡ false
  opens_none = by_wanted (is_source_wanted stream.ssrc packet.ssrc) refl (continues_media_time stream (time_of open_at before) a packet) (is_all_given stream open_at place a before)
    where
      none : (b c : Bool) → (b && (c && false)) ≡ false
      none false c = refl
      none true false = refl
      none true true = refl

      no_slip : is_slip stream open_at place a before path packet ≡ false
      no_slip = rw plain refl

      by_wanted : (w : Bool) → is_source_wanted stream.ssrc packet.ssrc ≡ w → (b c : Bool) → (b && (c && (w && (completes_probation stream (heard_since stream open_at place a (before ++ Arrive path packet ∷ []) path) || is_slip stream open_at place a before path packet)))) ≡ false
      by_wanted false is b c = none b c
      by_wanted true is b c =
          let heard : heard_since stream open_at place a (before ++ Arrive path packet ∷ []) path ≡ heard_since stream open_at place a before path ++ (false, packet) ∷ [] =
          heard_of-push stream open_at (Some (place, a)) before (Arrive path packet) path within
          ∙ ap (λ l. heard_since stream open_at place a before path ++ l) (rw (counts, itself_eq path, is, on) refl) in
          let no : completes_probation stream (heard_since stream open_at place a (before ++ Arrive path packet ∷ []) path) ≡ false = ap (completes_probation stream) heard ∙ on_grid_completes_none stream (heard_since stream open_at place a before path) packet in
          ap (λ d. b && (c && (d || is_slip stream open_at place a before path packet))) no ∙ ap (λ d. b && (c && d)) no_slip ∙ none b c

module _ (stream : Stream) (anchor : Anchor) (open_at : ℤ) (plain : is_following stream.clock ≡ false) where
  -- the anchor alone stays
  base_alone : (before : List Event) (path : ℕ) (packet : SentPacket) (place : ℕ) → 65536 ≤ next_number stream anchor (time_of open_at before) → anchors_of stream open_at before ≡ (place, anchor) ∷ [] → IsNear 32768 (next_number stream anchor (time_of open_at before)) packet.number → anchors_of stream open_at (before ++ Arrive path (wire_packet stream anchor packet) ∷ []) ≡ (place, anchor) ∷ []
  base_alone before path packet place high is near =
      anchors_of-push stream open_at before (Arrive path (wire_packet stream anchor packet))
      ∙ ap (λ l. l ++ anchors_at stream open_at l before (Arrive path (wire_packet stream anchor packet))) is
      ∙ ap (λ l. (place, anchor) ∷ l) (by_counting (is_counting before) refl)
    where
      on : is_off stream anchor (next_number stream anchor (time_of open_at before)) (wire_packet stream anchor packet) ≡ false
      on = rw (itself_eq anchor.source, near_on_grid stream anchor (next_number stream anchor (time_of open_at before)) packet high near) refl

      within : place < length before
      within = subst (WithinLength (length before)) (ap last_of is) (place_within stream open_at before)

      by_counting : (b : Bool) → is_counting before ≡ b → (if b then placed (length before) (anchors_after stream open_at (Some (place, anchor)) before path (wire_packet stream anchor packet)) else []) ≡ []
      by_counting false counts = refl
      by_counting true counts = rw (opens_none stream open_at plain before path (wire_packet stream anchor packet) place anchor on within counts) refl

  one_anchor : (events : List Event) (place : ℕ) → anchors_of stream open_at events ≡ (place, anchor) ∷ [] → IsOneEpoch stream open_at events
  one_anchor events place is = omega (arith, ap length is)

  -- a history with its next event, and the rest, as they were
  joined : (before : List Event) (event : Event) (after : List Event) → IsOneEpoch stream open_at ((before ++ event ∷ []) ++ after) → IsOneEpoch stream open_at (before ++ event ∷ after)
  joined before event after one = subst (IsOneEpoch stream open_at) (append_assoc before (event ∷ []) after) one

  after_base : (before : List Event) (after : List SentEvent) (place : ℕ) → ((at : ℤ) → 65536 ≤ next_number stream anchor at) → anchors_of stream open_at before ≡ (place, anchor) ∷ [] → is_closed before ≡ false → IsWithinReach stream anchor 32768 (time_of open_at before) after → IsOneEpoch stream open_at (before ++ wire_history stream anchor after)
  after_base before [] place high is still within = rw append-nil (one_anchor before place is)
  after_base before (Arrives path packet ∷ after) place high is still within =
      joined before (Arrive path (wire_packet stream anchor packet)) (wire_history stream anchor after)
      (after_base (before ++ Arrive path (wire_packet stream anchor packet) ∷ []) after place high (base_alone before path packet place (high (time_of open_at before)) is within.0) (open_next stream open_at before (Arrive path (wire_packet stream anchor packet)) still refl) (subst (λ t. IsWithinReach stream anchor 32768 t after) (sym (time_of-append open_at before (Arrive path (wire_packet stream anchor packet) ∷ []))) within.1))
  after_base before (Ticks u ∷ after) place high is still within =
      joined before (Tick u) (wire_history stream anchor after)
      (after_base (before ++ Tick u ∷ []) after place high (anchors_of-push stream open_at before (Tick u) ∙ append-nil _ ∙ is) (open_next stream open_at before (Tick u) still refl) (subst (λ t. IsWithinReach stream anchor 32768 t after) (sym (time_of-append open_at before (Tick u ∷ []))) within))
  after_base before (Closes ∷ after) place high is still within =
      joined before Close (wire_history stream anchor after)
      (one_anchor ((before ++ Close ∷ []) ++ wire_history stream anchor after) place (anchors_closed stream open_at (before ++ Close ∷ []) (wire_history stream anchor after) (close_shuts stream open_at before) ∙ anchors_of-push stream open_at before Close ∙ append-nil _ ∙ is))

  before_base : (before : List Event) (after : List SentEvent) → anchors_of stream open_at before ≡ [] → is_closed before ≡ false → arrival_count before ≡ 0 → BeginsWith stream anchor (time_of open_at before) after → IsWithinReach stream anchor 32768 (time_of open_at before) after → IsOneEpoch stream open_at (before ++ wire_history stream anchor after)
  before_base before [] is still none begins within = rw append-nil (omega (arith, ap length is))
  before_base before (Arrives path packet ∷ after) is still none begins within =
      joined before (Arrive path (wire_packet stream anchor packet)) (wire_history stream anchor after)
      (after_base (before ++ Arrive path (wire_packet stream anchor packet) ∷ []) after (length before) (base_high stream anchor open_at (time_of open_at before) (wire_packet stream anchor packet) begins.1) (base_first stream anchor open_at before path packet after is still none begins) (open_next stream open_at before (Arrive path (wire_packet stream anchor packet)) still refl) (subst (λ t. IsWithinReach stream anchor 32768 t after) (sym (time_of-append open_at before (Arrive path (wire_packet stream anchor packet) ∷ []))) within.1))
  before_base before (Ticks u ∷ after) is still none begins within =
      let time = sym (time_of-append open_at before (Tick u ∷ [])) in
      let none_yet : arrival_count (before ++ Tick u ∷ []) ≡ 0 = omega (arith, arrival_count-append before (Tick u ∷ []), none) in
      joined before (Tick u) (wire_history stream anchor after)
      (before_base (before ++ Tick u ∷ []) after (anchors_of-push stream open_at before (Tick u) ∙ append-nil _ ∙ is) (open_next stream open_at before (Tick u) still refl) none_yet (subst (λ t. BeginsWith stream anchor t after) time begins) (subst (λ t. IsWithinReach stream anchor 32768 t after) time within))
  before_base before (Closes ∷ after) is still none begins within =
      joined before Close (wire_history stream anchor after)
      (omega (arith, ap length (anchors_closed stream open_at (before ++ Close ∷ []) (wire_history stream anchor after) (close_shuts stream open_at before) ∙ anchors_of-push stream open_at before Close ∙ append-nil _ ∙ is)))

  -- near numbers open one epoch
  pub near_is_one_epoch : (sent : List SentEvent) → BeginsWith stream anchor open_at sent → IsWithinReach stream anchor 32768 open_at sent → IsOneEpoch stream open_at (wire_history stream anchor sent)
  near_is_one_epoch sent begins within = before_base [] sent (no_anchors stream open_at) refl refl begins within

  pub near_marks : (sent : List SentEvent) → BeginsWith stream anchor open_at sent → IsWithinReach stream anchor 32768 open_at sent → marks_of stream open_at (wire_history stream anchor sent) ≡ marks_by_number stream anchor open_at sent
  near_marks sent begins within = marks_near stream anchor open_at plain sent begins within (near_is_one_epoch sent begins within)
