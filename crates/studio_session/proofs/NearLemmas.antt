-- Two histories that differ in Quiets alone differ in nothing else, whatever comes.
use Rattle.std.proofs.Common.{◌≡◌, ℕ, zero, suc, ◌+◌, ◌-◌, ◌^◌, ◌<◌, Bool, true, false, not, ◌&&◌, ◌||◌, List, [], ◌∷◌, ◌++◌, length, reverse, Option, Some, None, ℤ, pos, ◌≤ℤ◌, refl, sym, ap, subst, ◌∙◌, arith, append_assoc, append-nil, if◌then◌else◌}
use Rattle.std.specs.Prelude.{nat_eq, nat_le, nat_lt}
use Rattle.std.proofs.lemmas.Bool.{false≢true}
use Rattle.std.proofs.lemmas.Int.{ints}
use Rattle.rtp_stream.specs.Anchor.{anchor_from, can_anchor, is_source_wanted, next_number, restart_from}
use Rattle.rtp_stream.specs.Copies.{copies_at, copies_of, copies_of_all, copies_under_with, copies_with}
use Rattle.rtp_stream.specs.Counts.{fates_at, fates_of}
use Rattle.rtp_stream.specs.Epochs.{anchor_in, anchor_of, anchors_after, anchors_of, can_restart, continues_media_time, last_of, placed, width_in_force}
use Rattle.rtp_stream.specs.Fate.{counted_fate, fate_of, is_restart}
use Rattle.rtp_stream.specs.Grid.{end_of_copies, first_with, of_width}
use Rattle.rtp_stream.specs.History.{arrival_count, is_closed, is_counting, is_well_timed, time_of}
use Rattle.rtp_stream.specs.Marks.{body_of, end_mark, marks_at, marks_of, slot_mark, slots_at_close, slots_between, slots_from, slots_or_quiet}
use Rattle.rtp_stream.specs.Probation.{completes_probation, heard_since, is_off}
use Rattle.rtp_stream.specs.Follow.{astray_since, has_wire_size, is_astray, is_following, is_for_long, is_slip, run_of, width_after, standing_after, standings_on, standings_since}
use Rattle.rtp_stream.specs.declared.anchor.Anchor.{Anchor}
use Rattle.rtp_stream.specs.declared.event.Event.{Event}
use Rattle.rtp_stream.specs.declared.event.Event.TheVariants.{Arrive, Close, Tick}
use Rattle.rtp_stream.specs.declared.fate.Fate.{Fate}
use Rattle.rtp_stream.specs.declared.fate.Fate.TheVariants.{Closed, CountersFull, Restarted}
use Rattle.rtp_stream.specs.declared.packet.Packet.{Packet}
use Rattle.rtp_stream.specs.declared.stream_spec.Stream.{Stream}
use Rattle.rtp_stream.specs.declared.follow.Standing.{Standing}
use Rattle.path_merge.specs.Merge.{heard_of, standings_of}
use Rattle.path_merge.proofs.CloseLemmas.{marks_of-close}
use Rattle.path_merge.proofs.DueLemmas.{next_number-rises}
use Rattle.path_merge.proofs.EpochLemmas.{anchor_is, copies_of-since, heard_by, heard_of-close, heard_of-made, heard_of-push, heard_of-tick, last-push, place_within, width_made, since_of, standings_by, standings_of-close, standings_of-made, standings_of-push, standings_of-tick}
use Rattle.path_merge.proofs.HistoryLemmas.{anchor_of-close, anchor_of-tick, arrival_count-append, copies_of-tick, copies_of-with, copies_of_all-close, copies_of_all-push, copies_of_all-tick, fates_of-close, fates_of-push, fates_of-tick, is_closed-append, is_well_timed_from-append, or_else, time_of-append}
use Rattle.path_merge.proofs.LawLemmas.{arrival_keeps}
use Rattle.path_merge.proofs.MarkGrowthLemmas.{IsTickAt, tick_well_timed, well_timed_tick}
use Rattle.path_merge.proofs.StepLemmas.{marks_of-tick}
use Rattle.studio_session.proofs.SilenceLemmas.{AreClose, BeginsWithSlot, close_more, given_alike, two_readings}

-- the first events of a history whose readings are in order
pub timed_part : (open_at : ℤ) (events more : List Event) → is_well_timed open_at (events ++ more) ≡ true → is_well_timed open_at events ≡ true
timed_part open_at events more h = and_left _ _ (sym (is_well_timed_from-append open_at false events more) ∙ h)
  where
    and_left : (a b : Bool) → (a && b) ≡ true → a ≡ true
    and_left true b h = refl
    and_left false b h = absurd (false≢true h)

module _ (stream : Stream) (open_at : ℤ) where
  -- two histories agree in all but Quiets and places
  pub record AreNear (e f : List Event) : Type 0 where
    pub timed : is_well_timed open_at e ≡ true
    pub other_timed : is_well_timed open_at f ≡ true
    pub time : time_of open_at e ≡ time_of open_at f
    pub closed : is_closed e ≡ is_closed f
    pub arrived : arrival_count e ≡ arrival_count f
    pub fates : fates_of stream open_at e ≡ fates_of stream open_at f
    pub anchor : anchor_of stream open_at e ≡ anchor_of stream open_at f
    pub heard : (path : ℕ) → heard_of stream open_at (last_of (anchors_of stream open_at e)) e path ≡ heard_of stream open_at (last_of (anchors_of stream open_at f)) f path
    pub standings : standings_of stream open_at (last_of (anchors_of stream open_at e)) e ≡ standings_of stream open_at (last_of (anchors_of stream open_at f)) f
    pub copies : copies_of_all stream open_at e ≡ copies_of_all stream open_at f
    pub marks : AreClose stream (marks_of stream open_at e) (marks_of stream open_at f)

  copies_near : (e f : List Event) → AreNear e f → copies_of stream open_at e ≡ copies_of stream open_at f
  copies_near e f near =
      sym (copies_of-with stream open_at e)
      ∙ ap (λ o. copies_with o (copies_of_all stream open_at e)) near.anchor
      ∙ ap (copies_with (anchor_of stream open_at f)) near.copies
      ∙ copies_of-with stream open_at f

  counting_near : (e f : List Event) → AreNear e f → is_counting e ≡ is_counting f
  counting_near e f near = ap (λ b. not b && nat_lt (arrival_count e) (2 ^ 62)) near.closed ∙ ap (λ n. not (is_closed f) && nat_lt n (2 ^ 62)) near.arrived

  -- both histories after one more arrival
  module _ (e f : List Event) (near : AreNear e f) (path : ℕ) (packet : Packet) where
    -- whether the arrival restarts the stream, by what this depends on
    abbrev decides : ℤ → Anchor → List (ℕ × Packet) → List (Bool × Packet) → Bool → Bool
    decides time anchor copies heard slips =
        continues_media_time stream time anchor packet
        && (nat_le (end_of_copies copies) (next_number stream anchor time)
        && (is_source_wanted stream.ssrc packet.ssrc && (completes_probation stream heard || slips)))

    -- whether the arrival shows that the sender is astray, by the standings of the arrivals before it and with it
    abbrev shows : ℤ → Anchor → List Standing → List Standing → Bool
    shows time anchor before after =
        is_following stream.clock
        && (has_wire_size packet
        && (is_astray (standing_after stream anchor (next_number stream anchor time) time before path packet)
        && is_for_long (astray_since (run_of (reverse (standings_on path after)))) time))

    -- the standing of the arrival, if it is counted
    abbrev stands : Bool → ℤ → Anchor → List Standing → List Standing
    stands counting time anchor before =
        if is_following stream.clock && (counting && is_source_wanted stream.ssrc packet.ssrc)
        then standing_after stream anchor (next_number stream anchor time) time before path packet ∷ [] else []

    heard_by_near : (on : ℕ) (o p : Option (ℕ × Anchor)) → anchor_in o ≡ anchor_in p → heard_by stream open_at o e (Arrive path packet) on ≡ heard_by stream open_at p f (Arrive path packet) on
    heard_by_near on None None same = refl
    heard_by_near on None (Some q) same = absurd (cc)
    heard_by_near on (Some p) None same = absurd (cc)
    heard_by_near on (Some (i, a)) (Some (j, b)) same =
        let is : a ≡ b = cc in
        ap (λ c. if c && (nat_eq path on && is_source_wanted stream.ssrc packet.ssrc) then (is_off stream a (next_number stream a (time_of open_at e)) packet, packet) ∷ [] else []) (counting_near e f near)
        ∙ ap (λ t. if is_counting f && (nat_eq path on && is_source_wanted stream.ssrc packet.ssrc) then (is_off stream a (next_number stream a t) packet, packet) ∷ [] else []) near.time
        ∙ ap (λ x. if is_counting f && (nat_eq path on && is_source_wanted stream.ssrc packet.ssrc) then (is_off stream x (next_number stream x (time_of open_at f)) packet, packet) ∷ [] else []) is

    anchor_near : anchor_in (last_of (anchors_of stream open_at e)) ≡ anchor_in (last_of (anchors_of stream open_at f))
    anchor_near = sym (anchor_is stream open_at e) ∙ near.anchor ∙ anchor_is stream open_at f

    since_near : since_of stream open_at (last_of (anchors_of stream open_at e)) e ≡ since_of stream open_at (last_of (anchors_of stream open_at f)) f
    since_near = sym (copies_of-since stream open_at e) ∙ copies_near e f near ∙ copies_of-since stream open_at f

    -- what is heard after the arrival
    heard_near : (on : ℕ) → heard_of stream open_at (last_of (anchors_of stream open_at e)) (e ++ Arrive path packet ∷ []) on ≡ heard_of stream open_at (last_of (anchors_of stream open_at f)) (f ++ Arrive path packet ∷ []) on
    heard_near on =
        heard_of-push stream open_at (last_of (anchors_of stream open_at e)) e (Arrive path packet) on (place_within stream open_at e)
        ∙ ap (λ l. l ++ heard_by stream open_at (last_of (anchors_of stream open_at e)) e (Arrive path packet) on) (near.heard on)
        ∙ ap (λ l. heard_of stream open_at (last_of (anchors_of stream open_at f)) f on ++ l) (heard_by_near on (last_of (anchors_of stream open_at e)) (last_of (anchors_of stream open_at f)) anchor_near)
        ∙ sym (heard_of-push stream open_at (last_of (anchors_of stream open_at f)) f (Arrive path packet) on (place_within stream open_at f))

    stands_near : (o p : Option (ℕ × Anchor)) → anchor_in o ≡ anchor_in p → standings_of stream open_at o e ≡ standings_of stream open_at p f
        → standings_by stream open_at o e (Arrive path packet) ≡ standings_by stream open_at p f (Arrive path packet)
    stands_near None None same stood = refl
    stands_near None (Some q) same stood = absurd (cc)
    stands_near (Some p) None same stood = absurd (cc)
    stands_near (Some (i, a)) (Some (j, b)) same stood =
        let is : a ≡ b = cc in
        ap (λ c. stands c (time_of open_at e) a (standings_since stream open_at i a e)) (counting_near e f near)
        ∙ ap (λ t. stands (is_counting f) t a (standings_since stream open_at i a e)) near.time
        ∙ ap (stands (is_counting f) (time_of open_at f) a) stood
        ∙ ap (λ x. stands (is_counting f) (time_of open_at f) x (standings_since stream open_at j b f)) is

    -- the standings of the arrivals after this one
    standings_near : standings_of stream open_at (last_of (anchors_of stream open_at e)) (e ++ Arrive path packet ∷ []) ≡ standings_of stream open_at (last_of (anchors_of stream open_at f)) (f ++ Arrive path packet ∷ [])
    standings_near =
        standings_of-push stream open_at (last_of (anchors_of stream open_at e)) e (Arrive path packet) (place_within stream open_at e)
        ∙ ap (λ l. l ++ standings_by stream open_at (last_of (anchors_of stream open_at e)) e (Arrive path packet)) near.standings
        ∙ ap (λ l. standings_of stream open_at (last_of (anchors_of stream open_at f)) f ++ l) (stands_near (last_of (anchors_of stream open_at e)) (last_of (anchors_of stream open_at f)) anchor_near near.standings)
        ∙ sym (standings_of-push stream open_at (last_of (anchors_of stream open_at f)) f (Arrive path packet) (place_within stream open_at f))

    slip_near : (i j : ℕ) (a b : Anchor) → a ≡ b → standings_of stream open_at (Some (i, a)) e ≡ standings_of stream open_at (Some (j, b)) f
        → standings_of stream open_at (Some (i, a)) (e ++ Arrive path packet ∷ []) ≡ standings_of stream open_at (Some (j, b)) (f ++ Arrive path packet ∷ [])
        → is_slip stream open_at i a e path packet ≡ is_slip stream open_at j b f path packet
    slip_near i j a b is stood stand =
        ap (λ t. shows t a (standings_since stream open_at i a e) (standings_since stream open_at i a (e ++ Arrive path packet ∷ []))) near.time
        ∙ ap (λ l. shows (time_of open_at f) a l (standings_since stream open_at i a (e ++ Arrive path packet ∷ []))) stood
        ∙ ap (shows (time_of open_at f) a (standings_since stream open_at j b f)) stand
        ∙ ap (λ x. shows (time_of open_at f) x (standings_since stream open_at j b f) (standings_since stream open_at j b (f ++ Arrive path packet ∷ []))) is

    -- the width of the window that the arrival finds
    width_near : (o p : Option (ℕ × Anchor)) → anchor_in o ≡ anchor_in p → standings_of stream open_at o e ≡ standings_of stream open_at p f → width_in_force stream open_at o e ≡ width_in_force stream open_at p f
    width_near None None same stood = refl
    width_near None (Some q) same stood = absurd (cc)
    width_near (Some p) None same stood = absurd (cc)
    width_near (Some (i, a)) (Some (j, b)) same stood =
        let is : a ≡ b = cc in
        ap (λ t. width_after stream a (next_number stream a t) t (standings_since stream open_at i a e)) near.time
        ∙ ap (width_after stream a (next_number stream a (time_of open_at f)) (time_of open_at f)) stood
        ∙ ap (λ x. width_after stream x (next_number stream x (time_of open_at f)) (time_of open_at f) (standings_since stream open_at j b f)) is

    -- since these anchors both histories agree in what is heard, and in the standings of arrivals before this one and
    -- with it
    record SameSince (o p : Option (ℕ × Anchor)) : Type 0 where
      copies : since_of stream open_at o e ≡ since_of stream open_at p f
      heard : heard_of stream open_at o (e ++ Arrive path packet ∷ []) path ≡ heard_of stream open_at p (f ++ Arrive path packet ∷ []) path
      stood : standings_of stream open_at o e ≡ standings_of stream open_at p f
      stand : standings_of stream open_at o (e ++ Arrive path packet ∷ []) ≡ standings_of stream open_at p (f ++ Arrive path packet ∷ [])

    same_since : SameSince (last_of (anchors_of stream open_at e)) (last_of (anchors_of stream open_at f))
    same_since = record { copies = since_near; heard = heard_near path; stood = near.standings; stand = standings_near }

    can_near : (i j : ℕ) (a b : Anchor) → a ≡ b → SameSince (Some (i, a)) (Some (j, b)) → can_restart stream open_at i a e path packet ≡ can_restart stream open_at j b f path packet
    can_near i j a b is since =
        ap (λ t. decides t a (since_of stream open_at (Some (i, a)) e) (heard_since stream open_at i a (e ++ Arrive path packet ∷ []) path) (is_slip stream open_at i a e path packet)) near.time
        ∙ ap (λ c. decides (time_of open_at f) a c (heard_since stream open_at i a (e ++ Arrive path packet ∷ []) path) (is_slip stream open_at i a e path packet)) since.copies
        ∙ ap (λ h. decides (time_of open_at f) a (since_of stream open_at (Some (j, b)) f) h (is_slip stream open_at i a e path packet)) since.heard
        ∙ ap (decides (time_of open_at f) a (since_of stream open_at (Some (j, b)) f) (heard_since stream open_at j b (f ++ Arrive path packet ∷ []) path)) (slip_near i j a b is since.stood since.stand)
        ∙ ap (λ x. decides (time_of open_at f) x (since_of stream open_at (Some (j, b)) f) (heard_since stream open_at j b (f ++ Arrive path packet ∷ []) path) (is_slip stream open_at j b f path packet)) is

    restart_near : (o p : Option (ℕ × Anchor)) → anchor_in o ≡ anchor_in p → SameSince o p → is_restart stream open_at o e path packet ≡ is_restart stream open_at p f path packet
    restart_near None None same since = refl
    restart_near None (Some q) same since = absurd (cc)
    restart_near (Some p) None same since = absurd (cc)
    restart_near (Some (i, a)) (Some (j, b)) same since = can_near i j a b (let is : a ≡ b = cc in is) since

    -- the anchors that the arrival makes
    made_near : (o p : Option (ℕ × Anchor)) → anchor_in o ≡ anchor_in p → SameSince o p → anchors_after stream open_at o e path packet ≡ anchors_after stream open_at p f path packet
    made_near None None same since = ap (λ t. if can_anchor stream t packet then anchor_from stream t packet ∷ [] else []) near.time
    made_near None (Some q) same since = absurd (cc)
    made_near (Some p) None same since = absurd (cc)
    made_near (Some (i, a)) (Some (j, b)) same since =
        let is : a ≡ b = cc in
        ap (λ c. if c then restart_from stream (time_of open_at e) a (next_number stream a (time_of open_at e)) packet ∷ [] else []) (can_near i j a b is since)
        ∙ ap (λ t. if can_restart stream open_at j b f path packet then restart_from stream t a (next_number stream a t) packet ∷ [] else []) near.time
        ∙ ap (λ x. if can_restart stream open_at j b f path packet then restart_from stream (time_of open_at f) x (next_number stream x (time_of open_at f)) packet ∷ [] else []) is

    abbrev made_of : List Event → List Anchor
    made_of events = if is_counting events then anchors_after stream open_at (last_of (anchors_of stream open_at events)) events path packet else []

    made_same : made_of e ≡ made_of f
    made_same =
        ap (λ c. if c then anchors_after stream open_at (last_of (anchors_of stream open_at e)) e path packet else []) (counting_near e f near)
        ∙ ap (λ l. if is_counting f then l else []) (made_near (last_of (anchors_of stream open_at e)) (last_of (anchors_of stream open_at f)) anchor_near same_since)

    -- the last anchor after the arrival
    last_is : (events : List Event) → last_of (anchors_of stream open_at (events ++ Arrive path packet ∷ [])) ≡ or_else (last_of (placed (length events) (made_of events))) (last_of (anchors_of stream open_at events))
    last_is events = last-push stream open_at events (Arrive path packet) ∙ ap (λ l. or_else (last_of l) (last_of (anchors_of stream open_at events))) (by_test (is_counting events))
      where
        by_test : (c : Bool) → (if c then placed (length events) (anchors_after stream open_at (last_of (anchors_of stream open_at events)) events path packet) else []) ≡ placed (length events) (if c then anchors_after stream open_at (last_of (anchors_of stream open_at events)) events path packet else [])
        by_test true = refl
        by_test false = refl

    in_force : (n m : ℕ) (made : List Anchor) (o p : Option (ℕ × Anchor)) → anchor_in o ≡ anchor_in p → anchor_in (or_else (last_of (placed n made)) o) ≡ anchor_in (or_else (last_of (placed m made)) p)
    in_force n m [] o p same = same
    in_force n m (a ∷ []) o p same = refl
    in_force n m (a ∷ b ∷ made) o p same = in_force n m (b ∷ made) o p same

    anchor_then : anchor_of stream open_at (e ++ Arrive path packet ∷ []) ≡ anchor_of stream open_at (f ++ Arrive path packet ∷ [])
    anchor_then =
        anchor_is stream open_at (e ++ Arrive path packet ∷ [])
        ∙ ap anchor_in (last_is e)
        ∙ ap (λ l. anchor_in (or_else (last_of (placed (length e) l)) (last_of (anchors_of stream open_at e)))) made_same
        ∙ in_force (length e) (length f) (made_of f) (last_of (anchors_of stream open_at e)) (last_of (anchors_of stream open_at f)) anchor_near
        ∙ sym (ap anchor_in (last_is f))
        ∙ sym (anchor_is stream open_at (f ++ Arrive path packet ∷ []))

    heard_with : (on : ℕ) (made : List Anchor) (o p : Option (ℕ × Anchor)) → heard_of stream open_at o (e ++ Arrive path packet ∷ []) on ≡ heard_of stream open_at p (f ++ Arrive path packet ∷ []) on
        → heard_of stream open_at (or_else (last_of (placed (length e) made)) o) (e ++ Arrive path packet ∷ []) on ≡ heard_of stream open_at (or_else (last_of (placed (length f) made)) p) (f ++ Arrive path packet ∷ []) on
    heard_with on [] o p same = same
    heard_with on (a ∷ []) o p same = heard_of-made stream open_at a e (Arrive path packet) on ∙ sym (heard_of-made stream open_at a f (Arrive path packet) on)
    heard_with on (a ∷ b ∷ made) o p same = heard_with on (b ∷ made) o p same

    heard_then : (on : ℕ) → heard_of stream open_at (last_of (anchors_of stream open_at (e ++ Arrive path packet ∷ []))) (e ++ Arrive path packet ∷ []) on ≡ heard_of stream open_at (last_of (anchors_of stream open_at (f ++ Arrive path packet ∷ []))) (f ++ Arrive path packet ∷ []) on
    heard_then on =
        ap (λ o. heard_of stream open_at o (e ++ Arrive path packet ∷ []) on) (last_is e)
        ∙ ap (λ l. heard_of stream open_at (or_else (last_of (placed (length e) l)) (last_of (anchors_of stream open_at e))) (e ++ Arrive path packet ∷ []) on) made_same
        ∙ heard_with on (made_of f) (last_of (anchors_of stream open_at e)) (last_of (anchors_of stream open_at f)) (heard_near on)
        ∙ sym (ap (λ o. heard_of stream open_at o (f ++ Arrive path packet ∷ []) on) (last_is f))

    standings_with : (made : List Anchor) (o p : Option (ℕ × Anchor)) → standings_of stream open_at o (e ++ Arrive path packet ∷ []) ≡ standings_of stream open_at p (f ++ Arrive path packet ∷ [])
        → standings_of stream open_at (or_else (last_of (placed (length e) made)) o) (e ++ Arrive path packet ∷ []) ≡ standings_of stream open_at (or_else (last_of (placed (length f) made)) p) (f ++ Arrive path packet ∷ [])
    standings_with [] o p same = same
    standings_with (a ∷ []) o p same = standings_of-made stream open_at a e (Arrive path packet) ∙ sym (standings_of-made stream open_at a f (Arrive path packet))
    standings_with (a ∷ b ∷ made) o p same = standings_with (b ∷ made) o p same

    standings_then : standings_of stream open_at (last_of (anchors_of stream open_at (e ++ Arrive path packet ∷ []))) (e ++ Arrive path packet ∷ []) ≡ standings_of stream open_at (last_of (anchors_of stream open_at (f ++ Arrive path packet ∷ []))) (f ++ Arrive path packet ∷ [])
    standings_then =
        ap (λ o. standings_of stream open_at o (e ++ Arrive path packet ∷ [])) (last_is e)
        ∙ ap (λ l. standings_of stream open_at (or_else (last_of (placed (length e) l)) (last_of (anchors_of stream open_at e))) (e ++ Arrive path packet ∷ [])) made_same
        ∙ standings_with (made_of f) (last_of (anchors_of stream open_at e)) (last_of (anchors_of stream open_at f)) standings_near
        ∙ sym (ap (λ o. standings_of stream open_at o (f ++ Arrive path packet ∷ [])) (last_is f))

    -- the width of the window under the anchor that is in force after the arrival
    width_with : (made : List Anchor) (o p : Option (ℕ × Anchor)) → width_in_force stream open_at o e ≡ width_in_force stream open_at p f
        → width_in_force stream open_at (or_else (last_of (placed (length e) made)) o) e ≡ width_in_force stream open_at (or_else (last_of (placed (length f) made)) p) f
    width_with [] o p same = same
    width_with (a ∷ []) o p same = width_made stream open_at a e ∙ sym (width_made stream open_at a f)
    width_with (a ∷ b ∷ made) o p same = width_with (b ∷ made) o p same

    width_same : width_in_force stream open_at (last_of (anchors_of stream open_at e)) e ≡ width_in_force stream open_at (last_of (anchors_of stream open_at f)) f
    width_same = width_near (last_of (anchors_of stream open_at e)) (last_of (anchors_of stream open_at f)) anchor_near near.standings

    abbrev width_then_of : List Event → ℕ
    width_then_of events = width_in_force stream open_at (last_of (anchors_of stream open_at (events ++ Arrive path packet ∷ []))) events

    width_then : width_then_of e ≡ width_then_of f
    width_then =
        ap (λ o. width_in_force stream open_at o e) (last_is e)
        ∙ ap (λ l. width_in_force stream open_at (or_else (last_of (placed (length e) l)) (last_of (anchors_of stream open_at e))) e) made_same
        ∙ width_with (made_of f) (last_of (anchors_of stream open_at e)) (last_of (anchors_of stream open_at f)) width_same
        ∙ sym (ap (λ o. width_in_force stream open_at o f) (last_is f))

    copies_then : copies_of_all stream open_at (e ++ Arrive path packet ∷ []) ≡ copies_of_all stream open_at (f ++ Arrive path packet ∷ [])
    copies_then =
        copies_of_all-push stream open_at e (Arrive path packet)
        ∙ ap (λ l. l ++ copies_at stream open_at e (Arrive path packet)) near.copies
        ∙ ap (λ l. copies_of_all stream open_at f ++ l)
        (ap (λ r. copies_under_with (of_width stream r) (time_of open_at e) (is_counting e) (anchor_of stream open_at (e ++ Arrive path packet ∷ [])) packet) width_then
        ∙ ap (λ t. copies_under_with (of_width stream (width_then_of f)) t (is_counting e) (anchor_of stream open_at (e ++ Arrive path packet ∷ [])) packet) near.time
        ∙ ap (λ c. copies_under_with (of_width stream (width_then_of f)) (time_of open_at f) c (anchor_of stream open_at (e ++ Arrive path packet ∷ [])) packet) (counting_near e f near)
        ∙ ap (λ o. copies_under_with (of_width stream (width_then_of f)) (time_of open_at f) (is_counting f) o packet) anchor_then)
        ∙ sym (copies_of_all-push stream open_at f (Arrive path packet))

    -- the fate of the arrival, by what this depends on
    abbrev fate_by : Bool → ℕ → Bool → ℕ → ℤ → Option Anchor → List (ℕ × Packet) → Fate
    fate_by closed arrived restarts space time anchor copies =
        if closed then Closed
        else if not (nat_lt arrived (2 ^ 62)) then CountersFull
        else if restarts then Restarted
        else counted_fate stream space time anchor copies packet

    abbrev restarts_of : List Event → Bool
    restarts_of events = is_restart stream open_at (last_of (anchors_of stream open_at events)) events path packet

    abbrev width_of : List Event → ℕ
    width_of events = width_in_force stream open_at (last_of (anchors_of stream open_at events)) events

    fate_near : fate_of stream open_at e path packet ≡ fate_of stream open_at f path packet
    fate_near =
        let restart : restarts_of e ≡ restarts_of f = restart_near (last_of (anchors_of stream open_at e)) (last_of (anchors_of stream open_at f)) anchor_near same_since in
        ap (λ c. fate_by c (arrival_count e) (restarts_of e) (width_of e) (time_of open_at e) (anchor_of stream open_at e) (copies_of stream open_at e)) near.closed
        ∙ ap (λ n. fate_by (is_closed f) n (restarts_of e) (width_of e) (time_of open_at e) (anchor_of stream open_at e) (copies_of stream open_at e)) near.arrived
        ∙ ap (λ r. fate_by (is_closed f) (arrival_count f) r (width_of e) (time_of open_at e) (anchor_of stream open_at e) (copies_of stream open_at e)) restart
        ∙ ap (λ r. fate_by (is_closed f) (arrival_count f) (restarts_of f) r (time_of open_at e) (anchor_of stream open_at e) (copies_of stream open_at e)) width_same
        ∙ ap (λ t. fate_by (is_closed f) (arrival_count f) (restarts_of f) (width_of f) t (anchor_of stream open_at e) (copies_of stream open_at e)) near.time
        ∙ ap (λ o. fate_by (is_closed f) (arrival_count f) (restarts_of f) (width_of f) (time_of open_at f) o (copies_of stream open_at e)) near.anchor
        ∙ ap (fate_by (is_closed f) (arrival_count f) (restarts_of f) (width_of f) (time_of open_at f) (anchor_of stream open_at f)) (copies_near e f near)

    fates_then : fates_of stream open_at (e ++ Arrive path packet ∷ []) ≡ fates_of stream open_at (f ++ Arrive path packet ∷ [])
    fates_then =
        fates_of-push stream open_at e (Arrive path packet)
        ∙ ap (λ l. l ++ fates_at stream open_at e (Arrive path packet)) near.fates
        ∙ ap (λ l. fates_of stream open_at f ++ l)
        (ap (λ c. if c then (path, fate_of stream open_at e path packet) ∷ [] else []) (counting_near e f near)
        ∙ ap (λ x. if is_counting f then (path, x) ∷ [] else []) fate_near)
        ∙ sym (fates_of-push stream open_at f (Arrive path packet))

  -- both histories after one more event
  module _ (some : 0 < stream.frames) (e f : List Event) (near : AreNear e f) where
    time_then : (event : Event) → time_of open_at (e ++ event ∷ []) ≡ time_of open_at (f ++ event ∷ [])
    time_then event = time_of-append open_at e (event ∷ []) ∙ ap (λ t. time_of t (event ∷ [])) near.time ∙ sym (time_of-append open_at f (event ∷ []))

    closed_then : (event : Event) → is_closed (e ++ event ∷ []) ≡ is_closed (f ++ event ∷ [])
    closed_then event = is_closed-append e (event ∷ []) ∙ ap (λ c. if c then true else is_closed (event ∷ [])) near.closed ∙ sym (is_closed-append f (event ∷ []))

    arrived_then : (event : Event) → arrival_count (e ++ event ∷ []) ≡ arrival_count (f ++ event ∷ [])
    arrived_then event = arrival_count-append e (event ∷ []) ∙ ap (λ n. n + arrival_count (event ∷ [])) near.arrived ∙ sym (arrival_count-append f (event ∷ []))

    near_more : (event : Event) → is_well_timed open_at (e ++ event ∷ []) ≡ true → is_well_timed open_at (f ++ event ∷ []) ≡ true → AreNear (e ++ event ∷ []) (f ++ event ∷ [])
    near_more (Arrive path packet) timed others = record {
      timed = timed;
      other_timed = others;
      time = time_then (Arrive path packet);
      closed = closed_then (Arrive path packet);
      arrived = arrived_then (Arrive path packet);
      fates = fates_then e f near path packet;
      anchor = anchor_then e f near path packet;
      heard = heard_then e f near path packet;
      standings = standings_then e f near path packet;
      copies = copies_then e f near path packet;
      marks = rw (arrival_keeps stream open_at e path packet some near.timed, arrival_keeps stream open_at f path packet some near.other_timed) near.marks;
    }
    near_more (Tick u) timed others =
        let copies = copies_near e f near in
        let gains = given_alike stream open_at (marks_of stream open_at e) (marks_of stream open_at f) u (slots_between stream (copies_of stream open_at e) (anchor_of stream open_at e) (time_of open_at e) u) near.marks in
        let due : slots_between stream (copies_of stream open_at e) (anchor_of stream open_at e) (time_of open_at e) u ≡ slots_between stream (copies_of stream open_at f) (anchor_of stream open_at f) (time_of open_at f) u =
        ap (λ c. slots_between stream c (anchor_of stream open_at e) (time_of open_at e) u) copies
        ∙ ap (λ o. slots_between stream (copies_of stream open_at f) o (time_of open_at e) u) near.anchor
        ∙ ap (λ t. slots_between stream (copies_of stream open_at f) (anchor_of stream open_at f) t u) near.time in
        let first : marks_of stream open_at (e ++ Tick u ∷ []) ≡ marks_of stream open_at e ++ slots_or_quiet stream open_at (marks_of stream open_at f) u (slots_between stream (copies_of stream open_at f) (anchor_of stream open_at f) (time_of open_at f) u) =
        marks_of-tick stream open_at e u (well_timed_tick open_at e u timed).open_yet
        ∙ ap (λ l. marks_of stream open_at e ++ l) (gains ∙ ap (slots_or_quiet stream open_at (marks_of stream open_at f) u) due) in
        let second = marks_of-tick stream open_at f u (well_timed_tick open_at f u others).open_yet in
        record {
          timed = timed;
          other_timed = others;
          time = time_then (Tick u);
          closed = closed_then (Tick u);
          arrived = arrived_then (Tick u);
          fates = fates_of-tick stream open_at e u ∙ near.fates ∙ sym (fates_of-tick stream open_at f u);
          anchor = anchor_of-tick stream open_at e u ∙ near.anchor ∙ sym (anchor_of-tick stream open_at f u);
          heard = λ path. heard_of-tick stream open_at e u path ∙ near.heard path ∙ sym (heard_of-tick stream open_at f u path);
          standings = standings_of-tick stream open_at e u ∙ near.standings ∙ sym (standings_of-tick stream open_at f u);
          copies = copies_of_all-tick stream open_at e u ∙ near.copies ∙ sym (copies_of_all-tick stream open_at f u);
          marks = subst (λ l. AreClose stream l (marks_of stream open_at (f ++ Tick u ∷ []))) (sym first)
              (subst (AreClose stream (marks_of stream open_at e ++ slots_or_quiet stream open_at (marks_of stream open_at f) u (slots_between stream (copies_of stream open_at f) (anchor_of stream open_at f) (time_of open_at f) u))) (sym second)
              (close_more stream (marks_of stream open_at e) (marks_of stream open_at f) (slots_or_quiet stream open_at (marks_of stream open_at f) u (slots_between stream (copies_of stream open_at f) (anchor_of stream open_at f) (time_of open_at f) u)) near.marks));
        }
    near_more Close timed others =
        let left : marks_at stream open_at (copies_of_all stream open_at e) (marks_of stream open_at e) e Close ≡ marks_at stream open_at (copies_of_all stream open_at f) (marks_of stream open_at f) f Close =
        ap (λ c. if c then [] else slots_at_close stream (copies_with (anchor_of stream open_at e) (copies_of_all stream open_at e)) (anchor_of stream open_at e) (time_of open_at e) ++ end_mark stream ∷ []) near.closed
        ∙ ap (λ o. if is_closed f then [] else slots_at_close stream (copies_with o (copies_of_all stream open_at e)) o (time_of open_at e) ++ end_mark stream ∷ []) near.anchor
        ∙ ap (λ l. if is_closed f then [] else slots_at_close stream (copies_with (anchor_of stream open_at f) l) (anchor_of stream open_at f) (time_of open_at e) ++ end_mark stream ∷ []) near.copies
        ∙ ap (λ t. if is_closed f then [] else slots_at_close stream (copies_with (anchor_of stream open_at f) (copies_of_all stream open_at f)) (anchor_of stream open_at f) t ++ end_mark stream ∷ []) near.time in
        let first = marks_of-close stream open_at e ∙ ap (λ l. marks_of stream open_at e ++ l) left in
        record {
          timed = timed;
          other_timed = others;
          time = time_then Close;
          closed = closed_then Close;
          arrived = arrived_then Close;
          fates = fates_of-close stream open_at e ∙ near.fates ∙ sym (fates_of-close stream open_at f);
          anchor = anchor_of-close stream open_at e ∙ near.anchor ∙ sym (anchor_of-close stream open_at f);
          heard = λ path. heard_of-close stream open_at e path ∙ near.heard path ∙ sym (heard_of-close stream open_at f path);
          standings = standings_of-close stream open_at e ∙ near.standings ∙ sym (standings_of-close stream open_at f);
          copies = copies_of_all-close stream open_at e ∙ near.copies ∙ sym (copies_of_all-close stream open_at f);
          marks = subst (λ l. AreClose stream l (marks_of stream open_at (f ++ Close ∷ []))) (sym first)
              (subst (AreClose stream (marks_of stream open_at e ++ marks_at stream open_at (copies_of_all stream open_at f) (marks_of stream open_at f) f Close)) (sym (marks_of-close stream open_at f))
              (close_more stream (marks_of stream open_at e) (marks_of stream open_at f) (marks_at stream open_at (copies_of_all stream open_at f) (marks_of stream open_at f) f Close) near.marks));
        }

  -- both histories after any further events
  pub near_on : 0 < stream.frames → (e f rest : List Event) → AreNear e f → is_well_timed open_at (e ++ rest) ≡ true → is_well_timed open_at (f ++ rest) ≡ true → AreNear (e ++ rest) (f ++ rest)
  near_on some e f [] near timed others = rw (append-nil e, append-nil f) near
  near_on some e f (event ∷ rest) near timed others =
      let one = append_assoc e (event ∷ []) rest in
      let two = append_assoc f (event ∷ []) rest in
      let timed' : is_well_timed open_at ((e ++ event ∷ []) ++ rest) ≡ true = ap (is_well_timed open_at) one ∙ timed in
      let others' : is_well_timed open_at ((f ++ event ∷ []) ++ rest) ≡ true = ap (is_well_timed open_at) two ∙ others in
      let next = near_more some e f near event (timed_part open_at (e ++ event ∷ []) rest timed') (timed_part open_at (f ++ event ∷ []) rest others') in
      subst (λ l. AreNear l (f ++ event ∷ rest)) one (subst (AreNear ((e ++ event ∷ []) ++ rest)) two (near_on some (e ++ event ∷ []) (f ++ event ∷ []) rest next timed' others'))

-- the slots of a range of numbers are those of its two parts
slots_split : (stream : Stream) (a : Anchor) (copies : List (ℕ × Packet)) (n i j : ℕ) → slots_from stream a copies n (i + j) ≡ slots_from stream a copies n i ++ slots_from stream a copies (n + i) j
slots_split stream a copies n zero j =
    let same : n ≡ n + 0 = omega arith in
    let all : 0 + j ≡ j = omega arith in
    ap (slots_from stream a copies n) all ∙ ap (λ b. slots_from stream a copies b j) same
slots_split stream a copies n (suc i) j =
    let up : suc i + j ≡ suc (i + j) = omega arith in
    let next : suc n + i ≡ n + suc i = omega arith in
    ap (slots_from stream a copies n) up ∙ ap (λ l. slot_mark stream a n (body_of (first_with n copies)) ∷ l) (slots_split stream a copies (suc n) i j ∙ ap (λ b. slots_from stream a copies (suc n) i ++ slots_from stream a copies b j) next)

between_split : (stream : Stream) → 0 < stream.frames → (copies : List (ℕ × Packet)) (o : Option Anchor) (t a b : ℤ) → t ≤ℤ a → a ≤ℤ b
    → slots_between stream copies o t b ≡ slots_between stream copies o t a ++ slots_between stream copies o a b
between_split stream some copies None t a b low high = refl
between_split stream some copies (Some anchor) t a b low high =
    let one = next_number-rises stream anchor t a some low in
    let two = next_number-rises stream anchor a b some high in
    let count : next_number stream anchor b - next_number stream anchor t ≡ (next_number stream anchor a - next_number stream anchor t) + (next_number stream anchor b - next_number stream anchor a) = omega (arith, one, two) in
    let from : next_number stream anchor t + (next_number stream anchor a - next_number stream anchor t) ≡ next_number stream anchor a = omega (arith, one) in
    ap (slots_from stream anchor copies (next_number stream anchor t)) count
    ∙ slots_split stream anchor copies (next_number stream anchor t) (next_number stream anchor a - next_number stream anchor t) (next_number stream anchor b - next_number stream anchor a)
    ∙ ap (λ n. slots_from stream anchor copies (next_number stream anchor t) (next_number stream anchor a - next_number stream anchor t) ++ slots_from stream anchor copies n (next_number stream anchor b - next_number stream anchor a)) from

from_slot : (stream : Stream) (a : Anchor) (copies : List (ℕ × Packet)) (n count : ℕ) → BeginsWithSlot (slots_from stream a copies n count)
from_slot stream a copies n zero = tt
from_slot stream a copies n (suc count) = refl

between_slot : (stream : Stream) (copies : List (ℕ × Packet)) (o : Option Anchor) (t u : ℤ) → BeginsWithSlot (slots_between stream copies o t u)
between_slot stream copies None t u = tt
between_slot stream copies (Some a) t u = from_slot stream a copies (next_number stream a t) (next_number stream a u - next_number stream a t)

-- a history with two clock readings, and with the second alone
module _ (stream : Stream) (open_at : ℤ) (some : 0 < stream.frames) (events : List Event) (a b : ℤ) (first : IsTickAt open_at events a) (low : a ≤ℤ b) (high : b ≤ℤ pos (2 ^ 60)) where
  still : is_closed (events ++ Tick a ∷ []) ≡ false
  still = is_closed-append events (Tick a ∷ []) ∙ ap (λ c. if c then true else false) first.open_yet

  timed_a : is_well_timed open_at (events ++ Tick a ∷ []) ≡ true
  timed_a = tick_well_timed open_at events a first

  second : IsTickAt open_at (events ++ Tick a ∷ []) b
  second = record { before = timed_a; open_yet = still; not_back = omega (arith, ints, low, time_of-append open_at events (Tick a ∷ [])); not_far = high }

  alone : IsTickAt open_at events b
  alone = record { before = first.before; open_yet = first.open_yet; not_back = omega (arith, ints, low, first.not_back); not_far = high }

  marks_long : marks_of stream open_at ((events ++ Tick a ∷ []) ++ Tick b ∷ [])
      ≡ (marks_of stream open_at events ++ slots_or_quiet stream open_at (marks_of stream open_at events) a (slots_between stream (copies_of stream open_at events) (anchor_of stream open_at events) (time_of open_at events) a))
      ++ slots_or_quiet stream open_at (marks_of stream open_at events ++ slots_or_quiet stream open_at (marks_of stream open_at events) a (slots_between stream (copies_of stream open_at events) (anchor_of stream open_at events) (time_of open_at events) a)) b (slots_between stream (copies_of stream open_at events) (anchor_of stream open_at events) a b)
  marks_long =
      marks_of-tick stream open_at (events ++ Tick a ∷ []) b still
      ∙ rw (copies_of-tick stream open_at events a, anchor_of-tick stream open_at events a, time_of-append open_at events (Tick a ∷ []), marks_of-tick stream open_at events a first.open_yet) refl

  marks_short : marks_of stream open_at (events ++ Tick b ∷ [])
      ≡ marks_of stream open_at events ++ slots_or_quiet stream open_at (marks_of stream open_at events) b (slots_between stream (copies_of stream open_at events) (anchor_of stream open_at events) (time_of open_at events) a ++ slots_between stream (copies_of stream open_at events) (anchor_of stream open_at events) a b)
  marks_short =
      marks_of-tick stream open_at events b first.open_yet
      ∙ ap (λ l. marks_of stream open_at events ++ slots_or_quiet stream open_at (marks_of stream open_at events) b l) (between_split stream some (copies_of stream open_at events) (anchor_of stream open_at events) (time_of open_at events) a b first.not_back low)

  pub near_two : AreNear stream open_at ((events ++ Tick a ∷ []) ++ Tick b ∷ []) (events ++ Tick b ∷ [])
  near_two = record {
    timed = tick_well_timed open_at (events ++ Tick a ∷ []) b second;
    other_timed = tick_well_timed open_at events b alone;
    time = time_of-append open_at (events ++ Tick a ∷ []) (Tick b ∷ []) ∙ sym (time_of-append open_at events (Tick b ∷ []));
    closed = is_closed-append (events ++ Tick a ∷ []) (Tick b ∷ []) ∙ ap (λ c. if c then true else false) (still ∙ sym first.open_yet) ∙ sym (is_closed-append events (Tick b ∷ []));
    arrived = arrival_count-append (events ++ Tick a ∷ []) (Tick b ∷ []) ∙ ap (λ n. n + 0) (arrival_count-append events (Tick a ∷ []) ∙ none (arrival_count events)) ∙ sym (arrival_count-append events (Tick b ∷ []));
    fates = fates_of-tick stream open_at (events ++ Tick a ∷ []) b ∙ fates_of-tick stream open_at events a ∙ sym (fates_of-tick stream open_at events b);
    anchor = anchor_of-tick stream open_at (events ++ Tick a ∷ []) b ∙ anchor_of-tick stream open_at events a ∙ sym (anchor_of-tick stream open_at events b);
    heard = λ path. heard_of-tick stream open_at (events ++ Tick a ∷ []) b path ∙ heard_of-tick stream open_at events a path ∙ sym (heard_of-tick stream open_at events b path);
    standings = standings_of-tick stream open_at (events ++ Tick a ∷ []) b ∙ standings_of-tick stream open_at events a ∙ sym (standings_of-tick stream open_at events b);
    copies = copies_of_all-tick stream open_at (events ++ Tick a ∷ []) b ∙ copies_of_all-tick stream open_at events a ∙ sym (copies_of_all-tick stream open_at events b);
    marks =
        subst (λ l. AreClose stream l (marks_of stream open_at (events ++ Tick b ∷ []))) (sym marks_long)
        (subst (AreClose stream _) (sym marks_short)
        (two_readings stream open_at (marks_of stream open_at events) a b low
        (slots_between stream (copies_of stream open_at events) (anchor_of stream open_at events) (time_of open_at events) a)
        (slots_between stream (copies_of stream open_at events) (anchor_of stream open_at events) a b)
        (between_slot stream (copies_of stream open_at events) (anchor_of stream open_at events) (time_of open_at events) a)
        (between_slot stream (copies_of stream open_at events) (anchor_of stream open_at events) a b)));
  }
    where
      none : (n : ℕ) → n + 0 ≡ n
      none n = omega arith
