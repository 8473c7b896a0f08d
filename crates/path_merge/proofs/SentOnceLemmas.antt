-- A packet in step has, counted on over the epochs, the number that its sender gave it.
use Rattle.std.proofs.Common.{◌≡◌, ℕ, zero, suc, ◌+◌, ◌*◌, ◌<◌, ◌≤◌, Bool, true, false, not, ◌||◌, List, [], ◌∷◌, ◌++◌, length, Option, Some, None, ℤ, pos, ◌+ℤ◌, ◌-ℤ◌, ◌*ℤ◌, refl, sym, ap, subst, ◌∙◌, arith, append-nil, append_assoc, length-append, if◌then◌else◌, unsigned_abs}
use Rattle.std.specs.Prelude.{nat_eq}
use Rattle.std.specs.Int.{int_rem_euclid}
use Rattle.std.proofs.lemmas.Bool.Decides.{nat_tests}
use Rattle.std.proofs.lemmas.Int.{ints}
use Rattle.std.proofs.Math.Seq.{take-append_seam}
use borrow.Author.Differences.{up, down}
use Rattle.path_merge.proofs.AliasLemmas.{one_number, size_is}
use Rattle.path_merge.proofs.AnchorLemmas.{AllWithin, all_within, has_epochs}
use Rattle.path_merge.proofs.EndLemmas.{IsOpener, by_opener}
use Rattle.path_merge.proofs.EpochLemmas.{anchor_is, no_anchors}
use Rattle.path_merge.proofs.HeardOnceLemmas.{due_stays, head_same, in_step, same_number, tail_same}
use Rattle.path_merge.proofs.HistoryLemmas.{anchors_of-push, arrival_count-append, by_last_event, is_closed-append, time_of-append}
use Rattle.path_merge.proofs.MarkGrowthLemmas.{limit_of}
use Rattle.path_merge.proofs.SentHistoryLemmas.{base_first}
use Rattle.rtp_stream.proofs.NearestLemmas.{IsNearest-nearest_number, rem_apart, rem_bounds, rem_same}
use Rattle.rtp_stream.proofs.ProbationLemmas.{last_of-push}
use Rattle.rtp_stream.specs.Anchor.{next_number}
use Rattle.rtp_stream.specs.EpochLaws.{epochs_in}
use Rattle.rtp_stream.specs.Epochs.{anchor_in, anchor_of, anchors_at, anchors_of, last_of}
use Rattle.rtp_stream.specs.Grid.{expected_timestamp, extended_number, is_on_grid}
use Rattle.rtp_stream.specs.History.{arrival_count, is_closed, time_of}
use Rattle.rtp_stream.specs.Laws.{numbers_from}
use Rattle.rtp_stream.specs.Nearest.{nearest_number}
use Rattle.rtp_stream.specs.Probation.{is_off}
use Rattle.rtp_stream.specs.Sent.{Arrives, BeginsWith, Closes, IsNear, SentEvent, SentPacket, Ticks, timestamp_in_step, wire_history, wire_packet}
use Rattle.rtp_stream.specs.StreamSpecFacts.{IsStream}
use Rattle.path_merge.specs.HeardOnce.{AllGoOn, AreNear, GoOn, IsNearInForce, due_at, goes_on, number_before, shift_among, shift_from, shift_of}
use Rattle.rtp_stream.specs.declared.stream_spec.Stream.{Stream}
use Rattle.rtp_stream.specs.declared.anchor.Anchor.{Anchor}
use Rattle.rtp_stream.specs.declared.event.Event.{Event}
use Rattle.rtp_stream.specs.declared.event.Event.TheVariants.{Arrive, Close, Tick}

-- a product of a sum
split_product : (u v : ℤ) (f : ℕ) → ((u +ℤ v) *ℤ pos f) ≡ ((u *ℤ pos f) +ℤ (v *ℤ pos f))
split_product u v f =
    let e : up (u +ℤ v) + down u + down v ≡ down (u +ℤ v) + up u + up v = omega (arith, ints) in
    omega (arith, ints, ap (λ q. q * f) e)

-- an anchor of a sender's packet, whose numbers are so far from those under its first anchor
pub record IsCarried (stream : Stream) (first a : Anchor) (far : ℤ) : Type 0 where
  pub high : 65536 ≤ a.number
  pub source : a.source ≡ first.source
  pub cycles : (j : ℕ) × (k : ℕ) × (far +ℤ pos (j * 65536) ≡ pos (k * 65536))
  pub stamp : a.timestamp ≡ timestamp_in_step stream first (pos a.number +ℤ far)

module _ (stream : Stream) (first : Anchor) where
  -- a number's timestamp is that of its number under the later anchor
  stamp_moved : (a : Anchor) (far n : ℤ) → IsCarried stream first a far → timestamp_in_step stream first n ≡ timestamp_in_step stream a (n -ℤ far)
  stamp_moved a far n carried =
      let start = pos first.timestamp +ℤ ((pos a.number +ℤ far) -ℤ pos first.number) *ℤ pos stream.frames in
      let apart = rem_apart 4294967296 start (omega arith) in
      let own : pos a.timestamp ≡ int_rem_euclid start (pos 4294967296) = ap pos carried.stamp ∙ size_is (int_rem_euclid start (pos 4294967296)) (rem_bounds 4294967296 start (omega arith)).0 in
      let whole : (n -ℤ pos first.number) ≡ (((pos a.number +ℤ far) -ℤ pos first.number) +ℤ ((n -ℤ far) -ℤ pos a.number)) = omega (arith, ints) in
      let product = ap (λ z. z *ℤ pos stream.frames) whole ∙ split_product ((pos a.number +ℤ far) -ℤ pos first.number) ((n -ℤ far) -ℤ pos a.number) stream.frames in
      ap unsigned_abs (rem_same 4294967296 (pos first.timestamp +ℤ (n -ℤ pos first.number) *ℤ pos stream.frames) (pos a.timestamp +ℤ ((n -ℤ far) -ℤ pos a.number) *ℤ pos stream.frames) apart.1 apart.0 (omega arith) (omega (arith, ints, apart.2, own, product)))

  -- so a packet in step has its sender's number
  pub recovered : IsStream stream → (a : Anchor) (far : ℤ) (next : ℕ) (packet : SentPacket) → IsCarried stream first a far → 65536 ≤ next → IsNear 33554432 next (packet.number -ℤ far) → is_off stream a next (wire_packet stream first packet) ≡ false → pos (extended_number (wire_packet stream first packet) next) ≡ packet.number -ℤ far
  recovered bounds a far next packet carried high near on =
      let bits = rem_bounds 65536 packet.number (omega arith) in
      let sized : pos (unsigned_abs (int_rem_euclid packet.number (pos 65536))) ≡ int_rem_euclid packet.number (pos 65536) = size_is (int_rem_euclid packet.number (pos 65536)) bits.0 in
      let small : unsigned_abs (int_rem_euclid packet.number (pos 65536)) < 65536 = omega (arith, ints, sized, bits.1) in
      let nearest = IsNearest-nearest_number 32768 (unsigned_abs (int_rem_euclid packet.number (pos 65536))) (pos next) small in
      let size : pos (extended_number (wire_packet stream first packet) next) ≡ nearest_number 32768 (unsigned_abs (int_rem_euclid packet.number (pos 65536))) (pos next) = size_is (nearest_number 32768 (unsigned_abs (int_rem_euclid packet.number (pos 65536))) (pos next)) (omega (arith, ints, nearest.not_below, high)) in
      let moved : int_rem_euclid packet.number (pos 65536) ≡ int_rem_euclid (packet.number -ℤ far) (pos 65536) = rem_same 65536 packet.number (packet.number -ℤ far) carried.cycles.0 carried.cycles.1 (omega arith) (omega (arith, ints, carried.cycles.2)) in
      let same : int_rem_euclid (pos (extended_number (wire_packet stream first packet) next)) (pos 65536) ≡ int_rem_euclid (packet.number -ℤ far) (pos 65536) = ap (λ z. int_rem_euclid z (pos 65536)) size ∙ nearest.low_bits ∙ sized ∙ moved in
      let stamps : timestamp_in_step stream a (pos (extended_number (wire_packet stream first packet) next)) ≡ timestamp_in_step stream a (packet.number -ℤ far) = sym (on_grid (nat_eq first.source a.source) (is_on_grid stream a (extended_number (wire_packet stream first packet) next) (timestamp_in_step stream first packet.number)) refl on) ∙ stamp_moved a far packet.number carried in
      one_number stream a (pos (extended_number (wire_packet stream first packet) next)) (packet.number -ℤ far) bounds.packet_time same (omega (arith, ints, size, nearest.below, near.0)) (omega (arith, ints, size, nearest.not_below, near.1)) stamps
    where
      on_grid : (s g : Bool) → is_on_grid stream a (extended_number (wire_packet stream first packet) next) (timestamp_in_step stream first packet.number) ≡ g → (not s || not g) ≡ false → timestamp_in_step stream first packet.number ≡ expected_timestamp stream a (extended_number (wire_packet stream first packet) next)
      on_grid s true is e = grind (arith, nat_tests, is)
      on_grid true false is e = cc
      on_grid false false is e = cc

-- shifts, with one more event and one more anchor
module _ (stream : Stream) (open_at : ℤ) (some : 0 < stream.frames) where
  shift_stays : (events : List Event) (event : Event) (epoch : ℕ) (far : ℤ) (a : Anchor) (later : List (ℕ × Anchor)) → AllWithin (length events) later → shift_from stream open_at (events ++ event ∷ []) epoch far a later ≡ shift_from stream open_at events epoch far a later
  shift_stays events event epoch far a [] within = refl
  shift_stays events event epoch far a ((place, b) ∷ later) within =
      ap (λ n. if nat_eq a.epoch epoch then far else shift_from stream open_at (events ++ event ∷ []) epoch (far +ℤ (pos (number_before b n) -ℤ pos b.number)) b later) (due_stays stream open_at some events event a place within.0)
      ∙ ap (λ s. if nat_eq a.epoch epoch then far else s) (shift_stays events event epoch (far +ℤ (pos (number_before b (due_at stream open_at events a place)) -ℤ pos b.number)) b later within.1)

  among_stays : (events : List Event) (event : Event) (epoch : ℕ) (anchors : List (ℕ × Anchor)) → AllWithin (length events) anchors → shift_among stream open_at (events ++ event ∷ []) anchors epoch ≡ shift_among stream open_at events anchors epoch
  among_stays events event epoch [] within = refl
  among_stays events event epoch ((place, a) ∷ later) within = shift_stays events event epoch (pos 0) a later within.1

  last_epoch : (i place : ℕ) (a : Anchor) (later : List (ℕ × Anchor)) (q : ℕ) (l : Anchor) → a.epoch ∷ epochs_in later ≡ numbers_from i (suc (length later)) → last_of ((place, a) ∷ later) ≡ Some (q, l) → l.epoch ≡ i + length later
  last_epoch i place a [] q l epochs last = omega (arith, head_same epochs, ap_epoch last)
    where
      inside : {x y : ℕ × Anchor} → Some x ≡ Some y → x ≡ y
      inside e = cc

      ap_epoch : ◌≡◌ {A = Option (ℕ × Anchor)} (Some (place, a)) (Some (q, l)) → a.epoch ≡ l.epoch
      ap_epoch e = ap (λ (x : ℕ × Anchor). x.1.epoch) (inside e)
  last_epoch i place a ((p, c) ∷ later) q l epochs last = omega (arith, last_epoch (suc i) p c later q l (tail_same epochs) last)

  -- the shift of one more anchor's epoch
  shift_push : (events : List Event) (i : ℕ) (far : ℤ) (place : ℕ) (a : Anchor) (later : List (ℕ × Anchor)) (n : ℕ) (b : Anchor) (q : ℕ) (l : Anchor) → a.epoch ∷ epochs_in later ≡ numbers_from i (suc (length later)) → b.epoch ≡ i + suc (length later) → last_of ((place, a) ∷ later) ≡ Some (q, l)
      → shift_from stream open_at events b.epoch far a (later ++ (n, b) ∷ []) ≡ (shift_from stream open_at events l.epoch far a later +ℤ (pos (number_before b (due_at stream open_at events l n)) -ℤ pos b.number))
  shift_push events i far place a [] n b q l epochs next last =
      let other : nat_eq a.epoch b.epoch ≡ false = grind (arith, nat_tests, head_same epochs, next) in
      ap (λ t. if t then far else (far +ℤ (pos (number_before b (due_at stream open_at events a n)) -ℤ pos b.number))) other
      ∙ ap (λ (x : Anchor). far +ℤ (pos (number_before b (due_at stream open_at events x n)) -ℤ pos b.number)) (same last)
    where
      inside : {x y : ℕ × Anchor} → Some x ≡ Some y → x ≡ y
      inside e = cc

      same : ◌≡◌ {A = Option (ℕ × Anchor)} (Some (place, a)) (Some (q, l)) → a ≡ l
      same e = ap (λ (x : ℕ × Anchor). x.1) (inside e)
  shift_push events i far place a ((p, c) ∷ later) n b q l epochs next last =
      let is : a.epoch ≡ i = head_same epochs in
      let up_to : l.epoch ≡ suc i + length later = last_epoch (suc i) p c later q l (tail_same epochs) last in
      let other : nat_eq a.epoch b.epoch ≡ false = grind (arith, nat_tests, is, next) in
      let not_last : nat_eq a.epoch l.epoch ≡ false = grind (arith, nat_tests, is, up_to) in
      ap (λ t. if t then far else shift_from stream open_at events b.epoch (far +ℤ (pos (number_before c (due_at stream open_at events a p)) -ℤ pos c.number)) c (later ++ (n, b) ∷ [])) other
      ∙ shift_push events (suc i) (far +ℤ (pos (number_before c (due_at stream open_at events a p)) -ℤ pos c.number)) p c later n b q l (tail_same epochs) (omega (arith, next)) last
      ∙ sym (ap (λ t. (if t then far else shift_from stream open_at events l.epoch (far +ℤ (pos (number_before c (due_at stream open_at events a p)) -ℤ pos c.number)) c later) +ℤ (pos (number_before b (due_at stream open_at events l n)) -ℤ pos b.number)) not_last)

  -- the sender goes on in a prefix, and over the last anchor
  all_before : (events : List Event) (event : Event) (a : Anchor) (later more : List (ℕ × Anchor)) → AllWithin (length events) later → AllGoOn stream open_at (events ++ event ∷ []) a (later ++ more) → AllGoOn stream open_at events a later
  all_before events event a [] more within go = tt
  all_before events event a ((place, b) ∷ later) more within go = (subst (λ n. goes_on stream a n b ≡ true) (due_stays stream open_at some events event a place within.0) go.0, all_before events event b later more within.1 go.1)

  goes_before : (events : List Event) (event : Event) → GoOn stream open_at (events ++ event ∷ []) (anchors_of stream open_at (events ++ event ∷ [])) → GoOn stream open_at events (anchors_of stream open_at events)
  goes_before events event go = by_anchors (anchors_of stream open_at events) (all_within stream open_at some events) (subst (GoOn stream open_at (events ++ event ∷ [])) (anchors_of-push stream open_at events event) go)
    where
      by_anchors : (anchors : List (ℕ × Anchor)) → AllWithin (length events) anchors → GoOn stream open_at (events ++ event ∷ []) (anchors ++ anchors_at stream open_at (anchors_of stream open_at events) events event) → GoOn stream open_at events anchors
      by_anchors [] within go = tt
      by_anchors ((place, a) ∷ later) within go = all_before events event a later (anchors_at stream open_at (anchors_of stream open_at events) events event) within.1 go

  goes_prefix : (events more : List Event) → GoOn stream open_at (events ++ more) (anchors_of stream open_at (events ++ more)) → GoOn stream open_at events (anchors_of stream open_at events)
  goes_prefix events = by_last_event (λ more. GoOn stream open_at (events ++ more) (anchors_of stream open_at (events ++ more)) → GoOn stream open_at events (anchors_of stream open_at events)) (λ go. subst (λ l. GoOn stream open_at l (anchors_of stream open_at l)) (append-nil events) go) (λ more event before go. before (goes_before (events ++ more) event (subst (λ l. GoOn stream open_at l (anchors_of stream open_at l)) (sym (append_assoc events more (event ∷ []))) go)))

  goes_last : (events : List Event) (place : ℕ) (a : Anchor) (later : List (ℕ × Anchor)) (n : ℕ) (b : Anchor) (q : ℕ) (l : Anchor) → last_of ((place, a) ∷ later) ≡ Some (q, l) → AllGoOn stream open_at events a (later ++ (n, b) ∷ []) → goes_on stream l (due_at stream open_at events l n) b ≡ true
  goes_last events place a [] n b q l last go = subst (λ x. goes_on stream x (due_at stream open_at events x n) b ≡ true) (same last) go.0
    where
      inside : {x y : ℕ × Anchor} → Some x ≡ Some y → x ≡ y
      inside e = cc

      same : ◌≡◌ {A = Option (ℕ × Anchor)} (Some (place, a)) (Some (q, l)) → a ≡ l
      same e = ap (λ (x : ℕ × Anchor). x.1) (inside e)
  goes_last events place a ((p, c) ∷ later) n b q l last go = goes_last events p c later n b q l last go.1

module _ (stream : Stream) (first : Anchor) (open_at : ℤ) (bounds : IsStream stream) where
  -- the anchor in force is carried
  abbrev CarriedBy : Option (ℕ × Anchor) → List Event → Type 0
  CarriedBy None events = ⊥
  CarriedBy (Some (place, a)) events = IsCarried stream first a (shift_of stream open_at events a)

  abbrev CarriedIf : Option (ℕ × Anchor) → List Event → Type 0
  CarriedIf None events = Unit {0}
  CarriedIf (Some (place, a)) events = IsCarried stream first a (shift_of stream open_at events a)

  so_far : (o : Option (ℕ × Anchor)) (events : List Event) → CarriedBy o events → CarriedIf o events
  so_far None events carried = tt
  so_far (Some (place, a)) events carried = carried

  -- an event that opens no epoch
  kept : (events : List Event) (event : Event) → anchors_of stream open_at (events ++ event ∷ []) ≡ anchors_of stream open_at events → CarriedBy (last_of (anchors_of stream open_at events)) events → CarriedBy (last_of (anchors_of stream open_at (events ++ event ∷ []))) (events ++ event ∷ [])
  kept events event same carried = subst (λ l. CarriedBy (last_of l) (events ++ event ∷ [])) (sym same) (by_last (last_of (anchors_of stream open_at events)) carried)
    where
      shift : (a : Anchor) → shift_of stream open_at (events ++ event ∷ []) a ≡ shift_of stream open_at events a
      shift a = ap (λ l. shift_among stream open_at (events ++ event ∷ []) l a.epoch) same ∙ among_stays stream open_at bounds.some_frames events event a.epoch (anchors_of stream open_at events) (all_within stream open_at bounds.some_frames events)

      by_last : (o : Option (ℕ × Anchor)) → CarriedBy o events → CarriedBy o (events ++ event ∷ [])
      by_last None carried = carried
      by_last (Some (place, a)) carried = subst (IsCarried stream first a) (sym (shift a)) carried

  module _ (events : List Event) (path : ℕ) (packet : SentPacket) (near : IsNearInForce stream open_at 33554432 events (anchor_of stream open_at events) packet.number) (go : GoOn stream open_at (events ++ Arrive path (wire_packet stream first packet) ∷ []) (anchors_of stream open_at (events ++ Arrive path (wire_packet stream first packet) ∷ []))) where
    -- the packet that opens an epoch
    opened : (b : Anchor) → IsOpener stream open_at bounds.some_frames events path (wire_packet stream first packet) (last_of (anchors_of stream open_at events)) b → anchors_at stream open_at (anchors_of stream open_at events) events (Arrive path (wire_packet stream first packet)) ≡ (length events, b) ∷ [] → CarriedBy (last_of (anchors_of stream open_at events)) events → CarriedBy (last_of (anchors_of stream open_at (events ++ Arrive path (wire_packet stream first packet) ∷ []))) (events ++ Arrive path (wire_packet stream first packet) ∷ [])
    opened b made alone carried = subst (λ o. CarriedBy o (events ++ Arrive path (wire_packet stream first packet) ∷ [])) (sym last_then) (by_anchors (anchors_of stream open_at events) refl (last_of (anchors_of stream open_at events)) refl carried)
      where
        push : anchors_of stream open_at (events ++ Arrive path (wire_packet stream first packet) ∷ []) ≡ anchors_of stream open_at events ++ (length events, b) ∷ []
        push = anchors_of-push stream open_at events (Arrive path (wire_packet stream first packet)) ∙ ap (λ l. anchors_of stream open_at events ++ l) alone

        last_then : last_of (anchors_of stream open_at (events ++ Arrive path (wire_packet stream first packet) ∷ [])) ≡ Some (length events, b)
        last_then = ap last_of push ∙ last_of-push (anchors_of stream open_at events) (length events, b)

        by_anchors : (anchors : List (ℕ × Anchor)) → anchors_of stream open_at events ≡ anchors → (o : Option (ℕ × Anchor)) → last_of anchors ≡ o → CarriedBy o events → IsCarried stream first b (shift_of stream open_at (events ++ Arrive path (wire_packet stream first packet) ∷ []) b)
        by_anchors [] is o last carried = absurd (subst (λ x. CarriedBy x events) (sym last) carried)
        by_anchors ((place, a) ∷ later) is None last carried = absurd carried
        by_anchors ((place, a) ∷ later) is (Some (q, l)) last carried =
            let epochs : a.epoch ∷ epochs_in later ≡ numbers_from 0 (suc (length later)) = sym (ap epochs_in is) ∙ (has_epochs stream open_at bounds.some_frames events).epochs ∙ ap (λ x. numbers_from 0 (length x)) is in
            let whole : anchors_of stream open_at (events ++ Arrive path (wire_packet stream first packet) ∷ []) ≡ (place, a) ∷ (later ++ (length events, b) ∷ []) = push ∙ ap (λ x. x ++ (length events, b) ∷ []) is in
            let count : b.epoch + 1 ≡ length (anchors_of stream open_at (events ++ Arrive path (wire_packet stream first packet) ∷ [])) = sym (ap (λ o. limit_of stream (anchor_in o)) last_then) ∙ (has_epochs stream open_at bounds.some_frames (events ++ Arrive path (wire_packet stream first packet) ∷ [])).count in
            let next : b.epoch ≡ 0 + suc (length later) = omega (arith, count, ap length whole, length-append later ((length events, b) ∷ [])) in
            let within : AllWithin (length events) ((place, a) ∷ later) = subst (AllWithin (length events)) is (all_within stream open_at bounds.some_frames events) in
            let shift : shift_of stream open_at (events ++ Arrive path (wire_packet stream first packet) ∷ []) b ≡ (shift_of stream open_at events l +ℤ (pos (number_before b (due_at stream open_at (events ++ Arrive path (wire_packet stream first packet) ∷ []) l (length events))) -ℤ pos b.number)) =
            ap (λ x. shift_among stream open_at (events ++ Arrive path (wire_packet stream first packet) ∷ []) x b.epoch) whole
            ∙ shift_push stream open_at bounds.some_frames (events ++ Arrive path (wire_packet stream first packet) ∷ []) 0 (pos 0) place a later (length events) b q l epochs next last
            ∙ ap (λ s. s +ℤ (pos (number_before b (due_at stream open_at (events ++ Arrive path (wire_packet stream first packet) ∷ []) l (length events))) -ℤ pos b.number)) (shift_stays stream open_at bounds.some_frames events (Arrive path (wire_packet stream first packet)) l.epoch (pos 0) a later within.1 ∙ sym (ap (λ x. shift_among stream open_at events x l.epoch) is)) in
            let due : due_at stream open_at (events ++ Arrive path (wire_packet stream first packet) ∷ []) l (length events) ≡ next_number stream l (time_of open_at events) = ap (λ x. next_number stream l (time_of open_at x)) (take-append_seam events (Arrive path (wire_packet stream first packet) ∷ [])) in
            let goes = goes_last stream open_at bounds.some_frames (events ++ Arrive path (wire_packet stream first packet) ∷ []) place a later (length events) b q l last (subst (GoOn stream open_at (events ++ Arrive path (wire_packet stream first packet) ∷ [])) whole go) in
            let on : is_off stream l (next_number stream l (time_of open_at events)) (wire_packet stream first packet) ≡ false = in_step stream open_at bounds.some_frames l b (next_number stream l (time_of open_at events)) (wire_packet stream first packet) made.number made.stamp made.source (subst (λ n. goes_on stream l n b ≡ true) due goes) in
            let in_force : anchor_of stream open_at events ≡ Some l = anchor_is stream open_at events ∙ ap anchor_in (ap last_of is ∙ last) in
            let near_l : IsNear 33554432 (next_number stream l (time_of open_at events)) (packet.number -ℤ shift_of stream open_at events l) = subst (λ o. IsNearInForce stream open_at 33554432 events o packet.number) in_force near in
            let number = recovered stream first bounds l (shift_of stream open_at events l) (next_number stream l (time_of open_at events)) packet carried (omega (arith, carried.high)) near_l on in
            let before : number_before b (due_at stream open_at (events ++ Arrive path (wire_packet stream first packet) ∷ []) l (length events)) ≡ extended_number (wire_packet stream first packet) (next_number stream l (time_of open_at events)) = ap (number_before b) due ∙ same_number b (wire_packet stream first packet) (next_number stream l (time_of open_at events)) made.number in
            let apart = rem_apart 65536 packet.number (omega arith) in
            let low : pos (unsigned_abs (int_rem_euclid packet.number (pos 65536))) ≡ int_rem_euclid packet.number (pos 65536) = size_is (int_rem_euclid packet.number (pos 65536)) (rem_bounds 65536 packet.number (omega arith)).0 in
            let sum : packet.number ≡ (pos b.number +ℤ shift_of stream open_at (events ++ Arrive path (wire_packet stream first packet) ∷ []) b) = omega (arith, ints, shift, before, number) in
            record {
              high = omega (arith, made.number);
              source = made.source;
              cycles = (apart.1 + 1, apart.0, omega (arith, ints, sum, made.number, low, apart.2));
              stamp = made.stamp ∙ ap (timestamp_in_step stream first) sum;
            }

    arrived : CarriedBy (last_of (anchors_of stream open_at events)) events → CarriedBy (last_of (anchors_of stream open_at (events ++ Arrive path (wire_packet stream first packet) ∷ []))) (events ++ Arrive path (wire_packet stream first packet) ∷ [])
    arrived carried =
        by_opener stream open_at bounds.some_frames events path (wire_packet stream first packet) (λ made. anchors_at stream open_at (anchors_of stream open_at events) events (Arrive path (wire_packet stream first packet)) ≡ made → CarriedBy (last_of (anchors_of stream open_at (events ++ Arrive path (wire_packet stream first packet) ∷ []))) (events ++ Arrive path (wire_packet stream first packet) ∷ []))
        (λ none. kept events (Arrive path (wire_packet stream first packet)) (anchors_of-push stream open_at events (Arrive path (wire_packet stream first packet)) ∙ ap (λ l. anchors_of stream open_at events ++ l) none ∙ append-nil (anchors_of stream open_at events)) carried)
        (λ b made alone. opened b made alone carried)
        refl

  -- no close is among an open history
  open_has_none : (before after : List Event) → is_closed (before ++ Close ∷ after) ≡ false → ⊥
  open_has_none before after still = clash (is_closed before) (sym (is_closed-append before (Close ∷ after)) ∙ still)
    where
      clash : (b : Bool) → (if b then true else true) ≡ false → ⊥
      clash true e = cc
      clash false e = cc

  abbrev GoesOn : List Event → Type 0
  GoesOn events = GoOn stream open_at events (anchors_of stream open_at events)

  after_base : (before : List Event) (after : List SentEvent) → CarriedBy (last_of (anchors_of stream open_at before)) before → is_closed (before ++ wire_history stream first after) ≡ false → AreNear stream first open_at 33554432 before after → GoesOn (before ++ wire_history stream first after) → CarriedBy (last_of (anchors_of stream open_at (before ++ wire_history stream first after))) (before ++ wire_history stream first after)
  after_base before [] carried still near go = subst (λ l. CarriedBy (last_of (anchors_of stream open_at l)) l) (sym (append-nil before)) carried
  after_base before (Arrives path packet ∷ after) carried still near go =
      let same = append_assoc before (Arrive path (wire_packet stream first packet) ∷ []) (wire_history stream first after) in
      let goes = subst GoesOn (sym same) go in
      subst (λ l. CarriedBy (last_of (anchors_of stream open_at l)) l) same
      (after_base (before ++ Arrive path (wire_packet stream first packet) ∷ []) after (arrived before path packet near.0 (goes_prefix stream open_at bounds.some_frames (before ++ Arrive path (wire_packet stream first packet) ∷ []) (wire_history stream first after) goes) carried) (ap is_closed same ∙ still) near.1 goes)
  after_base before (Ticks u ∷ after) carried still near go =
      let same = append_assoc before (Tick u ∷ []) (wire_history stream first after) in
      subst (λ l. CarriedBy (last_of (anchors_of stream open_at l)) l) same
      (after_base (before ++ Tick u ∷ []) after (kept before (Tick u) (anchors_of-push stream open_at before (Tick u) ∙ append-nil (anchors_of stream open_at before)) carried) (ap is_closed same ∙ still) near (subst GoesOn (sym same) go))
  after_base before (Closes ∷ after) carried still near go = absurd (open_has_none before (wire_history stream first after) still)

  -- the first packet is carried by itself
  first_carried : (before : List Event) (path : ℕ) (packet : SentPacket) (after : List SentEvent) → anchors_of stream open_at before ≡ [] → is_closed before ≡ false → arrival_count before ≡ 0 → BeginsWith stream first (time_of open_at before) (Arrives path packet ∷ after) → CarriedBy (last_of (anchors_of stream open_at (before ++ Arrive path (wire_packet stream first packet) ∷ []))) (before ++ Arrive path (wire_packet stream first packet) ∷ [])
  first_carried before path packet after is still none begins =
      let alone = base_first stream first open_at before path packet after is still none begins in
      let zero : shift_of stream open_at (before ++ Arrive path (wire_packet stream first packet) ∷ []) first ≡ pos 0 = ap (λ l. shift_among stream open_at (before ++ Arrive path (wire_packet stream first packet) ∷ []) l first.epoch) alone in
      subst (λ l. CarriedBy (last_of l) (before ++ Arrive path (wire_packet stream first packet) ∷ [])) (sym alone) (record {
        high = omega (arith, ap (λ (x : Anchor). x.number) begins.1);
        source = refl;
        cycles = (0, 0, omega (arith, ints, zero));
        stamp = ap (λ (x : Anchor). x.timestamp) begins.1 ∙ ap (timestamp_in_step stream first) (sum zero);
      })
    where
      sum : shift_of stream open_at (before ++ Arrive path (wire_packet stream first packet) ∷ []) first ≡ pos 0 → packet.number ≡ (pos first.number +ℤ shift_of stream open_at (before ++ Arrive path (wire_packet stream first packet) ∷ []) first)
      sum none_far = omega (arith, ints, begins.0, none_far)

  before_base : (before : List Event) (after : List SentEvent) → anchors_of stream open_at before ≡ [] → is_closed before ≡ false → arrival_count before ≡ 0 → BeginsWith stream first (time_of open_at before) after → is_closed (before ++ wire_history stream first after) ≡ false → AreNear stream first open_at 33554432 before after → GoesOn (before ++ wire_history stream first after) → CarriedIf (last_of (anchors_of stream open_at (before ++ wire_history stream first after))) (before ++ wire_history stream first after)
  before_base before [] is still none begins shut near go = subst (λ l. CarriedIf (last_of (anchors_of stream open_at l)) l) (sym (append-nil before)) (subst (λ l. CarriedIf (last_of l) before) (sym is) tt)
  before_base before (Arrives path packet ∷ after) is still none begins shut near go =
      let same = append_assoc before (Arrive path (wire_packet stream first packet) ∷ []) (wire_history stream first after) in
      subst (λ l. CarriedIf (last_of (anchors_of stream open_at l)) l) same
      (so_far (last_of (anchors_of stream open_at ((before ++ Arrive path (wire_packet stream first packet) ∷ []) ++ wire_history stream first after))) ((before ++ Arrive path (wire_packet stream first packet) ∷ []) ++ wire_history stream first after)
      (after_base (before ++ Arrive path (wire_packet stream first packet) ∷ []) after (first_carried before path packet after is still none begins) (ap is_closed same ∙ shut) near.1 (subst GoesOn (sym same) go)))
  before_base before (Ticks u ∷ after) is still none begins shut near go =
      let same = append_assoc before (Tick u ∷ []) (wire_history stream first after) in
      let none_yet : arrival_count (before ++ Tick u ∷ []) ≡ 0 = omega (arith, arrival_count-append before (Tick u ∷ []), none) in
      subst (λ l. CarriedIf (last_of (anchors_of stream open_at l)) l) same
      (before_base (before ++ Tick u ∷ []) after (anchors_of-push stream open_at before (Tick u) ∙ append-nil _ ∙ is) (is_closed-append before (Tick u ∷ []) ∙ rw still refl) none_yet (subst (λ t. BeginsWith stream first t after) (sym (time_of-append open_at before (Tick u ∷ []))) begins) (ap is_closed same ∙ shut) near (subst GoesOn (sym same) go))
  before_base before (Closes ∷ after) is still none begins shut near go = absurd (open_has_none before (wire_history stream first after) shut)

  pub sent_number : (sent : List SentEvent) (a : Anchor) (packet : SentPacket) → BeginsWith stream first open_at sent → AreNear stream first open_at 33554432 [] sent → is_closed (wire_history stream first sent) ≡ false → GoesOn (wire_history stream first sent) → anchor_of stream open_at (wire_history stream first sent) ≡ Some a
      → IsNear 33554432 (next_number stream a (time_of open_at (wire_history stream first sent))) (packet.number -ℤ shift_of stream open_at (wire_history stream first sent) a)
      → is_off stream a (next_number stream a (time_of open_at (wire_history stream first sent))) (wire_packet stream first packet) ≡ false
      → (pos (extended_number (wire_packet stream first packet) (next_number stream a (time_of open_at (wire_history stream first sent)))) +ℤ shift_of stream open_at (wire_history stream first sent) a) ≡ packet.number
  sent_number sent a packet begins are_near still go in_force near on =
      let carried = by_last (last_of (anchors_of stream open_at (wire_history stream first sent))) (sym (anchor_is stream open_at (wire_history stream first sent)) ∙ in_force) (before_base [] sent (no_anchors stream open_at) refl refl begins still are_near go) in
      let number = recovered stream first bounds a (shift_of stream open_at (wire_history stream first sent) a) (next_number stream a (time_of open_at (wire_history stream first sent))) packet carried (omega (arith, carried.high)) near on in
      omega (arith, ints, number)
    where
      same : {b c : Anchor} → Some b ≡ Some c → b ≡ c
      same e = cc

      by_last : (o : Option (ℕ × Anchor)) → anchor_in o ≡ Some a → CarriedIf o (wire_history stream first sent) → IsCarried stream first a (shift_of stream open_at (wire_history stream first sent) a)
      by_last None is carried = absurd cc
      by_last (Some (place, b)) is carried = subst (λ x. IsCarried stream first x (shift_of stream open_at (wire_history stream first sent) x)) (same is) carried
