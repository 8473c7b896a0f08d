-- The packets that slots carry: the first copies of their numbers. What the slots hold is what the packets held.
use Rattle.std.proofs.Common.{◌≡◌, ℕ, ◌<◌, Bool, true, false, ◌&&◌, List, [], ◌∷◌, ◌++◌, Option, Some, None, ℤ, All, refl, sym, ap, subst, ◌∙◌, arith, append_assoc, if◌then◌else◌}
use Rattle.std.specs.Prelude.{nat_eq}
use Rattle.std.proofs.lemmas.Bool.Decides.{nat_tests}
use Rattle.std.proofs.lemmas.List.Elements.{All-cons, All-nil, All-weaker}
use Rattle.path_merge.proofs.AnchorLemmas.{IsOwn, anchor_with-append, has_epochs}
use Rattle.path_merge.proofs.CopiesLemmas.{first_with-append}
use Rattle.path_merge.proofs.EndLemmas.{both}
use Rattle.path_merge.proofs.EpochLemmas.{anchor_is}
use Rattle.path_merge.proofs.HistoryLemmas.{anchors_of-push, by_last_event, copies_in-append, copies_of_all-push, is_well_timed_from-append, or_else}
use Rattle.path_merge.proofs.MediaTimeLemmas.{copy_media_time}
use Rattle.path_merge.proofs.SpanLemmas.{spanned}
use Rattle.path_merge.specs.MediaTime.{HasSoundByTimestamp, HasSoundOf, HoldsSound, IfGot, IsCarried, IsCarriedInStep, IsInTimeCopy, IsMediaTimeOf}
use Rattle.rtp_stream.specs.Anchor.{media_time_of, next_number}
use Rattle.rtp_stream.specs.Copies.{copies_at, copies_in, copies_of_all, copies_under_with, with_epoch}
use Rattle.rtp_stream.specs.EpochLaws.{AllSlotsAmong, IsSlotAmong, IsSlotUnder, anchor_with}
use Rattle.rtp_stream.specs.Epochs.{anchor_of, anchors_at, anchors_of, last_of, width_in_force}
use Rattle.rtp_stream.specs.Grid.{extended_number, first_with, is_in_time, of_width}
use Rattle.rtp_stream.specs.History.{at_places, is_closed, is_counting, is_well_timed, is_well_timed_from, time_of}
use Rattle.rtp_stream.specs.MarkFacts.{MarkView}
use Rattle.rtp_stream.specs.Marks.{body_of, marks_of}
use Rattle.rtp_stream.specs.StreamSpecFacts.{IsStream}
use Rattle.rtp_stream.specs.declared.stream_spec.Stream.{Stream}
use Rattle.rtp_stream.specs.declared.stream_spec.StreamClock.TheVariants.{Media}
use Rattle.rtp_stream.specs.declared.anchor.Anchor.{Anchor}
use Rattle.rtp_stream.specs.declared.event.Event.{Event}
use Rattle.rtp_stream.specs.declared.event.Event.TheVariants.{Arrive, Close, Tick}
use Rattle.rtp_stream.specs.declared.mark.Body.{Body}
use Rattle.rtp_stream.specs.declared.mark.Body.TheVariants.{Got, Lost}
use Rattle.rtp_stream.specs.declared.mark.MarkKind.{MarkKind}
use Rattle.rtp_stream.specs.declared.mark.MarkKind.TheVariants.{End, Quiet, Slot}
use Rattle.rtp_stream.specs.declared.packet.Packet.{Packet}

-- an arrival in a history is the first in-time copy of a number in its epoch
record HasArrived (stream : Stream) (open_at : ℤ) (events : List Event) (epoch number : ℕ) (packet : Packet) : Type 0 where
  before : List Event
  path : ℕ
  after : List Event
  anchor : Anchor
  came : events ≡ before ++ Arrive path packet ∷ after
  copy : IsInTimeCopy stream open_at before path packet anchor number
  own_epoch : anchor.epoch ≡ epoch
  among : anchor_with epoch (anchors_of stream open_at events) ≡ Some anchor
  first : first_with number (copies_in epoch (copies_of_all stream open_at before)) ≡ None

some_packet : {x y : Packet} → Some x ≡ Some y → x ≡ y
some_packet e = cc

-- the one copy of a list
record IsThisCopy (epoch number : ℕ) (packet : Packet) (e m : ℕ) (p : Packet) : Type 0 where
  epoch_is : e ≡ epoch
  number_is : m ≡ number
  packet_is : p ≡ packet

this_copy : (epoch number e m : ℕ) (packet p : Packet) → first_with number (copies_in epoch ((e, (m, p)) ∷ [])) ≡ Some packet → IsThisCopy epoch number packet e m p
this_copy epoch number e m packet p = by_epoch (nat_eq e epoch) refl
  where
    by_number : (c : Bool) → nat_eq e epoch ≡ true → nat_eq m number ≡ c → (if c then Some p else None) ≡ Some packet → IsThisCopy epoch number packet e m p
    by_number true same is found = record { epoch_is = grind (arith, nat_tests, same); number_is = grind (arith, nat_tests, is); packet_is = some_packet found }
    by_number false same is found = cc

    by_epoch : (b : Bool) → nat_eq e epoch ≡ b → first_with number (if b then (m, p) ∷ [] else []) ≡ Some packet → IsThisCopy epoch number packet e m p
    by_epoch true same found = by_number (nat_eq m number) same refl found
    by_epoch false same found = cc

module _ (stream : Stream) (open_at : ℤ) (some : 0 < stream.frames) where
  -- one more event leaves it where it was
  arrived_more : (events : List Event) (event : Event) (epoch number : ℕ) (packet : Packet) → HasArrived stream open_at events epoch number packet → HasArrived stream open_at (events ++ event ∷ []) epoch number packet
  arrived_more events event epoch number packet has = record {
    before = has.before;
    path = has.path;
    after = has.after ++ event ∷ [];
    anchor = has.anchor;
    came = ap (λ l. l ++ event ∷ []) has.came ∙ append_assoc has.before (Arrive has.path packet ∷ has.after) (event ∷ []);
    copy = has.copy;
    own_epoch = has.own_epoch;
    among =
        ap (anchor_with epoch) (anchors_of-push stream open_at events event)
        ∙ anchor_with-append epoch (anchors_of stream open_at events) (anchors_at stream open_at (anchors_of stream open_at events) events event)
        ∙ ap (λ o. or_else o (anchor_with epoch (anchors_at stream open_at (anchors_of stream open_at events) events event))) has.among;
    first = has.first;
  }

  -- the first copy comes with this event
  arrived_now : (events : List Event) (event : Event) (epoch number : ℕ) (packet : Packet) → first_with number (copies_in epoch (copies_of_all stream open_at events)) ≡ None → first_with number (copies_in epoch (copies_at stream open_at events event)) ≡ Some packet → HasArrived stream open_at (events ++ event ∷ []) epoch number packet
  arrived_now events (Tick u) epoch number packet first found = cc
  arrived_now events Close epoch number packet first found = cc
  arrived_now events (Arrive path p) epoch number packet first found = by_anchor (anchor_of stream open_at (events ++ Arrive path p ∷ [])) refl
    where
      place : Option (ℕ × Anchor)
      place = last_of (anchors_of stream open_at (events ++ Arrive path p ∷ []))

      spec : Stream
      spec = of_width stream (width_in_force stream open_at place events)

      by_packet : (x : Packet) (a : Anchor) → IsInTimeCopy stream open_at events path x a number → a.epoch ≡ epoch → anchor_with epoch (anchors_of stream open_at (events ++ Arrive path x ∷ [])) ≡ Some a → HasArrived stream open_at (events ++ Arrive path x ∷ []) epoch number x
      by_packet x a copy own among = record { before = events; path = path; after = []; anchor = a; came = refl; copy = copy; own_epoch = own; among = among; first = first }

      by_tests : (a : Anchor) (b : Bool) (m : ℕ) → anchor_of stream open_at (events ++ Arrive path p ∷ []) ≡ Some a → copies_at stream open_at events (Arrive path p) ≡ with_epoch (Some a) (if b then (m, p) ∷ [] else []) → first_with number (copies_in epoch (with_epoch (Some a) (if b then (m, p) ∷ [] else []))) ≡ Some packet → HasArrived stream open_at (events ++ Arrive path p ∷ []) epoch number packet
      by_tests a false m force copies found = cc
      by_tests a true m force copies found =
          let this = this_copy epoch number a.epoch m packet p found in
          let copy : IsInTimeCopy stream open_at events path p a number = record { in_force = force; copy = copies ∙ ap (λ n. (a.epoch, (n, p)) ∷ []) this.number_is } in
          let own : IsOwn (Some a) (anchors_of stream open_at (events ++ Arrive path p ∷ [])) = subst (λ o. IsOwn o (anchors_of stream open_at (events ++ Arrive path p ∷ []))) (sym (anchor_is stream open_at (events ++ Arrive path p ∷ [])) ∙ force) (has_epochs stream open_at some (events ++ Arrive path p ∷ [])).own in
          let among : anchor_with epoch (anchors_of stream open_at (events ++ Arrive path p ∷ [])) ≡ Some a = ap (λ e. anchor_with e (anchors_of stream open_at (events ++ Arrive path p ∷ []))) (sym this.epoch_is) ∙ own in
          subst (λ x. HasArrived stream open_at (events ++ Arrive path p ∷ []) epoch number x) this.packet_is (by_packet p a copy this.epoch_is among)

      never : None ≡ Some packet → ⊥
      never e = cc

      by_copies : (o : Option Anchor) → anchor_of stream open_at (events ++ Arrive path p ∷ []) ≡ o → copies_at stream open_at events (Arrive path p) ≡ copies_under_with spec (time_of open_at events) (is_counting events) o p → HasArrived stream open_at (events ++ Arrive path p ∷ []) epoch number packet
      by_copies None force copies = absurd (never (sym (ap (λ l. first_with number (copies_in epoch l)) copies) ∙ found))
      by_copies (Some a) force copies = by_tests a (is_counting events && is_in_time spec a (next_number spec a (time_of open_at events)) p) (extended_number p (next_number spec a (time_of open_at events))) force copies (sym (ap (λ l. first_with number (copies_in epoch l)) copies) ∙ found)

      by_anchor : (o : Option Anchor) → anchor_of stream open_at (events ++ Arrive path p ∷ []) ≡ o → HasArrived stream open_at (events ++ Arrive path p ∷ []) epoch number packet
      by_anchor o force = by_copies o force (ap (λ x. copies_under_with spec (time_of open_at events) (is_counting events) x p) force)

  none_yet : (epoch number : ℕ) (packet : Packet) → first_with number (copies_in epoch (copies_of_all stream open_at [])) ≡ Some packet → ⊥
  unfolding copies_of_all at_places
  none_yet epoch number packet found = cc

  -- every first copy has arrived
  arrived : (events : List Event) (epoch number : ℕ) (packet : Packet) → first_with number (copies_in epoch (copies_of_all stream open_at events)) ≡ Some packet → HasArrived stream open_at events epoch number packet
  arrived = by_last_event (λ events. (epoch number : ℕ) (packet : Packet) → first_with number (copies_in epoch (copies_of_all stream open_at events)) ≡ Some packet → HasArrived stream open_at events epoch number packet) none step
    where
      none : (epoch number : ℕ) (packet : Packet) → first_with number (copies_in epoch (copies_of_all stream open_at [])) ≡ Some packet → HasArrived stream open_at [] epoch number packet
      none epoch number packet found = absurd (none_yet epoch number packet found)

      step : (events : List Event) (event : Event) → ((epoch number : ℕ) (packet : Packet) → first_with number (copies_in epoch (copies_of_all stream open_at events)) ≡ Some packet → HasArrived stream open_at events epoch number packet) → (epoch number : ℕ) (packet : Packet) → first_with number (copies_in epoch (copies_of_all stream open_at (events ++ event ∷ []))) ≡ Some packet → HasArrived stream open_at (events ++ event ∷ []) epoch number packet
      step events event before epoch number packet found = by_old (first_with number (copies_in epoch (copies_of_all stream open_at events))) refl (sym split ∙ found)
        where
          split : first_with number (copies_in epoch (copies_of_all stream open_at (events ++ event ∷ []))) ≡ or_else (first_with number (copies_in epoch (copies_of_all stream open_at events))) (first_with number (copies_in epoch (copies_at stream open_at events event)))
          split =
              ap (λ l. first_with number (copies_in epoch l)) (copies_of_all-push stream open_at events event)
              ∙ ap (first_with number) (copies_in-append epoch (copies_of_all stream open_at events) (copies_at stream open_at events event))
              ∙ first_with-append number (copies_in epoch (copies_of_all stream open_at events)) (copies_in epoch (copies_at stream open_at events event))

          by_old : (o : Option Packet) → first_with number (copies_in epoch (copies_of_all stream open_at events)) ≡ o → or_else o (first_with number (copies_in epoch (copies_at stream open_at events event))) ≡ Some packet → HasArrived stream open_at (events ++ event ∷ []) epoch number packet
          by_old (Some p) old is = subst (HasArrived stream open_at (events ++ event ∷ []) epoch number) (some_packet is) (arrived_more events event epoch number p (before epoch number p old))
          by_old None old is = arrived_now events event epoch number packet old is

-- the octets of a body
abbrev octets_in : Body → List ℕ
octets_in (Got payload) = payload.items
octets_in Lost = []

some_anchor : {x y : Anchor} → Some x ≡ Some y → x ≡ y
some_anchor e = cc

-- each slot with a payload carries the first copy of its number
module _ (stream : Stream) (open_at : ℤ) (some : 0 < stream.frames) (events : List Event) where
  slot_carried : (kind : MarkKind) → IsSlotAmong stream (anchors_of stream open_at events) (copies_of_all stream open_at events) kind → IfGot (IsCarried stream open_at events) kind
  slot_carried (Quiet u) slot = tt
  slot_carried End slot = tt
  slot_carried (Slot epoch number media Lost) slot = tt
  slot_carried (Slot epoch number media (Got payload)) slot = by_anchor (anchor_with epoch (anchors_of stream open_at events)) refl slot
    where
      by_first : (a : Anchor) → anchor_with epoch (anchors_of stream open_at events) ≡ Some a → media ≡ media_time_of stream a number → (o : Option Packet) → first_with number (copies_in epoch (copies_of_all stream open_at events)) ≡ o → Got payload ≡ body_of o → IsCarried stream open_at events epoch number media payload.items
      by_first a own time None first body = cc
      by_first a own time (Some p) first body =
          let has = arrived stream open_at some events epoch number p first in
          record {
            before = has.before;
            path = has.path;
            packet = p;
            after = has.after;
            anchor = has.anchor;
            came = has.came;
            copy = has.copy;
            own_epoch = has.own_epoch;
            first = has.first;
            octets_are = ap octets_in body;
            media_is = time ∙ ap (λ x. media_time_of stream x number) (some_anchor (sym own ∙ has.among));
          }

      by_anchor : (o : Option Anchor) → anchor_with epoch (anchors_of stream open_at events) ≡ o → IsSlotUnder stream o (copies_in epoch (copies_of_all stream open_at events)) number media (Got payload) → IsCarried stream open_at events epoch number media payload.items
      by_anchor None own slot = absurd slot
      by_anchor (Some a) own slot = by_first a own slot.0 (first_with number (copies_in epoch (copies_of_all stream open_at events))) refl slot.1

  slots_carried : (marks : List MarkView) → AllSlotsAmong stream (anchors_of stream open_at events) (copies_of_all stream open_at events) marks → All (λ mark. IfGot (IsCarried stream open_at events) mark.kind) marks
  slots_carried [] all = All-nil (λ mark. IfGot (IsCarried stream open_at events) mark.kind)
  slots_carried (mark ∷ marks) all = All-cons (λ mark. IfGot (IsCarried stream open_at events) mark.kind) mark marks (slot_carried mark.kind all.0) (slots_carried marks all.1)

  pub all_carried : is_well_timed open_at events ≡ true → All (λ mark. IfGot (IsCarried stream open_at events) mark.kind) (marks_of stream open_at events)
  all_carried timed = slots_carried (marks_of stream open_at events) (spanned stream open_at some events timed).slots

-- a part of a well-timed history is well-timed
timed_part : (open_at : ℤ) (events before after : List Event) → events ≡ before ++ after → is_well_timed open_at events ≡ true → is_well_timed open_at before ≡ true
timed_part open_at events before after came timed = (both (is_well_timed open_at before) (is_well_timed_from (time_of open_at before) (is_closed before) after) (sym (ap (is_well_timed open_at) came ∙ is_well_timed_from-append open_at false before after) ∙ timed)).0

-- by the media clock each has the media time of its packet's timestamp
module _ (stream : Stream) (offset : ℕ) (open_at : ℤ) (ok : IsStream stream) (clock : stream.clock ≡ Media offset) (events : List Event) (timed : is_well_timed open_at events ≡ true) where
  carried_in_step : (epoch number : ℕ) (media : ℤ) (octets : List ℕ) → IsCarried stream open_at events epoch number media octets → IsCarriedInStep stream offset open_at events epoch number media octets
  carried_in_step epoch number media octets has = record {
    carried = has;
    media_time = subst (IsMediaTimeOf stream offset has.packet.ts (time_of open_at has.before)) (sym has.media_is)
        (copy_media_time stream offset open_at ok clock has.before has.path has.packet has.anchor number (timed_part open_at events has.before (Arrive has.path has.packet ∷ has.after) has.came timed) has.copy);
  }

  kind_in_step : (kind : MarkKind) → IfGot (IsCarried stream open_at events) kind → IfGot (IsCarriedInStep stream offset open_at events) kind
  kind_in_step (Slot epoch number media (Got payload)) has = carried_in_step epoch number media payload.items has
  kind_in_step (Slot epoch number media Lost) has = tt
  kind_in_step (Quiet u) has = tt
  kind_in_step End has = tt

  pub all_in_step : All (λ mark. IfGot (IsCarriedInStep stream offset open_at events) mark.kind) (marks_of stream open_at events)
  all_in_step = All-weaker (λ mark. IfGot (IsCarried stream open_at events) mark.kind) (λ mark. IfGot (IsCarriedInStep stream offset open_at events) mark.kind) (λ mark. kind_in_step mark.kind) (marks_of stream open_at events) (all_carried stream open_at ok.some_frames events timed)

-- each slot with a payload holds the sound of its packet
module _ (sound : ℤ → ℕ → ℤ) (stream : Stream) (open_at : ℤ) (events : List Event) where
  kind_holds : HasSoundOf sound stream open_at events → (kind : MarkKind) → IfGot (IsCarried stream open_at events) kind → IfGot (λ epoch number media octets. HoldsSound stream sound media octets) kind
  kind_holds has (Slot epoch number media (Got payload)) slot =
      let held : HoldsSound stream sound (media_time_of stream slot.anchor number) slot.packet.payload.items = has slot.before slot.path slot.packet slot.after slot.anchor number slot.came slot.copy in
      let there : HoldsSound stream sound media slot.packet.payload.items = subst (λ m. HoldsSound stream sound m slot.packet.payload.items) (sym slot.media_is) held in
      subst (HoldsSound stream sound media) (sym slot.octets_are) there
  kind_holds has (Slot epoch number media Lost) slot = tt
  kind_holds has (Quiet u) slot = tt
  kind_holds has End slot = tt

  pub slots_hold : 0 < stream.frames → is_well_timed open_at events ≡ true → HasSoundOf sound stream open_at events → All (λ mark. IfGot (λ epoch number media octets. HoldsSound stream sound media octets) mark.kind) (marks_of stream open_at events)
  slots_hold some timed has = All-weaker (λ mark. IfGot (IsCarried stream open_at events) mark.kind) (λ mark. IfGot (λ epoch number media octets. HoldsSound stream sound media octets) mark.kind) (λ mark. kind_holds has mark.kind) (marks_of stream open_at events) (all_carried stream open_at some events timed)

  -- by the media clock the timestamp of a packet alone says from when on it holds the sound
  pub sound_by_timestamp : (offset : ℕ) → IsStream stream → stream.clock ≡ Media offset → is_well_timed open_at events ≡ true → HasSoundByTimestamp sound stream offset open_at events → HasSoundOf sound stream open_at events
  sound_by_timestamp offset ok clock timed has before path packet after anchor number came copy =
      let is = copy_media_time stream offset open_at ok clock before path packet anchor number (timed_part open_at events before (Arrive path packet ∷ after) came timed) copy in
      subst (λ m. HoldsSound stream sound m packet.payload.items) (sym is.nearest) (has before path packet after anchor number came copy)
