-- Why a replay stops at a time that jumps, or at a change of gains that is not taken.
use Rattle.std.proofs.Common.{◌≡◌, inl, inr, ◌<◌, ◌≤◌, ◌+◌, ◌-◌, ◌^◌, ◌+ℤ◌, pos, ℕ, ℤ, true, false, nat_lt, List, [], ◌∷◌, ◌++◌, length, min, Option, Some, None, option_map, if◌then◌else◌, refl, sym, ap, subst, ◌∙◌, arith}
use Rattle.std.proofs.lemmas.Bool.Decides.{nat_tests}
use Rattle.std.proofs.lemmas.List.{length-append}
use Rattle.pcap_file.specs.Packet.{PacketView}
use Rattle.pcap_file.specs.Entries.{Entry}
use Rattle.pcap_file.specs.Reader.{packets_among}
use Rattle.pcap_file.specs.RecordedChange.{ChangeView}
use Rattle.pcap_flows.specs.declared.import.clock.CaptureClock.{CaptureClock}
use Rattle.pcap_flows.specs.Clock.{clock_with}
use Rattle.pcap_flows.specs.Trace.{octets_of}
use Rattle.studio_mix.specs.Changed.{gains_fault_of}
use Rattle.studio_mix.specs.Mixer.{MixerState}
use Rattle.pcap_replay.specs.Causes.{IsCause, IsChangeFault, IsLongStep, IsPacketFault, IsReadingFault, count_on, fits_time, kind_of, refusal_of, rule_at}
use Rattle.pcap_replay.specs.Events.{clock_of}
use Rattle.pcap_replay.specs.Reasons.{IsOfEvent, IsOfTurn}
use Rattle.pcap_replay.specs.Record.{closing_in}
use Rattle.pcap_replay.specs.RecordChanges.{changes_of, changes_with}
use Rattle.pcap_replay.specs.Routing.{PlanView, clock_past, closing_of, longest_of, opening_of, role_of}
use Rattle.pcap_replay.specs.declared.fault.RecordedChangeFault.TheVariants as refusal
use Rattle.pcap_replay.specs.declared.fault.ReplayFault.{ReplayFault}
use Rattle.pcap_replay.specs.declared.fault.ReplayFault.TheVariants.{Memory, Capture, Run as RunOf, Change, Jump, TooManyEvents, Write}
use Rattle.pcap_replay.specs.declared.routing.PacketRole.{PacketRole}
use Rattle.pcap_replay.specs.declared.routing.PacketRole.TheVariants as role
use Rattle.pcap_replay.specs.declared.routing.ReadingRule.{ReadingRule}
use Rattle.pcap_replay.proofs.ChangedLemmas.{changes_more}

-- changes are counted one by one
count_long : (count : ℕ) (changes : List (ℤ × List ℤ)) → count ≤ 2 ^ 64 - 1 → count_on count changes ≡ min (count + length changes) (2 ^ 64 - 1)
count_long count [] few = grind (arith, few)
count_long count (change ∷ changes) few =
    let next : min (count + 1) (2 ^ 64 - 1) ≤ 2 ^ 64 - 1 = grind arith in
    let rest = count_long (min (count + 1) (2 ^ 64 - 1)) changes next in
    rest ∙ (let e : min (min (count + 1) (2 ^ 64 - 1) + length changes) (2 ^ 64 - 1) ≡ min (count + length (change ∷ changes)) (2 ^ 64 - 1) = grind arith in e)

count_more : (first more : List (ℤ × List ℤ)) (old new : ℕ) → old ≡ min (length first) (2 ^ 64 - 1) → new ≡ count_on old more → new ≡ min (length (first ++ more)) (2 ^ 64 - 1)
count_more first more old new was is =
    let few : old ≤ 2 ^ 64 - 1 = grind (arith, was) in
    let long = count_long old more few in
    let both = length-append first more in
    grind (arith, was, is, long, both)

-- the changes of one packet more
pub counted_more : (plan : PlanView) (packets : List PacketView) (packet : PacketView) (old new : ℕ) → old ≡ min (length (changes_of plan packets)) (2 ^ 64 - 1) → new ≡ count_on old (changes_with (opening_of plan) packet (role_of plan packet))
    → new ≡ min (length (changes_of plan (packets ++ packet ∷ []))) (2 ^ 64 - 1)
counted_more plan packets packet old new was is =
    count_more (changes_of plan packets) (changes_with (opening_of plan) packet (role_of plan packet)) old new was is ∙ ap (λ l. min (length l) (2 ^ 64 - 1)) (sym (changes_more plan packets packet))

-- a change that is refused for octets that are no change, for its time, or by the engine
pub octets_refused : (mixer : MixerState) (from : ℕ) (o : Option ChangeView) → ((change : ChangeView) → o ≡ Some change → 8192 < length change.gains) → refusal_of mixer from o ≡ Some refusal.Octets
octets_refused mixer from None many = refl
octets_refused mixer from (Some change) many =
    let long = many change refl in
    let test : nat_lt 8192 (length change.gains) ≡ true = grind (arith, nat_tests, long) in
    ap (λ b. if b then Some refusal.Octets else if fits_time from change.at then option_map kind_of (gains_fault_of mixer (pos from +ℤ change.at) change.gains) else Some refusal.Time) test

pub time_refused : (mixer : MixerState) (from : ℕ) (o : Option ChangeView) (change : ChangeView) → o ≡ Some change → length change.gains ≤ 8192 → fits_time from change.at ≡ false → refusal_of mixer from o ≡ Some refusal.Time
time_refused mixer from o change is few late =
    let test : nat_lt 8192 (length change.gains) ≡ false = grind (arith, nat_tests, few) in
    ap (refusal_of mixer from) is
    ∙ ap (λ b. if b then Some refusal.Octets else if fits_time from change.at then option_map kind_of (gains_fault_of mixer (pos from +ℤ change.at) change.gains) else Some refusal.Time) test
    ∙ ap (λ b. if b then option_map kind_of (gains_fault_of mixer (pos from +ℤ change.at) change.gains) else Some refusal.Time) late

-- a fault of an event is no time that jumps and no change
pub event_packet : (rule : ReadingRule) (clock : CaptureClock) (count : ℕ) (mixer : MixerState) (packet : PacketView) (part : PacketRole) (fault : ReplayFault) → IsOfEvent fault → IsPacketFault rule clock count mixer packet part fault
event_packet rule clock count mixer packet part Memory is = tt
event_packet rule clock count mixer packet part (Capture fault) is = tt
event_packet rule clock count mixer packet part (RunOf fault) is = tt
event_packet rule clock count mixer packet part (Change number kind) is = absurd is
event_packet rule clock count mixer packet part (Jump place seconds) is = absurd is
event_packet rule clock count mixer packet part TooManyEvents is = tt
event_packet rule clock count mixer packet part Write is = tt

-- the fault of a turn is no time that jumps
pub turn_reading : (rule : ReadingRule) (earlier later : CaptureClock) (fault : ReplayFault) → IsOfTurn fault → IsReadingFault rule earlier later fault
turn_reading rule earlier later Memory is = absurd is
turn_reading rule earlier later (Capture fault) is = absurd is
turn_reading rule earlier later (RunOf fault) is = tt
turn_reading rule earlier later (Change number kind) is = absurd is
turn_reading rule earlier later (Jump place seconds) is = absurd is
turn_reading rule earlier later TooManyEvents is = absurd is
turn_reading rule earlier later Write is = tt

-- the fault of the reading of a packet that moves the clock
pub reading_packet : (rule : ReadingRule) (clock : CaptureClock) (count : ℕ) (mixer : MixerState) (packet : PacketView) (part : PacketRole) (later : CaptureClock) (fault : ReplayFault) → later ≡ clock_past clock packet part → IsReadingFault rule clock later fault
    → IsPacketFault rule clock count mixer packet part fault
reading_packet rule clock count mixer packet part later Memory same is = tt
reading_packet rule clock count mixer packet part later (Capture fault) same is = tt
reading_packet rule clock count mixer packet part later (RunOf fault) same is = tt
reading_packet rule clock count mixer packet part later (Change number kind) same is = absurd is
reading_packet rule clock count mixer packet part later (Jump place seconds) same is = (is.0, subst (λ k. IsLongStep rule.longest clock k seconds) same is.1)
reading_packet rule clock count mixer packet part later TooManyEvents same is = tt
reading_packet rule clock count mixer packet part later Write same is = tt

-- the fault of a packet's change
pub change_packet : (rule : ReadingRule) (clock : CaptureClock) (count : ℕ) (mixer : MixerState) (packet : PacketView) (fault : ReplayFault) → IsChangeFault count mixer rule.from (octets_of packet.ip.body) fault
    → IsPacketFault rule clock count mixer packet role.Change fault
change_packet rule clock count mixer packet Memory is = tt
change_packet rule clock count mixer packet (Capture fault) is = tt
change_packet rule clock count mixer packet (RunOf fault) is = tt
change_packet rule clock count mixer packet (Change number kind) is = record { change = refl; next = is.0; why = is.1 }
change_packet rule clock count mixer packet (Jump place seconds) is = absurd is
change_packet rule clock count mixer packet TooManyEvents is = tt
change_packet rule clock count mixer packet Write is = tt

-- a packet's fault, by the rule and the role of a plan
pub packet_by : (plan : PlanView) (from longest place : ℕ) (clock : CaptureClock) (count : ℕ) (mixer : MixerState) (packet : PacketView) (part : PacketRole) (fault : ReplayFault) → from ≡ opening_of plan → longest ≡ longest_of plan → part ≡ role_of plan packet
    → IsPacketFault (record { from = from; longest = longest; place = place }) clock count mixer packet part fault → IsPacketFault (rule_at plan place) clock count mixer packet (role_of plan packet) fault
packet_by plan from longest place clock count mixer packet part fault begins limit is why =
    subst (λ (o : PacketRole). IsPacketFault (rule_at plan place) clock count mixer packet o fault) is
    (subst (λ (n : ℕ). IsPacketFault (record { from = opening_of plan; longest = n; place = place }) clock count mixer packet part fault) limit
    (subst (λ (n : ℕ). IsPacketFault (record { from = n; longest = longest; place = place }) clock count mixer packet part fault) begins why))

-- a packet's fault, behind the packets so far
pub packet_cause : (plan : PlanView) (entries all : List Entry) (place : ℕ) (clock : CaptureClock) (count : ℕ) (mixer : MixerState) (packet : PacketView) (fault : ReplayFault) → packets_among all ≡ packets_among entries ++ packet ∷ []
    → clock ≡ clock_of plan (packets_among entries) → count ≡ min (length (changes_of plan (packets_among entries))) (2 ^ 64 - 1) → IsPacketFault (rule_at plan place) clock count mixer packet (role_of plan packet) fault
    → IsCause plan all (packets_among entries) mixer fault
packet_cause plan entries all place clock count mixer packet Memory last now are is = tt
packet_cause plan entries all place clock count mixer packet (Capture fault) last now are is = tt
packet_cause plan entries all place clock count mixer packet (RunOf fault) last now are is = tt
packet_cause plan entries all place clock count mixer packet (Change number kind) last now are is = record {
  packet = packet;
  last = record { behind = last };
  is = record { change = is.change; next = is.next ∙ (let e : min (count + 1) (2 ^ 64 - 1) ≡ min (length (changes_of plan (packets_among entries)) + 1) (2 ^ 64 - 1) = grind (arith, are) in e); why = is.why };
}
packet_cause plan entries all place clock count mixer packet (Jump at seconds) last now are is =
    inl (packet, record { behind = last }, subst (λ (k : CaptureClock). IsLongStep (longest_of plan) k (clock_past k packet (role_of plan packet)) seconds) now is.1)
packet_cause plan entries all place clock count mixer packet TooManyEvents last now are is = tt
packet_cause plan entries all place clock count mixer packet Write last now are is = tt

-- the fault of the close, behind all packets
pub close_cause : (plan : PlanView) (entries : List Entry) (rule : ReadingRule) (closing : Option ℕ) (earlier : CaptureClock) (mixer : MixerState) (fault : ReplayFault) → rule.longest ≡ longest_of plan
    → earlier ≡ clock_of plan (packets_among entries) → closing ≡ closing_of plan (closing_in entries) → IsReadingFault rule earlier (clock_with earlier closing) fault → IsCause plan entries (packets_among entries) mixer fault
close_cause plan entries rule closing earlier mixer Memory limit now closes is = tt
close_cause plan entries rule closing earlier mixer (Capture fault) limit now closes is = tt
close_cause plan entries rule closing earlier mixer (RunOf fault) limit now closes is = tt
close_cause plan entries rule closing earlier mixer (Change number kind) limit now closes is = absurd is
close_cause plan entries rule closing earlier mixer (Jump place seconds) limit now closes is =
    let packets = packets_among entries in
    inr (
      refl,
      subst (λ (o : Option ℕ). IsLongStep (longest_of plan) (clock_of plan packets) (clock_with (clock_of plan packets) o) seconds) closes
          (subst (λ (k : CaptureClock). IsLongStep (longest_of plan) k (clock_with k closing) seconds) now
          (subst (λ (n : ℕ). IsLongStep n earlier (clock_with earlier closing) seconds) limit is.1)),
    )
close_cause plan entries rule closing earlier mixer TooManyEvents limit now closes is = tt
close_cause plan entries rule closing earlier mixer Write limit now closes is = tt
