-- A studio with the changes of one packet more.
use Rattle.std.proofs.Common.{◌≡◌, ◌⊎◌, inl, inr, ℕ, ℤ, pos, ◌+ℤ◌, List, [], ◌∷◌, ◌++◌, map, Option, Some, None, refl, sym, ap, ◌∙◌, append-nil}
use Rattle.std.specs.Option.{option_to_list}
use Rattle.std.proofs.lemmas.Grind.{flat_map-append}
use Rattle.std.proofs.lemmas.List.{map-append}
use Rattle.gain_mix.specs.Changes.{Changes, with_change}
use Rattle.pcap_file.specs.Packet.{PacketView}
use Rattle.pcap_file.specs.RecordedChange.{ChangeView, change_of}
use Rattle.studio_config.specs.Studio.{Studio}
use Rattle.studio_mix.specs.Changed.{rows_in, with_changes, with_each, with_gains}
use Rattle.pcap_replay.specs.RecordChanges.{AreAllButLast, changed_by, changes_by, changes_of, changes_with}
use Rattle.pcap_replay.specs.Routing.{PlanView, opening_of, role_of}

with_each_more : (schedule : Changes) (first more : List (ℤ × List (List ℤ))) → with_each schedule (first ++ more) ≡ with_each (with_each schedule first) more
with_each_more schedule [] more = refl
with_each_more schedule (change ∷ first) more = with_each_more (with_change schedule change.0 change.1) first more

-- some changes, and then more
with_more : (studio : Studio) (first more : List (ℤ × List ℤ)) → with_changes (with_changes studio first) more ≡ with_changes studio (first ++ more)
with_more studio first more =
    ap (λ (schedule : Changes). record studio { schedule = schedule })
    (sym (with_each_more studio.schedule (map (rows_in studio) first) (map (rows_in studio) more))
    ∙ ap (with_each studio.schedule) (sym (map-append (rows_in studio) first more)))

pub changes_more : (plan : PlanView) (packets : List PacketView) (packet : PacketView) → changes_of plan (packets ++ packet ∷ []) ≡ changes_of plan packets ++ changes_with (opening_of plan) packet (role_of plan packet)
changes_more plan packets packet =
    flat_map-append (λ p. changes_with (opening_of plan) p (role_of plan p)) packets (packet ∷ [])
    ∙ ap (λ l. changes_of plan packets ++ l) (append-nil (changes_with (opening_of plan) packet (role_of plan packet)))

pub changed_more : (studio : Studio) (plan : PlanView) (packets : List PacketView) (packet : PacketView)
    → with_changes (changed_by studio plan packets) (changes_with (opening_of plan) packet (role_of plan packet)) ≡ changed_by studio plan (packets ++ packet ∷ [])
changed_more studio plan packets packet =
    with_more studio (changes_of plan packets) (changes_with (opening_of plan) packet (role_of plan packet)) ∙ ap (with_changes studio) (sym (changes_more plan packets packet))

-- at most one packet more
pub all_but_last : (some packets : List PacketView) (o : Option PacketView) → packets ≡ some ++ option_to_list o → AreAllButLast some packets
all_but_last some packets None e = inl (e ∙ append-nil some)
all_but_last some packets (Some packet) e = inr (packet, e)

-- a change that octets spell, as the call of an engine
pub as_gains : (studio : Studio) (from : ℕ) (octets : List ℕ) (change : ChangeView) (at : ℤ) (gains : List ℤ) → change_of octets ≡ Some change → at ≡ pos from +ℤ change.at → gains ≡ change.gains
    → with_gains studio at gains ≡ with_changes studio (changes_by from (change_of octets))
as_gains studio from octets change at gains is time same =
    ap (with_gains studio at) same ∙ ap (λ t. with_gains studio t change.gains) time ∙ sym (ap (λ o. with_changes studio (changes_by from o)) is)
