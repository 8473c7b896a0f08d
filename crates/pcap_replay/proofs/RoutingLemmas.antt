-- The places of all paths, one stream after another.
use Rattle.std.proofs.Common.{◌≡◌, ◌<◌, ◌≤◌, ◌+◌, ◌-◌, ℕ, zero, suc, true, false, nat_lt, List, [], ◌∷◌, length, drop, Some, slice_get, refl, ap, ◌∙◌, arith, if◌then◌else◌}
use Rattle.std.proofs.lemmas.Bool.Decides.{nat_tests}
use Rattle.rtp_stream.specs.declared.stream_spec.Stream.{Stream}
use Rattle.pcap_replay.specs.Routing.{role_at}
use Rattle.pcap_replay.specs.declared.changes.RecordedChanges.{RecordedChanges}
use Rattle.pcap_replay.specs.declared.routing.PacketRole.TheVariants as role

drop_here : (streams : List Stream) (n : ℕ) (stream : Stream) → slice_get streams n ≡ Some stream → drop n streams ≡ stream ∷ drop (suc n) streams
drop_here [] n stream at = absurd (cc)
drop_here (s ∷ streams) zero stream at = ap (λ x. x ∷ streams) (here s stream at)
  where
    here : (x y : Stream) → Some x ≡ Some y → x ≡ y
    here x y e = cc
drop_here (s ∷ streams) (suc n) stream at = drop_here streams n stream at

-- a place among a stream's paths
pub role_here : (changes : RecordedChanges) (streams : List Stream) (n place : ℕ) (stream : Stream) → slice_get streams n ≡ Some stream → place < stream.paths
    → role_at changes n (drop n streams) place ≡ role.Arrival (record { stream = n; path = place })
unfolding role_at
role_here changes streams n place stream at less =
    let test : nat_lt place stream.paths ≡ true = grind (arith, nat_tests, less) in
    ap (λ l. role_at changes n l place) (drop_here streams n stream at)
    ∙ ap (λ b. if b then role.Arrival (record { stream = n; path = place }) else role_at changes (n + 1) (drop (suc n) streams) (place - stream.paths)) test

-- a place past the paths of a stream
pub role_on : (changes : RecordedChanges) (streams : List Stream) (n place : ℕ) (stream : Stream) → slice_get streams n ≡ Some stream → stream.paths ≤ place
    → role_at changes n (drop n streams) place ≡ role_at changes (n + 1) (drop (n + 1) streams) (place - stream.paths)
unfolding role_at
role_on changes streams n place stream at past =
    let test : nat_lt place stream.paths ≡ false = grind (arith, nat_tests, past) in
    let next : suc n ≡ n + 1 = omega arith in
    ap (λ l. role_at changes n l place) (drop_here streams n stream at)
    ∙ ap (λ b. if b then role.Arrival (record { stream = n; path = place }) else role_at changes (n + 1) (drop (suc n) streams) (place - stream.paths)) test
    ∙ ap (λ k. role_at changes (n + 1) (drop k streams) (place - stream.paths)) next

drop_past : (streams : List Stream) (n : ℕ) → length streams ≤ n → drop n streams ≡ []
drop_past [] zero h = refl
drop_past [] (suc n) h = refl
drop_past (s ∷ streams) zero h = absurd (omega (arith, h))
drop_past (s ∷ streams) (suc n) h = drop_past streams n (omega (arith, h))

pub role_behind : (changes : RecordedChanges) (streams : List Stream) (n place : ℕ) → length streams ≤ n → role_at changes n (drop n streams) place ≡ role_at changes n [] place
role_behind changes streams n place h = ap (λ l. role_at changes n l place) (drop_past streams n h)
