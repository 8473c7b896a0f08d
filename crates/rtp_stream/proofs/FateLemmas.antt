-- The place of a packet and the reach of a first one, test by test.
use Rattle.rtp_stream.specs.Grid.{extended_number, is_on_grid}
use Rattle.std.proofs.Common.{◌≡◌, ℕ, ◌+◌, ◌-◌, ◌*◌, ◌^◌, ◌≤◌, Bool, not, Some, None, Result, Ok, Err, ℤ, pos, ◌+ℤ◌, ◌-ℤ◌, ◌≤ℤ◌, to_z, of_z, w64, refl, ap, subst, ◌∙◌, arith, ⊎_elim, if◌then◌else◌}
use Rattle.std.specs.Prelude.{nat_eq, nat_lt, int_le, ◌*ℤ◌, neg_ℤ}
use Rattle.std.proofs.lemmas.Int.{ints}
use Rattle.std.proofs.lemmas.Bool.{cases_lt}
use borrow.Author.Differences.{up, down}
use Rattle.std.proofs.lemmas.Nat.{mul-le}
use Rattle.rtp_stream.specs.Anchor.{media_time_of}
use Rattle.rtp_stream.specs.Fate.{place_of, reach_fault_of}
use Rattle.rtp_stream.specs.declared.stream_spec.Stream.{Stream}
use Rattle.rtp_stream.specs.declared.anchor.Anchor.{Anchor}
use Rattle.rtp_stream.specs.declared.fate.Fate.{Fate}
use Rattle.rtp_stream.specs.declared.fate.Fate.TheVariants.{Ahead, Late, OffGrid, WrongSource}
use Rattle.rtp_stream.specs.declared.packet.Packet.{Packet}

-- a few numbers away
pub shifted : (spec : Stream) (a : Anchor) (next n : ℕ) → (media_time_of spec a next +ℤ (pos n -ℤ pos next) *ℤ pos spec.frames) ≡ media_time_of spec a n
shifted spec a next n =
    let e : up (pos next -ℤ pos a.number) + up (pos n -ℤ pos next) + down (pos n -ℤ pos a.number) ≡ up (pos n -ℤ pos a.number) + down (pos next -ℤ pos a.number) + down (pos n -ℤ pos next) = omega (arith, ints) in
    omega (arith, ints, ap (λ q. q * spec.frames) e)

pub product_small : (n next f : ℕ) → next ≤ n + 32768 → n ≤ next + 32768 → f ≤ 192 → (neg_ℤ (pos 6291456) ≤ℤ ((pos n -ℤ pos next) *ℤ pos f)) × (((pos n -ℤ pos next) *ℤ pos f) ≤ℤ pos 6291456)
product_small n next f low high small = ⊎_elim
    (λ lt.
    let e : down (pos n -ℤ pos next) ≡ up (pos n -ℤ pos next) + (next - n) = omega (arith, ints, lt) in
    let size = mul-le (next - n) f 32768 192 (omega (arith, low)) small in
    (omega (arith, ints, ap (λ q. q * f) e, size), omega (arith, ints, ap (λ q. q * f) e, size)))
    (λ ge.
    let e : up (pos n -ℤ pos next) ≡ down (pos n -ℤ pos next) + (n - next) = omega (arith, ints, ge) in
    let size = mul-le (n - next) f 32768 192 (omega (arith, high)) small in
    (omega (arith, ints, ap (λ q. q * f) e, size), omega (arith, ints, ap (λ q. q * f) e, size)))
    (cases_lt n next)

-- how far a number's media time lies from the next one's, in words of 64 bits
pub record IsShift (number next frames : ℕ) (counted : ℤ) : Type 0 where
  pub low : neg_ℤ (pos 6291456) ≤ℤ ((pos number -ℤ pos next) *ℤ pos frames)
  pub high : ((pos number -ℤ pos next) *ℤ pos frames) ≤ℤ pos 6291456
  pub is : (to_z w64 (of_z w64 (to_z w64 number -ℤ to_z w64 next)) *ℤ to_z w64 (of_z w64 counted)) ≡ (pos number -ℤ pos next) *ℤ pos frames

pub shift_is : (number next frames : ℕ) (counted : ℤ) → next ≤ 2 ^ 61 → next ≤ number + 32768 → number ≤ next + 32768 → frames ≤ 192 → counted ≡ pos frames → IsShift number next frames counted
shift_is number next frames counted next_high low high few is =
    let small = product_small number next frames low high few in
    let steps : to_z w64 (of_z w64 (to_z w64 number -ℤ to_z w64 next)) ≡ pos number -ℤ pos next = omega (arith, ints, low, high, next_high) in
    let instants : to_z w64 (of_z w64 counted) ≡ pos frames = omega (arith, ints, is, few) in
    record { low = small.0; high = small.1; is = ap (λ z. z *ℤ to_z w64 (of_z w64 counted)) steps ∙ ap (λ z. (pos number -ℤ pos next) *ℤ z) instants }

-- the place of a packet, by the results of the tests
pub place_is : (spec : Stream) (a : Anchor) (next : ℕ) (packet : Packet) (number : ℕ) (t g l h : Bool) → number ≡ extended_number packet next → nat_eq packet.ssrc a.source ≡ t → is_on_grid spec a number packet.ts ≡ g → nat_lt number next ≡ l → nat_lt number (next + spec.window) ≡ h → (if not t then Err WrongSource else if not g then Err OffGrid else if l then Err Late else if not h then Err Ahead else Ok number) ≡ place_of spec a next packet
place_is spec a next packet number t g l h is et eg el eh =
    let g_is : is_on_grid spec a (extended_number packet next) packet.ts ≡ g = subst (λ n. is_on_grid spec a n packet.ts ≡ g) is eg in
    let l_is : nat_lt (extended_number packet next) next ≡ l = subst (λ n. nat_lt n next ≡ l) is el in
    let h_is : nat_lt (extended_number packet next) (next + spec.window) ≡ h = subst (λ n. nat_lt n (next + spec.window) ≡ h) is eh in
    ap {B = Result ℕ Fate} (λ n. if not t then Err WrongSource else if not g then Err OffGrid else if l then Err Late else if not h then Err Ahead else Ok n) is ∙ rw (et, g_is, l_is, h_is) refl

-- the reason why a packet may not be the first, by the results of the tests
pub reach_fault_is : (spec : Stream) (time media : ℤ) (late ahead : Bool) → int_le media (time -ℤ pos spec.latency) ≡ late → int_le (time -ℤ pos spec.latency +ℤ pos (spec.window * spec.frames)) media ≡ ahead → (if late then Some Late else if ahead then Some Ahead else None) ≡ reach_fault_of spec time media
reach_fault_is spec time media late ahead is_late is_ahead = rw (is_late, is_ahead) refl
