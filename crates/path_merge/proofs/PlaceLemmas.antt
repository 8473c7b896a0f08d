-- The place of a packet, or the reason why it has none, and the fate at it.
use Rattle.std.proofs.Common.{◌≡◌, ℕ, ◌+◌, ◌*◌, ◌<◌, ◌≤◌, Bool, true, false, not, Option, Some, None, Result, Ok, Err, ℤ, pos, ◌+ℤ◌, ◌-ℤ◌, refl, sym, ap, subst, arith, if◌then◌else◌}
use Rattle.std.specs.Prelude.{nat_eq, nat_lt, nat_le, int_le, bytes_eq}
use Rattle.std.proofs.lemmas.Bool.Decides.{nat_tests}
use Rattle.rtp_stream.specs.Anchor.{first_media_time, is_source_wanted}
use Rattle.rtp_stream.specs.Counts.{is_counted_fate, is_taken_fate}
use Rattle.rtp_stream.specs.Fate.{fate_at, fate_of_put, fault_or, first_fate, place_of}
use Rattle.rtp_stream.specs.Grid.{extended_number, is_in_time, is_on_grid}
use Rattle.rtp_stream.specs.Put.{is_taken, put_answer}
use Rattle.rtp_stream.specs.declared.stream_spec.Stream.{Stream}
use Rattle.rtp_stream.specs.declared.anchor.Anchor.{Anchor}
use Rattle.rtp_stream.specs.declared.fate.Fate.{Fate}
use Rattle.rtp_stream.specs.declared.fate.Fate.TheVariants.{Ahead, Late, OffGrid, Taken, WrongSource}
use Rattle.rtp_stream.specs.declared.packet.Packet.{Packet}
use Rattle.rtp_stream.specs.declared.fate.Put.{Put}
use Rattle.rtp_stream.specs.declared.fate.Put.TheVariants.{Double as PutDouble, Taken as PutTaken, Unlike as PutUnlike}

abbrev pub is_none : Option Packet → Bool
is_none None = true
is_none (Some p) = false

pub taken_answer : (g : Option Packet) (packet : Packet) → is_taken_fate (fate_of_put (put_answer g packet)) ≡ is_none g
taken_answer None packet = refl
taken_answer (Some p) packet = by_test (bytes_eq p.payload.items packet.payload.items)
  where
    by_test : (b : Bool) → is_taken_fate (fate_of_put (if b then PutDouble else PutUnlike)) ≡ false
    by_test true = refl
    by_test false = refl

pub taken_put : (p : Put) → is_taken_fate (fate_of_put p) ≡ is_taken p
taken_put PutTaken = refl
taken_put PutDouble = refl
taken_put PutUnlike = refl

put_counted : (p : Put) → is_counted_fate (fate_of_put p) ≡ true
put_counted PutTaken = refl
put_counted PutDouble = refl
put_counted PutUnlike = refl

-- a packet with a place is in time, and lies within the window
pub record HasPlace (stream : Stream) (a : Anchor) (next : ℕ) (packet : Packet) (number : ℕ) : Type 0 where
  pub is : number ≡ extended_number packet next
  pub low : next ≤ number
  pub high : number < next + stream.window
  pub in_time : is_in_time stream a next packet ≡ true

-- one without is not, and has a fate that counts and takes nothing
pub record HasNoPlace (stream : Stream) (a : Anchor) (next : ℕ) (packet : Packet) (fault : Fate) : Type 0 where
  pub out_of_time : is_in_time stream a next packet ≡ false
  pub untaken : is_taken_fate fault ≡ false
  pub counted : is_counted_fate fault ≡ true

abbrev number_in : Result ℕ Fate → ℕ
number_in (Ok number) = number
number_in (Err fault) = 0

abbrev fault_in : Result ℕ Fate → Fate
fault_in (Ok number) = Taken
fault_in (Err fault) = fault

module _ (stream : Stream) (a : Anchor) (next : ℕ) (packet : Packet) where
  -- the result of the four tests
  abbrev place_by : (source grid low high : Bool) → Result ℕ Fate
  place_by source grid low high = if not source then Err WrongSource else if not grid then Err OffGrid else if low then Err Late else if not high then Err Ahead else Ok (extended_number packet next)

  pub has_place : (number : ℕ) → place_of stream a next packet ≡ Ok number → HasPlace stream a next packet number
  has_place number is = by_tests (nat_eq packet.ssrc a.source) (is_on_grid stream a (extended_number packet next) packet.ts) (nat_lt (extended_number packet next) next) (nat_lt (extended_number packet next) (next + stream.window)) refl refl refl refl is
    where
      by_tests : (t g l h : Bool) → nat_eq packet.ssrc a.source ≡ t → is_on_grid stream a (extended_number packet next) packet.ts ≡ g → nat_lt (extended_number packet next) next ≡ l → nat_lt (extended_number packet next) (next + stream.window) ≡ h → place_by t g l h ≡ Ok number → HasPlace stream a next packet number
      by_tests false g l h et eg el eh e = cc
      by_tests true false l h et eg el eh e = cc
      by_tests true true true h et eg el eh e = cc
      by_tests true true false false et eg el eh e = cc
      by_tests true true false true et eg el eh e =
          let same : extended_number packet next ≡ number = ap number_in e in
          let low : nat_le next (extended_number packet next) ≡ true = grind (arith, nat_tests, el) in
          record { is = sym same; low = grind (arith, nat_tests, el, same); high = grind (arith, nat_tests, eh, same); in_time = rw (et, eg, low, eh) refl }

  pub has_no_place : (fault : Fate) → place_of stream a next packet ≡ Err fault → HasNoPlace stream a next packet fault
  has_no_place fault is = by_tests (nat_eq packet.ssrc a.source) (is_on_grid stream a (extended_number packet next) packet.ts) (nat_lt (extended_number packet next) next) (nat_lt (extended_number packet next) (next + stream.window)) refl refl refl refl is
    where
      by_fault : (f : Fate) → is_in_time stream a next packet ≡ false → is_taken_fate f ≡ false → is_counted_fate f ≡ true → f ≡ fault → HasNoPlace stream a next packet fault
      by_fault f out untaken counted same = record { out_of_time = out; untaken = subst (λ x. is_taken_fate x ≡ false) same untaken; counted = subst (λ x. is_counted_fate x ≡ true) same counted }

      by_tests : (t g l h : Bool) → nat_eq packet.ssrc a.source ≡ t → is_on_grid stream a (extended_number packet next) packet.ts ≡ g → nat_lt (extended_number packet next) next ≡ l → nat_lt (extended_number packet next) (next + stream.window) ≡ h → place_by t g l h ≡ Err fault → HasNoPlace stream a next packet fault
      by_tests false g l h et eg el eh e = by_fault WrongSource (rw et refl) refl refl (ap fault_in e)
      by_tests true false l h et eg el eh e = by_fault OffGrid (rw (et, eg) refl) refl refl (ap fault_in e)
      by_tests true true true h et eg el eh e = let low : nat_le next (extended_number packet next) ≡ false = grind (arith, nat_tests, el) in by_fault Late (rw (et, eg, low) refl) refl refl (ap fault_in e)
      by_tests true true false false et eg el eh e = let low : nat_le next (extended_number packet next) ≡ true = grind (arith, nat_tests, el) in by_fault Ahead (rw (et, eg, low, eh) refl) refl refl (ap fault_in e)
      by_tests true true false true et eg el eh e = cc

  -- the fate of an arrival that is looked at counts
  pub counts_at : (first : ℕ → Option Packet) → is_counted_fate (fate_at (place_of stream a next packet) first packet) ≡ true
  counts_at first = by_place (place_of stream a next packet) refl
    where
      by_place : (place : Result ℕ Fate) → place_of stream a next packet ≡ place → is_counted_fate (fate_at place first packet) ≡ true
      by_place (Err fault) is = (has_no_place fault is).counted
      by_place (Ok number) is = put_counted (put_answer (first number) packet)

-- the fate of a packet that would be the first is counted too
pub first_counts : (stream : Stream) (time : ℤ) (packet : Packet) → is_counted_fate (first_fate stream time packet) ≡ true
first_counts stream time packet = by_tests (not (is_source_wanted stream.ssrc packet.ssrc)) (int_le (first_media_time stream.clock packet.ts time) (time -ℤ pos stream.latency)) (int_le (time -ℤ pos stream.latency +ℤ pos (stream.window * stream.frames)) (first_media_time stream.clock packet.ts time))
  where
    by_tests : (a b c : Bool) → is_counted_fate (if a then WrongSource else fault_or (if b then Some Late else if c then Some Ahead else None) Taken) ≡ true
    by_tests true b c = refl
    by_tests false true c = refl
    by_tests false false true = refl
    by_tests false false false = refl
