-- The copies of the mix that are sent later, since streams are missing in them.
use Rattle.std.specs.Prelude.{◌≡◌, ◌⊎◌, ℕ, ◌==◌, ◌≤◌, ◌<◌, nat_lt, Bool, true, false, ◌||◌, ℤ, ◌≤ℤ◌, List, [], ◌∷◌, ◌++◌, length, if◌then◌else◌}
use Rattle.std.specs.Int.RustNames.{int_lt}
use Rattle.studio_io.specs.declared.mixed_block.Missing.{Missing}
use Rattle.live_io.specs.declared.sockets.mix_times.MixDue.{MixDue}
use Rattle.live_io.specs.declared.sockets.late.LateSettings.{LateSettings}
use Rattle.live_io.specs.declared.sockets.late.copy_time.CopyTime.{CopyTime}
use Rattle.live_io.specs.declared.sockets.late.copy_time.CopyTime.TheVariants.{AtOnce, Late, Later, Never}
use Rattle.live_io.specs.declared.sockets.late.waiting.WaitingCopies.{WaitingCopies}
use Rattle.live_io.specs.declared.sockets.late.waiting.WaitingCopy.{WaitingCopy}

-- when a copy is sent in whose block this is missing, with a delay, and whether the run yields
abbrev pub copy_time_of : Missing → ℕ → Bool → CopyTime
copy_time_of missing late yields =
    if late == 0
    then AtOnce
    else (if missing.is_empty then Never else (if yields || nat_lt 1 missing.streams then Later else (if missing.streams == 1 then Late else AtOnce)))

-- the same by the settings of a run, for a copy that comes at a reading
abbrev pub late_of : LateSettings → Missing → ℤ → CopyTime
late_of settings missing now = copy_time_of missing settings.late (int_lt now settings.yields_until)

-- these copies are followed by one more, of this datagram
pub record TakesLast (due : MixDue) (datagram : List ℕ) (old new : List WaitingCopy) : Type 0 where
  pub copy : WaitingCopy
  pub at : copy.due ≡ due
  pub octets : copy.datagram.items ≡ datagram
  pub last : new ≡ old ++ copy ∷ []

-- a copy is taken, or there is no space for it
abbrev pub Takes : Bool → MixDue → List ℕ → WaitingCopies → WaitingCopies → Type 0
Takes true due datagram old new = TakesLast due datagram old.copies.items new.copies.items
Takes false due datagram old new = (new ≡ old) × ((old.copies.capacity ≤ length old.copies.items) ⊎ (1452 < length datagram))

-- there is a first copy, and its time has come
abbrev pub HasFirstDue : ℤ → List WaitingCopy → Type 0
HasFirstDue now [] = ⊥
HasFirstDue now (copy ∷ more) = copy.due.at ≤ℤ now

-- this was the first copy, and its time has come
abbrev pub IsFirstDue : ℤ → WaitingCopy → WaitingCopies → WaitingCopies → Type 0
IsFirstDue now copy old new = (old.copies.items ≡ copy ∷ new.copies.items) × (copy.due.at ≤ℤ now)

-- this was the first copy of one of the two delays, and its time has come
abbrev pub TakesFirst : ℤ → WaitingCopy → WaitingCopies → WaitingCopies → WaitingCopies → WaitingCopies → Type 0
TakesFirst now copy late late_new later later_new =
    (IsFirstDue now copy late late_new × (later_new ≡ later)) ⊎ (IsFirstDue now copy later later_new × (late_new ≡ late))
