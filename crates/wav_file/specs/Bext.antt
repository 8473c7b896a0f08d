-- The `bext` chunk of a Broadcast Wave file (EBU Tech 3285), version 1, and the stamp of a time in a file's name. A
-- time is counted in sampling instants at 48 kHz since 1970-01-01T00:00:00Z.
use Rattle.std.specs.Prelude.{◌≡◌, ℕ, ◌+◌, ◌/◌, ◌%◌, min, pos, unsigned_abs, List, [], ◌∷◌, ◌++◌, codes, replicate}
use Rattle.byteorder.specs.Endian.{little_bytes}
use Rattle.jiff_core.specs.declared.civil.date.Date.{Date}
use Rattle.jiff_core.specs.Date.{epoch_day}

-- the last two digits of a number, in ASCII
abbrev pub two_digits : ℕ → List ℕ
two_digits n = (48 + n / 10 % 10) ∷ (48 + n % 10) ∷ []

-- a date: year, month and day, with this text between them
abbrev pub date_text : List ℕ → Date → List ℕ
date_text between date = two_digits (unsigned_abs date.year / 100) ++ (two_digits (unsigned_abs date.year) ++ (between ++ (two_digits date.month ++ (between ++ two_digits date.day))))

-- the time of day of a sampling instant since midnight: hour, minute and second
abbrev pub time_text : List ℕ → ℕ → List ℕ
time_text between instant = two_digits (instant / 172800000) ++ (between ++ (two_digits (instant / 2880000 % 60) ++ (between ++ two_digits (instant / 48000 % 60))))

-- the date of a time, in UTC; a time beyond the year 9999 has its last day
abbrev pub IsDateAt : ℕ → Date → Type 0
IsDateAt at date = epoch_day date ≡ pos (min (at / 4147200000) 2932896)

-- the chunk up to the date: no description; the originator; no reference
abbrev pub bext_front : List ℕ
bext_front = codes "bext" ++ little_bytes 4 602 ++ replicate 256 0 ++ codes "darbexum" ++ replicate 56 0

-- the chunk behind the time of day: the sampling instants since midnight; version 1, without a UMID
abbrev pub bext_back : ℕ → List ℕ
bext_back instant = little_bytes 8 instant ++ little_bytes 2 1 ++ replicate 254 0

abbrev pub bext_octets : Date → ℕ → List ℕ
bext_octets date instant = bext_front ++ (date_text (codes "-") date ++ (time_text (codes ":") instant ++ bext_back instant))

-- the `bext` chunk of a file whose first sample has this time
pub record IsBext (at : ℕ) (text : List ℕ) : Type 0 where
  pub date : Date
  pub day : IsDateAt at date
  pub octets : text ≡ bext_octets date (at % 4147200000)

-- the stamp of a time, such as 20261128T174501Z
pub record IsStamp (at : ℕ) (text : List ℕ) : Type 0 where
  pub date : Date
  pub day : IsDateAt at date
  pub octets : text ≡ date_text [] date ++ (codes "T" ++ (time_text [] (at % 4147200000) ++ codes "Z"))
