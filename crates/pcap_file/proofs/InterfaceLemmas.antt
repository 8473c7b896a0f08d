-- Units of time.
use Rattle.std.proofs.Common.{◌≡◌, ◌<◌, ◌≤◌, ◌*◌, ◌/◌, ◌^◌, ℕ, zero, suc, arith, ◌-◌}
use Rattle.std.proofs.lemmas.Bool.Decides.{nat_tests}
use Rattle.std.proofs.lemmas.Nat.{pow_pos}
use Rattle.std.proofs.Math.Nat.{pow-suc, div-eq_of_lt}
use Rattle.pcap_file.specs.Interface.{units_per_second}

ten_positive : (k : ℕ) → 0 < 10 ^ k
ten_positive zero = omega arith
ten_positive (suc k) = let h = ten_positive k in rw (pow-suc 10 k) (omega arith)

-- a second has some units
pub units_positive : (resolution : ℕ) → 0 < units_per_second resolution
units_positive resolution = grind (arith, nat_tests, ten_positive resolution, pow_pos (resolution - 128))

-- units too fine for 128 bits are less than a nanosecond in all
pub nanoseconds_none : (units count : ℕ) → units < 2 ^ 64 → 2 ^ 128 ≤ count → units * 1_000_000_000 / count ≡ 0
nanoseconds_none units count h g = div-eq_of_lt (omega arith)
