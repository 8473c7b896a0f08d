-- The delays of a socket that fails, one fault more.
use Rattle.std.proofs.Common.{◌≡◌, ◌+◌, ◌*◌, ◌<◌, ◌≤◌, ℕ, zero, suc, min, refl, arith, add-one}
use Rattle.live_io.specs.Backoff.{retry_delay}

-- the delay after one fault more is twice as long, and a second at most
pub delay_more : (faults : ℕ) → 0 < faults → retry_delay (faults + 1) ≡ min 48000 (2 * retry_delay faults)
delay_more zero some = absurd (omega (arith, some))
delay_more (suc faults) some = rw add-one refl

-- no delay is longer than a second
pub delay_most : (faults : ℕ) → retry_delay faults ≤ 48000
delay_most zero = omega arith
delay_most (suc zero) = omega arith
delay_most (suc (suc faults)) = omega arith
