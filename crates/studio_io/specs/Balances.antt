-- The balance of the counts of datagrams.
use Rattle.std.specs.Prelude.{◌≡◌, ◌+◌, ℕ}

-- at each of the two addresses, every block was sent or failed to be sent
pub record Balances (blocks sent_a fault_a sent_b fault_b : ℕ) : Type 0 where
  pub a : sent_a + fault_a ≡ blocks
  pub b : sent_b + fault_b ≡ blocks
