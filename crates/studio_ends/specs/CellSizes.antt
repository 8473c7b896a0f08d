-- Rings with short, middle or long cells: the remainder of a ring's name divided by 3 says which.
use Rattle.std.proofs.Common.{◌≡◌, ℕ, ◌+◌, ◌*◌, ◌≤◌, Option, Some, None, IfSome, ap}
use Rattle.std.specs.declared.alloc.Global.{Global}
use Rattle.rtrb.specs.Ring.{IsFinishedOf}
use Rattle.rtrb.specs.Shared.{Names}
use Rattle.rtrb.specs.declared.AnyItems.{AnyItems}
use Rattle.rtrb.specs.declared.consumer.Consumer.{Consumer}
use Rattle.rtrb.specs.declared.finished.Finished.{Finished}
use Rattle.rtrb.specs.declared.producer.Producer.{Producer}
use Rattle.studio_ends.specs.declared.rings.TokenConsumer.{TokenConsumer}

-- the names of a ring with cells of this size: 0 for short, 1 for middle, 2 for long
abbrev pub named : ℕ → Names → Names
named size names = (names.0, (3 * names.1.0 + size, names.1.1))

-- each cell of a ring with these names has space for `len` octets
pub record FitsCells (len : ℕ) (names : Names) : Type 0 where
  pub short : (n : ℕ) → names.1.0 ≡ 3 * n → len ≤ 64
  pub middle : (n : ℕ) → names.1.0 ≡ 3 * n + 1 → len ≤ 320
  pub long : len ≤ 1440

module _ {T : Type 0} where
  abbrev pub HasCellsFor : ℕ → Producer T Global AnyItems → Type 0
  HasCellsFor len p = FitsCells len p.end.names

  -- the ends of a ring, with cells of this size
  abbrev pub producer_with : ℕ → Producer T Global AnyItems → Producer T Global AnyItems
  producer_with size p = record p { end = record p.end { names = named size p.end.names } }

  abbrev pub consumer_with : ℕ → Consumer T Global AnyItems → Consumer T Global AnyItems
  consumer_with size c = record c { end = record c.end { names = named size c.end.names } }

  abbrev pub finished_with : ℕ → Finished T Global AnyItems → Finished T Global AnyItems
  finished_with size f = record f { end = record f.end { names = named size f.end.names } }

  abbrev pub done_with : ℕ → Option (Finished T Global AnyItems) → Option (Finished T Global AnyItems)
  done_with size None = None
  done_with size (Some done) = Some (finished_with size done)

  pub mine_with : (size : ℕ) (ring : Consumer T Global AnyItems) (done : Option (Finished T Global AnyItems))
      → IfSome done (λ d. IsFinishedOf d ring) → IfSome (done_with size done) (λ d. IsFinishedOf d (consumer_with size ring))
  mine_with size ring None h = h
  mine_with size ring (Some done) h = (h.0, h.1, ap (named size) h.2, h.3)

  abbrev pub side_with : ℕ → TokenConsumer T → TokenConsumer T
  side_with size side = record { ring = consumer_with size side.ring; done = done_with size side.done; mine = mine_with size side.ring side.done side.mine }
