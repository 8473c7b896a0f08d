-- Paths at one address and port.
use Rattle.std.specs.Prelude.{◌≡◌, ◌≢◌, ◌<◌, ℕ, List, length, slice_index_or, Option, Some, None}
use Rattle.std.specs.List.{AllPairs}
use Rattle.std.specs.declared.net.ipv4_addr.Ipv4Addr.{Ipv4Addr}
use Rattle.std.specs.Net.Addr.{IsMulticastV4}
use Rattle.live_io.specs.declared.sockets.sharing.PathPlace.{PathPlace}

-- both paths are received at the same address and port
abbrev pub Meet : PathPlace → PathPlace → Type 0
Meet a b = (a.at ≡ b.at) × (a.port ≡ b.port)

-- both sources are configured, and they differ
abbrev pub AreApart : Option Ipv4Addr → Option Ipv4Addr → Type 0
AreApart (Some a) (Some b) = a ≢ b
AreApart (Some a) None = ⊥
AreApart None b = ⊥

-- both paths are at the same group and port, and their datagrams have different sources
abbrev pub Share : PathPlace → PathPlace → Type 0
Share a b = Meet a b × IsMulticastV4 a.at × AreApart a.from b.from

-- both paths are at the same address and port, and cannot share it
abbrev pub Collide : PathPlace → PathPlace → Type 0
Collide a b = Meet a b × (Share a b → ⊥)

-- no two of the paths collide
abbrev pub AllFit : List PathPlace → Type 0
AllFit places = AllPairs (λ a b. Collide a b → ⊥) places

-- one of the paths collides with a path before it
pub record HaveCollision (places : List PathPlace) : Type 0 where
  pub earlier : ℕ
  pub later : ℕ
  pub a : PathPlace
  pub b : PathPlace
  pub order : earlier < later
  pub within : later < length places
  pub first : slice_index_or places earlier a ≡ a
  pub second : slice_index_or places later b ≡ b
  pub collide : Collide a b
