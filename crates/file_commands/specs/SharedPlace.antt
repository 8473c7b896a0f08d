-- The paths of a configuration that are at one address and port, and cannot share it.
use Rattle.std.specs.Prelude.{◌≡◌, ◌≢◌, ℕ, ◌<◌, ◌⊎◌, ◌↔◌, List, [], ◌∷◌, Option, Some, None, unwrap_or, option_map, slice_get, IsTrue}
use Rattle.std.specs.declared.net.ipv4_addr.Ipv4Addr.{Ipv4Addr}
use Rattle.std.specs.Net.Addr.{IsMulticastV4}
use Rattle.rtp_stream.specs.declared.stream_spec.Stream.{Stream}
use Rattle.studio_config.specs.Networks.{path_address}
use Rattle.studio_config.specs.Ports.{port_at}
use Rattle.studio_config.specs.Studio.{Studio}
use Rattle.file_commands.specs.declared.shared_place.PathPlace.{PathPlace}
use Rattle.file_commands.specs.declared.shared_place.SharedPlace.{SharedPlace}

-- 127.0.0.1
abbrev pub localhost : Ipv4Addr
localhost = record { octets = 127 ∷ 0 ∷ 0 ∷ 1 ∷ [] }

-- the place at which a path of the stream of a number is received, if its port is known: a path without an address is
-- received at 127.0.0.1
abbrev pub place_of : Studio → ℕ → ℕ → Option PathPlace
place_of studio stream path = option_map (λ port. record {
  at = unwrap_or (path_address studio.networks.paths stream path) localhost;
  port = port;
  source = path_address studio.networks.sources stream path;
}) (port_at studio.ports.paths stream path)

-- both paths are received at the same address and port
abbrev pub Meet : PathPlace → PathPlace → Type 0
Meet a b = (a.at ≡ b.at) × (a.port ≡ b.port)

-- both sources are configured, and they differ
abbrev pub AreApart : Option Ipv4Addr → Option Ipv4Addr → Type 0
AreApart (Some a) (Some b) = a ≢ b
AreApart (Some a) None = ⊥
AreApart None b = ⊥

-- both paths are at the same group and port, and their datagrams have different sources
abbrev pub Share : PathPlace → PathPlace → Type 0
Share a b = Meet a b × IsMulticastV4 a.at × AreApart a.source b.source

-- both paths are at the same address and port, and cannot share it
abbrev pub Collide : PathPlace → PathPlace → Type 0
Collide a b = Meet a b × (Share a b → ⊥)

-- a path with this place, if its port is known, collides with a place
abbrev pub CollidesAt : PathPlace → Option PathPlace → Type 0
CollidesAt own (Some other) = Collide own other
CollidesAt own None = ⊥

-- the first of this many paths of a stream that collides with a place
abbrev pub IsFirstAt : Studio → PathPlace → ℕ → ℕ → Option ℕ → Type 0
IsFirstAt studio own stream paths (Some found) =
    (found < paths) × CollidesAt own (place_of studio stream found) × ((other : ℕ) → other < found → CollidesAt own (place_of studio stream other) → ⊥)
IsFirstAt studio own stream paths None = (other : ℕ) → other < paths → CollidesAt own (place_of studio stream other) → ⊥

-- a path of a stream comes before the path of a number of the stream of a number: its stream does, or it is one of the
-- same stream and comes before it there
abbrev pub IsBefore : ℕ → ℕ → ℕ → ℕ → Type 0
IsBefore stream path number own = (stream < number) ⊎ ((stream ≡ number) × (path < own))

-- one of the streams has this number, and a path of this number
abbrev pub IsPath : List Stream → ℕ → ℕ → Type 0
IsPath streams stream path = (spec : Stream) × (slice_get streams stream ≡ Some spec) × (path < spec.paths)

-- a path of the studio that comes before the path of a number of the stream of a number, and collides with its place
pub record IsEarlier (studio : Studio) (own : PathPlace) (number path stream other : ℕ) : Type 0 where
  pub is_path : IsPath studio.streams stream other
  pub before : IsBefore stream other number path
  pub collides : CollidesAt own (place_of studio stream other)

-- the first path that comes before a path and collides with its place
pub record IsFirstEarlier (studio : Studio) (own : PathPlace) (number path : ℕ) (found : SharedPlace) : Type 0 where
  pub earlier : IsEarlier studio own number path found.stream found.path
  pub first : (stream other : ℕ) → IsBefore stream other found.stream found.path → IsEarlier studio own number path stream other → ⊥
  pub is_group : IsTrue found.is_group ↔ IsMulticastV4 own.at

-- what is found for the path of a number of the stream of a number, by its place
abbrev pub IsShared : Studio → ℕ → ℕ → Option PathPlace → Option SharedPlace → Type 0
IsShared studio number path (Some own) (Some found) = IsFirstEarlier studio own number path found
IsShared studio number path (Some own) None = (stream other : ℕ) → IsEarlier studio own number path stream other → ⊥
IsShared studio number path None found = found ≡ None
