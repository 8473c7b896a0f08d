-- The addresses at which a live run receives, and from which.
use Rattle.std.specs.Prelude.{ℕ, zero, suc, List, [], ◌∷◌, ◌++◌, unwrap_or}
use Rattle.std.specs.declared.net.ipv4_addr.Ipv4Addr.{Ipv4Addr}
use Rattle.rtp_stream.specs.declared.stream_spec.Stream.{Stream}
use Rattle.studio_config.specs.Networks.{path_address}
use Rattle.studio_config.specs.Studio.{Studio}
use Rattle.studio_config.specs.declared.networks.Networks.{Networks}
use Rattle.live_io.specs.declared.sockets.addresses.PathAddress.{PathAddress}

-- 127.0.0.1
abbrev pub localhost : Ipv4Addr
localhost = record { octets = 127 ∷ 0 ∷ 0 ∷ 1 ∷ [] }

-- the addresses of a stream's path: the configured one to bind, or else 127.0.0.1; and that of its source, if it is
-- configured
abbrev pub own_address : Networks → ℕ → ℕ → PathAddress
own_address networks number path = record { at = unwrap_or (path_address networks.paths number path) localhost; from = path_address networks.sources number path }

-- the addresses of a stream's first `count` paths
abbrev pub row_addresses : Networks → ℕ → ℕ → List PathAddress
row_addresses networks number zero = []
row_addresses networks number (suc count) = row_addresses networks number count ++ own_address networks number count ∷ []

-- the addresses of the paths of streams, whose numbers count up from this one
abbrev pub path_addresses : Networks → ℕ → List Stream → List PathAddress
path_addresses networks number [] = []
path_addresses networks number (stream ∷ streams) = row_addresses networks number stream.paths ++ path_addresses networks (suc number) streams

-- the addresses of all paths, stream by stream and path by path
abbrev pub addresses_of : Studio → List PathAddress
addresses_of studio = path_addresses studio.networks 0 studio.streams
