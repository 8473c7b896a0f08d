-- The sockets that send the mix: what they took, and where they send to.
use Rattle.std.specs.Prelude.{◌≡◌, ℕ, Bool, List, [], ◌∷◌, ◌++◌, Option, IfSome, IsSomeAnd, unwrap_or}
use Rattle.std.specs.Net.Socket.{socket_ip, socket_port}
use Rattle.std.specs.declared.net.ip_addr.IpAddr.TheVariants.{V4}
use Rattle.std.specs.declared.net.ipv4_addr.Ipv4Addr.{Ipv4Addr}
use Rattle.std.specs.declared.net.socket_addr.SocketAddr.{SocketAddr}
use Rattle.studio_config.specs.declared.networks.OutputAddresses.{OutputAddresses}
use Rattle.live_io.specs.Addresses.{localhost}
use Rattle.live_io.specs.declared.sockets.ports.LivePorts.{LivePorts}

-- if the sends of a socket are known afterwards, they were known before, and are one more: that of this datagram, with
-- whether the socket took it
abbrev pub Attempts : Option (List (List ℕ × Bool)) → List ℕ → Bool → Option (List (List ℕ × Bool)) → Type 0
Attempts before datagram took after = IfSome after (λ all. IsSomeAnd before (λ earlier. all ≡ earlier ++ (datagram, took) ∷ []))

-- a copy of the mix is sent to this port of the configured address, or else of 127.0.0.1
abbrev pub IsDestination : Option Ipv4Addr → ℕ → SocketAddr → Type 0
IsDestination address port to = (socket_ip to ≡ V4 (unwrap_or address localhost)) × (socket_port to ≡ port)

-- the first copy and the second are sent to the output's addresses, each to its own
pub record AreDestinations (output : OutputAddresses) (ports : LivePorts) (a b : SocketAddr) : Type 0 where
  pub first : IsDestination output.to_a ports.to_a a
  pub second : IsDestination output.to_b ports.to_b b
