-- The addresses of a studio's paths and of its output.
use Rattle.std.specs.Prelude.{ℕ, List, [], Option, None, slice_get, unwrap_or}
use Rattle.std.specs.declared.net.ipv4_addr.Ipv4Addr.{Ipv4Addr}
use Rattle.studio_config.specs.Ports.{absent_rows}
use Rattle.studio_config.specs.declared.networks.Networks.{Networks}

-- the address of this stream's path, by a table of addresses
abbrev pub path_address : List (List (Option Ipv4Addr)) → ℕ → ℕ → Option Ipv4Addr
path_address rows stream path = unwrap_or (slice_get (unwrap_or (slice_get rows stream) []) path) None

-- no address is known
abbrev pub absent_networks : Networks
absent_networks = record {
  paths = absent_rows 16;
  sources = absent_rows 16;
  output = record { from_a = None; from_b = None; to_a = None; to_b = None; ttl = None };
}
