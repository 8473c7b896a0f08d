-- The addresses in the tables of streams and of the output: their rows, and their values.
use Rattle.std.specs.Prelude.{List, [], ◌∷◌, ◌++◌, Option}
use Rattle.std.specs.declared.net.ipv4_addr.Ipv4Addr.{Ipv4Addr}
use Rattle.toml.specs.Data.{Members}
use Rattle.studio_config.specs.Values.{number_at, address_at}
use Rattle.studio_config.specs.Rows.{Row, optional, whole, an_address}
use Rattle.studio_config.specs.declared.networks.OutputAddresses.{OutputAddresses}
use Rattle.studio_config.specs.declared.config.keys.Key.TheVariants as key

-- the rows of the addresses at which a stream's paths are received
abbrev pub bind_rows : List Row
bind_rows =
    optional key.AddressA an_address
    ∷ optional key.AddressB an_address
    ∷ optional key.AddressC an_address
    ∷ optional key.AddressD an_address
    ∷ []

-- the addresses at which a stream's paths are received
abbrev pub binds_of : Members → List (Option Ipv4Addr)
binds_of members =
    address_at members key.AddressA
    ∷ address_at members key.AddressB
    ∷ address_at members key.AddressC
    ∷ address_at members key.AddressD
    ∷ []

-- the rows of the source addresses to which a stream's paths are limited
abbrev pub sender_address_rows : List Row
sender_address_rows =
    optional key.SourceA an_address
    ∷ optional key.SourceB an_address
    ∷ optional key.SourceC an_address
    ∷ optional key.SourceD an_address
    ∷ []

-- the source addresses to which a stream's paths are limited
abbrev pub sender_addresses_of : Members → List (Option Ipv4Addr)
sender_addresses_of members =
    address_at members key.SourceA
    ∷ address_at members key.SourceB
    ∷ address_at members key.SourceC
    ∷ address_at members key.SourceD
    ∷ []

-- the rows of all addresses in the table of a stream
abbrev pub path_rows : List Row
path_rows = bind_rows ++ sender_address_rows

-- the rows of the source and destination addresses of the output's two copies, and of their time to live
abbrev pub sender_rows : List Row
sender_rows =
    optional key.FromA an_address
    ∷ optional key.FromB an_address
    ∷ optional key.ToAddressA an_address
    ∷ optional key.ToAddressB an_address
    ∷ optional key.Ttl (whole 1 255)
    ∷ []

-- the addresses and the time to live of the output's two copies
abbrev pub senders_of : Members → OutputAddresses
senders_of members = record {
  from_a = address_at members key.FromA;
  from_b = address_at members key.FromB;
  to_a = address_at members key.ToAddressA;
  to_b = address_at members key.ToAddressB;
  ttl = number_at members key.Ttl;
}
