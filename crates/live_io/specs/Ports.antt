-- The ports that a live run needs.
use Rattle.std.specs.Prelude.{◌≡◌, ℕ, zero, suc, List, [], ◌∷◌, ◌++◌, map, Option, Some, None}
use Rattle.rtp_stream.specs.declared.stream_spec.Stream.{Stream}
use Rattle.studio_config.specs.Ports.{port_at}
use Rattle.studio_config.specs.Rows.{first_in}
use Rattle.studio_config.specs.Studio.{Studio}
use Rattle.studio_config.specs.declared.config.keys.Key.{Key}
use Rattle.studio_config.specs.declared.config.keys.Key.TheVariants as key
use Rattle.studio_config.specs.declared.config.fault.ConfigTable.{ConfigTable}
use Rattle.studio_config.specs.declared.config.fault.ConfigTable.TheVariants as place
use Rattle.studio_config.specs.declared.config.fault.SpecErrorKind.TheVariants as kind
use Rattle.studio_config.specs.declared.config.fault.SpecError.{SpecError}
use Rattle.live_io.specs.declared.sockets.ports.LivePorts.{LivePorts}

-- a port that is needed: its place in the configuration, and the port, if it is configured
pub record Need : Type 0 where
  pub place : ConfigTable
  pub key : Key
  pub port : Option ℕ

-- the key of a path's port
abbrev pub port_key : ℕ → Key
port_key zero = key.PortA
port_key (suc zero) = key.PortB
port_key (suc (suc zero)) = key.PortC
port_key (suc (suc (suc path))) = key.PortD

-- the need of a stream's path
abbrev pub path_need : List (List (Option ℕ)) → ℕ → ℕ → Need
path_need rows number path = record { place = place.Stream number; key = port_key path; port = port_at rows number path }

-- the needs of a stream's first `count` paths
abbrev pub row_needs : List (List (Option ℕ)) → ℕ → ℕ → List Need
row_needs rows number zero = []
row_needs rows number (suc count) = row_needs rows number count ++ path_need rows number count ∷ []

-- the needs of the paths of streams, whose numbers count up from this one
abbrev pub path_needs : List (List (Option ℕ)) → ℕ → List Stream → List Need
path_needs rows number [] = []
path_needs rows number (stream ∷ streams) = row_needs rows number stream.paths ++ path_needs rows (suc number) streams

-- the needs of the output's addresses
abbrev pub output_needs : Studio → List Need
output_needs studio =
    record { place = place.Output; key = key.ToA; port = studio.ports.to_a }
    ∷ record { place = place.Output; key = key.ToB; port = studio.ports.to_b }
    ∷ []

-- all ports that a live run needs: stream by stream and path by path, and then the output's
abbrev pub needs_of : Studio → List Need
needs_of studio = path_needs studio.ports.paths 0 studio.streams ++ output_needs studio

-- the error if this port is missing
abbrev pub missing_at : ConfigTable → Key → Option ℕ → Option SpecError
missing_at place key (Some port) = None
missing_at place key None = Some (record { place = place; key = Some key; kind = kind.Missing })

abbrev pub missing_in : Need → Option SpecError
missing_in need = missing_at need.place need.key need.port

-- the first error of these needs
abbrev pub first_missing : List Need → Option SpecError
first_missing needs = first_in (map missing_in needs)

-- these are the needed ports, in this order
abbrev pub AreSaid : List Need → List ℕ → Type 0
AreSaid needs ports = map (λ (need : Need). need.port) needs ≡ map Some ports

-- a live run has all ports that it needs
abbrev pub HasPorts : Studio → LivePorts → Type 0
HasPorts studio ports = AreSaid (needs_of studio) (ports.paths.items ++ ports.to_a ∷ ports.to_b ∷ [])
