-- The descriptors of inherited sockets, path by path.
use Rattle.std.specs.Prelude.{ℕ, zero, suc, ℤ, List, [], ◌∷◌, ◌++◌, Option, None, Some, slice_get, slice_set, unwrap_or}
use Rattle.rtp_stream.specs.declared.stream_spec.Stream.{Stream}
use Rattle.live_io.specs.declared.sockets.inherited.InheritedSockets.{InheritedSockets}
use Rattle.live_io.specs.declared.sockets.names.SocketRole.{SocketRole}
use Rattle.live_io.specs.declared.sockets.names.SocketRole.TheVariants as role

-- the descriptor of a stream's path, if it has one
abbrev pub descriptor_at : List (List (Option ℤ)) → ℕ → ℕ → Option ℤ
descriptor_at rows stream path = unwrap_or (slice_get (unwrap_or (slice_get rows stream) []) path) None

-- the descriptor of a socket, by its role
abbrev pub descriptor_of : InheritedSockets → SocketRole → Option ℤ
descriptor_of inherited (role.Path stream path) = descriptor_at inherited.paths stream path
descriptor_of inherited role.ToA = inherited.to_a
descriptor_of inherited role.ToB = inherited.to_b

-- the rows with another descriptor for a stream's path
abbrev pub with_path : List (List (Option ℤ)) → ℕ → ℕ → Option ℤ → List (List (Option ℤ))
with_path rows stream path descriptor = slice_set rows stream (slice_set (unwrap_or (slice_get rows stream) []) path descriptor)

-- the same descriptors, but for the socket of this role
abbrev pub with_descriptor : InheritedSockets → SocketRole → ℤ → InheritedSockets
with_descriptor inherited (role.Path stream path) descriptor = record inherited { paths = with_path inherited.paths stream path (Some descriptor) }
with_descriptor inherited role.ToA descriptor = record inherited { to_a = Some descriptor }
with_descriptor inherited role.ToB descriptor = record inherited { to_b = Some descriptor }

-- the descriptors of a stream's first `count` paths
abbrev pub row_descriptors : List (List (Option ℤ)) → ℕ → ℕ → List (Option ℤ)
row_descriptors rows number zero = []
row_descriptors rows number (suc count) = row_descriptors rows number count ++ descriptor_at rows number count ∷ []

-- the descriptors of the paths of streams, whose numbers count up from this one
abbrev pub path_descriptors : List (List (Option ℤ)) → ℕ → List Stream → List (Option ℤ)
path_descriptors rows number [] = []
path_descriptors rows number (stream ∷ streams) = row_descriptors rows number stream.paths ++ path_descriptors rows (suc number) streams
