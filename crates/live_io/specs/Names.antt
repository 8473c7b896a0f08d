-- The names of inherited sockets.
use Rattle.std.specs.Prelude.{◌≢◌, ◌<◌, ◌+◌, ℕ, List, [], ◌∷◌, ◌++◌, codes, decimal}
use Rattle.live_io.specs.declared.sockets.names.SocketRole.{SocketRole}
use Rattle.live_io.specs.declared.sockets.names.SocketRole.TheVariants as role

-- the name of a path: its stream's number and its letter, a to d
abbrev pub path_name : ℕ → ℕ → List ℕ
path_name stream path = decimal stream ++ (97 + path) ∷ []

-- the name of a socket: that of its path, or that of its copy of the mix
abbrev pub name_of : SocketRole → List ℕ
name_of (role.Path stream path) = path_name stream path
name_of role.ToA = codes "to_a"
name_of role.ToB = codes "to_b"

-- a socket that a studio can have, of at most 16 streams with four paths each
abbrev pub IsRole : SocketRole → Type 0
IsRole (role.Path stream path) = (stream < 16) × (path < 4)
IsRole role.ToA = Unit {0}
IsRole role.ToB = Unit {0}

-- no socket has this name
abbrev pub IsNoName : List ℕ → Type 0
IsNoName name = (socket : SocketRole) → IsRole socket → name ≢ name_of socket
