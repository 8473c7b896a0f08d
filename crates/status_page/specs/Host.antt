-- The host to which a request is addressed, and the names by which a machine addresses itself.
use Rattle.std.specs.Prelude.{ℕ, Bool, false, ◌||◌, ◌&&◌, ◌==◌, List, length, take, drop, slice_index, Option, Some, None, option_map, codes}
use Rattle.http1.specs.Text.{eq_ignore_case}
use Rattle.http_header.specs.FieldValue.{FieldValue}
use Rattle.http_header.specs.HeaderMap.{get}
use Rattle.http_uri.specs.Grammar.{authority_host}
use Rattle.http_uri.specs.Uri.{uri_authority}
use Rattle.http.specs.declared.request.Parts.{Parts}

-- nothing, or a colon and what follows it
abbrev pub is_port : List ℕ → Bool
is_port rest = (length rest == 0) || (slice_index rest 0 == 58)

-- a host is this name, alone or followed by a port; upper and lower case are the same in a host (RFC 9110, 4.2.3)
abbrev pub is_host : List ℕ → List ℕ → Bool
is_host name host = eq_ignore_case (take (length name) host) name && is_port (drop (length name) host)

-- a name by which a machine addresses itself
abbrev pub is_local : List ℕ → Bool
is_local host = is_host (codes "127.0.0.1") host || is_host (codes "localhost") host || is_host (codes "[::1]") host

-- the host of a target in absolute form, which overrides the `Host` field (RFC 9112, 3.2.2), or else that field's value
abbrev pub addressed : Option (List ℕ) → Option FieldValue → Option (List ℕ)
addressed (Some authority) field = Some (authority_host authority)
addressed None field = option_map (λ value. value.bytes) field

-- the host to which a request with this head is addressed, if it names one
abbrev pub host_of : Parts → Option (List ℕ)
host_of head = addressed (uri_authority head.uri) (get head.headers (codes "host"))

-- there is a host, and it is a name by which a machine addresses itself
abbrev pub is_here : Option (List ℕ) → Bool
is_here None = false
is_here (Some host) = is_local host
