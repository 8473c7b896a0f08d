-- The lines of a trace.
use Rattle.std.specs.Prelude.{ℕ, ◌++◌, ◌∷◌, [], List, codes, nat_lt, if◌then◌else◌}
use Rattle.std.specs.Fmt.{decimal}
use Rattle.hex.specs.Hex.{encode_lower}
use Rattle.pcap_flows.specs.declared.routes.Route.{Route}

-- the line of a clock reading, if it is later than the one before
abbrev pub tick_text : ℕ → ℕ → List ℕ
tick_text earlier reading = if nat_lt earlier reading then codes "tick " ++ decimal reading ++ 10 ∷ [] else []

-- the line of a datagram: its path's letter, its stream and its octets
abbrev pub arrival_line : Route → List ℕ → List ℕ
arrival_line route octets = route.letter ∷ codes " " ++ decimal route.stream ++ codes " " ++ encode_lower octets ++ 10 ∷ []

-- the line of the end
abbrev pub close_line : List ℕ
close_line = codes "close\n"
