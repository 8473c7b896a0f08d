-- The token that a change of gains needs.
use Rattle.std.specs.Prelude.{ℕ, ◌-◌, ◌==◌, ◌&&◌, nat_le, Bool, List, length, take, slice_index, if◌then◌else◌}
use Rattle.std.specs.Char.{is_ascii_graphic}
use Rattle.std.specs.List.{list_all}

-- octets without a line feed at their end
abbrev pub without_line_feed : List ℕ → List ℕ
without_line_feed octets = if slice_index octets (length octets - 1) == 10 then take (length octets - 1) octets else octets

-- 16 to 256 octets that are visible ASCII, which a header field can carry
abbrev pub is_token : List ℕ → Bool
is_token octets = nat_le 16 (length octets) && nat_le (length octets) 256 && list_all is_ascii_graphic octets
