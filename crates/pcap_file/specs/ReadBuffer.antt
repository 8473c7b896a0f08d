-- The octets of a file that were read and not yet passed over.
use Rattle.std.specs.Prelude.{◌≡◌, ℕ, ◌≤◌, ◌++◌, Bool, true, false, List, length, drop, Option}
use Rattle.std.specs.Io.KnownBytes.{Consumes, IsAtEnd}
use Rattle.pcap_file.specs.declared.reader.buffer.ReadBuffer.{ReadBuffer}

abbrev pub octets_of : ReadBuffer → List ℕ
octets_of window = drop window.passed window.held.items

-- one read brought octets behind those that are held, or none at the file's end
pub record Reads (left left_then : Option (List ℕ)) (held held_then : List ℕ) (ended : Bool) : Type 0 where
  pub octets : List ℕ
  pub grown : held_then ≡ held ++ octets
  pub read : Consumes left left_then octets
  pub few : length octets ≤ 65536
  pub some : ended ≡ false → 1 ≤ length octets
  pub end : ended ≡ true → IsAtEnd left_then
