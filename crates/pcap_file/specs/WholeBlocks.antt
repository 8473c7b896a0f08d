-- The whole blocks at the start of a record's octets.
use Rattle.std.specs.Prelude.{◌≡◌, ◌≤◌, ℕ, ◌+◌, nat_lt, Bool, ◌&&◌, List, [], ◌∷◌, ◌++◌, length, ◌==◌, if◌then◌else◌}
use Rattle.std.specs.List.{All}
use Rattle.pcap_file.specs.declared.decode.endian.Endian.TheVariants.{Little}
use Rattle.pcap_file.specs.declared.record_blocks.WholeBlocks.{WholeBlocks}
use Rattle.pcap_file.specs.Octets.{number_at}

-- a block, least significant octet first: it has space for its type and its two lengths, and its length is its first
-- length
pub record IsBlock (block : List ℕ) : Type 0 where
  pub least : 12 ≤ length block
  pub says : number_at Little 4 4 block ≡ length block

-- no block is a prefix of octets
abbrev pub BeginsNone : List ℕ → Type 0
BeginsNone octets = (block rest : List ℕ) → IsBlock block → octets ≡ block ++ rest → ⊥

-- blocks, one after another
abbrev pub joined : List (List ℕ) → List ℕ
joined [] = []
joined (block ∷ blocks) = block ++ joined blocks

-- a block holds a datagram of a path, if the first `paths` interfaces are those of paths: it is an enhanced packet on
-- one of them
abbrev pub holds_datagram : ℕ → List ℕ → Bool
holds_datagram paths block = (number_at Little 4 0 block == 6) && nat_lt (number_at Little 4 8 block) paths

-- the number of blocks that hold a datagram of a path
abbrev pub datagram_count : ℕ → List (List ℕ) → ℕ
datagram_count paths [] = 0
datagram_count paths (block ∷ blocks) = (if holds_datagram paths block then 1 else 0) + datagram_count paths blocks

-- the octets are blocks, one after another, and a rest that begins with no block; `found` has the length of the blocks,
-- and how many of them hold a datagram of one of the paths
pub record AreWhole (paths : ℕ) (octets : List ℕ) (found : WholeBlocks) : Type 0 where
  pub blocks : List (List ℕ)
  pub rest : List ℕ
  pub every : All IsBlock blocks
  pub are : octets ≡ joined blocks ++ rest
  pub none : BeginsNone rest
  pub len : found.len ≡ length (joined blocks)
  pub datagrams : found.datagrams ≡ datagram_count paths blocks
