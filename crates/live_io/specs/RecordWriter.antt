-- The part of a record that went to its file.
use Rattle.std.specs.Prelude.{◌≡◌, ◌⊎◌, ◌≤◌, ℕ, List, [], ◌++◌, length, take, Option, Some, true, false}
use Rattle.std.specs.List.{All}
use Rattle.pcap_file.specs.WholeBlocks.{AreWhole, BeginsNone, IsBlock, datagram_count, joined}
use Rattle.rtrb.specs.Ring.{known_items, received}
use Rattle.live_io.specs.declared.record.writer.FailedWrite.{FailedWrite}
use Rattle.live_io.specs.declared.record.writer.FileResult.{FileResult}
use Rattle.live_io.specs.declared.record.writer.RecordWriter.{RecordWriter}

-- what came through the ring is these blocks and a rest that begins with no whole block: the blocks are counted, and
-- are in the file if its contents are known; the rest is held
pub record HasWritten (contents : Option (List ℕ)) (writer : RecordWriter) : Type 0 where
  pub blocks : List (List ℕ)
  pub every : All IsBlock blocks
  pub came : received writer.ring ≡ joined blocks ++ take writer.held writer.octets.items
  pub none : BeginsNone (take writer.held writer.octets.items)
  pub holds : contents ≡ Some (joined blocks)
  pub len : writer.len ≡ length (joined blocks)
  pub datagrams : writer.datagrams ≡ datagram_count writer.paths blocks

-- what came through the ring begins with these blocks, whose datagrams of paths are counted. Unless a write failed, no
-- whole block follows them. The file, if its contents are known, has the blocks and nothing else, unless it could not
-- be cut behind them
pub record IsRecorded (contents : Option (List ℕ)) (writer : RecordWriter) (result : FileResult) : Type 0 where
  pub blocks : List (List ℕ)
  pub every : All IsBlock blocks
  pub rest : List ℕ
  pub came : received writer.ring ≡ joined blocks ++ rest
  pub all : result.failed ≡ false → BeginsNone rest
  pub datagrams : result.datagrams ≡ datagram_count writer.paths blocks
  pub holds : result.is_whole ≡ true → contents ≡ Some (joined blocks)

-- a write of whole blocks of a record with this many paths failed, to a file of `len` octets: if the file was cut, it
-- has the whole blocks that were written
pub record FailsBehind (paths : ℕ) (contents contents_then : Option (List ℕ)) (len : ℕ) (octets : List ℕ) (failed : FailedWrite) : Type 0 where
  pub count : ℕ
  pub kept : AreWhole paths (take count octets) failed.kept
  pub cut : failed.is_cut ≡ true → (held : List ℕ) → contents ≡ Some held → len ≡ length held
      → contents_then ≡ Some (held ++ take failed.kept.len octets)

-- the ring was found empty, or there is no space for more octets
abbrev pub SeesNone : RecordWriter → RecordWriter → Type 0
SeesNone old new = (known_items new.ring ≡ []) ⊎ (length old.octets.items ≤ old.held)
