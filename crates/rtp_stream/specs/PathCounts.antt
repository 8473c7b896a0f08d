-- The outcomes of a path's datagrams before the merge.
use Rattle.std.specs.Prelude.{ℕ, ◌+◌, List, map}
use Rattle.rtp_stream.specs.declared.stream_counts.PathCounts.{PathCounts}
use Rattle.rtp_stream.specs.declared.reception.Reception.{Reception}
use Rattle.rtp_stream.specs.declared.reception.Reception.TheVariants.{Sent, Bad, WrongType, WrongLength}

pub record PathTally : Type 0 where
  pub offered : ℕ
  pub sent : ℕ
  pub bad : ℕ
  pub wrong_type : ℕ
  pub wrong_length : ℕ
  pub full : ℕ

-- the numbers in a value of the code
abbrev pub path_tally_of : PathCounts → PathTally
path_tally_of c = record { offered = c.offered; sent = c.sent; bad = c.bad; wrong_type = c.wrong_type; wrong_length = c.wrong_length; full = c.full }

abbrev pub tallies_of : List PathCounts → List PathTally
tallies_of counts = map path_tally_of counts

abbrev pub empty_path_tally : PathTally
empty_path_tally = record { offered = 0; sent = 0; bad = 0; wrong_type = 0; wrong_length = 0; full = 0 }

-- the counts after one more datagram
abbrev pub with_reception : PathTally → Reception → PathTally
with_reception t (Sent packet) = record t { offered = t.offered + 1; sent = t.sent + 1 }
with_reception t (Bad fault) = record t { offered = t.offered + 1; bad = t.bad + 1 }
with_reception t WrongType = record t { offered = t.offered + 1; wrong_type = t.wrong_type + 1 }
with_reception t WrongLength = record t { offered = t.offered + 1; wrong_length = t.wrong_length + 1 }

-- the counts after one more packet that found the ring full
abbrev pub with_full : PathTally → PathTally
with_full t = record t { offered = t.offered + 1; full = t.full + 1 }
