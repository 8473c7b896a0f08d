-- The lines of a run's report: its datagrams, and the counts of each stream.
use Rattle.std.specs.Prelude.{ℕ, suc, ◌++◌, ◌∷◌, [], List, codes, take}
use Rattle.std.specs.Fmt.{decimal}
use Rattle.hex.specs.Hex.{encode_lower}
use Rattle.rtp_stream.specs.CountsFacts.{Tally}
use Rattle.rtp_stream.specs.CountField.{count_value, count_word}
use Rattle.rtp_stream.specs.declared.count_field.CountField.{CountField}
use Rattle.rtp_stream.specs.declared.count_field.TheConstants.{COUNTS_AFTER_PATHS, COUNTS_BEFORE_PATHS}
use Rattle.rtp_stream.specs.Path.{path_letter}
use Rattle.rtp_stream.specs.PathCounts.{PathTally}

-- the line of a datagram
abbrev pub datagram_line : List ℕ → List ℕ
datagram_line datagram = codes "out " ++ encode_lower datagram ++ 10 ∷ []

-- a number, after a word and the text between them
abbrev pub pair_text : List ℕ → List ℕ → ℕ → List ℕ
pair_text between word number = codes " " ++ word ++ between ++ decimal number

-- a number, after a word
abbrev pub count_text : List ℕ → ℕ → List ℕ
count_text word number = pair_text (codes " ") word number

-- the line of the counts of a path's datagrams
abbrev pub path_line : ℕ → ℕ → PathTally → List ℕ
path_line stream path counts =
    codes "path " ++ decimal stream ++ codes " " ++ path_letter path
    ++ count_text (codes "offered") counts.offered
    ++ count_text (codes "sent") counts.sent
    ++ count_text (codes "bad") counts.bad
    ++ count_text (codes "type") counts.wrong_type
    ++ count_text (codes "length") counts.wrong_length
    ++ count_text (codes "full") counts.full
    ++ 10 ∷ []

-- the number of packets that were taken from each path, from this path on
abbrev pub taken_text : List ℕ → ℕ → List ℕ → List ℕ
taken_text between path [] = []
taken_text between path (number ∷ more) = codes " from_" ++ path_letter path ++ between ++ decimal number ++ taken_text between (suc path) more

-- these counts, each after its word
unfoldable pub fields_text : List ℕ → List CountField → Tally → List ℕ
fields_text between [] counts = []
fields_text between (field ∷ fields) counts = pair_text between (count_word field) (count_value field counts) ++ fields_text between fields counts

-- the counts of the merge of a stream that has `paths` paths
abbrev pub tally_text : List ℕ → ℕ → Tally → List ℕ
tally_text between paths counts =
    fields_text between COUNTS_BEFORE_PATHS counts
    ++ taken_text between 0 (take paths counts.taken_by)
    ++ fields_text between COUNTS_AFTER_PATHS counts

-- the line of a merge's counts
abbrev pub merge_line : ℕ → ℕ → Tally → List ℕ
merge_line stream paths counts = codes "merge " ++ decimal stream ++ tally_text (codes " ") paths counts ++ 10 ∷ []
