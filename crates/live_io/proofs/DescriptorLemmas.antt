-- Descriptors of paths, one after another.
use Rattle.std.proofs.Common.{◌≡◌, ◌<◌, ◌≤◌, ◌+◌, ℕ, suc, ℤ, List, ◌++◌, length, drop, get_or, Option, sym, ap, ◌∙◌, append_assoc, add-one, drop-cons}
use Rattle.std.proofs.Math.ListN.{set}
use Rattle.std.specs.Prelude.{[], None, slice_get, unwrap_or}
use Rattle.std.proofs.lemmas.List.{append-nil, drop_all, get_or-set_same}
use Rattle.std.proofs.lemmas.Option.{unwrap_or-slice_get}
use Rattle.rtp_stream.specs.declared.stream_spec.Stream.{Stream}
use Rattle.live_io.specs.Inherited.{descriptor_at, path_descriptors, row_descriptors}

-- the descriptor of a stream's path is that of its row, once the row was set
pub set_own : (rows : List (List (Option ℤ))) (stream path : ℕ) (row : List (Option ℤ)) (own : Option ℤ) → stream < length rows → get_or row path None ≡ own
    → descriptor_at (set rows stream row) stream path ≡ own
set_own rows stream path row own within is =
    unwrap_or-slice_get (unwrap_or (slice_get (set rows stream row) stream) []) path None
    ∙ (ap (λ r. get_or r path None) (unwrap_or-slice_get (set rows stream row) stream [] ∙ get_or-set_same rows stream row [] within) ∙ is)

-- the descriptors of the streams so far were found, and these are left
abbrev pub IsFound : List (List (Option ℤ)) → List Stream → ℕ → List (Option ℤ) → Type 0
IsFound rows streams n found = path_descriptors rows 0 streams ≡ found ++ path_descriptors rows n (drop n streams)

-- the descriptors of one stream more
pub found_more : (rows : List (List (Option ℤ))) (streams : List Stream) (n : ℕ) (stream : Stream) (found found_then : List (Option ℤ)) → n < length streams → stream ≡ get_or streams n stream
    → IsFound rows streams n found → found_then ≡ found ++ row_descriptors rows n stream.paths → IsFound rows streams (n + 1) found_then
found_more rows streams n stream found found_then within is f grown = rw (add-one, grown)
    (f ∙ ap (λ ss. found ++ path_descriptors rows n ss) (drop-cons streams n stream within)
    ∙ ap (λ (s : Stream). found ++ (row_descriptors rows n s.paths ++ path_descriptors rows (suc n) (drop (suc n) streams))) (sym is)
    ∙ sym (append_assoc found (row_descriptors rows n stream.paths) (path_descriptors rows (suc n) (drop (suc n) streams))))

-- the descriptors of all streams
pub found_all : (rows : List (List (Option ℤ))) (streams : List Stream) (n : ℕ) (found : List (Option ℤ)) → length streams ≤ n → IsFound rows streams n found → found ≡ path_descriptors rows 0 streams
found_all rows streams n found all f = sym (f ∙ ap (λ ss. found ++ path_descriptors rows n ss) (drop_all n streams all) ∙ append-nil found)
