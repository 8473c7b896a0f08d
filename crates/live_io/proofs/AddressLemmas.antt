-- Addresses of paths, one after another.
use Rattle.std.proofs.Common.{◌≡◌, ◌<◌, ◌≤◌, ◌+◌, ℕ, suc, List, ◌++◌, length, drop, get_or, sym, ap, ◌∙◌, append_assoc, add-one, drop-cons}
use Rattle.std.proofs.lemmas.List.{append-nil, drop_all}
use Rattle.rtp_stream.specs.declared.stream_spec.Stream.{Stream}
use Rattle.studio_config.specs.declared.networks.Networks.{Networks}
use Rattle.live_io.specs.declared.sockets.addresses.PathAddress.{PathAddress}
use Rattle.live_io.specs.Addresses.{path_addresses, row_addresses}

-- the addresses of the streams so far were found, and these are left
abbrev pub IsFound : Networks → List Stream → ℕ → List PathAddress → Type 0
IsFound networks streams n found = path_addresses networks 0 streams ≡ found ++ path_addresses networks n (drop n streams)

-- the addresses of one stream more
pub found_more : (networks : Networks) (streams : List Stream) (n : ℕ) (stream : Stream) (found found_then : List PathAddress) → n < length streams → stream ≡ get_or streams n stream
    → IsFound networks streams n found → found_then ≡ found ++ row_addresses networks n stream.paths → IsFound networks streams (n + 1) found_then
found_more networks streams n stream found found_then within is f grown = rw (add-one, grown)
    (f ∙ ap (λ ss. found ++ path_addresses networks n ss) (drop-cons streams n stream within)
    ∙ ap (λ (s : Stream). found ++ (row_addresses networks n s.paths ++ path_addresses networks (suc n) (drop (suc n) streams))) (sym is)
    ∙ sym (append_assoc found (row_addresses networks n stream.paths) (path_addresses networks (suc n) (drop (suc n) streams))))

-- the addresses of all streams
pub found_all : (networks : Networks) (streams : List Stream) (n : ℕ) (found : List PathAddress) → length streams ≤ n → IsFound networks streams n found → found ≡ path_addresses networks 0 streams
found_all networks streams n found all f = sym (f ∙ ap (λ ss. found ++ path_addresses networks n ss) (drop_all n streams all) ∙ append-nil found)
