-- The greatest lag of streams, one stream after another.
use Rattle.std.proofs.Common.{◌≡◌, ℕ, ◌+◌, ◌<◌, ◌≤◌, max, List, length, get_or, take, refl, sym, ap, ◌∙◌}
use Rattle.std.proofs.lemmas.List.{take_all, take_more}
use Rattle.std.proofs.lemmas.List.Recursion.{max_push}
use Rattle.std.proofs.Math.Nat.{max_comm}
use Rattle.rtp_stream.specs.declared.stream_spec.Stream.{Stream}
use Rattle.studio_mix.specs.LaneCapacity.{lag_of, greatest_lag}

pub greatest_more : (streams : List Stream) (i : ℕ) (stream : Stream) (so_far lag next : ℕ) → i < length streams → stream ≡ get_or streams i stream
    → so_far ≡ greatest_lag (take i streams) → lag ≡ lag_of stream → next ≡ max lag so_far → next ≡ greatest_lag (take (i + 1) streams)
greatest_more streams i stream so_far lag next h is e_far e_lag e_next =
    e_next
    ∙ max_comm lag so_far
    ∙ ap (λ n. max n lag) e_far
    ∙ ap (max (greatest_lag (take i streams))) (e_lag ∙ ap lag_of is)
    ∙ sym (max_push greatest_lag lag_of refl (λ x xs. refl) (take i streams) (get_or streams i stream))
    ∙ ap greatest_lag (sym (take_more streams i stream h))

pub greatest_all : (streams : List Stream) (i : ℕ) → length streams ≤ i → greatest_lag (take i streams) ≡ greatest_lag streams
greatest_all streams i h = ap greatest_lag (take_all i streams h)
