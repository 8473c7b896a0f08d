-- The paths of one stream, among those that come before a path.
use Rattle.std.proofs.Common.{◌≡◌, ℕ, ◌<◌, ◌↔◌, List, Some, None, slice_get, get_or, length, sym, ap, subst, ◌∙◌, arith}
use Rattle.std.proofs.lemmas.Option.{slice_get-get_or}
use Rattle.rtp_stream.specs.declared.stream_spec.Stream.{Stream}
use Rattle.studio_config.specs.Studio.{Studio}
use Rattle.file_commands.specs.declared.shared_place.PathPlace.{PathPlace}
use Rattle.file_commands.specs.SharedPlace.{IsBefore, IsEarlier, IsFirstAt}

-- the stream of a loop's step
pub stream_at : (streams seen : List Stream) (i : ℕ) (spec : Stream) → seen ≡ streams → i < length seen → spec ≡ get_or seen i spec → slice_get streams i ≡ Some spec
stream_at streams seen i spec same below is =
    subst (λ (t : List Stream). slice_get t i ≡ Some spec) same (slice_get-get_or seen i spec below ∙ ap Some (sym is))

module _ (studio : Studio) (own : PathPlace) (number path i paths earlier : ℕ) (spec : Stream) where
  -- if none of the paths of a stream that come before collides, none of its paths is an earlier one that does
  pub none_here : slice_get studio.streams i ≡ Some spec → paths ≡ spec.paths
      → ((other : ℕ) → other < earlier ↔ ((other < paths) × IsBefore i other number path))
      → IsFirstAt studio own i earlier None → (other : ℕ) → IsEarlier studio own number path i other → ⊥
  none_here at count before none other e =
      let spec' = e.is_path.0 in
      let both : Some spec ≡ Some spec' = sym at ∙ e.is_path.1 in
      let same : spec ≡ spec' = cc in
      let few : other < paths = omega (arith, e.is_path.2, count, ap (λ (s : Stream). s.paths) same) in
      none other ((before other).1 (few, e.before)) e.collides
