use Rattle.std.proofs.Common.{◌≡◌, get_or, set, Some, slice_get, sym, ap, subst, ◌∙◌, arith}
use Rattle.std.specs.Option.{option_map}
use Rattle.std.proofs.lemmas.List.{length-map, length-set, map-set}
use Rattle.std.proofs.lemmas.Option.{slice_get-get_or, slice_get-map}
use Rattle.rtp_stream.specs.Reception.{reception_from}
use Rattle.studio_session.specs.Session.{Datagram}
use Rattle.rtp_stream.specs.PathCounts.{path_tally_of, tallies_of}
use Rattle.studio_session.specs.Counts.{HasCounted}
use Rattle.studio_session.proofs.CountsLemmas.{counted_on}
use Rattle.studio_session.proofs.cursor.count_on.Goals as goal

pub add-requires : goal.add-requires
add-requires c =
    let paths = c.args.paths.now in
    let place = c.from-place.result in
    let here = c.from-place.ensures ∙ c.number.ensures.value in
    let before = get_or paths place c.index-paths-place.result in
    let at : slice_get (tallies_of paths) place ≡ Some (path_tally_of before) =
    slice_get-map path_tally_of paths place ∙ ap (option_map path_tally_of) (slice_get-get_or paths place _ (omega (arith, here, c.told-paths, c.number.ensures.few))) in
    let few = c.requires.2 place (path_tally_of before) at in
    omega (arith, few, c.requires.1)

pub returns-clause-counted : goal.returns-clause-counted
returns-clause-counted c =
    let paths = c.args.paths.now in
    let place = c.from-place.result in
    let here = c.from-place.ensures ∙ c.number.ensures.value in
    let before = get_or paths place c.index-paths-place.result in
    let at : slice_get (tallies_of paths) place ≡ Some (path_tally_of before) =
    slice_get-map path_tally_of paths place ∙ ap (option_map path_tally_of) (slice_get-get_or paths place _ (omega (arith, here, c.told-paths, c.number.ensures.few))) in
    subst (λ p. HasCounted (Datagram p (reception_from c.args.reception)) (tallies_of paths) (tallies_of (set paths place c.add.new.self))) here
    (subst (HasCounted (Datagram place (reception_from c.args.reception)) (tallies_of paths)) (sym (map-set path_tally_of paths place c.add.new.self))
    (counted_on (tallies_of paths) place (reception_from c.args.reception) (path_tally_of before) (path_tally_of c.add.new.self) at c.add.ensures))

pub returns-clause-four : goal.returns-clause-four
returns-clause-four c = length-map (set c.args.paths.now c.from-place.result c.add.new.self) path_tally_of ∙ length-set c.args.paths.now c.from-place.result c.add.new.self ∙ c.told-paths
