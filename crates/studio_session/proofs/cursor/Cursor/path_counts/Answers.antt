use Rattle.std.proofs.Common.{◌≡◌, length, get_or, Some, slice_get, sym, ap, ◌∙◌, arith}
use Rattle.std.specs.Option.{option_map}
use Rattle.std.proofs.lemmas.List.{length-map}
use Rattle.std.proofs.lemmas.Option.{slice_get-get_or, slice_get-map}
use Rattle.rtp_stream.specs.PathCounts.{path_tally_of, tallies_of}
use Rattle.studio_session.specs.Cursor.{CursorState}
use Rattle.studio_session.proofs.cursor.Cursor.path_counts.Goals as goal

pub listed : goal.listed
listed c =
    let four : length c.self.inside.paths ≡ 4 = sym (length-map c.self.inside.paths path_tally_of) ∙ c.self.invariant.four in
    omega (arith, four, c.from.ensures, c.number.ensures.value, c.number.ensures.few)

pub returns : goal.returns
returns c =
    let paths = c.self.inside.paths in
    let place = c.from.result in
    let here = c.from.ensures ∙ c.number.ensures.value in
    let four : length paths ≡ 4 = sym (length-map paths path_tally_of) ∙ c.self.invariant.four in
    let at : slice_get (tallies_of paths) place ≡ Some (path_tally_of (get_or paths place c.index-self-from.result)) =
    slice_get-map path_tally_of paths place ∙ ap (option_map path_tally_of) (slice_get-get_or paths place c.index-self-from.result (omega (arith, here, four, c.number.ensures.few))) in
    ap (λ (s : CursorState). slice_get s.tallies c.args.path) (sym c.self.view_is) ∙ ap (slice_get (tallies_of paths)) (sym here) ∙ at
