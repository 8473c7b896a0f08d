use Rattle.std.proofs.Common.{◌≡◌, ◌+◌, suc, ◌++◌, ◌∷◌, [], ap, ◌∙◌, arith}
use Rattle.std.proofs.lemmas.List.{map-append}
use Rattle.rtp_stream.specs.declared.stream_spec.Stream.{Stream}
use Rattle.rtp_stream.specs.PathCounts.{PathTally, path_tally_of, tallies_of}
use Rattle.studio_session.specs.Counts.{path_counts_of, path_tallies}
use Rattle.studio_session.proofs.stream_counts.all_path_counts.Goals as goal

pub loop-place-preserved : goal.loop-place-preserved
loop-place-preserved c = λ stream number events are.
    let before = c.loop-place.counts.items in
    let place = c.loop-place.place in
    let here : c.in-Some.path ≡ place = c.in-Some.ensures.value in
    let counted : path_tally_of c.path_counts.result ≡ path_counts_of stream number place events =
    are c.in-Some.path (path_tally_of c.path_counts.result) c.path_counts.ensures ∙ ap (λ p. path_counts_of stream number p events) here in
    ap tallies_of c.in_ok-push.ensures.items
    ∙ map-append path_tally_of before (c.path_counts.result ∷ [])
    ∙ ap (λ l. l ++ path_tally_of c.path_counts.result ∷ []) (c.loop-place.invariant stream number events are)
    ∙ ap (λ (t : PathTally). path_tallies stream number events place ++ t ∷ []) counted
    ∙ ap (path_tallies stream number events) (let more : suc place ≡ place + 1 = omega arith in more)

pub returns : goal.returns
returns c = λ stream number events are.
    let end : c.loop-place.place ≡ c.args.cursor.now.spec.paths = (let d : c.loop-place.place ≡ c.paths-place-end.result = omega (arith, c.loop-place-test.false, c.loop-place.auto.place-end) in d) ∙ c.paths-place-end.ensures.value ∙ ap (λ (t : Stream). t.paths) c.spec.ensures in
    c.loop-place.invariant stream number events are ∙ ap (path_tallies stream number events) end
