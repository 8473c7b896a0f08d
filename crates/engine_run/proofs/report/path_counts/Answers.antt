use Rattle.std.proofs.Common.{◌≡◌, ◌+◌, suc, ◌++◌, ◌∷◌, [], Vec, Global, ap, ◌∙◌, arith}
use Rattle.std.proofs.lemmas.List.{map-append}
use Rattle.rtp_stream.specs.PathCounts.{PathTally, path_tally_of, tallies_of}
use Rattle.rtp_stream.specs.declared.stream_counts.PathCounts.{PathCounts}
use Rattle.studio_session.specs.Counts.{path_counts_of, path_tallies}
use Rattle.engine_run.proofs.CountLemmas.{has-stream}
use Rattle.engine_run.proofs.report.path_counts.Goals as goal
use Rattle.engine_run.proofs.report.path_counts.Goals.{in-Some-path_counts+in_ok-push, in_default-path_counts}

pub loop-number-preserved : goal.loop-number-preserved
loop-number-preserved c = λ studio events datagrams spec s at.
    let number = c.loop-number.number in
    let tallies = path_tallies spec c.args.stream events in
    let here : c.in-Some.path ≡ number = c.in-Some.ensures.value in
    elim c.match-path_counts.branch [
      | in-Some-path_counts+in_ok-push w ↦
          let one = w.in-Some-path_counts.counted in
          let counted : path_tally_of one ≡ path_counts_of spec c.args.stream number events =
          w.in-Some-path_counts.ensures.value studio events datagrams spec s at ∙ ap (λ p. path_counts_of spec c.args.stream p events) here in
          ap (λ (v : Vec PathCounts Global). tallies_of v.items) w.counts-is
          ∙ ap tallies_of w.in_ok-push.ensures.items
          ∙ map-append path_tally_of c.loop-number.counts.items (one ∷ [])
          ∙ ap (λ l. l ++ path_tally_of one ∷ []) (c.loop-number.invariant studio events datagrams spec s at)
          ∙ ap (λ (t : PathTally). tallies number ++ t ∷ []) counted
          ∙ ap tallies (let more : suc number ≡ number + 1 = omega arith in more)
      | in_default-path_counts w ↦
          absurd (has-stream studio c.args.engine.now events datagrams c.args.stream spec s at (c.path_counts.ensures.none w.in_default-path_counts.is))
    ]

pub returns : goal.returns
returns c = λ studio events datagrams spec s at.
    let end : c.loop-number.number ≡ c.args.count = omega (arith, c.loop-number-test.false, c.loop-number.auto.number-end) in
    c.loop-number.invariant studio events datagrams spec s at ∙ ap (path_tallies spec c.args.stream events) end
