use Rattle.std.proofs.Common.{◌≡◌, ◌+◌, ◌-◌, ◌∙◌, ℕ, [], Some, length, drop, slice_get, refl, ap, sym, arith}
use Rattle.std.proofs.lemmas.Option.{slice_get-get_or}
use Rattle.pcap_replay.specs.Routing.{role_at}
use Rattle.pcap_replay.proofs.RoutingLemmas.{role_behind, role_here, role_on}
use Rattle.pcap_replay.proofs.routing.role_at.Goals as goal

pub loop-number-init : goal.loop-number-init
loop-number-init c = record { role = refl; within = omega arith }

pub returns-then-left-paths : goal.returns-then-left-paths
returns-then-left-paths c =
    let streams = c.args.streams.now in
    let i = c.loop-number.number in
    let item = c.index-streams-number.result in
    let at : slice_get streams i ≡ Some item = slice_get-get_or streams i item (omega (arith, c.loop-number-test.true)) ∙ ap Some (sym c.index-streams-number.is) in
    let paths : c.from-paths.result ≡ item.paths = c.from-paths.ensures ∙ c.paths.ensures.value in
    sym (c.loop-number.invariant.role ∙ role_here c.args.changes streams i c.loop-number.left item at (omega (arith, c.if-left-paths.true, paths)))

pub loop-number-preserved : goal.loop-number-preserved
loop-number-preserved c =
    let streams = c.args.streams.now in
    let i = c.loop-number.number in
    let item = c.index-streams-number.result in
    let at : slice_get streams i ≡ Some item = slice_get-get_or streams i item (omega (arith, c.loop-number-test.true)) ∙ ap Some (sym c.index-streams-number.is) in
    let paths : c.from-paths.result ≡ item.paths = c.from-paths.ensures ∙ c.paths.ensures.value in
    record {
      role = c.loop-number.invariant.role
          ∙ role_on c.args.changes streams i c.loop-number.left item at (omega (arith, c.if-left-paths.false, paths))
          ∙ ap (λ n. role_at c.args.changes (i + 1) (drop (i + 1) streams) (c.loop-number.left - n)) (sym paths);
      within = omega (arith, c.loop-number-test.true);
    }

pub returns : goal.returns
returns c =
    let streams = c.args.streams.now in
    let i = c.loop-number.number in
    let end : i ≡ length streams = omega (arith, c.loop-number-test.false, c.loop-number.invariant.within) in
    c.role_behind.ensures ∙ sym (c.loop-number.invariant.role ∙ role_behind c.args.changes streams i c.loop-number.left (omega (arith, end)) ∙ ap (λ (n : ℕ). role_at c.args.changes n [] c.loop-number.left) end)
