use Rattle.std.proofs.Common.{◌≡◌, ◌∙◌, arith, length}
use Rattle.studio_rings.proofs.StreamTurnLemmas.{rings-self}
use Rattle.worker_tests.proofs.OneStreamLemmas.{feeds_on, path_paired, same_count, same_ends}
use Rattle.worker_tests.proofs.tests.stream_ends.close_paths.Goals as goal

pub finish_path-of_second-requires-clause-place : goal.finish_path-of_second-requires-clause-place
finish_path-of_second-requires-clause-place g c =
    let ends = c.args.ends in
    let first = c.finish_path-of_first.new.stream in
    let then = c.still_open.new.stream in
    let same = same_ends ends.stream first then c.finish_path-of_first.ensures c.still_open.ensures in
    let two : length then.sides.items ≡ 2 = same_count ends.stream.sides.items then.sides.items same.sides ∙ ends.pairs.two in
    omega (arith, two)

pub finish_path-of_second-requires-clause-pair : goal.finish_path-of_second-requires-clause-pair
finish_path-of_second-requires-clause-pair g c =
    let ends = c.args.ends in
    let first = c.finish_path-of_first.new.stream in
    let then = c.still_open.new.stream in
    let same = same_ends ends.stream first then c.finish_path-of_first.ensures c.still_open.ensures in
    path_paired ends.second ends.stream.sides.items then.sides.items 1 same.sides ends.pairs.second_is

pub invariant_of-result : goal.invariant_of-result
invariant_of-result g c =
    let ends = c.args.ends in
    let first = c.finish_path-of_first.new.stream in
    let then = c.still_open.new.stream in
    let second = c.finish_path-of_second.new.stream in
    let last = c.still_open-2.new.stream in
    let early = same_ends ends.stream first then c.finish_path-of_first.ensures c.still_open.ensures in
    let late = same_ends then second last c.finish_path-of_second.ensures c.still_open-2.ensures in
    let same = same_ends ends.stream then last early late in
    record { feeds = feeds_on ends.stream last ends.mix.sides.items ends.mix.sides.items ends.pairs.feeds same.marks (rings-self ends.mix.sides.items) }
