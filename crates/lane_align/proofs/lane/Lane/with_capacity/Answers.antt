use Rattle.std.proofs.lemmas.Grind.{elements}
use Rattle.std.proofs.Common.{arith, rules}
use Rattle.std.proofs.lemmas.Int.{ints}
use Rattle.lane_align.proofs.lane.Lane.with_capacity.Goals as goal

pub invariant_of-result : goal.invariant_of-result
invariant_of-result c = record {
  some_channels = grind (arith, elements);
  few_channels = grind (arith, elements);
  some_frames = grind (arith, elements);
  few_frames = grind (arith, elements);
  short = grind (arith, elements);
  some_block = search rules;
  short_block = search rules;
  not_early = let low = c.requires.not_low in let high = c.requires.not_high in omega (arith, ints);
  not_late = let low = c.requires.not_low in let high = c.requires.not_high in omega (arith, ints);
  small_start = grind (arith, elements);
  slot = grind (arith, elements);
  quiet = grind (arith, elements);
  in_24_bits = grind (arith, elements);
  values = grind (arith, elements);
  channels = grind (arith, elements);
  held_block = grind (arith, elements);
  capacity = grind (arith, elements);
  enough_capacity = grind (arith, elements);
  small_capacity = grind (arith, elements);
  left = grind (arith, elements);
  presence = grind (arith, elements);
  one_channel = grind (arith, elements);
  came_block = grind (arith, elements);
  came_capacity = grind (arith, elements);
  came_left = grind (arith, elements);
}
