use Rattle.std.proofs.lemmas.Grind.{elements}
use Rattle.std.proofs.Common.{◌≡◌, ◌∙◌, subst, sym, to_z, of_z, w64, arith}
use Rattle.std.proofs.lemmas.Int.{to_z-of_z}
use Rattle.studio_ends.specs.FreshEnds.{IsFreshStream}
use Rattle.studio_ends.specs.OpenedChannels.{HaveChannels}
use Rattle.studio_ends.proofs.ReceiverLemmas.{channels-stream}
use Rattle.studio_ends.proofs.ends.add_stream.Goals as goal

pub returns-clause-fresh : goal.returns-clause-fresh
returns-clause-fresh c =
    let paths = c.in_ok-sides.ensures.fresh in
    let z : to_z w64 (of_z w64 c.args.open_at) ≡ c.args.open_at = to_z-of_z w64 c.args.open_at c.ranges.open_at in
    record {
      own = paths.0;
      end = c.in_ok-end.end;
      monitor = c.in_ok-end.monitor;
      side = c.in_ok-end.side;
      paths = paths.1;
      streams = c.in_ok-push.ensures.items;
      monitors = c.in_ok-push-2.ensures.items;
      marks = c.in_ok-push-3.ensures.items;
      fresh = subst (λ t. IsFreshStream t c.args.ring_len c.args.spec.now paths.0 c.in_ok-end.end) z (c.in_ok-end.ensures.fresh paths.0 paths.2 paths.4);
      rings = c.in_ok-end.ensures.rings;
    }

pub returns-clause-channels : goal.returns-clause-channels
returns-clause-channels c = λ h.
    let paths = c.in_ok-sides.ensures.fresh in
    let spec = (c.in_ok-end.ensures.fresh paths.0 paths.2 paths.4).spec in
    let paths_new = c.open_paths.new.paths.items in
    let streams = c.args.ends.now.streams.items in
    subst (λ l. HaveChannels paths_new l c.open_stream.new.channels) (sym c.in_ok-push.ensures.items)
    (channels-stream paths_new streams c.args.spec.now c.in_ok-end.end c.open_paths.new.channels c.open_stream.new.channels spec (c.in_ok-sides.ensures.channels streams h) c.in_ok-end.ensures.channel)

pub returns-clause-wanted : goal.returns-clause-wanted
returns-clause-wanted c = c.in_ok-end.ensures.channel.wanted ∙ c.in_ok-sides.ensures.wanted

pub invariant_of-t-71 : goal.invariant_of-t-71
invariant_of-t-71 c = grind (arith, elements)

pub open_stream-requires-clause-not_low : goal.open_stream-requires-clause-not_low
open_stream-requires-clause-not_low c = grind (arith, elements)

pub open_stream-requires-clause-not_high : goal.open_stream-requires-clause-not_high
open_stream-requires-clause-not_high c = grind (arith, elements)

pub invariant_of-t-57 : goal.invariant_of-t-57
invariant_of-t-57 c = grind (arith, elements)

pub invariant_of-t-67 : goal.invariant_of-t-67
invariant_of-t-67 c = grind (arith, elements)

pub invariant_of-side-inside : goal.invariant_of-side-inside
invariant_of-side-inside c = grind (arith, elements)

pub invariant_of-t-53 : goal.invariant_of-t-53
invariant_of-t-53 c = grind (arith, elements)

pub invariant_of-side-inside-in_err-push-2 : goal.invariant_of-side-inside-in_err-push-2
invariant_of-side-inside-in_err-push-2 c = grind (arith, elements)
