use Rattle.std.proofs.lemmas.Grind.{elements, common_steps}
use Rattle.std.proofs.Common.{◌≡◌, ◌++◌, ◌∷◌, [], ◌∙◌, drop, map, take, sym, ap, arith}
use Rattle.std.proofs.lemmas.List.{map-append}
use Rattle.std.specs.Vec.Iter.{into_iter_items}
use Rattle.engine_run.specs.Intake.{new_reader}
use Rattle.engine_run.proofs.GroupLemmas.{take-next}
use Rattle.engine_run.proofs.feed_reader.next_readers.Goals as goal

pub loop-preserved : goal.loop-preserved
loop-preserved g c =
    let old = into_iter_items c.args.feeds.now in
    let k = c.loop.counter in
    let left : drop k old ≡ c.in-Some.feed ∷ into_iter_items c.next.new.self = sym c.loop.invariant.left ∙ c.in-Some.ensures.items in
    let more = take-next k old c.in-Some.feed (into_iter_items c.next.new.self) left in
    record {
      taken = c.in_ok-push.ensures.items
          ∙ (ap (λ l. l ++ c.new.result ∷ []) c.loop.invariant.taken
          ∙ (ap (λ r. map new_reader (take k old) ++ r ∷ []) c.new.ensures
          ∙ sym (ap (map new_reader) more.0 ∙ map-append new_reader (take k old) (c.in-Some.feed ∷ []))));
      left = more.1;
    }

pub returns-in_default-clause-taken : goal.returns-in_default-clause-taken
returns-in_default-clause-taken c = grind (arith, elements)

pub returns-clause-taken : goal.returns-clause-taken
returns-clause-taken c = grind (arith, elements)

pub returns-clause-left : goal.returns-clause-left
returns-clause-left c = grind (arith, elements)

pub returns-in_default-clause-left : goal.returns-in_default-clause-left
returns-in_default-clause-left c = grind (arith, common_steps)
