use Rattle.std.proofs.Common.{◌≡◌, List, [], ◌∷◌, ◌++◌, map, refl, sym, ap, subst, ◌∙◌, arith, append_assoc, length-append}
use Rattle.std.specs.Vec.Iter.{into_iter_items}
use Rattle.studio_rings.specs.declared.jobs.PathResult.{PathResult}
use Rattle.studio_rings.proofs.StreamTurnLemmas.{goes-none, goes-trans}
use Rattle.studio_rings.specs.StreamWorkers.{AllTokensFit}
use Rattle.studio_rings.proofs.HandLemmas.{fits-at, handed-next, handed-result, no_items, parts-more, whole_front}
use Rattle.studio_rings.proofs.worker.stream.pass_tokens.Goals as goal

pub loop-result-init : goal.loop-result-init
loop-result-init g c = record {
  items = refl;
  place = refl;
  left = omega arith;
  counts = no_items c.args.counts.now.items (let e = c.requires.counts.0 in let k = c.args.counts.now.ok.0 in omega (arith, e, k));
  counted = c.requires.counts.0;
  space = refl;
  faults = no_items c.args.faults.now.items (let e = c.requires.faults.0 in let k = c.args.faults.now.ok.0 in omega (arith, e, k));
  faults_counted = c.requires.faults.0;
  fault_space = refl;
  later = goes-none _ _;
  handed = refl;
}

pub pass_token-all-requires : goal.pass_token-all-requires
pass_token-all-requires g c =
    let at = c.loop-result in
    let all : at.yielded ++ c.in-Some.result ∷ into_iter_items c.next.new.self ≡ c.args.results.items =
    ap (λ (l : List PathResult). at.yielded ++ l) (sym c.in-Some.ensures.steps.0) ∙ (at.invariant.items ∙ c.into_iter-result-iterator.ensures.into_iter_gives.0) in
    fits-at _ at.yielded _ c.in-Some.result _ _ at.place at.invariant.place (subst (λ (l : List PathResult). AllTokensFit l c.args.stream.now.end.sides.items) (sym all) c.requires.tokens) at.invariant.handed

pub loop-result-preserved : goal.loop-result-preserved
loop-result-preserved g c =
    let at = c.loop-result in
    let x = c.in-Some.result in
    let all : at.yielded ++ x ∷ into_iter_items c.next.new.self ≡ c.args.results.items =
    ap (λ (l : List PathResult). at.yielded ++ l) (sym c.in-Some.ensures.steps.0) ∙ (at.invariant.items ∙ c.into_iter-result-iterator.ensures.into_iter_gives.0) in
    let gone = c.in-Some.ensures.steps.1 in
    let left = at.invariant.left in
    let place = at.invariant.place in
    let one = c.push_reserved.ensures.len in
    let two = c.push_reserved-in-loop-result.ensures.len in
    let counted = at.invariant.counted in
    let faults = at.invariant.faults_counted in
    record {
      items = append_assoc at.yielded (x ∷ []) _ ∙ (ap (λ (l : List PathResult). at.yielded ++ l) (sym c.in-Some.ensures.steps.0) ∙ at.invariant.items);
      place = omega (arith, place, length-append at.yielded (x ∷ []));
      left = omega (arith, gone, left);
      counts = parts-more (λ (r : PathResult). r.counts) at.yielded x _ _ at.invariant.counts c.push_reserved.ensures.items;
      counted = omega (arith, one, counted);
      space = c.push_reserved.ensures.capacity ∙ at.invariant.space;
      faults = parts-more (λ (r : PathResult). r.faults) at.yielded x _ _ at.invariant.faults c.push_reserved-in-loop-result.ensures.items;
      faults_counted = omega (arith, two, faults);
      fault_space = c.push_reserved-in-loop-result.ensures.capacity ∙ at.invariant.fault_space;
      later = goes-trans _ _ at.stream _ at.invariant.later c.pass_token-all.ensures.later;
      handed = handed-next _ _ at.yielded _ x _ _ _ at.place at.invariant.place (subst (λ (l : List PathResult). AllTokensFit l c.args.stream.now.end.sides.items) (sym all) c.requires.tokens) at.invariant.handed c.pass_token-all.ensures.handed;
    }

pub returns-clause-given : goal.returns-clause-given
returns-clause-given g c =
    let at = c.loop-result in
    let none = c.in-None.ensures.steps.0 in
    let left = at.invariant.left in
    let place = at.invariant.place in
    let len = c.into_iter-result-iterator.ensures.into_iter_gives.1 in
    let ok = c.args.results.ok.0 in
    let all : at.yielded ≡ c.args.results.items = whole_front at.yielded _ c.args.results.items (at.invariant.items ∙ c.into_iter-result-iterator.ensures.into_iter_gives.0) (omega (arith, none, left, place, len, ok)) in
    λ whole. (handed-result at.all at.yielded c.args.results.items _ _ all whole c.requires.tokens at.invariant.handed).0

pub returns-clause-told : goal.returns-clause-told
returns-clause-told g c =
    let at = c.loop-result in
    let none = c.in-None.ensures.steps.0 in
    let left = at.invariant.left in
    let place = at.invariant.place in
    let len = c.into_iter-result-iterator.ensures.into_iter_gives.1 in
    let ok = c.args.results.ok.0 in
    let all : at.yielded ≡ c.args.results.items = whole_front at.yielded _ c.args.results.items (at.invariant.items ∙ c.into_iter-result-iterator.ensures.into_iter_gives.0) (omega (arith, none, left, place, len, ok)) in
    λ whole. (handed-result at.all at.yielded c.args.results.items _ _ all whole c.requires.tokens at.invariant.handed).1

pub returns-clause-faults : goal.returns-clause-faults
returns-clause-faults g c =
    let at = c.loop-result in
    let none = c.in-None.ensures.steps.0 in
    let left = at.invariant.left in
    let place = at.invariant.place in
    let len = c.into_iter-result-iterator.ensures.into_iter_gives.1 in
    let ok = c.args.results.ok.0 in
    let all : at.yielded ≡ c.args.results.items = whole_front at.yielded _ c.args.results.items (at.invariant.items ∙ c.into_iter-result-iterator.ensures.into_iter_gives.0) (omega (arith, none, left, place, len, ok)) in
    at.invariant.faults ∙ ap (map (λ (r : PathResult). r.faults)) all
