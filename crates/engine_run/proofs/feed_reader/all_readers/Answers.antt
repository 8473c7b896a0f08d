use Rattle.std.proofs.lemmas.Grind.{elements}
use Rattle.std.proofs.Common.{◌≡◌, ◌<◌, ◌&&◌, Bool, true, false, nat_eq, ◌++◌, ◌∷◌, [], ◌∙◌, drop, length, map, take, Vec, Global, refl, sym, ap, arith}
use Rattle.std.proofs.lemmas.Bool.Decides.{nat_tests}
use Rattle.std.proofs.lemmas.List.{length-map, map-append, take-map}
use Rattle.std.specs.Vec.Iter.{into_iter_items}
use Rattle.engine_run.specs.Grouping.{grouped}
use Rattle.engine_run.specs.Intake.{new_reader}
use Rattle.engine_run.specs.declared.feed_reader.FeedReader.{FeedReader}
use Rattle.engine_run.proofs.GroupLemmas.{grouped-next, rest-map, rest-next, rest_of, total-next}
use Rattle.engine_run.proofs.feed_reader.all_readers.Goals as goal

both : (a b : Bool) → (a && b) ≡ true → (a ≡ true) × (b ≡ true)
both true true e = (refl, refl)
both true false e = absurd (cc)
both false b e = absurd (cc)

pub loop-stream-preserved : goal.loop-stream-preserved
loop-stream-preserved g c =
    let specs = c.args.specs.now in
    let all = c.args.feeds.items in
    let i = c.loop-stream.stream in
    let stream = c.index-specs-stream.result in
    let is = c.index-specs-stream.is in
    let within : i < length specs = omega (arith, c.loop-stream-test.true) in
    let inv = c.loop-stream.invariant in
    let old = into_iter_items c.loop-stream.feeds in
    let own = c.in_ok-own.own in
    let count : c.paths-count.result ≡ stream.paths = c.paths-count.ensures.value in
    let taken : own.items ≡ map new_reader (take stream.paths old) = c.in_ok-own.ensures.taken ∙ ap (λ n. map new_reader (take n old)) count in
    let left : into_iter_items c.next_readers.new.feeds ≡ drop stream.paths old = c.in_ok-own.ensures.left ∙ ap (λ n. drop n old) count in
    let own_is : own.items ≡ take stream.paths (rest_of (take i specs) (map new_reader all)) =
    taken
    ∙ (ap (λ l. map new_reader (take stream.paths l)) inv.left
    ∙ (sym (take-map new_reader stream.paths (rest_of (take i specs) all))
    ∙ ap (take stream.paths) (sym (rest-map new_reader (take i specs) all)))) in
    record {
      begun = ap (map (λ (v : Vec (FeedReader _) Global). v.items)) c.in_ok-push.ensures.items
          ∙ (map-append (λ (v : Vec (FeedReader _) Global). v.items) c.loop-stream.readers.items (own ∷ [])
          ∙ (ap (λ l. l ++ own.items ∷ []) inv.begun
          ∙ (ap (λ x. grouped (take i specs) (map new_reader all) ++ x ∷ []) own_is
          ∙ sym (grouped-next specs i stream (map new_reader all) within is))));
      left = left ∙ (ap (drop stream.paths) inv.left ∙ sym (rest-next specs i stream all within is));
      enough = λ e.
          let test = both c.loop-stream.enough (nat_eq c.len.result c.from.result) e in
          let full : length (take stream.paths old) ≡ stream.paths =
          (let same = test.1 in
          let len = c.len.ensures in
          let from = c.from.ensures in
          let size = own.ok.0 in
          let items = ap length taken in
          let mapped = length-map (take stream.paths old) new_reader in
          grind (arith, nat_tests, same, len, from, size, items, mapped, count)) in
          total-next specs i stream all old (into_iter_items c.next_readers.new.feeds) within is left full (inv.enough test.0);
    }

pub returns-clause-begun : goal.returns-clause-begun
returns-clause-begun c = grind (arith, elements)

pub returns-clause-fits : goal.returns-clause-fits
returns-clause-fits c = grind (arith, elements)
