use Rattle.std.proofs.Common.{rules, ◌≡◌, ◌∙◌, [], ◌∷◌, ◌++◌, Option, Some, sym, ap, subst, arith, append_assoc, length-append, slice_get}
use Rattle.std.specs.Vec.Iter.{into_iter_items}
use Rattle.studio_ends.specs.Tokens.{HandsIn}
use Rattle.studio_ends.specs.declared.mix_end.MixEnd.{MixEnd}
use Rattle.studio_ends.specs.declared.stream_end.turns.StreamDone.{StreamDone}
use Rattle.studio_rings.specs.StreamTokens.{AreTokensOf}
use Rattle.studio_rings.proofs.StreamTokenLemmas.{hands-none, hands-some, place-within, token-at, tokens-more}
use Rattle.studio_rings.proofs.tokens.hand_in_all.Goals as goal
use Rattle.studio_rings.proofs.tokens.hand_in_all.Goals.{in-Some-done, in_default}

pub stream_done-requires-clause-stream : goal.stream_done-requires-clause-stream
stream_done-requires-clause-stream c =
    let i = c.loop-done.invariant in
    let next : into_iter_items c.loop-done.done-iterator ≡ c.in-Some.done ∷ into_iter_items c.next.new.self = search rules in
    let t = subst (λ l. AreTokensOf l c.args.end.now.sides.items) (i.all ∙ ap (λ l. c.loop-done.yielded ++ l) next) c.requires in
    let within = place-within c.loop-done.yielded c.in-Some.done _ _ _ t i.tokens in
    let place = i.place in
    omega (arith, within, place)

pub stream_done-requires-clause-token : goal.stream_done-requires-clause-token
stream_done-requires-clause-token c = λ side at.
    let i = c.loop-done.invariant in
    let next : into_iter_items c.loop-done.done-iterator ≡ c.in-Some.done ∷ into_iter_items c.next.new.self = search rules in
    let t = subst (λ l. AreTokensOf l c.args.end.now.sides.items) (i.all ∙ ap (λ l. c.loop-done.yielded ++ l) (next ∙ ap (λ (o : Option StreamDone). o ∷ into_iter_items c.next.new.self) c.in-Some-done.is)) c.requires in
    token-at c.loop-done.yielded c.in-Some-done.done _ _ _ side t i.tokens (subst (λ k. slice_get c.loop-done.end.sides.items k ≡ Some side) i.place at)

pub loop-done-preserved : goal.loop-done-preserved
loop-done-preserved c =
    let i = c.loop-done.invariant in
    let place = i.place in
    let next : into_iter_items c.loop-done.done-iterator ≡ c.in-Some.done ∷ into_iter_items c.next.new.self = search rules in
    let l = length-append c.loop-done.yielded (c.in-Some.done ∷ []) in
    let all = i.all ∙ ap (λ l. c.loop-done.yielded ++ l) next in
    let t = subst (λ l. AreTokensOf l c.args.end.now.sides.items) all c.requires in
    record {
      place = omega (arith, place, l);
      all = all ∙ sym (append_assoc c.loop-done.yielded (c.in-Some.done ∷ []) (into_iter_items c.next.new.self));
      tokens = tokens-more c.loop-done.yielded c.in-Some.done _ _ _ c.match-done.end.sides.items t i.tokens
          (elim c.match-done.branch [
            | in-Some-done w ↦ hands-some c.in-Some.done w.in-Some-done.done _ _ _ _ w.in-Some-done.is i.place (subst (HandsIn _ _ _) (sym (ap (λ (e : MixEnd). e.sides.items) w.end-is)) w.stream_done.ensures.sides)
            | in_default w ↦ hands-none c.in-Some.done _ _ _ w.in_default.is (ap (λ (e : MixEnd). e.sides.items) w.end-is)
          ]);
      mixer = search rules;
    }
