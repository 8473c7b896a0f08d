use Rattle.std.proofs.Common.{◌≡◌, ◌∙◌, ◌<ℤ◌, true, false, to_z, of_z, w64, rules, ap, refl, subst, sym}
use Rattle.studio_rings.proofs.StreamTurnLemmas.{catches-up, goes-reading, goes-turn, reads-up, tokens-taken, took-first}
use Rattle.studio_rings.proofs.worker.clocked_stream.ClockedStream.turn.Goals as goal

pub returns-clause-later : goal.returns-clause-later
returns-clause-later g c =
    let at : to_z w64 (of_z w64 c.clamp-self.result) ≡ c.clamp-self.result = search rules in
    let was : to_z w64 (of_z w64 c.args.self.now.now) ≡ c.args.self.now.now = search rules in
    let answer : to_z w64 (of_z w64 c.now.result) ≡ c.now.result = search rules in
    let word = ap (λ z. to_z w64 (of_z w64 z)) at in
    goes-turn g.C.Clock.told _ _ c.read_first.new.end c.now.result _ _ c.turn_at-note.result c.now.ensures.tells (at ∙ (rw (was, answer) at c.clamp-self.ensures.value)) word word c.read_first.ensures.reads c.turn_at-note.ensures.takes

pub returns-clause-time : goal.returns-clause-time
returns-clause-time g c =
    let at : to_z w64 (of_z w64 c.clamp-self.result) ≡ c.clamp-self.result = search rules in
    let was : to_z w64 (of_z w64 c.args.self.now.now) ≡ c.args.self.now.now = search rules in
    let answer : to_z w64 (of_z w64 c.now.result) ≡ c.now.result = search rules in
    record {
      answer = c.now.result;
      tells = c.now.ensures.tells;
      time_is = at ∙ (rw (was, answer) at c.clamp-self.ensures.value);
    }

pub returns-clause-caught_up : goal.returns-clause-caught_up
returns-clause-caught_up g c =
    let at : to_z w64 (of_z w64 c.clamp-self.result) ≡ c.clamp-self.result = search rules in
    catches-up _ c.read_first.new.end _ _ _ _ c.turn_at-note.result (ap (λ z. to_z w64 (of_z w64 z)) at) c.read_first.ensures.reads c.turn_at-note.ensures.takes

pub returns-clause-tokens : goal.returns-clause-tokens
returns-clause-tokens g c =
    let n = c.turn_at-note.ensures.takes in
    tokens-taken _ _ n.taken (took-first c.args.self.now.end c.read_first.new.end c.turn_at-note.new.end n.taken c.read_first.ensures.reads.sides n.took)

pub returns-then-must_wait-clause-later : goal.returns-then-must_wait-clause-later
returns-then-must_wait-clause-later g c =
    let at : to_z w64 (of_z w64 c.clamp-self.result) ≡ c.clamp-self.result = search rules in
    let was : to_z w64 (of_z w64 c.args.self.now.now) ≡ c.args.self.now.now = search rules in
    let answer : to_z w64 (of_z w64 c.now.result) ≡ c.now.result = search rules in
    goes-reading g.C.Clock.told _ _ c.now.result _ c.read_at-why.result c.now.ensures.tells (at ∙ (rw (was, answer) at c.clamp-self.ensures.value)) (ap (λ z. to_z w64 (of_z w64 z)) at) c.read_at-why.ensures.reads

pub returns-then-must_wait-clause-caught_up : goal.returns-then-must_wait-clause-caught_up
returns-then-must_wait-clause-caught_up g c =
    let at : to_z w64 (of_z w64 c.clamp-self.result) ≡ c.clamp-self.result = search rules in
    reads-up _ _ _ _ c.read_at-why.result (ap (λ z. to_z w64 (of_z w64 z)) at) c.read_at-why.ensures.reads

pub returns-then-must_wait-clause-time : goal.returns-then-must_wait-clause-time
returns-then-must_wait-clause-time g c =
    let at : to_z w64 (of_z w64 c.clamp-self.result) ≡ c.clamp-self.result = search rules in
    let was : to_z w64 (of_z w64 c.args.self.now.now) ≡ c.args.self.now.now = search rules in
    let answer : to_z w64 (of_z w64 c.now.result) ≡ c.now.result = search rules in
    record {
      answer = c.now.result;
      tells = c.now.ensures.tells;
      time_is = at ∙ (rw (was, answer) at c.clamp-self.ensures.value);
    }

pub returns-clause-takes : goal.returns-clause-takes
returns-clause-takes g c =
    let n = c.turn_at-note.ensures.takes in
    λ free. (n.taken, took-first c.args.self.now.end c.read_first.new.end c.turn_at-note.new.end n.taken c.read_first.ensures.reads.sides n.took)

pub returns-then-must_wait-clause-takes : goal.returns-then-must_wait-clause-takes
returns-then-must_wait-clause-takes g c =
    let was : to_z w64 (of_z w64 c.args.self.now.now) ≡ c.args.self.now.now = search rules in
    let at : to_z w64 (of_z w64 c.clamp-self.result) ≡ c.clamp-self.result = search rules in
    let until : to_z w64 (of_z w64 c.wait_after-self.result) ≡ c.wait_after-self.result = search rules in
    λ free. absurd (free (rw (was, ap (λ z. to_z w64 (of_z w64 z)) at, ap (λ z. to_z w64 (of_z w64 z)) until) at (c.if-must_wait.ensures.0 refl)))

pub returns-clause-punctual : goal.returns-clause-punctual
returns-clause-punctual g c =
    let was : to_z w64 (of_z w64 c.args.self.now.now) ≡ c.args.self.now.now = search rules in
    let at : to_z w64 (of_z w64 c.clamp-self.result) ≡ c.clamp-self.result = search rules in
    let until : to_z w64 (of_z w64 c.wait_after-self.result) ≡ c.wait_after-self.result = search rules in
    λ waiting.
    let behind = subst (λ last. c.args.self.now.end.merge.time <ℤ last) (sym was) waiting.0 in
    let sooner = subst (λ now. now <ℤ to_z w64 (of_z w64 c.wait_after-self.result)) (sym (ap (λ z. to_z w64 (of_z w64 z)) at)) waiting.1 in
    let both = subst (λ u. to_z w64 (of_z w64 (to_z w64 (of_z w64 c.clamp-self.result))) <ℤ u) (sym (ap (λ z. to_z w64 (of_z w64 z)) until)) sooner in
    let waits : false ≡ true = c.if-must_wait.ensures.1 (behind, both) in
    absurd (cc)

pub returns-clause-told : goal.returns-clause-told
returns-clause-told g c = λ free. record { read = c.read_first.new.end; sender = c.read_first.ensures.sender; tells = c.turn_at-note.ensures.told }

pub returns-then-must_wait-clause-told : goal.returns-then-must_wait-clause-told
returns-then-must_wait-clause-told g c =
    let was : to_z w64 (of_z w64 c.args.self.now.now) ≡ c.args.self.now.now = search rules in
    let at : to_z w64 (of_z w64 c.clamp-self.result) ≡ c.clamp-self.result = search rules in
    let until : to_z w64 (of_z w64 c.wait_after-self.result) ≡ c.wait_after-self.result = search rules in
    λ free. absurd (free (rw (was, ap (λ z. to_z w64 (of_z w64 z)) at, ap (λ z. to_z w64 (of_z w64 z)) until) at (c.if-must_wait.ensures.0 refl)))

pub returns-clause-silent : goal.returns-clause-silent
returns-clause-silent g c =
    let was : to_z w64 (of_z w64 c.args.self.now.now) ≡ c.args.self.now.now = search rules in
    let at : to_z w64 (of_z w64 c.clamp-self.result) ≡ c.clamp-self.result = search rules in
    let until : to_z w64 (of_z w64 c.wait_after-self.result) ≡ c.wait_after-self.result = search rules in
    λ waiting.
    let behind = subst (λ last. c.args.self.now.end.merge.time <ℤ last) (sym was) waiting.0 in
    let sooner = subst (λ now. now <ℤ to_z w64 (of_z w64 c.wait_after-self.result)) (sym (ap (λ z. to_z w64 (of_z w64 z)) at)) waiting.1 in
    let both = subst (λ u. to_z w64 (of_z w64 (to_z w64 (of_z w64 c.clamp-self.result))) <ℤ u) (sym (ap (λ z. to_z w64 (of_z w64 z)) until)) sooner in
    let waits : false ≡ true = c.if-must_wait.ensures.1 (behind, both) in
    absurd (cc)

pub returns-then-must_wait-clause-silent : goal.returns-then-must_wait-clause-silent
returns-then-must_wait-clause-silent g c = λ waiting. c.read_at-why.ensures.sender
