use Rattle.std.proofs.lemmas.Grind.{elements}
use Rattle.std.proofs.Common.{◌≡◌, ◌<◌, ◌<ℤ◌, ◌∷◌, [], ◌++◌, ℕ, List, IfSome, sym, ap, subst, ◌∙◌, arith, to_z, of_z, w64}
use Rattle.std.proofs.lemmas.Bool.{false≢true}
use Rattle.std.proofs.lemmas.Int.{ints, to_z-of_z}
use Rattle.path_merge.specs.Clock.{clock_fault_of}
use Rattle.path_merge.proofs.RunLemmas.{no_fault}
use Rattle.mix_packets.specs.Packer.{PackerState}
use Rattle.studio_config.specs.Studio.{Studio}
use Rattle.studio_session.specs.Event.{Tick, TraceEvent}
use Rattle.studio_session.specs.Run.{blocks_left}
use Rattle.studio_engine.specs.Engine.{EngineState}
use Rattle.studio_engine.specs.Session.{Gives, HasGivenReady, HasSession}
use Rattle.studio_engine.proofs.EngineLemmas.{gives_after, ready_after, turned_same}
use Rattle.studio_engine.proofs.engine.Engine.turn.Goals as goal

pub returns-then-self-clause-none : goal.returns-then-self-clause-none
returns-then-self-clause-none c = λ none studio events datagrams s.
    subst (λ l. HasGivenReady studio c.continue_turn.new.self l datagrams) (turned_same c.args.self.now.time c.continue_turn.new.self.time events c.continue_turn.ensures.time)
    (c.continue_turn.ensures.none c.in_default-continue_turn.is studio events datagrams s)

pub returns-then-now-self-clause-none : goal.returns-then-now-self-clause-none
returns-then-now-self-clause-none c = λ none studio events datagrams s.
    subst (λ l. HasGivenReady studio c.continue_turn.new.self l datagrams) (turned_same c.args.self.now.time c.continue_turn.new.self.time events c.continue_turn.ensures.time)
    (c.continue_turn.ensures.none c.in_default-continue_turn.is studio events datagrams s)

pub returns-clause-some : goal.returns-clause-some
returns-clause-some c =
    let now = to_z w64 (of_z w64 c.args.now) in
    let same : now ≡ c.args.now = to_z-of_z w64 c.args.now c.ranges.now in
    let time : c.continue_turn-2.new.self.time ≡ now = c.continue_turn-2.ensures.time ∙ c.set_out.ensures.time in
    let low = c.self.invariant.not_early in
    let high = c.self.invariant.not_late in
    let time_is : c.self.inside.time ≡ to_z w64 (of_z w64 c.self.inside.time) = omega (arith, ints, low, high) in
    let free = no_fault c.args.self.now.time c.args.self.now.closed now (ap (λ (e : EngineState). clock_fault_of e.time e.closed now) (sym c.self.view_is) ∙ ap (λ t. clock_fault_of t c.self.inside.closed now) time_is ∙ sym c.clock_fault.ensures ∙ c.in_default.is) in
    let was : c.self-2.inside.time ≡ c.args.self.now.time = ap (λ (e : EngineState). e.time) c.self-2.view_is ∙ c.continue_turn.ensures.time in
    let reached = free.0 in
    let other = c.if-now-self.false in
    let later : c.args.self.now.time <ℤ c.continue_turn-2.new.self.time = omega (arith, ints, reached, other, was, time, same) in
    gives_after c.args.self.now c.set_out.new.self c.continue_turn-2.new.self c.args.out.now c.continue_turn.new.out c.continue_turn-2.new.out c.continue_turn-2.result now
    (c.continue_turn.ensures.kept c.in_default-continue_turn.is) later time
    (λ studio events datagrams s. c.set_out.ensures.stands studio events datagrams (c.continue_turn.ensures.none c.in_default-continue_turn.is studio events datagrams s).stands)
    c.continue_turn-2.ensures.some

pub returns-clause-none : goal.returns-clause-none
returns-clause-none c = λ none.
    let now = to_z w64 (of_z w64 c.args.now) in
    let same : now ≡ c.args.now = to_z-of_z w64 c.args.now c.ranges.now in
    let time : c.continue_turn-2.new.self.time ≡ now = c.continue_turn-2.ensures.time ∙ c.set_out.ensures.time in
    let low = c.self.invariant.not_early in
    let high = c.self.invariant.not_late in
    let time_is : c.self.inside.time ≡ to_z w64 (of_z w64 c.self.inside.time) = omega (arith, ints, low, high) in
    let free = no_fault c.args.self.now.time c.args.self.now.closed now (ap (λ (e : EngineState). clock_fault_of e.time e.closed now) (sym c.self.view_is) ∙ ap (λ t. clock_fault_of t c.self.inside.closed now) time_is ∙ sym c.clock_fault.ensures ∙ c.in_default.is) in
    let was : c.self-2.inside.time ≡ c.args.self.now.time = ap (λ (e : EngineState). e.time) c.self-2.view_is ∙ c.continue_turn.ensures.time in
    let reached = free.0 in
    let other = c.if-now-self.false in
    let later : c.args.self.now.time <ℤ c.continue_turn-2.new.self.time = omega (arith, ints, reached, other, was, time, same) in
    ready_after c.args.self.now c.set_out.new.self c.continue_turn-2.new.self now later time
    (λ studio events datagrams s. c.set_out.ensures.stands studio events datagrams (c.continue_turn.ensures.none c.in_default-continue_turn.is studio events datagrams s).stands)
    (c.continue_turn-2.ensures.none none)

pub returns-then-self-clause-there : goal.returns-then-self-clause-there
returns-then-self-clause-there c = λ none studio events datagrams s.
    absurd (false≢true (sym (c.continue_turn.ensures.finished c.in_default-continue_turn.is studio events datagrams s) ∙ ap (λ (e : EngineState). e.turning) (sym c.self-2.view_is) ∙ c.if-self.true))

pub returns-then-now-self-clause-there : goal.returns-then-now-self-clause-there
returns-then-now-self-clause-there c = λ none studio events datagrams s.
    let is = c.if-now-self.true in
    let was : c.self-2.inside.time ≡ c.continue_turn.new.self.time = ap (λ (e : EngineState). e.time) c.self-2.view_is in
    let same : to_z w64 (of_z w64 c.args.now) ≡ c.args.now = to_z-of_z w64 c.args.now c.ranges.now in
    (c.continue_turn.ensures.finished c.in_default-continue_turn.is studio events datagrams s, omega (arith, ints, is, was, same))

pub returns-clause-there : goal.returns-clause-there
returns-clause-there c = λ none studio events datagrams s.
    let same = to_z-of_z w64 c.args.now c.ranges.now in (
      c.continue_turn-2.ensures.finished none studio (events ++ Tick (to_z w64 (of_z w64 c.args.now)) ∷ []) datagrams
          (c.set_out.ensures.stands studio events datagrams (c.continue_turn.ensures.none c.in_default-continue_turn.is studio events datagrams s).stands),
      c.continue_turn-2.ensures.time ∙ c.set_out.ensures.time ∙ same,
    )

pub returns-clause-fewer : goal.returns-clause-fewer
returns-clause-fewer c =
    subst (λ (p : PackerState). IfSome c.continue_turn-2.result (λ (len : ℕ). blocks_left c.continue_turn-2.new.self.mixer.packer < blocks_left p)) (c.set_out.ensures.packer ∙ c.continue_turn.ensures.left c.in_default-continue_turn.is) c.continue_turn-2.ensures.fewer

pub continue_turn-requires-2-clause-space : goal.continue_turn-requires-2-clause-space
continue_turn-requires-2-clause-space c = grind (arith, elements)

pub returns-in-Some-continue_turn-clause-some : goal.returns-in-Some-continue_turn-clause-some
returns-in-Some-continue_turn-clause-some c = λ studio events datagrams s.
    let engine = c.continue_turn.new.self in
    let P : ℕ → Type 0 = λ len. (studio : Studio) (events : List TraceEvent) (datagrams : List (List ℕ)) → HasSession studio c.args.self.now events datagrams
    → Gives studio engine events datagrams c.args.out.now c.continue_turn.new.out len in
    let given : P c.in-Some-continue_turn.len = subst (λ o. IfSome o P) c.in-Some-continue_turn.is c.continue_turn.ensures.some in
    subst (λ l. Gives studio engine l datagrams c.args.out.now c.continue_turn.new.out c.in-Some-continue_turn.len) (turned_same c.args.self.now.time engine.time events c.continue_turn.ensures.time)
    (given studio events datagrams s)

pub returns-clause-closed : goal.returns-clause-closed
returns-clause-closed c = grind (arith, elements)

pub set_out-requires-clause-open_yet : goal.set_out-requires-clause-open_yet
set_out-requires-clause-open_yet c = grind (arith, elements)

pub returns-clause-len : goal.returns-clause-len
returns-clause-len c = grind (arith, elements)

pub returns-clause-left : goal.returns-clause-left
returns-clause-left c = grind (arith, elements)

pub set_out-requires-clause-not_far : goal.set_out-requires-clause-not_far
set_out-requires-clause-not_far c = grind (arith, elements)

pub set_out-requires-clause-later : goal.set_out-requires-clause-later
set_out-requires-clause-later c = grind (arith, elements)
