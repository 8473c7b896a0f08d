use Rattle.std.proofs.lemmas.Grind.{elements}
use Rattle.std.proofs.Common.{◌≡◌, Bool, length, false, true, not, refl, sym, ap, subst, ◌∙◌, arith}
use Rattle.std.proofs.lemmas.Bool.{false≢true}
use Rattle.studio_engine.specs.Engine.{EngineState, HaveCome}
use Rattle.studio_engine.specs.Session.{HasSession}
use Rattle.studio_engine.proofs.EngineLemmas.{becomes_idle, engine_kept, session_stops, stops_kept, taken_of}
use Rattle.studio_engine.proofs.engine.Engine.continue_turn.Goals as goal

pub invariant_of-self-else-is_none : goal.invariant_of-self-else-is_none
invariant_of-self-else-is_none c =
    let i = c.self.inside in
    let inv = c.self.invariant in
    let inside : EngineState = record { mixer = i.mixer; cursors = i.cursors.cursors; time = i.time; turning = i.turning; closed = i.closed; settled = i.settled; count = i.cursors.count } in
    let given = c.next_datagram-given.ensures in
    engine_kept inside c.next_datagram-given.new.mixer c.next_datagram-given.new.self i.turning i.settled given.count inv given.streams given.cursors given.come
    (λ e. given.idle (inv.idle e)) inv.open_yet inv.shut

pub invariant_of-self : goal.invariant_of-self
invariant_of-self c =
    let i = c.self.inside in
    let inv = c.self.invariant in
    let inside : EngineState = record { mixer = i.mixer; cursors = i.cursors.cursors; time = i.time; turning = i.turning; closed = i.closed; settled = i.settled; count = i.cursors.count } in
    let given = c.next_datagram-given.ensures in
    let kept = c.keep_early_marks-there.ensures in
    let open_yet : i.closed ≡ false = ap (λ (e : EngineState). e.closed) c.self.view_is ∙ c.requires.open_yet in
    engine_kept inside c.keep_early_marks-there.new.mixer c.keep_early_marks-there.new.self (not c.keep_early_marks-there.result) i.settled (kept.count ∙ given.count) inv
    (kept.streams ∙ given.streams) (kept.cursors ∙ given.cursors) kept.come
    (λ e. kept.idle (not_false c.keep_early_marks-there.result e))
    (λ e. open_yet) inv.shut
  where
    not_false : (b : Bool) → not b ≡ false → b ≡ true
    not_false true e = refl
    not_false false e = absurd (false≢true (sym e))

pub returns-then-is_none-clause-finished : goal.returns-then-is_none-clause-finished
returns-then-is_none-clause-finished c = λ none studio events datagrams s.
    let i = c.self.inside in
    let inv = c.self.invariant in
    let inside : EngineState = record { mixer = i.mixer; cursors = i.cursors.cursors; time = i.time; turning = i.turning; closed = i.closed; settled = i.settled; count = i.cursors.count } in
    let s' : HasSession studio inside events datagrams = subst (λ e. HasSession studio e events datagrams) (sym c.self.view_is) s in
    let given = c.next_datagram-given.ensures in
    let open_yet : i.closed ≡ false = ap (λ (e : EngineState). e.closed) c.self.view_is ∙ c.requires.open_yet in
    let stop = given.none none studio events datagrams s'.runnable (taken_of events i.cursors.cursors i.cursors.count s'.count inv.taken) s'.given in
    becomes_idle studio inside c.next_datagram-given.new.mixer c.next_datagram-given.new.self.cursors events datagrams c.keep_early_marks-there.result s' open_yet given.capacities
    (subst (λ n. HaveCome n c.next_datagram-given.new.self.cursors) given.count given.come) stop
    (c.keep_early_marks-there.ensures.all studio events)

pub returns-then-is_none-clause-none : goal.returns-then-is_none-clause-none
returns-then-is_none-clause-none c = λ none studio events datagrams s.
    let i = c.self.inside in
    let inv = c.self.invariant in
    let inside : EngineState = record { mixer = i.mixer; cursors = i.cursors.cursors; time = i.time; turning = i.turning; closed = i.closed; settled = i.settled; count = i.cursors.count } in
    let s' : HasSession studio inside events datagrams = subst (λ e. HasSession studio e events datagrams) (sym c.self.view_is) s in
    let given = c.next_datagram-given.ensures in
    let kept = c.keep_early_marks-there.ensures in
    let open_yet : i.closed ≡ false = ap (λ (e : EngineState). e.closed) c.self.view_is ∙ c.requires.open_yet in
    let stop = given.none none studio events datagrams s'.runnable (taken_of events i.cursors.cursors i.cursors.count s'.count inv.taken) s'.given in
    let after = stops_kept studio events (record { mixer = c.next_datagram-given.new.mixer; cursors = c.next_datagram-given.new.self.cursors })
    (record { mixer = c.keep_early_marks-there.new.mixer; cursors = c.keep_early_marks-there.new.self.cursors }) datagrams stop
    (kept.stands studio events (length datagrams) s'.runnable stop.given.played) (sym s'.closed ∙ open_yet) in
    session_stops studio inside _ events datagrams refl refl (kept.count ∙ given.count) (not_settled i.settled i.closed inv.shut open_yet) (kept.capacities ∙ given.capacities) s' after
  where
    not_settled : (settled closed : Bool) → (settled ≡ true → closed ≡ true) → closed ≡ false → settled ≡ false
    not_settled true closed shut open_yet = absurd (false≢true (sym open_yet ∙ shut refl))
    not_settled false closed shut open_yet = refl

pub returns-else-is_none-clause-some : goal.returns-else-is_none-clause-some
returns-else-is_none-clause-some c = grind (arith, elements)
