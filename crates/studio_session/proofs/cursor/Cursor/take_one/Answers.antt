use Rattle.std.proofs.lemmas.Grind.{elements}
use Rattle.std.proofs.Common.{◌≡◌, ◌≢◌, ◌<◌, length, Some, slice_get, sym, subst, ap, ◌∙◌, arith, to_z, of_z, w64}
use Rattle.std.proofs.lemmas.Int.{ints}
use Rattle.studio_session.specs.Event.{Arrival, Tick}
use Rattle.studio_session.specs.Session.{step_of}
use Rattle.studio_session.specs.Cursor.{CursorState}
use Rattle.studio_session.proofs.CursorLemmas.{arrival_of, closing_of, event_here, others_arrival, reading_of}
use Rattle.studio_session.proofs.cursor.Cursor.take_one.Goals as goal

pub take_datagram-requires-clause-path : goal.take_datagram-requires-clause-path
take_datagram-requires-clause-path g c =
    let events = g.E.EventSource.events c.args.source.now in
    let i = c.self.inside in
    let now = c.args.self.now in
    let place : i.place < length events = let t = c.if-self-count.false in let count = c.count.ensures in omega (arith, t, count) in
    let found = event_here events i.place place in
    let at : slice_get events now.place ≡ Some found.0 = subst (λ (s : CursorState). slice_get events s.place ≡ Some found.0) c.self.view_is found.1 in
    let arrival = arrival_of found.0 c.in-Arrive.stream c.in-Arrive.path (sym c.in-Arrive.is ∙ c.outline.ensures found.0 found.1) in
    let own : c.in-Arrive.stream ≡ i.number = let t = c.if-stream-self.true in omega (arith, t) in
    let its = own ∙ ap (λ (s : CursorState). s.number) c.self.view_is in
    c.requires.ready.paths.paths now.place c.in-Arrive.path arrival.0 (at ∙ ap Some (arrival.1 ∙ ap (λ n. Arrival n c.in-Arrive.path arrival.0) its))

pub returns-then-stream-self-clause-stands : goal.returns-then-stream-self-clause-stands
returns-then-stream-self-clause-stands g c = λ stream n open_at k run pulled.
    let events = g.E.EventSource.events c.args.source.now in
    let i = c.self.inside in
    let now = c.args.self.now in
    let place : i.place < length events = let t = c.if-self-count.false in let count = c.count.ensures in omega (arith, t, count) in
    let found = event_here events i.place place in
    let at : slice_get events now.place ≡ Some found.0 = subst (λ (s : CursorState). slice_get events s.place ≡ Some found.0) c.self.view_is found.1 in
    let arrival = arrival_of found.0 c.in-Arrive.stream c.in-Arrive.path (sym c.in-Arrive.is ∙ c.outline.ensures found.0 found.1) in
    let own : c.in-Arrive.stream ≡ i.number = let t = c.if-stream-self.true in omega (arith, t) in
    let its = own ∙ ap (λ (s : CursorState). s.number) c.self.view_is ∙ pulled.stream_number in
    let path = c.in-Arrive.path in
    let there : slice_get events c.take_datagram.inside.place ≡ Some found.0 = subst (λ (s : CursorState). slice_get events s.place ≡ Some found.0) (sym c.take_datagram.view_is) at in
    let octets : c.octets.result.now ≡ arrival.0 = c.octets.ensures c.in-Arrive.stream path arrival.0 (there ∙ ap Some arrival.1) in
    c.take_datagram-then-stream-self.ensures.stands stream n open_at events k
    (at ∙ ap Some (arrival.1 ∙ ap (λ m. Arrival m path arrival.0) its ∙ ap (Arrival n path) (sym octets))) pulled

pub returns-else-stream-self-clause-stands : goal.returns-else-stream-self-clause-stands
returns-else-stream-self-clause-stands g c = λ stream n open_at k run pulled.
    let events = g.E.EventSource.events c.args.source.now in
    let i = c.self.inside in
    let now = c.args.self.now in
    let place : i.place < length events = let t = c.if-self-count.false in let count = c.count.ensures in omega (arith, t, count) in
    let found = event_here events i.place place in
    let at : slice_get events now.place ≡ Some found.0 = subst (λ (s : CursorState). slice_get events s.place ≡ Some found.0) c.self.view_is found.1 in
    let arrival = arrival_of found.0 c.in-Arrive.stream c.in-Arrive.path (sym c.in-Arrive.is ∙ c.outline.ensures found.0 found.1) in
    let its = ap (λ (s : CursorState). s.number) c.self.view_is ∙ pulled.stream_number in
    let other : c.in-Arrive.stream ≢ n = λ e. let f = c.if-stream-self.false in absurd (omega (arith, f, e, its)) in
    c.pass_over.ensures.stands stream n open_at events found.0 k at
    (ap (step_of stream n) arrival.1 ∙ others_arrival stream c.in-Arrive.stream n c.in-Arrive.path arrival.0 other) pulled

pub returns-in-Tick-clause-stands : goal.returns-in-Tick-clause-stands
returns-in-Tick-clause-stands g c = λ stream n open_at k run pulled.
    let events = g.E.EventSource.events c.args.source.now in
    let i = c.self.inside in
    let now = c.args.self.now in
    let place : i.place < length events = let t = c.if-self-count.false in let count = c.count.ensures in omega (arith, t, count) in
    let found = event_here events i.place place in
    let at : slice_get events now.place ≡ Some found.0 = subst (λ (s : CursorState). slice_get events s.place ≡ Some found.0) c.self.view_is found.1 in
    let same : to_z w64 (of_z w64 c.in-Tick.now) ≡ c.in-Tick.now = omega (arith, ints) in
    let is = reading_of found.0 c.in-Tick.now (sym c.in-Tick.is ∙ c.outline.ensures found.0 found.1) in
    c.set_out.ensures.stands stream n open_at events k run (at ∙ ap Some (is ∙ ap Tick (sym same))) pulled

pub returns-in-Close-clause-stands : goal.returns-in-Close-clause-stands
returns-in-Close-clause-stands g c = λ stream n open_at k run pulled.
    let events = g.E.EventSource.events c.args.source.now in
    let i = c.self.inside in
    let now = c.args.self.now in
    let place : i.place < length events = let t = c.if-self-count.false in let count = c.count.ensures in omega (arith, t, count) in
    let found = event_here events i.place place in
    let at : slice_get events now.place ≡ Some found.0 = subst (λ (s : CursorState). slice_get events s.place ≡ Some found.0) c.self.view_is found.1 in
    let is = closing_of found.0 (sym c.in-Close.is ∙ c.outline.ensures found.0 found.1) in
    c.close.ensures.stands stream n open_at events k (at ∙ ap Some is) pulled

pub set_out-requires-clause-place : goal.set_out-requires-clause-place
set_out-requires-clause-place c = grind (arith, elements)

pub returns-then-stream-self-clause-ready : goal.returns-then-stream-self-clause-ready
returns-then-stream-self-clause-ready c = grind (arith, elements)

pub pass_over-requires : goal.pass_over-requires
pass_over-requires c = grind (arith, elements)

pub returns-then-stream-self-clause-none : goal.returns-then-stream-self-clause-none
returns-then-stream-self-clause-none c = grind (arith, elements)

pub octets-requires : goal.octets-requires
octets-requires c = grind (arith, elements)

pub take_datagram-requires-clause-place : goal.take_datagram-requires-clause-place
take_datagram-requires-clause-place c = grind (arith, elements)
