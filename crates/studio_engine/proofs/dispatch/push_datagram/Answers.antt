use Rattle.std.proofs.lemmas.Grind.{elements}
use Rattle.std.proofs.Common.{◌≡◌, ◌<◌, ◌+◌, length, get_or, set, sym, ap, subst, ◌∙◌, arith}
use Rattle.std.proofs.lemmas.Option.{get_or_from_slice_get}
use Rattle.studio_session.specs.Cursor.{CursorState, HasPulled, at_place}
use Rattle.studio_session.specs.Event.{Arrival}
use Rattle.studio_session.specs.PushedEvents.{AreHanded, IsHanded}
use Rattle.studio_engine.specs.Cursors.{all_at}
use Rattle.studio_engine.proofs.CursorsLemmas.{handed_alone, is_seen, set_at, set_twice}
use Rattle.studio_engine.proofs.dispatch.push_datagram.Goals as goal

pub returns-clause-handed : goal.returns-clause-handed
returns-clause-handed c =
    let first = c.args.cursors.now in
    let stream = c.args.stream in
    let count = c.args.count in
    let item = c.index-cursors-stream.result in
    let passed = c.pass_to.new.self in
    let moved = c.push_datagram.new.self in
    let event = Arrival stream c.args.path c.args.octets.now in
    let within : stream < length first = omega (arith, c.if-stream-cursors.false) in
    let was : get_or (set first stream passed) stream c.index-cursors-stream-2.result ≡ at_place count (get_or first stream item) =
    get_or_from_slice_get (set first stream passed) stream passed c.index-cursors-stream-2.result (set_at first stream passed within) ∙ c.pass_to.ensures in
    let place : moved.place ≡ count + 1 = c.push_datagram.ensures.place ∙ ap (λ (s : CursorState). s.place + 1) was in
    subst (λ l. AreHanded event (all_at count first) (all_at (count + 1) l) (length first)) (sym (set_twice first stream passed moved))
    (handed_alone stream c.args.path count c.args.octets.now first moved item within place (subst (λ s. IsHanded event stream s moved) was (c.push_datagram.ensures.handed stream)))

pub returns-clause-outcome : goal.returns-clause-outcome
returns-clause-outcome c = λ cursor spec number open_at events k at long pulled.
    let first = c.args.cursors.now in
    let stream = c.args.stream in
    let passed = c.pass_to.new.self in
    let within : stream < length first = omega (arith, c.if-stream-cursors.false) in
    let was : get_or (set first stream passed) stream c.index-cursors-stream-2.result ≡ at_place c.args.count (get_or first stream c.index-cursors-stream.result) =
    get_or_from_slice_get (set first stream passed) stream passed c.index-cursors-stream-2.result (set_at first stream passed within) ∙ c.pass_to.ensures in
    let same = was ∙ is_seen c.args.count first stream cursor c.index-cursors-stream.result at in
    c.push_datagram.ensures.outcome spec number open_at events k (ap (λ (s : CursorState). s.place) was ∙ long) (subst (λ s. HasPulled spec number open_at events s k) (sym same) pulled)

pub push_datagram-requires-clause-path : goal.push_datagram-requires-clause-path
push_datagram-requires-clause-path c = grind (arith, elements)
