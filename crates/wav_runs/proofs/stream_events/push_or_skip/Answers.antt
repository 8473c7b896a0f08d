use Rattle.std.proofs.lemmas.Grind.{elements}
use Rattle.std.proofs.Common.{◌≡◌, ◌≢◌, sym, subst, arith}
use Rattle.studio_session.specs.Event.{Arrival}
use Rattle.studio_session.specs.PushedEvents.{IsHanded}
use Rattle.studio_session.proofs.CursorLemmas.{others_arrival}
use Rattle.wav_runs.proofs.stream_events.push_or_skip.Goals as goal

pub returns-then-stream-from-clause-handed : goal.returns-then-stream-from-clause-handed
returns-then-stream-from-clause-handed c = λ is.
    let number = c.args.cursor.now.number in
    let from = c.from.ensures in
    let own = c.number.ensures in
    let other : c.args.stream ≢ number = λ e. let t = c.if-stream-from.true in absurd (omega (arith, t, from, own, e)) in
    c.skip.ensures.handed number (Arrival c.args.stream c.args.path c.args.octets.now) (λ stream. others_arrival stream c.args.stream number c.args.path c.args.octets.now other)

pub returns-clause-handed : goal.returns-clause-handed
returns-clause-handed c = λ is.
    let number = c.args.cursor.now.number in
    let from = c.from.ensures in
    let own = c.number.ensures in
    let same : c.args.stream ≡ number = let t = c.if-stream-from.false in omega (arith, t, from, own) in
    subst (λ n. IsHanded (Arrival n c.args.path c.args.octets.now) number c.args.cursor.now c.push_datagram.new.self) (sym same) (c.push_datagram.ensures.handed number)

pub returns-then-number-paths-clause-handed : goal.returns-then-number-paths-clause-handed
returns-then-number-paths-clause-handed c = grind (arith, elements)
