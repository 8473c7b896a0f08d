use Rattle.std.proofs.Common.{◌≡◌, List, ℤ, length, subst, arith, to_z, of_z, w64}
use Rattle.std.proofs.lemmas.Int.{ints}
use Rattle.rtp_stream.specs.declared.stream_spec.Stream.{Stream}
use Rattle.studio_session.specs.Cursor.{CursorState}
use Rattle.studio_session.specs.Play.{AreNew}
use Rattle.studio_session.proofs.NewLemmas.{ready_none}
use Rattle.studio_session.proofs.session.studio_cursors.Goals as goal

-- the same streams, opened at the same time
new_of : (streams others : List Stream) (open_at other : ℤ) (cursors : List CursorState) → streams ≡ others → open_at ≡ other
    → AreNew streams open_at cursors (length streams) → AreNew others other cursors (length others)
new_of streams others open_at other cursors same time new =
    subst (λ ss. AreNew ss other cursors (length ss)) same (subst (λ t. AreNew streams t cursors (length streams)) time new)

pub returns-clause-ready : goal.returns-clause-ready
returns-clause-ready c = λ events has.
    let studio = c.args.spec.now in
    let sound = c.open_at.ensures.sound in
    let low = sound.open_low in
    let high = sound.open_high in
    let value = c.open_at.ensures.value in
    let open_at : to_z w64 (of_z w64 c.open_at.result) ≡ studio.open_at = omega (arith, ints, value, low, high) in
    ready_none studio events c.in_ok-cursors.cursors.items
    (new_of c.streams.result.now studio.streams (to_z w64 (of_z w64 c.open_at.result)) studio.open_at c.in_ok-cursors.cursors.items c.streams.ensures.value open_at c.in_ok-cursors.ensures) has
