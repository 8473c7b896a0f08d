use Rattle.std.proofs.Common.{◌≡◌, ◌<◌, ℕ, ⊎_elim, Some, None, length, ap, subst, below_more, arith}
use Rattle.std.proofs.lemmas.Option.{slice_get_within}
use Rattle.file_commands.specs.SharedPlace.{CollidesAt, IsEarlier, IsFirstEarlier, IsShared, place_of}
use Rattle.file_commands.specs.declared.shared_place.SharedPlace.{SharedPlace}
use Rattle.file_commands.proofs.SharedPlaceLemmas.{stream_at, none_here}
use Rattle.file_commands.proofs.shared_place.shared_place.Goals as goal

pub first_at-requires : goal.first_at-requires
first_at-requires c = omega (arith, c.paths_before-earlier.ensures.few, c.paths.ensures.value, c.paths.ensures.sound.few_paths)

pub loop-stream-preserved : goal.loop-stream-preserved
loop-stream-preserved c = λ stream other below e.
    let studio = c.args.studio.now in
    let at = stream_at studio.streams _ c.loop-stream.stream c.spec-item.result c.streams-spec-items.ensures.value c.loop-stream-test.true c.spec-item.is in
    below_more (λ k. IsEarlier studio c.in_ok-own.own c.args.number c.args.path k other → ⊥) c.loop-stream.stream
    (λ k before. c.loop-stream.invariant k other before)
    (none_here studio c.in_ok-own.own c.args.number c.args.path c.loop-stream.stream c.paths.result c.paths_before-earlier.result c.spec-item.result at c.paths.ensures.value c.paths_before-earlier.ensures.which c.in_default.ensures other)
    stream below e

pub returns-in-Some : goal.returns-in-Some
returns-in-Some c =
    let studio = c.args.studio.now in
    let own = c.in_ok-own.own in
    let i = c.loop-stream.stream in
    let found = c.in-Some.other in
    let at = stream_at studio.streams _ i c.spec-item.result c.streams-spec-items.ensures.value c.loop-stream-test.true c.spec-item.is in
    let first = c.in-Some.ensures in
    let before = (c.paths_before-earlier.ensures.which found).0 first.0 in
    let less : found < c.spec-item.result.paths = omega (arith, before.0, c.paths.ensures.value) in
    let shared : SharedPlace = record { stream = i; path = found; is_group = c.is_multicast.result } in
    let here : IsFirstEarlier studio own c.args.number c.args.path shared = record {
      earlier = record { is_path = (c.spec-item.result, at, less); before = before.1; collides = first.1 };
      first = λ s o b e. ⊎_elim (λ (lower : s < i). c.loop-stream.invariant s o lower e) (λ (same : (s ≡ i) × (o < found)). first.2 o same.1 (subst (λ (k : ℕ). CollidesAt own (place_of studio k o)) same.0 e.collides)) b;
      is_group = c.is_multicast.ensures;
    } in
    let place : Some own ≡ place_of studio c.args.number c.args.path = c.in_ok-own.ensures in
    subst (λ p. IsShared studio c.args.number c.args.path p (Some shared)) place here

pub returns : goal.returns
returns c =
    let studio = c.args.studio.now in
    let own = c.in_ok-own.own in
    let place : Some own ≡ place_of studio c.args.number c.args.path = c.in_ok-own.ensures in
    let long : length c.streams-spec-items.result.now ≡ length studio.streams = ap length c.streams-spec-items.ensures.value in
    subst (λ p. IsShared studio c.args.number c.args.path p None) place
    (λ stream other e.
    let within = slice_get_within studio.streams stream e.is_path.0 e.is_path.1 in
    c.loop-stream.invariant stream other (omega (arith, within, long, c.loop-stream-test.false)) e)
