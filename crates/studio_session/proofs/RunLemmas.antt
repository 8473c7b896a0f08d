-- The blocks of a session, one after another.
use Rattle.std.proofs.Common.{◌≡◌, ◌<◌, ◌+◌, ◌*◌, ◌^◌, ℕ, true, List, [], ◌∷◌, ◌++◌, length, ℤ, pos, negsuc, ◌-ℤ◌, ◌≤ℤ◌, ◌<ℤ◌, sym, ap, subst, ◌∙◌, arith}
use Rattle.std.proofs.lemmas.Int.{ints}
use Rattle.std.proofs.lemmas.List.{length_push}
use Rattle.lane_align.specs.Lane.{natural}
use Rattle.mix_packets.specs.declared.out_spec.Output.{Output}
use Rattle.mix_packets.specs.Block.{block_start}
use Rattle.mix_packets.specs.Packer.{PackerState}
use Rattle.studio_config.specs.Studio.{Studio}
use Rattle.studio_mix.specs.Output.{datagram_of}
use Rattle.studio_mix.specs.Ready.{is_ready}
use Rattle.studio_mix.proofs.FirstBlockLemmas.{first_more}
use Rattle.studio_session.specs.Event.{TraceEvent}
use Rattle.studio_session.specs.Play.{HasPlayed, SessionState, feeds_of}
use Rattle.studio_session.specs.Run.{HasGivenBlocks, blocks_left}

pub blocks_more : (studio : Studio) (events : List TraceEvent) (old new : SessionState) (datagrams : List (List ℕ)) (datagram : List ℕ)
    → HasGivenBlocks studio events old datagrams → is_ready studio.output (feeds_of studio events) (length datagrams) ≡ true
    → datagram ≡ datagram_of studio (feeds_of studio events) (length datagrams) → HasPlayed studio events new (length datagrams + 1)
    → HasGivenBlocks studio events new (datagrams ++ datagram ∷ [])
blocks_more studio events old new datagrams datagram before ready is played = record {
  played = subst (HasPlayed studio events new) (sym (length_push datagrams datagram)) played;
  first = first_more studio (feeds_of studio events) datagrams datagram before.first ready is;
}

-- fewer blocks are left after each block
pub fewer_left : (old new : PackerState) → 0 < old.spec.frames → new.spec ≡ old.spec → new.number ≡ old.number + 1
    → block_start old.spec old.number ≤ℤ pos (2 ^ 61 + 192) → blocks_left new < blocks_left old
fewer_left old new some spec number early =
    let start : block_start new.spec new.number ≡ block_start old.spec (old.number + 1) = ap (λ (o : Output). block_start o new.number) spec ∙ ap (block_start old.spec) number in
    let next : (old.number + 1) * old.spec.frames ≡ old.number * old.spec.frames + old.spec.frames = omega arith in
    subst (λ t. natural (pos (2 ^ 61 + 193) -ℤ t) < blocks_left old) (sym start)
    (natural_less (pos (2 ^ 61 + 193) -ℤ block_start old.spec old.number) (pos (2 ^ 61 + 193) -ℤ block_start old.spec (old.number + 1)) (omega (arith, ints, early)) (omega (arith, ints, some, next)))
  where
    natural_less : (a b : ℤ) → pos 0 <ℤ a → b <ℤ a → natural b < natural a
    natural_less (pos a) (pos b) h g = omega (arith, ints, g)
    natural_less (pos a) (negsuc b) h g = omega (arith, ints, h)
    natural_less (negsuc a) b h g = absurd (omega (arith, ints, h))
