-- A studio has finitely many ready blocks, so there is a list of them.
use Rattle.std.proofs.Common.{◌≡◌, inl, inr, ◌<◌, ◌≤◌, ◌+◌, ◌*◌, ◌-ℤ◌, ◌<ℤ◌, ◌≤ℤ◌, ℕ, zero, suc, ℤ, pos, negsuc, int_le, true, false, not, ◌&&◌, ◌||◌, nat_lt, List, [], ◌∷◌, ◌++◌, Option, Some, None, length, refl, sym, ap, ◌∙◌, arith}
use Rattle.std.proofs.Math.Bool.{and-false}
use Rattle.std.proofs.Math.Nat.{le-mul_of_pos_right}
use Rattle.std.proofs.lemmas.Bool.{cases_Bool, false≢true}
use Rattle.std.proofs.lemmas.Bool.Decides.{nat_tests}
use Rattle.std.proofs.lemmas.Int.{ints}
use Rattle.std.proofs.lemmas.List.{length_push}
use Rattle.std.proofs.lemmas.Option.{slice_get_within}
use Rattle.rtp_stream.specs.StreamSpecFacts.{format_of}
use Rattle.rtp_stream.specs.MarkList.{has_end}
use Rattle.lane_align.specs.Cover.{cover_of, cover_to, covers, last_quiet, last_slot, time_reached}
use Rattle.lane_align.specs.Lane.{natural}
use Rattle.mix_packets.specs.declared.out_spec.Output.{Output}
use Rattle.mix_packets.specs.Block.{block_start}
use Rattle.studio_config.specs.Studio.{Studio}
use Rattle.studio_mix.specs.Blocks.{AreBlocks, AreFirstBlocks}
use Rattle.studio_mix.specs.Feed.{Feed}
use Rattle.studio_mix.specs.Output.{datagram_of}
use Rattle.studio_mix.specs.Ready.{are_covered, block_count, have_ended, is_ready}
use Rattle.studio_mix.proofs.FirstBlockLemmas.{first_all, first_more}
use Rattle.studio_session.specs.Event.{TraceEvent}
use Rattle.studio_session.specs.Play.{feeds_of}
use Rattle.studio_session.specs.Run.{AreDatagrams}

not_le : (a b : ℤ) → b <ℤ a → int_le a b ≡ false
not_le a b h = grind (arith, ints, nat_tests)

-- marks without an end cover no time after some time
open_from : (reached : Option ℤ) → (t : ℤ) × ((u : ℤ) → t <ℤ u → covers (cover_to false reached) u ≡ false)
open_from None = (pos 0, λ u late. refl)
open_from (Some t) = (t, λ u late. not_le u t late)

-- streams that have not all ended cover no time after some time
uncovered : (feeds : List Feed) → have_ended feeds ≡ false → (t : ℤ) × ((u : ℤ) → t <ℤ u → are_covered feeds u ≡ false)
uncovered [] going = absurd (false≢true (sym going))
uncovered (feed ∷ feeds) going = elim (cases_Bool (has_end feed.marks)) [
  | inl ended ↦
      let rest = uncovered feeds (sym (ap (λ b. b && have_ended feeds) ended) ∙ going) in
      (rest.0, λ u late. ap (λ b. covers (cover_of (format_of feed.stream) feed.marks) u && b) (rest.1 u late) ∙ and-false (covers (cover_of (format_of feed.stream) feed.marks) u))
  | inr endless ↦
      let reached = time_reached (format_of feed.stream).frames (last_slot feed.marks) (last_quiet feed.marks) in
      let from = open_from reached in
      (from.0, λ u late. ap (λ b. covers (cover_to b reached) u && are_covered feeds u) endless ∙ ap (λ b. b && are_covered feeds u) (from.1 u late))
]

at_least : (d : ℤ) → d ≤ℤ pos (natural d)
at_least (pos n) = omega (arith, ints)
at_least (negsuc n) = omega (arith, ints)

-- there is a block that is not ready
last_block : (out : Output) (feeds : List Feed) → 0 < out.frames → (n : ℕ) × (is_ready out feeds n ≡ false)
last_block out feeds some = elim (cases_Bool (have_ended feeds)) [
  | inl ended ↦
      let n : ℕ = block_count out feeds in
      let past : nat_lt n n ≡ false = grind (arith, nat_tests) in
      (n, ap (λ b. are_covered feeds (block_start out (n + 1)) && (not b || nat_lt n n)) ended ∙ ap (λ b. are_covered feeds (block_start out (n + 1)) && b) past ∙ and-false (are_covered feeds (block_start out (n + 1))))
  | inr going ↦
      let after = uncovered feeds going in
      let n : ℕ = natural (after.0 -ℤ out.start) in
      let far = at_least (after.0 -ℤ out.start) in
      let steps : n + 1 ≤ (n + 1) * out.frames = le-mul_of_pos_right (n + 1) some in
      let late : after.0 <ℤ block_start out (n + 1) = omega (arith, ints, far, steps) in
      (n, ap (λ b. b && (not (have_ended feeds) || nat_lt n (block_count out feeds))) (after.1 (block_start out (n + 1)) late))
]

-- the ready blocks, from the first ones that are known up to one that is not ready
blocks_from : (studio : Studio) (feeds : List Feed) (n : ℕ) → is_ready studio.output feeds n ≡ false → (left : ℕ) (some : List (List ℕ)) → AreFirstBlocks studio feeds some → length some + left ≡ n + 1
    → (all : List (List ℕ)) × AreBlocks studio feeds all
blocks_from studio feeds n stop zero some first long =
    let within : nat_lt n (length some) ≡ true = grind (arith, nat_tests, long) in
    absurd (false≢true (sym stop ∙ first.ready n within))
blocks_from studio feeds n stop (suc left) some first long = elim (cases_Bool (is_ready studio.output feeds (length some))) [
  | inl ready ↦
      let datagram : List ℕ = datagram_of studio feeds (length some) in
      blocks_from studio feeds n stop left (some ++ datagram ∷ []) (first_more studio feeds some datagram first ready refl) (omega (arith, long, length_push some datagram))
  | inr done ↦ (some, first_all studio feeds some first done)
]

no_blocks : (studio : Studio) (feeds : List Feed) → AreFirstBlocks studio feeds []
no_blocks studio feeds = record {
  ready = λ n h. let below : n < 0 = grind (arith, nat_tests, h) in absurd (omega (arith, below));
  each = λ n datagram at. let below : n < 0 = slice_get_within [] n datagram at in absurd (omega (arith, below));
}

-- all ready blocks
pub all_blocks : (studio : Studio) (events : List TraceEvent) → 0 < studio.output.frames → (all : List (List ℕ)) × AreDatagrams studio events all
all_blocks studio events some =
    let last = last_block studio.output (feeds_of studio events) some in
    blocks_from studio (feeds_of studio events) last.0 last.1 (last.0 + 1) [] (no_blocks studio (feeds_of studio events)) (omega arith)
