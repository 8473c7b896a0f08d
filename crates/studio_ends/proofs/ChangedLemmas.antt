-- The mixer's end, after it took a change of gains.
use Rattle.std.proofs.Common.{◌≡◌, ℕ, ◌+◌, ◌*◌, ◌<◌, ◌≤◌, ◌≤ℤ◌, ℤ, List, length, All, vec_items, sym, ap, subst, ◌∙◌, arith}
use Rattle.std.proofs.Math.Nat.{mul-le-mul_right}
use Rattle.std.proofs.lemmas.Int.{ints}
use Rattle.std.proofs.lemmas.Option.{slice_get_within}
use Rattle.mix_packets.specs.declared.out_spec.Output.{Output}
use Rattle.mix_packets.specs.Block.{block_start}
use Rattle.studio_config.specs.Studio.{Studio}
use Rattle.studio_mix.specs.Blocks.{AreFirstBlocks}
use Rattle.studio_io.specs.Gains.{changes_in}
use Rattle.studio_io.specs.declared.gain_source.GainAnswer.{GainAnswer}
use Rattle.studio_io.specs.declared.gain_source.GainAnswer.TheVariants.{Taken, Refused, Shown}
use Rattle.studio_mix.specs.Changed.{with_changes, with_gains}
use Rattle.studio_mix.specs.Mixer.{next_start_of}
use Rattle.studio_mix.specs.Feed.{Feed}
use Rattle.studio_mix.proofs.ChangedLemmas.{datagram_unchanged}
use Rattle.studio_ends.specs.AcceptedFeeds.{accepted_feeds}
use Rattle.studio_ends.specs.Datagrams.{HasGiven}
use Rattle.studio_ends.specs.MixEnds.{MixHasFeeds}
use Rattle.studio_ends.specs.declared.mix_end.MixEnd.{MixEnd}

-- a block ends at the start of the next one, or before later ones
block_ends : (out : Output) (n count : ℕ) → n < count → block_start out (n + 1) ≤ℤ block_start out count
block_ends out n count h = let p : (n + 1) * out.frames ≤ count * out.frames = mul-le-mul_right out.frames (omega (arith, h)) in omega (arith, ints, p)

first_blocks_changed : (studio : Studio) (feeds : List Feed) (datagrams : List (List ℕ)) (at : ℤ) (gains : List ℤ) → block_start studio.output (length datagrams) ≤ℤ at
    → AreFirstBlocks studio feeds datagrams → AreFirstBlocks (with_gains studio at gains) feeds datagrams
first_blocks_changed studio feeds datagrams at gains early first = record {
  ready = first.ready;
  each = λ n datagram is.
      let ends = block_ends studio.output n (length datagrams) (slice_get_within datagrams n datagram is) in
      let before : block_start studio.output (n + 1) ≤ℤ at = omega (arith, ints, early, ends) in
      first.each n datagram is ∙ sym (datagram_unchanged studio feeds n at _ before);
}

pub given_changed : (studio : Studio) (old new : MixEnd) (at : ℤ) (gains : List ℤ) (datagrams : List (List ℕ)) → new.sides ≡ old.sides
    → ((studio : Studio) (number : ℕ) → MixHasFeeds studio old number → MixHasFeeds (with_gains studio at gains) new number)
    → block_start old.mixer.packer.spec old.mixer.packer.number ≤ℤ at → HasGiven studio old datagrams → HasGiven (with_gains studio at gains) new datagrams
given_changed studio old new at gains datagrams same fed early given =
    let next : block_start old.mixer.packer.spec old.mixer.packer.number ≡ block_start studio.output (length datagrams) =
    ap (λ (o : Output). block_start o old.mixer.packer.number) given.feeds.output ∙ ap (block_start studio.output) given.feeds.number in
    let before : block_start studio.output (length datagrams) ≤ℤ at = omega (arith, ints, early, next) in
    record {
      some_frames = given.some_frames;
      feeds = fed studio (length datagrams) given.feeds;
      first = subst (λ sides. AreFirstBlocks (with_gains studio at gains) (accepted_feeds studio.streams (vec_items sides)) datagrams) (sym same)
          (first_blocks_changed studio (accepted_feeds studio.streams old.sides.items) datagrams at gains before given.first);
    }

pub given_changed_at : (studio : Studio) (old new : MixEnd) (u at : ℤ) (gains : List ℤ) (datagrams : List (List ℕ)) → u ≡ at → new.sides ≡ old.sides
    → ((studio : Studio) (number : ℕ) → MixHasFeeds studio old number → MixHasFeeds (with_gains studio u gains) new number)
    → block_start old.mixer.packer.spec old.mixer.packer.number ≤ℤ u → HasGiven studio old datagrams → HasGiven (with_gains studio at gains) new datagrams
given_changed_at studio old new u at gains datagrams e same fed early given =
    subst (λ (a : ℤ). HasGiven (with_gains studio a gains) new datagrams) e (given_changed studio old new u gains datagrams same fed early given)

-- nothing changed but the form of the mixer
given_same : (studio : Studio) (old new : MixEnd) (datagrams : List (List ℕ)) → new.sides ≡ old.sides
    → ((number : ℕ) → MixHasFeeds studio old number → MixHasFeeds studio new number) → HasGiven studio old datagrams → HasGiven studio new datagrams
given_same studio old new datagrams same fed given = record {
  some_frames = given.some_frames;
  feeds = fed (length datagrams) given.feeds;
  first = subst (λ sides. AreFirstBlocks studio (accepted_feeds studio.streams (vec_items sides)) datagrams) (sym same) given.first;
}

-- the mixer's end answered a request
pub given_answered : (studio : Studio) (old new : MixEnd) (answer : GainAnswer) (gains : List ℤ) (datagrams : List (List ℕ)) → new.sides ≡ old.sides
    → ((studio : Studio) (number : ℕ) → MixHasFeeds studio old number → MixHasFeeds (with_changes studio (changes_in answer gains)) new number)
    → All (λ (change : ℤ × List ℤ). next_start_of old.mixer ≤ℤ change.0) (changes_in answer gains)
    → HasGiven studio old datagrams → HasGiven (with_changes studio (changes_in answer gains)) new datagrams
given_answered studio old new (Taken at) gains datagrams same fed later given = given_changed studio old new at gains datagrams same fed (later 0 (at, gains) (omega arith)) given
given_answered studio old new (Refused fault) gains datagrams same fed later given = given_same studio old new datagrams same (fed studio) given
given_answered studio old new (Shown at) gains datagrams same fed later given = given_same studio old new datagrams same (fed studio) given
