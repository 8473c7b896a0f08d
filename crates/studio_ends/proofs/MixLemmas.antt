-- The result of a turn of the mixer's end.
use Rattle.std.proofs.Common.{◌≡◌, ℕ, ◌+◌, List, ◌++◌, drop, Option, Some, None, is_some, IfSome, refl, sym, subst, arith}
use Rattle.mix_packets.specs.OutSpec.{datagram_length}
use Rattle.studio_config.specs.Studio.{Studio}
use Rattle.studio_mix.specs.Feed.{Feed}
use Rattle.studio_mix.specs.Mixer.{HasFeeds, MixerState}
use Rattle.studio_mix.specs.Ready.{is_ready}
use Rattle.studio_mix.specs.Output.{datagram_of}
use Rattle.studio_ends.specs.AcceptedFeeds.{accepted_feeds}
use Rattle.studio_ends.specs.MarksIn.{TakesAllMarks}
use Rattle.studio_ends.specs.MixEnds.{MixHasFeeds, MixesBlock, given}
use Rattle.studio_ends.specs.declared.mix_end.MixNote.{MixNote}
use Rattle.studio_ends.specs.declared.mix_end.MixEnd.{MixEnd}

-- the feeds of the mixer after its next block was returned, or was not ready
after_block : (studio : Studio) (t : MixEnd) (number : ℕ) (len : Option ℕ) (out new_out : List ℕ) (w : MixerState)
    → HasFeeds studio w (accepted_feeds studio.streams t.sides.items) number
    → (len ≡ None → t.mixer ≡ w)
    → IfSome len (λ n. (studio : Studio) (feeds : List Feed) (number : ℕ) → HasFeeds studio w feeds number → (n ≡ datagram_length studio.output) × (new_out ≡ datagram_of studio feeds number ++ drop n out) × HasFeeds studio t.mixer feeds (number + 1))
    → IfSome len (λ n. (n ≡ datagram_length studio.output) × (new_out ≡ datagram_of studio (accepted_feeds studio.streams t.sides.items) number ++ drop n out)) × MixHasFeeds studio t (number + given len)
after_block studio t number None out new_out w h none some =
    let e : number ≡ number + 0 = omega arith in
    (tt, subst (λ (m : MixerState). HasFeeds studio m (accepted_feeds studio.streams t.sides.items) (number + 0)) (sym (none refl)) (subst (HasFeeds studio w (accepted_feeds studio.streams t.sides.items)) e h))
after_block studio t number (Some n) out new_out w h none some =
    let one = some studio (accepted_feeds studio.streams t.sides.items) number h in
    ((one.0, one.1), one.2)

pub mixes : (studio : Studio) (s : MixEnd) (note : MixNote) (t : MixEnd) (number : ℕ) (out new_out : List ℕ) (w : MixerState)
    → MixHasFeeds studio s number → TakesAllMarks s.sides.items t.sides.items s.mixer w note.taken note.strange
    → ((studio : Studio) (feeds : List Feed) (number : ℕ) → HasFeeds studio w feeds number → is_some note.len ≡ is_ready studio.output feeds number)
    → (note.len ≡ None → t.mixer ≡ w)
    → IfSome note.len (λ n. (studio : Studio) (feeds : List Feed) (number : ℕ) → HasFeeds studio w feeds number → (n ≡ datagram_length studio.output) × (new_out ≡ datagram_of studio feeds number ++ drop n out) × HasFeeds studio t.mixer feeds (number + 1))
    → MixesBlock studio s note t number out new_out
mixes studio s note t number out new_out w was takes ready none some =
    let h = takes.stands studio number was in
    let after = after_block studio t number note.len out new_out w h none some in
    record {
      ready = ready studio (accepted_feeds studio.streams t.sides.items) number h;
      datagram = after.0;
      strange = takes.strange_are studio number was;
      stop = takes.stop studio number was;
      stands = after.1;
    }
