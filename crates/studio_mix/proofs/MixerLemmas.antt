-- The calls of a mixer, and the marks that it was fed.
use Rattle.std.proofs.Common.{◌≡◌, ◌≢◌, [], ◌∷◌, ◌++◌, ℕ, ◌+◌, ◌*◌, ◌<◌, ℤ, pos, ◌+ℤ◌, List, length, get_or, set, Some, slice_get, refl, sym, ap, subst, ◌∙◌, arith, inl, inr}
use Rattle.std.proofs.lemmas.Int.{ints}
use Rattle.std.proofs.lemmas.Option.{slice_get_read, slice_get_within, get_or_from_slice_get}
use Rattle.std.proofs.lemmas.List.{get_or-set_same, get_or-set_other, length-set}
use Rattle.std.proofs.lemmas.Bool.{cases_eq}
use Rattle.std.proofs.Math.Seq.{map-set_same}
use Rattle.rtp_stream.specs.MarkFacts.{MarkView}
use Rattle.lane_align.specs.Lane.{LaneState, HasFeed}
use Rattle.mix_packets.specs.declared.out_spec.Output.{Output}
use Rattle.mix_packets.specs.Block.{block_start}
use Rattle.studio_config.specs.Studio.{Studio}
use Rattle.studio_mix.specs.Feed.{Feed}
use Rattle.studio_mix.specs.Lanes.{AreFed}
use Rattle.studio_mix.specs.Mixer.{MixerState, HasFeeds, IsMixer}
use Rattle.studio_mix.specs.Saturated.{AreSaturated}
use Rattle.studio_mix.specs.Last.{AreLast}

-- a block ends where the next one begins
pub next_start : (out : Output) (n : ℕ) → block_start out n +ℤ pos out.frames ≡ block_start out (n + 1)
next_start out n = let e : (n + 1) * out.frames ≡ n * out.frames + out.frames = omega arith in omega (arith, ints, e)

pub block_begin : (studio : Studio) (mixer : MixerState) (feeds : List Feed) (n : ℕ) (out : Output) (time : ℤ) (one ins outs : List ℤ)
    → IsMixer mixer out time one ins outs → HasFeeds studio mixer feeds n → time ≡ block_start studio.output n
block_begin studio mixer feeds n out time one ins outs sound fed =
    sound.time_is ∙ ap (λ o. block_start o mixer.packer.number) (sound.out_is ∙ fed.output) ∙ ap (block_start studio.output) fed.number

pub block_end : (studio : Studio) (mixer : MixerState) (feeds : List Feed) (n : ℕ) (out : Output) (time : ℤ) (one ins outs : List ℤ)
    → IsMixer mixer out time one ins outs → HasFeeds studio mixer feeds n → (time +ℤ pos out.frames) ≡ block_start studio.output (n + 1)
block_end studio mixer feeds n out time one ins outs sound fed =
    ap (λ t. t +ℤ pos out.frames) (block_begin studio mixer feeds n out time one ins outs sound fed)
    ∙ ap (λ (o : Output). block_start studio.output n +ℤ pos o.frames) (sound.out_is ∙ fed.output)
    ∙ next_start studio.output n

-- the element at a place that was written
pub set_same_at : {X : Type 0} (xs : List X) (i : ℕ) (v w : X) → i < length xs → slice_get (set xs i v) i ≡ Some w → w ≡ v
set_same_at xs i v w h e = sym (get_or_from_slice_get (set xs i v) i w w e) ∙ get_or-set_same xs i v w h

pub set_other_at : {X : Type 0} (xs : List X) (i j : ℕ) (v w : X) → j ≢ i → slice_get (set xs i v) j ≡ Some w → slice_get xs j ≡ Some w
set_other_at xs i j v w ne e =
    let within : j < length (set xs i v) = slice_get_within (set xs i v) j w e in
    let len : length (set xs i v) ≡ length xs = length-set xs i v in
    slice_get_read xs (length xs) j w refl (omega arith) (sym (get_or_from_slice_get (set xs i v) j w w e) ∙ get_or-set_other xs i j v w ne)

-- each lane was fed its stream's marks, and has come to a time of its own
pub record AreFedTo (from : ℤ) (size : ℕ) (lanes : List LaneState) (feeds : List Feed) (time : ℕ → ℤ) : Type 0 where
  pub count : length lanes ≡ length feeds
  pub each : (i : ℕ) (lane : LaneState) (feed : Feed) → slice_get lanes i ≡ Some lane → slice_get feeds i ≡ Some feed
      → HasFeed feed.stream from size lane feed.marks (time i)

-- the lane of a feed
pub lane_within : (lanes : List LaneState) (feeds : List Feed) (i : ℕ) (feed : Feed) → length lanes ≡ length feeds → slice_get feeds i ≡ Some feed → i < length lanes
lane_within lanes feeds i feed count at = let within : i < length feeds = slice_get_within feeds i feed at in omega arith

pub fed_at : (from : ℤ) (size : ℕ) (lanes : List LaneState) (feeds : List Feed) (time : ℕ → ℤ) (i : ℕ) (lane : LaneState) (feed : Feed)
    → AreFedTo from size lanes feeds time → lane ≡ get_or lanes i lane → slice_get feeds i ≡ Some feed
    → HasFeed feed.stream from size lane feed.marks (time i)
fed_at from size lanes feeds time i lane feed fed read at =
    fed.each i lane feed (slice_get_read lanes (length lanes) i lane refl (lane_within lanes feeds i feed fed.count at) read) at

-- one lane was fed a mark, or was read
pub fed_set : (from : ℤ) (size : ℕ) (lanes : List LaneState) (feeds : List Feed) (time later : ℕ → ℤ) (i : ℕ) (lane : LaneState) (feed next : Feed)
    → AreFedTo from size lanes feeds time → slice_get feeds i ≡ Some feed
    → HasFeed next.stream from size lane next.marks (later i) → ((j : ℕ) → j ≢ i → later j ≡ time j)
    → AreFedTo from size (set lanes i lane) (set feeds i next) later
fed_set from size lanes feeds time later i lane feed next fed at new same = record {
  count = length-set lanes i lane ∙ fed.count ∙ sym (length-set feeds i next);
  each = λ j l f l_is f_is.
      elim (cases_eq j i) [
        | inl e ↦
            let in_lanes : i < length lanes = lane_within lanes feeds i feed fed.count at in
            let in_feeds : i < length feeds = slice_get_within feeds i feed at in
            let l' : l ≡ lane = set_same_at lanes i lane l in_lanes (subst (λ k. slice_get (set lanes i lane) k ≡ Some l) e l_is) in
            let f' : f ≡ next = set_same_at feeds i next f in_feeds (subst (λ k. slice_get (set feeds i next) k ≡ Some f) e f_is) in
            subst (λ k. HasFeed f.stream from size l f.marks (later k)) (sym e)
            (subst (λ m. HasFeed f.stream from size m f.marks (later i)) (sym l')
            (subst (λ (g : Feed). HasFeed g.stream from size lane g.marks (later i)) (sym f') new))
        | inr ne ↦ subst (HasFeed f.stream from size l f.marks) (sym (same j ne))
            (fed.each j l f (set_other_at lanes i j lane l ne l_is) (set_other_at feeds i j next f ne f_is))
      ];
}

pub all_at : (from : ℤ) (size : ℕ) (lanes : List LaneState) (feeds : List Feed) (t : ℤ) → AreFed from size lanes feeds t → AreFedTo from size lanes feeds (λ i. t)
all_at from size lanes feeds t fed = record { count = fed.count; each = fed.each }

-- one more mark was fed
pub fed_more : (studio : Studio) (mixer : MixerState) (feeds : List Feed) (n i : ℕ) (lane : LaneState) (feed : Feed) (mark : MarkView)
    → HasFeeds studio mixer feeds n → slice_get feeds i ≡ Some feed
    → HasFeed feed.stream studio.output.start studio.output.frames lane (feed.marks ++ mark ∷ []) (block_start studio.output n)
    → AreSaturated studio (set feeds i (record { stream = feed.stream; marks = feed.marks ++ mark ∷ [] })) n mixer.saturated
    → AreLast studio (set feeds i (record { stream = feed.stream; marks = feed.marks ++ mark ∷ [] })) n mixer.inputs mixer.missing
    → HasFeeds studio (record mixer { lanes = set mixer.lanes i lane }) (set feeds i (record { stream = feed.stream; marks = feed.marks ++ mark ∷ [] })) n
fed_more studio mixer feeds n i lane feed mark fed at new counted last =
    let next : Feed = record { stream = feed.stream; marks = feed.marks ++ mark ∷ [] } in
    let t = block_start studio.output n in
    let lanes = fed_set studio.output.start studio.output.frames mixer.lanes feeds (λ i. t) (λ i. t) i lane feed next (all_at _ _ _ _ _ fed.lanes) at new (λ j ne. refl) in
    record {
      output = fed.output;
      schedule = fed.schedule;
      width = fed.width;
      number = fed.number;
      streams = map-set_same (λ (f : Feed). f.stream) feeds i next feed (ap (λ (f : Feed). f.stream) (sym (get_or_from_slice_get feeds i feed feed at))) ∙ fed.streams;
      lanes = record { count = lanes.count; each = lanes.each };
      saturated = counted;
      last = last;
    }
