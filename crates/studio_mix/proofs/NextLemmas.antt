-- A block is mixed and written, and the next one begins.
use Rattle.std.proofs.Common.{◌≡◌, ◌++◌, ℕ, zero, suc, ◌+◌, ◌*◌, ◌^◌, ◌<◌, ℤ, pos, negsuc, ◌+ℤ◌, ◌≤ℤ◌, List, length, get_or, take, drop, flat_map, All, refl, sym, ap, subst, ◌∙◌, arith}
use Rattle.std.proofs.lemmas.Int.{ints}
use Rattle.std.specs.List.{range_with_len}
use Rattle.std.proofs.lemmas.List.{take_at}
use Rattle.std.proofs.lemmas.List.Elements.{All-append, All-map, All-nil}
use Rattle.rtp_wire.specs.declared.encoding.Enc.{Enc}
use Rattle.rtp_wire.specs.declared.encoding.Enc.TheVariants.{L16, L24}
use Rattle.rtp_wire.specs.Sample.{FitsEncoding}
use Rattle.lane_align.specs.Lane.{LaneState}
use Rattle.gain_mix.specs.Changes.{Changes, matrix_at, rest_at}
use Rattle.gain_mix.proofs.LiveScheduleLemmas.{rest_rest}
use Rattle.gain_mix.specs.Gain.{ins_of}
use Rattle.gain_mix.specs.Mix.{Is24Bits, IsMixed, mixed_frame, output_sample, rounded_sum, saturated_sum, weighted_sum}
use Rattle.mix_packets.specs.declared.out_spec.Output.{Output}
use Rattle.mix_packets.specs.OutSpec.{shift_of}
use Rattle.mix_packets.specs.Block.{block_start, block_datagram}
use Rattle.mix_packets.specs.Packer.{PackerState}
use Rattle.studio_config.specs.Studio.{Studio}
use Rattle.studio_mix.specs.Feed.{Feed}
use Rattle.studio_mix.specs.Output.{block_samples, datagram_of}
use Rattle.studio_mix.specs.Lanes.{AreFed, IsLaneAt, lane_channels}
use Rattle.studio_mix.specs.Mixer.{MixerState, HasFeeds, IsMixer}
use Rattle.studio_io.specs.declared.mixed_block.Missing.{Missing}
use Rattle.studio_mix.specs.Last.{AreLast}
use Rattle.studio_mix.specs.Saturated.{AreSaturated}
use Rattle.studio_mix.proofs.RowLemmas.{rows_whole}
use Rattle.studio_mix.proofs.MixerLemmas.{next_start}

-- the first elements of a buffer after they were written
pub lent : {X : Type 0} (n k : ℕ) (xs ys : List X) → length xs ≡ n → take n (xs ++ drop k ys) ≡ xs
lent n k xs ys len = take_at xs (drop k ys) n len

-- a saturated sum is a sample of the output's encoding
sample_fits : (enc : Enc) (z : ℤ) → FitsEncoding enc (saturated_sum (shift_of enc) z)
sample_fits L16 (pos n) = record { low = omega (arith, ints); high = omega (arith, ints) }
sample_fits L16 (negsuc n) = record { low = omega (arith, ints); high = omega (arith, ints) }
sample_fits L24 (pos n) = record { low = omega (arith, ints); high = omega (arith, ints) }
sample_fits L24 (negsuc n) = record { low = omega (arith, ints); high = omega (arith, ints) }

frame_fits : (enc : Enc) (rows : List (List ℤ)) (values : List ℤ) → All (FitsEncoding enc) (mixed_frame rows values (shift_of enc))
frame_fits enc rows values = All-map (FitsEncoding enc) (output_sample (shift_of enc) values) rows (λ k d h. sample_fits enc (rounded_sum (shift_of enc) (weighted_sum (get_or rows k d) values)))

rows_fit : (enc : Enc) (row : ℕ → List ℤ) (a n : ℕ) → ((k : ℕ) → All (FitsEncoding enc) (row k)) → All (FitsEncoding enc) (flat_map row (range_with_len a n))
rows_fit enc row a zero each = All-nil (FitsEncoding enc)
rows_fit enc row a (suc n) each = All-append (FitsEncoding enc) (row a) (flat_map row (range_with_len (a + 1) n)) (each a) (rows_fit enc row (a + 1) n each)

-- the samples that were mixed, frame by frame, from known values
pub mixed_rows : (schedule : Changes) (t : ℤ) (ins outs : List ℤ) (frames s width height : ℕ) (values : ℕ → List ℤ)
    → IsMixed (λ f. matrix_at schedule (t +ℤ pos f)) ins outs frames s
    → ((u : ℤ) → length (matrix_at schedule u) ≡ height) → ((u : ℤ) → ins_of (matrix_at schedule u) ≡ width) → length outs ≡ frames * height
    → ((f : ℕ) → f < frames → take width (drop (f * width) ins) ≡ values f)
    → outs ≡ flat_map (λ f. mixed_frame (matrix_at schedule (t +ℤ pos f)) (values f) s) (range_with_len 0 frames)
mixed_rows schedule t ins outs frames s width height values mixed high wide len known =
    rows_whole height (λ f. mixed_frame (matrix_at schedule (t +ℤ pos f)) (values f) s) 0 frames outs len
    (λ f h.
    ap (λ k. take k (drop (f * k) outs)) (sym (high (t +ℤ pos f)))
    ∙ mixed f h
    ∙ ap (λ k. mixed_frame (matrix_at schedule (t +ℤ pos f)) (take k (drop (f * k) ins)) s) (wide (t +ℤ pos f))
    ∙ ap (λ l. mixed_frame (matrix_at schedule (t +ℤ pos f)) l s) (known f h)
    ∙ ap (λ k. mixed_frame (matrix_at schedule (t +ℤ pos k)) (values k) s) (let e : f ≡ 0 + f = omega arith in e))

-- the samples that were mixed fit the output's encoding
pub mixed_fits : (enc : Enc) (schedule : Changes) (t : ℤ) (ins outs : List ℤ) (frames s width height : ℕ)
    → s ≡ shift_of enc → IsMixed (λ f. matrix_at schedule (t +ℤ pos f)) ins outs frames s
    → ((u : ℤ) → length (matrix_at schedule u) ≡ height) → ((u : ℤ) → ins_of (matrix_at schedule u) ≡ width) → length outs ≡ frames * height
    → All (FitsEncoding enc) outs
mixed_fits enc schedule t ins outs frames s width height shift mixed high wide len =
    subst (All (FitsEncoding enc)) (sym (mixed_rows schedule t ins outs frames (shift_of enc) width height (λ f. take width (drop (f * width) ins)) (subst (λ k. IsMixed (λ f. matrix_at schedule (t +ℤ pos f)) ins outs frames k) shift mixed) high wide len (λ f h. refl)))
    (rows_fit enc (λ f. mixed_frame (matrix_at schedule (t +ℤ pos f)) (take width (drop (f * width) ins)) (shift_of enc)) 0 frames (λ k. frame_fits enc (matrix_at schedule (t +ℤ pos k)) (take width (drop (k * width) ins))))

-- the mixer has come to the next block
pub next_fed : (studio : Studio) (mixer : MixerState) (feeds : List Feed) (n : ℕ) (lanes : List LaneState) (packer : PackerState) (counts : List ℕ) (inputs : List ℤ) (missing : Missing) (schedule : Changes)
    → HasFeeds studio mixer feeds n → packer ≡ record { spec = mixer.packer.spec; number = mixer.packer.number + 1 }
    → AreFed studio.output.start studio.output.frames lanes feeds (block_start studio.output n +ℤ pos studio.output.frames)
    → AreSaturated studio feeds (n + 1) counts → AreLast studio feeds (n + 1) inputs missing
    → schedule ≡ rest_at mixer.schedule (block_start studio.output (n + 1)) → ins_of schedule.first ≡ ins_of mixer.schedule.first
    → HasFeeds studio (record { lanes = lanes; schedule = schedule; packer = packer; saturated = counts; inputs = inputs; missing = missing }) feeds (n + 1)
next_fed studio mixer feeds n lanes packer counts inputs missing schedule fed e moved counted last passed wide = record {
  output = ap (λ (p : PackerState). p.spec) e ∙ fed.output;
  schedule =
      passed
      ∙ ap (λ (s : Changes). rest_at s (block_start studio.output (n + 1))) fed.schedule
      ∙ rest_rest studio.schedule.later (block_start studio.output n) (block_start studio.output (n + 1)) (let end = next_start studio.output n in omega (arith, ints, end)) studio.schedule.first;
  width = wide ∙ fed.width;
  number = ap (λ (p : PackerState). p.number) e ∙ ap (λ k. k + 1) fed.number;
  streams = fed.streams;
  lanes = subst (AreFed studio.output.start studio.output.frames lanes feeds) (next_start studio.output n) moved;
  saturated = counted;
  last = last;
}

-- the mixer at the next block is sound
pub next_sound : (mixer : MixerState) (out : Output) (time : ℤ) (one ins outs : List ℤ) (lanes : List LaneState) (packer : PackerState) (one' ins' outs' : List ℤ) (later : ℤ) (counts : List ℕ) (missing : Missing) (schedule : Changes)
    → IsMixer mixer out time one ins outs → time ≤ℤ pos (2 ^ 61 + 192)
    → packer ≡ record { spec = mixer.packer.spec; number = mixer.packer.number + 1 } → later ≡ time +ℤ pos out.frames
    → All (IsLaneAt out.frames (time +ℤ pos out.frames)) lanes → length lanes ≡ length mixer.lanes → lane_channels lanes ≡ lane_channels mixer.lanes
    → length one' ≡ length one → length ins' ≡ length ins → length outs' ≡ length outs → All Is24Bits ins' → length counts ≡ length mixer.saturated
    → length schedule.first ≡ length mixer.schedule.first → ins_of schedule.first ≡ ins_of mixer.schedule.first
    → IsMixer (record { lanes = lanes; schedule = schedule; packer = packer; saturated = counts; inputs = ins'; missing = missing }) out later one' ins' outs'
next_sound mixer out time one ins outs lanes packer one' ins' outs' later counts missing schedule sound early e later_is each count channels len_one len_ins len_outs in_24_bits len_counts high wide = record {
  out_is = sound.out_is ∙ sym (ap (λ (p : PackerState). p.spec) e);
  out_ok = sound.out_ok;
  time_is = later_is ∙ ap (λ t. t +ℤ pos out.frames) sound.time_is ∙ next_start out mixer.packer.number ∙ ap (block_start out) (sym (ap (λ (p : PackerState). p.number) e));
  not_late = let few = sound.out_ok.few_frames in omega (arith, ints, few, early, later_is);
  each_lane = subst (λ t. All (IsLaneAt out.frames t) lanes) (sym later_is) each;
  some_lanes = let s = sound.some_lanes in omega (arith, s, count);
  width = wide ∙ sound.width ∙ sym channels;
  height = high ∙ sound.height;
  one_length = len_one ∙ sound.one_length;
  ins_length = len_ins ∙ sound.ins_length ∙ ap (λ w. out.frames * w) (sym wide);
  outs_length = len_outs ∙ sound.outs_length;
  in_24_bits = in_24_bits;
  counts = len_counts ∙ sound.counts;
}

-- the datagram of the block, from the samples
pub next_datagram : (studio : Studio) (mixer : MixerState) (feeds : List Feed) (n : ℕ) (outs : List ℤ) → HasFeeds studio mixer feeds n
    → outs ≡ block_samples studio feeds n → block_datagram mixer.packer.spec mixer.packer.number outs ≡ datagram_of studio feeds n
next_datagram studio mixer feeds n outs fed e =
    ap (λ o. block_datagram o mixer.packer.number outs) fed.output ∙ ap (λ k. block_datagram studio.output k outs) fed.number ∙ ap (block_datagram studio.output n) e
