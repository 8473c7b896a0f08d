-- Whole blocks: what is mixed of streams that are present wherever they are used.
use Rattle.std.proofs.Common.{◌≡◌, [], ◌∷◌, ◌++◌, ℕ, zero, suc, ◌+◌, ◌<◌, ◌≤◌, Bool, true, false, not, ◌&&◌, nat_lt, ℤ, pos, ◌+ℤ◌, ◌*ℤ◌, List, length, take, drop, map, flat_map, replicate, Option, Some, None, unwrap_or, slice_get, refl, sym, ap, subst, ◌∙◌, ◌⊎◌, arith, inl, inr}
use Rattle.std.specs.Prelude.{if◌then◌else◌, unsigned_abs, int_le, int_lt, ◌-ℤ◌}
use Rattle.std.specs.List.{list_any, range_with_len}
use Rattle.std.specs.Option.{is_some, option_or}
use Rattle.std.specs.Ordering.{int_eq}
use Rattle.std.proofs.lemmas.Int.{ints}
use Rattle.std.proofs.lemmas.Bool.{cases_Bool, false≢true, true≢false, not-true, not-false, and_parts, or_left, or_right, or_parts, or_cases}
use Rattle.std.proofs.lemmas.Bool.Decides.{Decides-int_eq}
use Rattle.std.proofs.lemmas.List.{drop-drop}
use Rattle.std.proofs.lemmas.List.FromFn.{length-map-range_with_len}
use Rattle.std.proofs.lemmas.List.Sums.{sum_by-cons}
use Rattle.rtp_wire.specs.declared.encoding.Enc.{Enc}
use Rattle.rtp_wire.specs.declared.encoding.Enc.TheVariants.{L16, L24}
use Rattle.rtp_wire.specs.Head.{Head, head_octets}
use Rattle.rtp_wire.specs.Sample.{block_octets}
use Rattle.rtp_stream.specs.MarkFacts.{MarkView}
use Rattle.rtp_stream.specs.declared.mark.PacketFormat.{PacketFormat}
use Rattle.rtp_stream.specs.declared.mark.Body.{Body}
use Rattle.rtp_stream.specs.declared.mark.MarkKind.{MarkKind}
use Rattle.rtp_stream.specs.declared.mark.MarkKind.TheVariants.{Slot, Quiet, End}
use Rattle.rtp_stream.specs.declared.stream_spec.Stream.{Stream}
use Rattle.rtp_stream.specs.StreamSpecFacts.{format_of}
use Rattle.lane_align.specs.Value.{is_within, sample_of, sample_in, sample_among, value_at, frame_at}
use Rattle.lane_align.specs.Presence.{is_present}
use Rattle.lane_align.proofs.FeedLemmas.{present_is}
use Rattle.gain_mix.specs.Changes.{matrix_at}
use Rattle.gain_mix.specs.Gain.{has_gain, are_used}
use Rattle.gain_mix.specs.Mix.{weighted_sum, rounded_sum, saturated_sum, output_sample, mixed_frame}
use Rattle.gain_mix.proofs.SilenceLemmas.{mixed_frame-silence}
use Rattle.mix_packets.specs.declared.out_spec.Output.{Output}
use Rattle.mix_packets.specs.Aligned.{aligned}
use Rattle.mix_packets.specs.OutSpec.{shift_of, IsOutput}
use Rattle.mix_packets.specs.Block.{block_start, block_head, block_datagram}
use Rattle.mix_packets.proofs.AlignedLemmas.{one-header}
use Rattle.studio_config.specs.Studio.{Studio}
use Rattle.studio_mix.specs.Feed.{Feed, studio_values}
use Rattle.studio_mix.specs.Mixed.{mixed_samples}
use Rattle.studio_mix.specs.Missing.{is_used, is_missing, is_heard, at_some, missing_from, heard_from, missing_in}
use Rattle.studio_mix.specs.Output.{datagram_of}
use Rattle.studio_mix.specs.Sound.{Sounds, HasSound, AreOfSound, sound_values, sound_samples, sound_datagram, AreTwins, channel_at, HaveSameUsed, HasAllOf}
use Rattle.studio_mix.proofs.LawLemmas.{same_rows}

-- the sum over inputs of two parts
sum_parts : (row xs ys : List ℤ) → weighted_sum row (xs ++ ys) ≡ weighted_sum (take (length xs) row) xs +ℤ weighted_sum (drop (length xs) row) ys
sum_parts row [] ys = omega (arith, ints)
sum_parts [] (x ∷ xs) ys = refl
sum_parts (g ∷ row) (x ∷ xs) ys = omega (arith, ints, sum_parts row xs ys)

-- gains that are all 0 have the sum 0, whatever the values
no_gain : (gains values : List ℤ) → has_gain gains ≡ false → weighted_sum gains values ≡ pos 0
no_gain [] values h = refl
no_gain (g ∷ gains) [] h = refl
no_gain (g ∷ gains) (v ∷ values) h =
    let parts = or_parts (not (int_eq g (pos 0))) (has_gain gains) h in
    let none : g ≡ pos 0 = (Decides-int_eq g (pos 0)).0 (not-false (int_eq g (pos 0)) parts.0) in
    let rest = no_gain gains values parts.1 in
    let zero_times : (pos 0 *ℤ v) +ℤ weighted_sum gains values ≡ pos 0 = omega (arith, ints, rest) in
    ap (λ (z : ℤ). (z *ℤ v) +ℤ weighted_sum gains values) none ∙ zero_times

-- values that are the same if one of their gains is not 0 have the same sum
same_part : (gains xs ys : List ℤ) → (has_gain gains ≡ true → xs ≡ ys) → weighted_sum gains xs ≡ weighted_sum gains ys
same_part gains xs ys same = elim (cases_Bool (has_gain gains)) [
  | inl used ↦ ap (weighted_sum gains) (same used)
  | inr unused ↦ no_gain gains xs unused ∙ sym (no_gain gains ys unused)
]

same_parts : (row xs ys more others : List ℤ) → length xs ≡ length ys → (has_gain (take (length xs) row) ≡ true → xs ≡ ys)
    → weighted_sum (drop (length xs) row) more ≡ weighted_sum (drop (length xs) row) others
    → weighted_sum row (xs ++ more) ≡ weighted_sum row (ys ++ others)
same_parts row xs ys more others len same rest =
    sum_parts row xs more
    ∙ ap (λ z. z +ℤ weighted_sum (drop (length xs) row) more) (same_part (take (length xs) row) xs ys same)
    ∙ ap (λ z. weighted_sum (take (length xs) row) ys +ℤ z) rest
    ∙ ap (λ n. weighted_sum (take n row) ys +ℤ weighted_sum (drop n row) others) len
    ∙ sym (sum_parts row ys others)

-- inputs at which the row has a gain that is not 0 are used in these rows
abbrev UsedBy : List (List ℤ) → List ℤ → Type 0
UsedBy rows row = (at count : ℕ) → has_gain (take count (drop at row)) ≡ true → are_used rows at count ≡ true

-- one stream more: its values are the same in both if it is used
one_more : (rows : List (List ℤ)) (row : List ℤ) (at count : ℕ) (xs ys more others : List ℤ) → UsedBy rows row
    → length xs ≡ count → length ys ≡ count → (are_used rows at count ≡ true → xs ≡ ys)
    → weighted_sum (drop (at + count) row) more ≡ weighted_sum (drop (at + count) row) others
    → weighted_sum (drop at row) (xs ++ more) ≡ weighted_sum (drop at row) (ys ++ others)
one_more rows row at count xs ys more others used lx ly same rest =
    let behind : drop (length xs) (drop at row) ≡ drop (at + count) row = drop-drop (length xs) at row ∙ ap (λ n. drop (at + n) row) lx in
    same_parts (drop at row) xs ys more others (lx ∙ sym ly)
    (λ h. same (used at count (ap (λ n. has_gain (take n (drop at row))) (sym lx) ∙ h)))
    (ap (λ l. weighted_sum l more) behind ∙ rest ∙ sym (ap (λ l. weighted_sum l others) behind))

-- values with the same sum in each row are mixed to the same samples
same_rows_mixed : (all rows : List (List ℤ)) (xs ys : List ℤ) (s : ℕ) → ((row : List ℤ) → UsedBy all row → weighted_sum row xs ≡ weighted_sum row ys)
    → ((at count : ℕ) → are_used rows at count ≡ true → are_used all at count ≡ true) → mixed_frame rows xs s ≡ mixed_frame rows ys s
same_rows_mixed all [] xs ys s same within = refl
same_rows_mixed all (row ∷ rows) xs ys s same within =
    ap (λ z. saturated_sum s (rounded_sum s z) ∷ mixed_frame rows xs s)
    (same row (λ at count h. within at count (or_left (has_gain (take count (drop at row))) (are_used rows at count) h)))
    ∙ ap (λ l. output_sample s ys row ∷ l)
    (same_rows_mixed all rows xs ys s same (λ at count h. within at count (or_right (has_gain (take count (drop at row))) (are_used rows at count) h)))

same_mixed : (rows : List (List ℤ)) (xs ys : List ℤ) (s : ℕ) → ((row : List ℤ) → UsedBy rows row → weighted_sum row xs ≡ weighted_sum row ys)
    → mixed_frame rows xs s ≡ mixed_frame rows ys s
same_mixed rows xs ys s same = same_rows_mixed rows rows xs ys s same (λ at count h. h)

-- what holds for none of the numbers of a range does not hold for one of them
none_in : (is : ℕ → Bool) (a n f : ℕ) → f < n → list_any is (range_with_len a n) ≡ false → is (a + f) ≡ false
none_in is a zero f h e = absurd (omega (arith, h))
none_in is a (suc n) zero h e = ap is (let same : a + 0 ≡ a = omega arith in same) ∙ (or_parts (is a) (list_any is (range_with_len (a + 1) n)) e).0
none_in is a (suc n) (suc f) h e =
    ap is (let same : a + suc f ≡ a + 1 + f = omega arith in same)
    ∙ none_in is (a + 1) n f (omega (arith, h)) (or_parts (is a) (list_any is (range_with_len (a + 1) n)) e).1

none_at : (frames : ℕ) (t : ℤ) (is : ℤ → Bool) (f : ℕ) → f < frames → at_some frames t is ≡ false → is (t +ℤ pos f) ≡ false
none_at frames t is f h e = ap (λ k. is (t +ℤ pos k)) (let same : f ≡ 0 + f = omega arith in same) ∙ none_in (λ k. is (t +ℤ pos k)) 0 frames f h e

-- functions with the same values at the numbers of a range
same_range : (p q : ℕ → ℤ) (a n : ℕ) → ((k : ℕ) → k < n → p (a + k) ≡ q (a + k)) → map p (range_with_len a n) ≡ map q (range_with_len a n)
same_range p q a zero same = refl
same_range p q a (suc n) same =
    let here : a ≡ a + 0 = omega arith in
    ap (λ x. x ∷ map p (range_with_len (a + 1) n)) (ap p here ∙ same 0 (omega arith) ∙ ap q (sym here))
    ∙ ap (λ l. q a ∷ l) (same_range p q (a + 1) n (λ k h.
    let next : a + 1 + k ≡ a + (k + 1) = omega arith in
    ap p next ∙ same (k + 1) (omega (arith, h)) ∙ ap q (sym next)))

same_below : (p q : ℕ → ℤ) (n : ℕ) → ((k : ℕ) → k < n → p k ≡ q k) → map p (range_with_len 0 n) ≡ map q (range_with_len 0 n)
same_below p q n same =
    same_range p q 0 n (λ k h.
    let plain : 0 + k ≡ k = omega arith in
    ap p plain ∙ same k h ∙ ap q (sym plain))

-- if no stream is missing, the first one is not, and no other
none_missing : (first : Bool) (rest : ℕ) → (if first then 1 else 0) + rest ≡ 0 → (first ≡ false) × (rest ≡ 0)
none_missing true rest e = absurd (omega (arith, e))
none_missing false rest e = (refl, omega (arith, e))

-- a stream that is used and not missing is present
there_if_used : (used there : Bool) → (used && not there) ≡ false → used ≡ true → there ≡ true
there_if_used used true h e = refl
there_if_used true false h e = absurd (true≢false h)
there_if_used false false h e = absurd (false≢true e)

-- the sounds of the streams after the first
rest_sound : (sound : Sounds) (feed : Feed) (feeds : List Feed) → HasSound sound (feed ∷ feeds) → HasSound (λ i. sound (suc i)) feeds
rest_sound sound feed feeds s = record { each = λ i f t k at. s.each (suc i) f t k at }

-- at a time of a whole block each row has the same sum of the values as of the sounds
sound_row : (studio : Studio) (row : List ℤ) (t : ℤ) (f : ℕ) → f < studio.output.frames → UsedBy (matrix_at studio.schedule (t +ℤ pos f)) row
    → (at : ℕ) (sound : Sounds) (feeds : List Feed) → HasSound sound feeds → missing_from studio at feeds t ≡ 0
    → weighted_sum (drop at row) (studio_values feeds (t +ℤ pos f)) ≡ weighted_sum (drop at row) (sound_values sound (map format_of (map (λ (feed : Feed). feed.stream) feeds)) (t +ℤ pos f))
sound_row studio row t f h used at sound [] s none = refl
sound_row studio row t f h used at sound (feed ∷ feeds) s none =
    let now = t +ℤ pos f in
    let count = feed.stream.channels in
    let parts = none_missing (at_some studio.output.frames t (is_missing studio at feed)) (missing_from studio (at + count) feeds t) none in
    one_more (matrix_at studio.schedule now) row at count
    (frame_at (format_of feed.stream) feed.marks now) (map (sound 0 now) (range_with_len 0 count))
    (studio_values feeds now) (sound_values (λ i. sound (suc i)) (map format_of (map (λ (feed : Feed). feed.stream) feeds)) now)
    used
    (length-map-range_with_len (value_at (format_of feed.stream) feed.marks now) 0 count)
    (length-map-range_with_len (sound 0 now) 0 count)
    (λ in_use.
    let there = there_if_used (is_used studio at feed now) (is_present (format_of feed.stream) feed.marks now) (none_at studio.output.frames t (is_missing studio at feed) f h parts.0) in_use in
    same_below (value_at (format_of feed.stream) feed.marks now) (sound 0 now) count (λ k small. s.each 0 feed now k refl small there))
    (sound_row studio row t f h used (at + count) (λ i. sound (suc i)) feeds (rest_sound sound feed feeds s) parts.1)

-- so the samples of a whole block are the senders' mix
pub whole_samples : (studio : Studio) (feeds : List Feed) (sound : Sounds) (n f : ℕ) → map (λ (feed : Feed). feed.stream) feeds ≡ studio.streams → HasSound sound feeds
    → (missing_in studio feeds n).streams ≡ 0 → f < studio.output.frames
    → mixed_samples studio feeds (block_start studio.output n +ℤ pos f) ≡ sound_samples studio sound (block_start studio.output n +ℤ pos f)
whole_samples studio feeds sound n f streams s none h =
    let t = block_start studio.output n in
    let rows = matrix_at studio.schedule (t +ℤ pos f) in
    let shift = shift_of studio.output.enc in
    same_mixed rows (studio_values feeds (t +ℤ pos f)) (sound_values sound (map format_of (map (λ (feed : Feed). feed.stream) feeds)) (t +ℤ pos f)) shift
    (λ row used. sound_row studio row t f h used 0 sound feeds s none)
    ∙ ap (λ ss. mixed_frame rows (sound_values sound (map format_of ss) (t +ℤ pos f)) shift) streams

pub whole_datagram : (studio : Studio) (feeds : List Feed) (sound : Sounds) (n : ℕ) → map (λ (feed : Feed). feed.stream) feeds ≡ studio.streams → HasSound sound feeds
    → (missing_in studio feeds n).streams ≡ 0 → datagram_of studio feeds n ≡ sound_datagram studio sound n
whole_datagram studio feeds sound n streams s none =
    let t = block_start studio.output n in
    ap (block_datagram studio.output n)
    (same_rows (λ f. mixed_samples studio feeds (t +ℤ pos f)) (λ f. sound_samples studio sound (t +ℤ pos f)) 0 studio.output.frames
    (λ f h. whole_samples studio feeds sound n (0 + f) streams s none (omega (arith, h))))

-- the datagrams of twins are the same if the samples at each time are
twin_datagram : (studio other : Studio) (n m : ℕ) (samples theirs : ℤ → List ℤ) → AreTwins studio other n m
    → ((f : ℕ) → f < studio.output.frames → theirs (block_start studio.output n +ℤ pos f) ≡ samples (block_start studio.output n +ℤ pos f))
    → block_datagram other.output m (flat_map (λ f. theirs (block_start other.output m +ℤ pos f)) (range_with_len 0 other.output.frames))
    ≡ block_datagram studio.output n (flat_map (λ f. samples (block_start studio.output n +ℤ pos f)) (range_with_len 0 studio.output.frames))
twin_datagram studio other n m samples theirs twins same =
    let t = block_start studio.output n in
    ap (λ (head : Head). head_octets head ++ block_octets other.output.enc (flat_map (λ f. theirs (block_start other.output m +ℤ pos f)) (range_with_len 0 other.output.frames))) twins.head
    ∙ ap (λ (enc : Enc). head_octets (block_head studio.output n) ++ block_octets enc (flat_map (λ f. theirs (block_start other.output m +ℤ pos f)) (range_with_len 0 other.output.frames))) twins.enc
    ∙ ap (λ (start : ℤ). block_datagram studio.output n (flat_map (λ f. theirs (start +ℤ pos f)) (range_with_len 0 other.output.frames))) twins.start
    ∙ ap (λ (frames : ℕ). block_datagram studio.output n (flat_map (λ f. theirs (t +ℤ pos f)) (range_with_len 0 frames))) twins.frames
    ∙ ap (block_datagram studio.output n)
    (same_rows (λ f. theirs (t +ℤ pos f)) (λ f. samples (t +ℤ pos f)) 0 studio.output.frames (λ f h. same (0 + f) (omega (arith, h))))

-- what is mixed of the same values
same_values : (studio other : Studio) (n m f : ℕ) (values : List ℤ) → AreTwins studio other n m → f < studio.output.frames
    → mixed_frame (matrix_at other.schedule (block_start studio.output n +ℤ pos f)) values (shift_of other.output.enc)
    ≡ mixed_frame (matrix_at studio.schedule (block_start studio.output n +ℤ pos f)) values (shift_of studio.output.enc)
same_values studio other n m f values twins h =
    let t = block_start studio.output n +ℤ pos f in
    ap (λ rows. mixed_frame rows values (shift_of other.output.enc)) (twins.matrices f h)
    ∙ ap (λ (enc : Enc). mixed_frame (matrix_at studio.schedule t) values (shift_of enc)) twins.enc

-- the senders' mix is the same for twins
sound_twins : (studio other : Studio) (n m f : ℕ) (sound : Sounds) → AreTwins studio other n m → f < studio.output.frames
    → sound_samples other sound (block_start studio.output n +ℤ pos f) ≡ sound_samples studio sound (block_start studio.output n +ℤ pos f)
sound_twins studio other n m f sound twins h =
    let t = block_start studio.output n +ℤ pos f in
    same_values studio other n m f (sound_values sound (map format_of other.streams) t) twins h
    ∙ ap (λ formats. mixed_frame (matrix_at studio.schedule t) (sound_values sound formats t) (shift_of studio.output.enc)) twins.formats

-- whole blocks of twins with one sound are the same
pub whole_twins : (studio other : Studio) (feeds others : List Feed) (sound : Sounds) (n m : ℕ) → AreTwins studio other n m
    → map (λ (feed : Feed). feed.stream) feeds ≡ studio.streams → map (λ (feed : Feed). feed.stream) others ≡ other.streams
    → HasSound sound feeds → HasSound sound others → (missing_in studio feeds n).streams ≡ 0 → (missing_in other others m).streams ≡ 0
    → datagram_of other others m ≡ datagram_of studio feeds n
whole_twins studio other feeds others sound n m twins streams theirs s r none neither =
    whole_datagram other others sound m theirs r neither
    ∙ twin_datagram studio other n m (sound_samples studio sound) (sound_samples other sound) twins (λ f h. sound_twins studio other n m f sound twins h)
    ∙ sym (whole_datagram studio feeds sound n streams s none)

-- the first of some formats has as many channels in an equal list, and the others are equal
abbrev first_channels : List PacketFormat → ℕ
first_channels [] = 0
first_channels (format ∷ formats) = format.channels

abbrev others_of : List PacketFormat → List PacketFormat
others_of [] = []
others_of (format ∷ formats) = formats

-- at a time each row has the same sum if each stream that is used has the same values
twin_row : (rows : List (List ℤ)) (row : List ℤ) (t : ℤ) → UsedBy rows row → (at : ℕ) (feeds others : List Feed)
    → map format_of (map (λ (feed : Feed). feed.stream) others) ≡ map format_of (map (λ (feed : Feed). feed.stream) feeds)
    → ((i : ℕ) (feed other : Feed) → slice_get feeds i ≡ Some feed → slice_get others i ≡ Some other
    → are_used rows (at + channel_at (map (λ (feed : Feed). feed.stream) feeds) i) feed.stream.channels ≡ true
    → frame_at (format_of other.stream) other.marks t ≡ frame_at (format_of feed.stream) feed.marks t)
    → weighted_sum (drop at row) (studio_values others t) ≡ weighted_sum (drop at row) (studio_values feeds t)
twin_row rows row t used at [] [] formats same = refl
twin_row rows row t used at [] (other ∷ others) formats same = absurd (let e = ap length formats in omega (arith, e))
twin_row rows row t used at (feed ∷ feeds) [] formats same = absurd (let e = ap length formats in omega (arith, e))
twin_row rows row t used at (feed ∷ feeds) (other ∷ others) formats same =
    let count = feed.stream.channels in
    let channels : other.stream.channels ≡ count = ap first_channels formats in
    let streams = map (λ (feed : Feed). feed.stream) feeds in
    one_more rows row at count
    (frame_at (format_of other.stream) other.marks t) (frame_at (format_of feed.stream) feed.marks t)
    (studio_values others t) (studio_values feeds t)
    used
    (length-map-range_with_len (value_at (format_of other.stream) other.marks t) 0 other.stream.channels ∙ channels)
    (length-map-range_with_len (value_at (format_of feed.stream) feed.marks t) 0 count)
    (λ in_use. same 0 feed other refl refl (ap (λ c. are_used rows c count) (let first : at + 0 ≡ at = omega arith in first) ∙ in_use))
    (twin_row rows row t used (at + count) feeds others (ap others_of formats)
    (λ i one its there here in_use.
    let sums = sum_by-cons (λ (stream : Stream). stream.channels) feed.stream (take i streams) in
    let on : at + channel_at (feed.stream ∷ streams) (suc i) ≡ at + count + channel_at streams i = omega (arith, sums) in
    same (suc i) one its there here (ap (λ c. are_used rows c one.stream.channels) on ∙ in_use)))

-- twins whose used streams have the same values have the same datagram
pub same_twins : (studio other : Studio) (feeds others : List Feed) (n m : ℕ) → AreTwins studio other n m
    → map (λ (feed : Feed). feed.stream) feeds ≡ studio.streams → map (λ (feed : Feed). feed.stream) others ≡ other.streams
    → ((f : ℕ) → f < studio.output.frames → HaveSameUsed studio feeds others (block_start studio.output n +ℤ pos f))
    → datagram_of other others m ≡ datagram_of studio feeds n
same_twins studio other feeds others n m twins streams theirs same =
    twin_datagram studio other n m (mixed_samples studio feeds) (mixed_samples other others) twins
    (λ f h.
    let t = block_start studio.output n +ℤ pos f in
    let rows = matrix_at studio.schedule t in
    same_values studio other n m f (studio_values others t) twins h
    ∙ same_mixed rows (studio_values others t) (studio_values feeds t) (shift_of studio.output.enc)
    (λ row used.
    twin_row rows row t used 0 feeds others (ap (map format_of) theirs ∙ twins.formats ∙ sym (ap (map format_of) streams))
    (λ i feed its there here in_use.
    let all = map (λ (feed : Feed). feed.stream) feeds in
    let plain : channel_at all i ≡ 0 + channel_at all i = omega arith in
    (same f h).each i feed its there here
    (ap (λ ss. are_used rows (channel_at ss i) feed.stream.channels) (sym streams) ∙ ap (λ c. are_used rows c feed.stream.channels) plain ∙ in_use))))

-- outputs that are aligned to two times have one header for the block at one media time
pub aligned_twins : (studio other : Studio) (out : Output) (time later : ℤ) (n m : ℕ) → IsOutput out
    → studio.output ≡ aligned time out → other.output ≡ aligned later out → map format_of other.streams ≡ map format_of studio.streams
    → block_start other.output m ≡ block_start studio.output n
    → ((f : ℕ) → f < studio.output.frames
    → matrix_at other.schedule (block_start studio.output n +ℤ pos f) ≡ matrix_at studio.schedule (block_start studio.output n +ℤ pos f))
    → AreTwins studio other n m
aligned_twins studio other out time later n m ok here there formats start matrices = record {
  formats = formats;
  enc = ap (λ (o : Output). o.enc) there ∙ sym (ap (λ (o : Output). o.enc) here);
  frames = ap (λ (o : Output). o.frames) there ∙ sym (ap (λ (o : Output). o.frames) here);
  head =
      let starts : block_start (aligned later out) m ≡ block_start (aligned time out) n =
      sym (ap (λ (o : Output). block_start o m) there) ∙ start ∙ ap (λ (o : Output). block_start o n) here in
      ap (λ (o : Output). block_head o m) there ∙ one-header out later time m n ok starts ∙ sym (ap (λ (o : Output). block_head o n) here);
  start = start;
  matrices = matrices;
}

-- twins that have one output
pub own_twins : (studio other : Studio) (n : ℕ) → other.output ≡ studio.output → map format_of other.streams ≡ map format_of studio.streams
    → ((f : ℕ) → f < studio.output.frames
    → matrix_at other.schedule (block_start studio.output n +ℤ pos f) ≡ matrix_at studio.schedule (block_start studio.output n +ℤ pos f))
    → AreTwins studio other n n
own_twins studio other n output formats matrices = record {
  formats = formats;
  enc = ap (λ (o : Output). o.enc) output;
  frames = ap (λ (o : Output). o.frames) output;
  head = ap (λ (o : Output). block_head o n) output;
  start = ap (λ (o : Output). block_start o n) output;
  matrices = matrices;
}

-- the first of some streams is the first of an equal list, and the others are equal
abbrev first_stream : Stream → List Stream → Stream
first_stream other [] = other
first_stream other (stream ∷ streams) = stream

abbrev other_streams : List Stream → List Stream
other_streams [] = []
other_streams (stream ∷ streams) = streams

-- what holds for one of the numbers of a range holds for one of them if something that follows from it does
any_more : (p q : ℕ → Bool) (a n : ℕ) → ((k : ℕ) → p k ≡ true → q k ≡ true) → list_any p (range_with_len a n) ≡ true → list_any q (range_with_len a n) ≡ true
any_more p q a zero more h = absurd (false≢true h)
any_more p q a (suc n) more h = elim (or_cases (p a) (list_any p (range_with_len (a + 1) n)) h) [
  | inl here ↦ or_left (q a) (list_any q (range_with_len (a + 1) n)) (more a here)
  | inr there ↦ or_right (q a) (list_any q (range_with_len (a + 1) n)) (any_more p q (a + 1) n more there)
]

-- one stream more is missing in neither, in the second alone, or in both
counted : (a b : Bool) (m n : ℕ) → (a ≡ true → b ≡ true) → m ≤ n → (if a then 1 else 0) + m ≤ (if b then 1 else 0) + n
counted true true m n more h = omega (arith, h)
counted true false m n more h = absurd (false≢true (more refl))
counted false true m n more h = omega (arith, h)
counted false false m n more h = omega (arith, h)

-- a stream that is used and not present in the second is so in the first
missing_too : (used one there other : Bool) → used ≡ one → (other ≡ true → there ≡ true) → (used && not there) ≡ true → (one && not other) ≡ true
missing_too true true false false e more h = refl
missing_too true true false true e more h = absurd (false≢true (more refl))
missing_too true true true other e more h = absurd (false≢true h)
missing_too true false there other e more h = absurd (true≢false e)
missing_too false one there other e more h = absurd (false≢true h)

rest_all : (feed one : Feed) (feeds union : List Feed) → HasAllOf (feed ∷ feeds) (one ∷ union) → HasAllOf feeds union
rest_all feed one feeds union all = record { streams = ap other_streams all.streams; present = λ i. all.present (suc i) }

-- no more streams are missing where each is present at least where it was
missing_less : (studio : Studio) (at : ℕ) (feeds union : List Feed) (t : ℤ) → HasAllOf feeds union → missing_from studio at union t ≤ missing_from studio at feeds t
missing_less studio at [] [] t all = omega arith
missing_less studio at [] (one ∷ union) t all = absurd (let e = ap length all.streams in omega (arith, e))
missing_less studio at (feed ∷ feeds) [] t all = absurd (let e = ap length all.streams in omega (arith, e))
missing_less studio at (feed ∷ feeds) (one ∷ union) t all =
    let stream : one.stream ≡ feed.stream = ap (first_stream feed.stream) all.streams in
    let rest = missing_less studio (at + feed.stream.channels) feeds union t (rest_all feed one feeds union all) in
    subst (λ (s : Stream). (if at_some studio.output.frames t (is_missing studio at one) then 1 else 0) + missing_from studio (at + s.channels) union t ≤ missing_from studio at (feed ∷ feeds) t) (sym stream)
    (counted (at_some studio.output.frames t (is_missing studio at one)) (at_some studio.output.frames t (is_missing studio at feed))
    (missing_from studio (at + feed.stream.channels) union t) (missing_from studio (at + feed.stream.channels) feeds t)
    (any_more (λ f. is_missing studio at one (t +ℤ pos f)) (λ f. is_missing studio at feed (t +ℤ pos f)) 0 studio.output.frames
    (λ f. let now = t +ℤ pos f in
    missing_too (is_used studio at one now) (is_used studio at feed now) (is_present (format_of one.stream) one.marks now) (is_present (format_of feed.stream) feed.marks now)
    (ap (λ (s : Stream). are_used (matrix_at studio.schedule now) at s.channels) stream)
    (all.present 0 feed one now refl refl)))
    rest)

pub union_missing : (studio : Studio) (feeds union : List Feed) (n : ℕ) → HasAllOf feeds union → (missing_in studio union n).streams ≤ (missing_in studio feeds n).streams
union_missing studio feeds union n all = missing_less studio 0 feeds union (block_start studio.output n) all

-- so a whole block stays what it is
pub union_datagram : (studio : Studio) (feeds union : List Feed) (sound : Sounds) (n : ℕ) → map (λ (feed : Feed). feed.stream) feeds ≡ studio.streams
    → HasAllOf feeds union → HasSound sound feeds → HasSound sound union → (missing_in studio feeds n).streams ≡ 0
    → datagram_of studio union n ≡ datagram_of studio feeds n
union_datagram studio feeds union sound n streams all s r none =
    let fewer = union_missing studio feeds union n all in
    whole_datagram studio union sound n (all.streams ∙ streams) r (omega (arith, fewer, none))
    ∙ sym (whole_datagram studio feeds sound n streams s none)

-- a stream that is used and not heard is not present
absent_if_used : (used there : Bool) → (used && there) ≡ false → used ≡ true → there ≡ false
absent_if_used used false h e = refl
absent_if_used true true h e = absurd (true≢false h)
absent_if_used false true h e = absurd (false≢true e)

no_sample : (sample : Option ℤ) → is_some sample ≡ false → unwrap_or sample (pos 0) ≡ pos 0
no_sample None h = refl
no_sample (Some x) h = absurd (true≢false h)

-- the sum of values that are all 0 is 0
zeros : (gains : List ℤ) (a n : ℕ) → weighted_sum gains (map (λ k. pos 0) (range_with_len a n)) ≡ pos 0
zeros [] a n = refl
zeros (g ∷ gains) a zero = refl
zeros (g ∷ gains) a (suc n) = omega (arith, ints, zeros gains (a + 1) n)

-- the values of a stream that is not present are all 0
absent_values : (gains : List ℤ) (feed : Feed) (t : ℤ) → is_present (format_of feed.stream) feed.marks t ≡ false
    → weighted_sum gains (frame_at (format_of feed.stream) feed.marks t) ≡ pos 0
absent_values gains feed t absent =
    ap (weighted_sum gains) (same_below (value_at (format_of feed.stream) feed.marks t) (λ k. pos 0) feed.stream.channels
    (λ k h. no_sample (sample_among (format_of feed.stream) feed.marks t k) (sym (present_is (format_of feed.stream) feed.marks t k) ∙ absent)))
    ∙ zeros gains 0 feed.stream.channels

no_values : (gains : List ℤ) → weighted_sum gains [] ≡ pos 0
no_values [] = refl
no_values (g ∷ gains) = refl

-- at a time of a block in which no stream is heard each row has the sum 0
silent_row : (studio : Studio) (row : List ℤ) (t : ℤ) (f : ℕ) → f < studio.output.frames → UsedBy (matrix_at studio.schedule (t +ℤ pos f)) row
    → (at : ℕ) (feeds : List Feed) → heard_from studio at feeds t ≡ false → weighted_sum (drop at row) (studio_values feeds (t +ℤ pos f)) ≡ pos 0
silent_row studio row t f h used at [] none = no_values (drop at row)
silent_row studio row t f h used at (feed ∷ feeds) none =
    let now = t +ℤ pos f in
    let count = feed.stream.channels in
    let values = frame_at (format_of feed.stream) feed.marks now in
    let gains = take (length values) (drop at row) in
    let parts = or_parts (at_some studio.output.frames t (is_heard studio at feed)) (heard_from studio (at + count) feeds t) none in
    let long : length values ≡ count = length-map-range_with_len (value_at (format_of feed.stream) feed.marks now) 0 count in
    let behind : drop (length values) (drop at row) ≡ drop (at + count) row = drop-drop (length values) at row ∙ ap (λ n. drop (at + n) row) long in
    let first : weighted_sum gains values ≡ pos 0 = elim (cases_Bool (has_gain gains)) [
      | inl some ↦
          absent_values gains feed now
          (absent_if_used (is_used studio at feed now) (is_present (format_of feed.stream) feed.marks now)
          (none_at studio.output.frames t (is_heard studio at feed) f h parts.0)
          (used at count (ap (λ n. has_gain (take n (drop at row))) (sym long) ∙ some)))
      | inr all_zero ↦ no_gain gains values all_zero
    ] in
    let rest : weighted_sum (drop (length values) (drop at row)) (studio_values feeds now) ≡ pos 0 =
    ap (λ l. weighted_sum l (studio_values feeds now)) behind ∙ silent_row studio row t f h used (at + count) feeds parts.1 in
    sum_parts (drop at row) values (studio_values feeds now)
    ∙ ap (λ z. z +ℤ weighted_sum (drop (length values) (drop at row)) (studio_values feeds now)) first
    ∙ ap (λ z. pos 0 +ℤ z) rest

shift_is : (enc : Enc) → (shift_of enc ≡ 16) ⊎ (shift_of enc ≡ 24)
shift_is L16 = inr refl
shift_is L24 = inl refl

-- so the samples of an empty block are all 0
pub silent_samples : (studio : Studio) (feeds : List Feed) (n f : ℕ) → (missing_in studio feeds n).is_empty ≡ true → f < studio.output.frames
    → mixed_samples studio feeds (block_start studio.output n +ℤ pos f)
    ≡ replicate (length (matrix_at studio.schedule (block_start studio.output n +ℤ pos f))) (pos 0)
silent_samples studio feeds n f empty h =
    let t = block_start studio.output n in
    let rows = matrix_at studio.schedule (t +ℤ pos f) in
    let shift = shift_of studio.output.enc in
    let parts = and_parts (nat_lt 0 (missing_from studio 0 feeds t)) (not (heard_from studio 0 feeds t)) empty in
    same_mixed rows (studio_values feeds (t +ℤ pos f)) [] shift
    (λ row used. silent_row studio row t f h used 0 feeds (not-true (heard_from studio 0 feeds t) parts.1) ∙ sym (no_values row))
    ∙ mixed_frame-silence rows 0 shift (shift_is studio.output.enc)

-- a sample at a time is that of a packet's frame
sample_within : (format : PacketFormat) (media : ℤ) (body : Body) (t : ℤ) (k : ℕ) (x : ℤ) (p : ℤ → ℤ) → ((f : ℕ) → f < format.frames → sample_of format body f k ≡ Some x → x ≡ p (media +ℤ pos f))
    → (within : Bool) → is_within format.frames media t ≡ within → (if within then sample_of format body (unsigned_abs (t -ℤ media)) k else None) ≡ Some x → x ≡ p t
sample_within format media body t k x p packet true is h =
    let parts = and_parts (int_le media t) (int_lt t (media +ℤ pos format.frames)) is in
    let f = unsigned_abs (t -ℤ media) in
    let same : media +ℤ pos f ≡ t = omega (arith, ints, parts.0) in
    packet f (omega (arith, ints, parts.0, parts.1)) h ∙ ap p same
sample_within format media body t k x p packet false is h = absurd (false≢true (ap is_some h))

sample_of_mark : (format : PacketFormat) (kind : MarkKind) (t : ℤ) (k : ℕ) (x : ℤ) (p : ℤ → ℤ)
    → ((epoch number : ℕ) (media : ℤ) (body : Body) (f : ℕ) → kind ≡ Slot epoch number media body → f < format.frames → sample_of format body f k ≡ Some x → x ≡ p (media +ℤ pos f))
    → sample_in format kind t k ≡ Some x → x ≡ p t
sample_of_mark format (Slot epoch number media body) t k x p packet h =
    sample_within format media body t k x p (λ f. packet epoch number media body f refl) (is_within format.frames media t) refl h
sample_of_mark format (Quiet until) t k x p packet h = absurd (false≢true (ap is_some h))
sample_of_mark format End t k x p packet h = absurd (false≢true (ap is_some h))

one_of : (o rest : Option ℤ) (x : ℤ) → option_or o rest ≡ Some x → (o ≡ Some x) ⊎ (rest ≡ Some x)
one_of (Some y) rest x h = inl h
one_of None rest x h = inr h

sample_of_marks : (format : PacketFormat) (marks : List MarkView) (t : ℤ) (k : ℕ) (x : ℤ) (p : ℤ → ℤ)
    → ((j : ℕ) (mark : MarkView) (epoch number : ℕ) (media : ℤ) (body : Body) (f : ℕ) → slice_get marks j ≡ Some mark → mark.kind ≡ Slot epoch number media body
    → f < format.frames → sample_of format body f k ≡ Some x → x ≡ p (media +ℤ pos f))
    → sample_among format marks t k ≡ Some x → x ≡ p t
sample_of_marks format [] t k x p packets h = absurd (false≢true (ap is_some h))
sample_of_marks format (mark ∷ marks) t k x p packets h = elim (one_of (sample_in format mark.kind t k) (sample_among format marks t k) x h) [
  | inl here ↦ sample_of_mark format mark.kind t k x p (λ epoch number media body f. packets 0 mark epoch number media body f refl) here
  | inr later ↦ sample_of_marks format marks t k x p (λ j. packets (suc j)) later
]

some_value : (o : Option ℤ) (v : ℤ) → is_some o ≡ true → ((x : ℤ) → o ≡ Some x → x ≡ v) → unwrap_or o (pos 0) ≡ v
some_value (Some x) v h each = each x refl
some_value None v h each = absurd (false≢true h)

-- where the samples of all packets are the sound's, the values of a stream that is present are
pub packets_sound : (feeds : List Feed) (sound : Sounds) → AreOfSound sound feeds → HasSound sound feeds
packets_sound feeds sound packets = record {
  each = λ i feed t k at small there.
      let format = format_of feed.stream in
      some_value (sample_among format feed.marks t k) (sound i t k) (sym (present_is format feed.marks t k) ∙ there)
      (λ x is. sample_of_marks format feed.marks t k x (λ u. sound i u k)
      (λ j mark epoch number media body f found slot within. packets.each i j feed mark epoch number media body f k x at found slot within small) is);
}
