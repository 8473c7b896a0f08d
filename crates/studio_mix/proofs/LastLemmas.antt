-- The last block's values, and what is missing in it: with longer lists of marks, and after a change of gains.
use Rattle.std.proofs.Common.{◌≡◌, ◌<◌, ◌+◌, ◌*◌, ℕ, Bool, true, false, ◌&&◌, ◌||◌, ℤ, pos, ◌+ℤ◌, ◌≤ℤ◌, ◌<ℤ◌, List, [], ◌∷◌, replicate, if◌then◌else◌, refl, sym, ap, subst, ◌∙◌, arith}
use Rattle.std.proofs.lemmas.Int.{ints}
use Rattle.rtp_stream.specs.declared.stream_spec.Stream.{Stream}
use Rattle.rtp_stream.specs.StreamSpecFacts.{format_of}
use Rattle.lane_align.specs.Cover.{covers, cover_of}
use Rattle.lane_align.specs.Presence.{is_present}
use Rattle.lane_align.proofs.LawLemmas.{presence_stays}
use Rattle.gain_mix.specs.Changes.{matrix_at}
use Rattle.gain_mix.specs.Gain.{are_used}
use Rattle.gain_mix.proofs.LiveScheduleLemmas.{unchanged_before}
use Rattle.mix_packets.specs.Block.{block_start}
use Rattle.studio_config.specs.Studio.{Studio, channel_total}
use Rattle.studio_mix.specs.Changed.{with_rows}
use Rattle.studio_mix.specs.Feed.{Feed, IsLonger, AreLonger, studio_values}
use Rattle.studio_mix.specs.Last.{AreLast}
use Rattle.studio_mix.specs.Missing.{is_used, is_missing, is_heard, at_some, missing_from, heard_from, missing_in}
use Rattle.studio_mix.specs.MissingLanes.{agrees}
use Rattle.studio_mix.specs.Output.{block_inputs}
use Rattle.studio_mix.specs.Ready.{are_covered}
use Rattle.studio_io.specs.declared.mixed_block.Missing.{Missing}
use Rattle.studio_mix.proofs.LawLemmas.{covers_before, listed_on, first_longer, rest_longer, covered_before, values_longer, same_rows}
use Rattle.studio_mix.proofs.MissingLemmas.{same_in, both_left, both_right, missing_by}
use Rattle.studio_mix.proofs.MixerLemmas.{next_start}

-- the values of a block that is covered stay the same with longer lists of marks
pub inputs_longer : (studio : Studio) (feeds longer : List Feed) (n : ℕ) → AreLonger feeds longer → are_covered feeds (block_start studio.output (n + 1)) ≡ true
    → block_inputs studio longer n ≡ block_inputs studio feeds n
inputs_longer studio feeds longer n l covered =
    let out = studio.output in
    same_rows (λ f. studio_values longer (block_start out n +ℤ pos f)) (λ f. studio_values feeds (block_start out n +ℤ pos f)) 0 out.frames
    (λ f h.
    let t = block_start out n +ℤ pos (0 + f) in
    let end = next_start out n in
    let before : (t +ℤ pos 1) ≤ℤ block_start out (n + 1) = omega (arith, ints, h, end) in
    values_longer feeds longer t l (covered_before feeds (block_start out (n + 1)) (t +ℤ pos 1) before covered))

-- a stream is used, and is present or is not
abbrev wants : Bool → Studio → ℕ → Feed → ℤ → Bool
wants came studio at feed t = is_used studio at feed t && agrees came (is_present (format_of feed.stream) feed.marks t)

wants_longer : (came : Bool) (studio : Studio) (at : ℕ) (feed long : Feed) (t : ℤ) → IsLonger feed long → covers (cover_of (format_of feed.stream) feed.marks) (t +ℤ pos 1) ≡ true
    → wants came studio at long t ≡ wants came studio at feed t
wants_longer came studio at feed long t l covered =
    ap (λ (s : Stream). are_used (matrix_at studio.schedule t) at s.channels && agrees came (is_present (format_of s) long.marks t)) l.stream
    ∙ ap (λ b. is_used studio at feed t && agrees came b)
    (ap (λ m. is_present (format_of feed.stream) m t) l.marks ∙ presence_stays (format_of feed.stream) feed.marks l.more t (listed_on feed long l) covered)

some_longer : (came : Bool) (studio : Studio) (at : ℕ) (feed long : Feed) (t : ℤ) (frames : ℕ) → IsLonger feed long → covers (cover_of (format_of feed.stream) feed.marks) (t +ℤ pos frames) ≡ true
    → at_some frames t (wants came studio at long) ≡ at_some frames t (wants came studio at feed)
some_longer came studio at feed long t frames l covered =
    same_in (λ f. wants came studio at long (t +ℤ pos f)) (λ f. wants came studio at feed (t +ℤ pos f)) 0 frames
    (λ k h.
    let u = t +ℤ pos (0 + k) in
    let before : (u +ℤ pos 1) ≤ℤ (t +ℤ pos frames) = omega (arith, ints, h) in
    wants_longer came studio at feed long u l (covers_before (cover_of (format_of feed.stream) feed.marks) (t +ℤ pos frames) (u +ℤ pos 1) before covered))

-- so what is missing in the block stays the same
missing_longer : (studio : Studio) (at : ℕ) (feeds longer : List Feed) (t : ℤ) → AreLonger feeds longer → are_covered feeds (t +ℤ pos studio.output.frames) ≡ true
    → missing_from studio at longer t ≡ missing_from studio at feeds t
missing_longer studio at [] [] t l covered = refl
missing_longer studio at [] (long ∷ longer) t l covered = absurd (let e = l.count in omega (arith, e))
missing_longer studio at (feed ∷ feeds) [] t l covered = absurd (let e = l.count in omega (arith, e))
missing_longer studio at (feed ∷ feeds) (long ∷ longer) t l covered =
    let frames = studio.output.frames in
    let one = first_longer feed long feeds longer l in
    let here = both_left (covers (cover_of (format_of feed.stream) feed.marks) (t +ℤ pos frames)) (are_covered feeds (t +ℤ pos frames)) covered in
    let rest = both_right (covers (cover_of (format_of feed.stream) feed.marks) (t +ℤ pos frames)) (are_covered feeds (t +ℤ pos frames)) covered in
    ap (λ b. (if b then 1 else 0) + missing_from studio (at + long.stream.channels) longer t) (some_longer false studio at feed long t frames one here)
    ∙ ap (λ (s : Stream). (if at_some frames t (is_missing studio at feed) then 1 else 0) + missing_from studio (at + s.channels) longer t) one.stream
    ∙ ap (λ n. (if at_some frames t (is_missing studio at feed) then 1 else 0) + n) (missing_longer studio (at + feed.stream.channels) feeds longer t (rest_longer feed long feeds longer l) rest)

heard_longer : (studio : Studio) (at : ℕ) (feeds longer : List Feed) (t : ℤ) → AreLonger feeds longer → are_covered feeds (t +ℤ pos studio.output.frames) ≡ true
    → heard_from studio at longer t ≡ heard_from studio at feeds t
heard_longer studio at [] [] t l covered = refl
heard_longer studio at [] (long ∷ longer) t l covered = absurd (let e = l.count in omega (arith, e))
heard_longer studio at (feed ∷ feeds) [] t l covered = absurd (let e = l.count in omega (arith, e))
heard_longer studio at (feed ∷ feeds) (long ∷ longer) t l covered =
    let frames = studio.output.frames in
    let one = first_longer feed long feeds longer l in
    let here = both_left (covers (cover_of (format_of feed.stream) feed.marks) (t +ℤ pos frames)) (are_covered feeds (t +ℤ pos frames)) covered in
    let rest = both_right (covers (cover_of (format_of feed.stream) feed.marks) (t +ℤ pos frames)) (are_covered feeds (t +ℤ pos frames)) covered in
    ap (λ b. b || heard_from studio (at + long.stream.channels) longer t) (some_longer true studio at feed long t frames one here)
    ∙ ap (λ (s : Stream). at_some frames t (is_heard studio at feed) || heard_from studio (at + s.channels) longer t) one.stream
    ∙ ap (λ b. at_some frames t (is_heard studio at feed) || b) (heard_longer studio (at + feed.stream.channels) feeds longer t (rest_longer feed long feeds longer l) rest)

pub missing_in_longer : (studio : Studio) (feeds longer : List Feed) (n : ℕ) → AreLonger feeds longer → are_covered feeds (block_start studio.output (n + 1)) ≡ true
    → missing_in studio longer n ≡ missing_in studio feeds n
missing_in_longer studio feeds longer n l covered =
    let t = block_start studio.output n in
    let ends : are_covered feeds (t +ℤ pos studio.output.frames) ≡ true = ap (are_covered feeds) (next_start studio.output n) ∙ covered in
    ap (λ k. missing_by k (heard_from studio 0 longer t)) (missing_longer studio 0 feeds longer t l ends)
    ∙ ap (missing_by (missing_from studio 0 feeds t)) (heard_longer studio 0 feeds longer t l ends)

pub last_longer : (studio : Studio) (feeds longer : List Feed) (next : ℕ) (inputs : List ℤ) (missing : Missing) → AreLonger feeds longer
    → ((number : ℕ) → number < next → are_covered feeds (block_start studio.output (number + 1)) ≡ true)
    → AreLast studio feeds next inputs missing → AreLast studio longer next inputs missing
last_longer studio feeds longer next inputs missing l final last = record {
  inputs = λ n e. last.inputs n e ∙ sym (inputs_longer studio feeds longer n l (final n (omega (arith, e))));
  missing = λ n e. last.missing n e ∙ sym (missing_in_longer studio feeds longer n l (final n (omega (arith, e))));
  silent = last.silent;
  nothing = last.nothing;
}

-- a later change of gains changes nothing of the block
some_unchanged : (came : Bool) (studio : Studio) (change : ℤ) (rows : List (List ℤ)) (at : ℕ) (feed : Feed) (t : ℤ) (frames : ℕ) → (t +ℤ pos frames) ≤ℤ change
    → at_some frames t (wants came (with_rows studio change rows) at feed) ≡ at_some frames t (wants came studio at feed)
some_unchanged came studio change rows at feed t frames early =
    same_in (λ f. wants came (with_rows studio change rows) at feed (t +ℤ pos f)) (λ f. wants came studio at feed (t +ℤ pos f)) 0 frames
    (λ k h.
    let u = t +ℤ pos (0 + k) in
    let before : u <ℤ change = omega (arith, ints, h, early) in
    ap (λ m. are_used m at feed.stream.channels && agrees came (is_present (format_of feed.stream) feed.marks u)) (unchanged_before studio.schedule change rows u before))

missing_unchanged : (studio : Studio) (change : ℤ) (rows : List (List ℤ)) (at : ℕ) (feeds : List Feed) (t : ℤ) → (t +ℤ pos studio.output.frames) ≤ℤ change
    → missing_from (with_rows studio change rows) at feeds t ≡ missing_from studio at feeds t
missing_unchanged studio change rows at [] t early = refl
missing_unchanged studio change rows at (feed ∷ feeds) t early =
    let frames = studio.output.frames in
    ap (λ b. (if b then 1 else 0) + missing_from (with_rows studio change rows) (at + feed.stream.channels) feeds t) (some_unchanged false studio change rows at feed t frames early)
    ∙ ap (λ n. (if at_some frames t (is_missing studio at feed) then 1 else 0) + n) (missing_unchanged studio change rows (at + feed.stream.channels) feeds t early)

heard_unchanged : (studio : Studio) (change : ℤ) (rows : List (List ℤ)) (at : ℕ) (feeds : List Feed) (t : ℤ) → (t +ℤ pos studio.output.frames) ≤ℤ change
    → heard_from (with_rows studio change rows) at feeds t ≡ heard_from studio at feeds t
heard_unchanged studio change rows at [] t early = refl
heard_unchanged studio change rows at (feed ∷ feeds) t early =
    let frames = studio.output.frames in
    ap (λ b. b || heard_from (with_rows studio change rows) (at + feed.stream.channels) feeds t) (some_unchanged true studio change rows at feed t frames early)
    ∙ ap (λ b. at_some frames t (is_heard studio at feed) || b) (heard_unchanged studio change rows (at + feed.stream.channels) feeds t early)

pub missing_in_unchanged : (studio : Studio) (feeds : List Feed) (n : ℕ) (change : ℤ) (rows : List (List ℤ)) → block_start studio.output (n + 1) ≤ℤ change
    → missing_in (with_rows studio change rows) feeds n ≡ missing_in studio feeds n
missing_in_unchanged studio feeds n change rows early =
    let t = block_start studio.output n in
    let end = next_start studio.output n in
    let ends : (t +ℤ pos studio.output.frames) ≤ℤ change = omega (arith, ints, early, end) in
    ap (λ k. missing_by k (heard_from (with_rows studio change rows) 0 feeds t)) (missing_unchanged studio change rows 0 feeds t ends)
    ∙ ap (missing_by (missing_from studio 0 feeds t)) (heard_unchanged studio change rows 0 feeds t ends)

pub last_unchanged : (studio : Studio) (feeds : List Feed) (next : ℕ) (inputs : List ℤ) (missing : Missing) (change : ℤ) (rows : List (List ℤ)) → block_start studio.output next ≤ℤ change
    → AreLast studio feeds next inputs missing → AreLast (with_rows studio change rows) feeds next inputs missing
last_unchanged studio feeds next inputs missing change rows early last = record {
  inputs = last.inputs;
  missing = λ n e. last.missing n e ∙ sym (missing_in_unchanged studio feeds n change rows (subst (λ k. block_start studio.output k ≤ℤ change) e early));
  silent = last.silent;
  nothing = last.nothing;
}

-- one more block
same_before : (n number : ℕ) → n + 1 ≡ number + 1 → n ≡ number
same_before n number e = omega (arith, e)

pub last_next : (studio : Studio) (feeds : List Feed) (n : ℕ) (inputs : List ℤ) (missing : Missing)
    → inputs ≡ block_inputs studio feeds n → missing ≡ missing_in studio feeds n → AreLast studio feeds (n + 1) inputs missing
last_next studio feeds n inputs missing i m = record {
  inputs = λ number e. i ∙ ap (block_inputs studio feeds) (same_before n number e);
  missing = λ number e. m ∙ ap (missing_in studio feeds) (same_before n number e);
  silent = λ e. absurd (omega (arith, e));
  nothing = λ e. absurd (omega (arith, e));
}

-- none before the first block
pub last_none : (studio : Studio) (feeds : List Feed) (inputs : List ℤ) (missing : Missing) → inputs ≡ replicate (studio.output.frames * channel_total studio.streams) (pos 0)
    → missing ≡ record { streams = 0; is_empty = false } → AreLast studio feeds 0 inputs missing
last_none studio feeds inputs missing i m = record {
  inputs = λ number e. absurd (omega (arith, e));
  missing = λ number e. absurd (omega (arith, e));
  silent = λ e. i;
  nothing = λ e. m;
}
