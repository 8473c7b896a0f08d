-- Lanes that are read one after another, with their values next to one another in each frame.
use Rattle.std.proofs.Common.{◌≡◌, ◌≢◌, [], ◌∷◌, ◌++◌, ℕ, zero, suc, ◌+◌, ◌*◌, ◌<◌, ◌≤◌, true, false, nat_lt, if◌then◌else◌, ℤ, pos, ◌+ℤ◌, List, length, get_or, set, take, drop, Some, slice_get, All, refl, sym, ap, subst, ◌∙◌, arith, inl, inr, below_more}
use Rattle.std.proofs.lemmas.Bool.{cases_lt}
use Rattle.std.proofs.lemmas.Bool.Decides.{nat_tests}
use Rattle.std.proofs.lemmas.Grind.{flat_map-append}
use Rattle.std.proofs.lemmas.Option.{slice_get_within, get_or_from_slice_get}
use Rattle.std.proofs.lemmas.List.{take_all, take_more, append-nil, get_or-set_same, get_or-set_other, set-get_or, length-set}
use Rattle.std.proofs.lemmas.List.FromFn.{length-map-range_with_len}
use Rattle.std.proofs.lemmas.List.Sums.{sum_by_more, sum_by-set}
use Rattle.std.proofs.Math.Seq.{map-set_same}
use Rattle.rtp_stream.specs.declared.stream_spec.Stream.{Stream}
use Rattle.rtp_stream.specs.StreamSpecFacts.{format_of}
use Rattle.rtp_stream.specs.MarkFacts.{MarkView}
use Rattle.rtp_stream.specs.declared.mark.PacketFormat.{PacketFormat}
use Rattle.lane_align.specs.Value.{frame_at, frames_from, value_at}
use Rattle.lane_align.specs.Presence.{presence_from}
use Rattle.lane_align.specs.Lane.{LaneState, HasFeed, HasSameFacts}
use Rattle.gain_mix.specs.Mix.{Is24Bits}
use Rattle.studio_mix.specs.Feed.{Feed, studio_values}
use Rattle.studio_mix.specs.Lanes.{AreFed, AreRead, IsLaneAt, lane_channels}
use Rattle.studio_mix.specs.LaneCapacity.{capacities_of}
use Rattle.studio_mix.proofs.MixerLemmas.{AreFedTo, fed_set, fed_at, set_same_at, set_other_at}
use Rattle.studio_mix.proofs.RowLemmas.{row_at}

-- the time of lane `k`, once the first `i` lanes were read
abbrev pub moved_to : ℤ → ℕ → ℕ → ℕ → ℤ
moved_to t size i k = if nat_lt k i then t +ℤ pos size else t

moved_here : (t : ℤ) (size i k : ℕ) → k < i → moved_to t size i k ≡ t +ℤ pos size
moved_here t size i k h = let e : nat_lt k i ≡ true = grind (arith, nat_tests) in ap (λ b. if b then t +ℤ pos size else t) e

not_moved : (t : ℤ) (size i k : ℕ) → i ≤ k → moved_to t size i k ≡ t
not_moved t size i k h = let e : nat_lt k i ≡ false = grind (arith, nat_tests) in ap (λ b. if b then t +ℤ pos size else t) e

others_same : (t : ℤ) (size i j : ℕ) → j ≢ i → moved_to t size (i + 1) j ≡ moved_to t size i j
others_same t size i j ne = elim (cases_lt j i) [
  | inl h ↦ moved_here t size (i + 1) j (omega arith) ∙ sym (moved_here t size i j h)
  | inr h ↦ not_moved t size (i + 1) j (omega arith) ∙ sym (not_moved t size i j h)
]

-- the first `i` lanes have the presence of their streams in the block from a time on
abbrev pub ArePresentTo : ℕ → List LaneState → List Feed → ℤ → ℕ → Type 0
ArePresentTo frames lanes feeds t i = (k : ℕ) (lane : LaneState) (feed : Feed) → k < i → slice_get lanes k ≡ Some lane → slice_get feeds k ≡ Some feed
    → lane.present ≡ presence_from (format_of feed.stream) feed.marks t frames

-- the first `i` lanes were read, and their values placed in the frames
pub record IsRead (first lanes : List LaneState) (ins : List ℤ) (frames width at i : ℕ) : Type 0 where
  pub at_is : at ≡ lane_channels (take i first)
  pub count : length lanes ≡ length first
  pub others : (k : ℕ) (d : LaneState) → i ≤ k → get_or lanes k d ≡ get_or first k d
  pub moved : (time : ℤ) → All (IsLaneAt frames time) first → (k : ℕ) (d : LaneState) → k < i → k < length lanes → IsLaneAt frames (time +ℤ pos frames) (get_or lanes k d)
  pub channels : lane_channels lanes ≡ lane_channels first
  pub capacities : capacities_of lanes ≡ capacities_of first
  pub fed : (from : ℤ) (feeds : List Feed) (t : ℤ) → AreFed from frames first feeds t → AreFedTo from frames lanes feeds (moved_to t frames i)
  pub laid : (from : ℤ) (feeds : List Feed) (t : ℤ) → AreFed from frames first feeds t → (f : ℕ) → f < frames
      → take at (drop (f * width) ins) ≡ studio_values (take i feeds) (t +ℤ pos f)
  pub in_24_bits : All Is24Bits ins
  pub present : (from : ℤ) (feeds : List Feed) (t : ℤ) → AreFed from frames first feeds t → ArePresentTo frames lanes feeds t i

-- one lane was read
pub record ReadsLane (frames c : ℕ) (lane next : LaneState) (block : List ℤ) : Type 0 where
  pub wide : c ≡ lane.format.channels
  pub facts : HasSameFacts lane next
  pub position : next.position ≡ lane.position +ℤ pos lane.block
  pub values : (stream : Stream) (from : ℤ) (marks : List MarkView) (t : ℤ) → HasFeed stream from frames lane marks t → block ≡ frames_from (format_of stream) marks t frames
  pub stands : (stream : Stream) (from : ℤ) (marks : List MarkView) (t : ℤ) → HasFeed stream from frames lane marks t → HasFeed stream from frames next marks (t +ℤ pos frames)
  pub present : (stream : Stream) (from : ℤ) (marks : List MarkView) (t : ℤ) → HasFeed stream from frames lane marks t → next.present ≡ presence_from (format_of stream) marks t frames

pub feed_at : (feeds : List Feed) (i : ℕ) → i < length feeds → (feed : Feed) × (slice_get feeds i ≡ Some feed)
feed_at [] i h = absurd (omega arith)
feed_at (feed ∷ feeds) zero h = (feed, refl)
feed_at (feed ∷ feeds) (suc i) h = feed_at feeds i (omega arith)

-- the values of all streams so far, and of one more
values_more : (feeds : List Feed) (i : ℕ) (feed : Feed) (t : ℤ) → slice_get feeds i ≡ Some feed
    → studio_values (take (i + 1) feeds) t ≡ studio_values (take i feeds) t ++ frame_at (format_of feed.stream) feed.marks t
values_more feeds i feed t at =
    ap (λ l. studio_values l t) (take_more feeds i feed (slice_get_within feeds i feed at) ∙ ap (λ g. take i feeds ++ g ∷ []) (get_or_from_slice_get feeds i feed feed at))
    ∙ flat_map-append (λ (g : Feed). frame_at (format_of g.stream) g.marks t) (take i feeds) (feed ∷ [])
    ∙ ap (λ l. studio_values (take i feeds) t ++ l) (append-nil (frame_at (format_of feed.stream) feed.marks t))

frame_length : (format : PacketFormat) (marks : List MarkView) (t : ℤ) → length (frame_at format marks t) ≡ format.channels
frame_length format marks t = length-map-range_with_len (value_at format marks t) 0 format.channels

-- a lane's frame among the values of a block
frame_of : (stream : Stream) (marks : List MarkView) (t : ℤ) (frames c f : ℕ) (values : List ℤ) → c ≡ stream.channels → f < frames
    → values ≡ frames_from (format_of stream) marks t frames → take c (drop (f * c) values) ≡ frame_at (format_of stream) marks (t +ℤ pos f)
frame_of stream marks t frames c f values wide h e =
    ap (λ k. take k (drop (f * k) values)) wide
    ∙ ap (λ l. take stream.channels (drop (f * stream.channels) l)) e
    ∙ row_at stream.channels (λ k. frame_at (format_of stream) marks (t +ℤ pos k)) 0 frames f (λ k. frame_length (format_of stream) marks (t +ℤ pos k)) h
    ∙ ap (λ k. frame_at (format_of stream) marks (t +ℤ pos k)) (let z : 0 + f ≡ f = omega arith in z)

pub read_start : (lanes : List LaneState) (ins : List ℤ) (frames width : ℕ) → All Is24Bits ins → IsRead lanes lanes ins frames width 0 0
read_start lanes ins frames width in_24_bits = record {
  at_is = refl;
  count = refl;
  others = λ k d h. refl;
  moved = λ time each k d h. absurd (omega arith);
  channels = refl;
  capacities = refl;
  fed = λ from feeds t fed. record { count = fed.count; each = λ i lane feed l f. subst (HasFeed feed.stream from frames lane feed.marks) (sym (not_moved t frames 0 i (omega arith))) (fed.each i lane feed l f) };
  laid = λ from feeds t fed f h. refl;
  in_24_bits = in_24_bits;
  present = λ from feeds t fed k lane feed h. absurd (omega arith);
}

pub read_more : (first lanes : List LaneState) (ins laid : List ℤ) (frames width at i c : ℕ) (lane next : LaneState) (values : List ℤ)
    → IsRead first lanes ins frames width at i → i < length first → lane ≡ get_or lanes i lane → ReadsLane frames c lane next values
    → ((f : ℕ) → f < frames → take (at + c) (drop (f * width) laid) ≡ take at (drop (f * width) ins) ++ take c (drop (f * c) values))
    → All Is24Bits laid
    → IsRead first (set lanes i next) laid frames width (at + c) (i + 1)
read_more first lanes ins laid frames width at i c lane next values before h is reads lays in_24_bits =
    let count = before.count in
    let within : i < length lanes = omega arith in
    let as_first : lane ≡ get_or first i lane = is ∙ before.others i lane (omega arith) in
    let facts : next.format ≡ lane.format = reads.facts.format in
    record {
      at_is = ap (λ a. a + c) before.at_is ∙ ap (λ k. lane_channels (take i first) + k) (reads.wide ∙ ap (λ (l : LaneState). l.format.channels) as_first) ∙ sym (sum_by_more (λ (l : LaneState). l.format.channels) first i lane h);
      count = length-set lanes i next ∙ before.count;
      others = λ k d g. get_or-set_other lanes i k next d (omega arith) ∙ before.others k d (omega arith);
      moved = λ time each.
          let P : ℕ → Type 0 = λ k. (d : LaneState) → k < length (set lanes i next) → IsLaneAt frames (time +ℤ pos frames) (get_or (set lanes i next) k d) in
          let here : IsLaneAt frames time lane = subst (IsLaneAt frames time) (sym as_first) (each i lane h) in
          let there : IsLaneAt frames (time +ℤ pos frames) next = record {
            block = reads.facts.block ∙ here.block;
            position = reads.position ∙ ap (λ p. p +ℤ pos lane.block) here.position ∙ ap (λ b. time +ℤ pos b) here.block;
            some_channels = subst (λ (f : PacketFormat). 0 < f.channels) (sym facts) here.some_channels;
            few_channels = subst (λ (f : PacketFormat). f.channels ≤ 64) (sym facts) here.few_channels;
          } in
          let all : (k : ℕ) → k < i + 1 → P k = below_more P i
          (λ k g d l. subst (IsLaneAt frames (time +ℤ pos frames)) (sym (get_or-set_other lanes i k next d (omega arith))) (before.moved time each k d g (let e : length (set lanes i next) ≡ length lanes = length-set lanes i next in omega arith)))
          (λ d l. subst (IsLaneAt frames (time +ℤ pos frames)) (sym (get_or-set_same lanes i next d within)) there) in
          λ k d g l. all k g d l;
      channels = (let e = sum_by-set (λ (l : LaneState). l.format.channels) lanes i next lane within in
          let f : lane_channels (set lanes i next) + lane.format.channels ≡ lane_channels lanes + next.format.channels = ap (λ (l : LaneState). lane_channels (set lanes i next) + l.format.channels) is ∙ e in
          let g : next.format.channels ≡ lane.format.channels = ap (λ (f : PacketFormat). f.channels) facts in
          let r : lane_channels (set lanes i next) ≡ lane_channels lanes = omega (arith, f, g) in r) ∙ before.channels;
      capacities = map-set_same (λ (l : LaneState). l.capacity) lanes i next lane (reads.facts.capacity ∙ ap (λ (l : LaneState). l.capacity) is) ∙ before.capacities;
      fed = λ from feeds t fed.
          let so_far = before.fed from feeds t fed in
          let many = so_far.count in
          let found = feed_at feeds i (omega arith) in
          let feed = found.0 in
          let is_fed : HasFeed feed.stream from frames lane feed.marks t = subst (HasFeed feed.stream from frames lane feed.marks) (not_moved t frames i i (omega arith)) (fed_at from frames lanes feeds (moved_to t frames i) i lane feed so_far is found.1) in
          subst (λ fs. AreFedTo from frames (set lanes i next) fs (moved_to t frames (i + 1)))
          (ap (set feeds i) (sym (get_or_from_slice_get feeds i feed feed found.1)) ∙ set-get_or feeds i feed)
          (fed_set from frames lanes feeds (moved_to t frames i) (moved_to t frames (i + 1)) i next feed feed so_far found.1
          (subst (HasFeed feed.stream from frames next feed.marks) (sym (moved_here t frames (i + 1) i (omega arith))) (reads.stands feed.stream from feed.marks t is_fed))
          (λ j ne. others_same t frames i j ne));
      laid = λ from feeds t fed f g.
          let so_far = before.fed from feeds t fed in
          let many = so_far.count in
          let found = feed_at feeds i (omega arith) in
          let feed = found.0 in
          let is_fed : HasFeed feed.stream from frames lane feed.marks t = subst (HasFeed feed.stream from frames lane feed.marks) (not_moved t frames i i (omega arith)) (fed_at from frames lanes feeds (moved_to t frames i) i lane feed so_far is found.1) in
          lays f g
          ∙ ap (λ l. l ++ take c (drop (f * c) values)) (before.laid from feeds t fed f g)
          ∙ ap (λ l. studio_values (take i feeds) (t +ℤ pos f) ++ l) (frame_of feed.stream feed.marks t frames c f values (reads.wide ∙ ap (λ (f : PacketFormat). f.channels) is_fed.format) g (reads.values feed.stream from feed.marks t is_fed))
          ∙ sym (values_more feeds i feed (t +ℤ pos f) found.1);
      in_24_bits = in_24_bits;
      present = λ from feeds t fed k l f g l_is f_is.
          let so_far = before.fed from feeds t fed in
          let many = so_far.count in
          elim (cases_lt k i) [
            | inl below ↦ before.present from feeds t fed k l f below (set_other_at lanes i k next l (omega arith) l_is) f_is
            | inr past ↦
                let here : k ≡ i = omega arith in
                let f_here : slice_get feeds i ≡ Some f = subst (λ j. slice_get feeds j ≡ Some f) here f_is in
                let l_here : l ≡ next = set_same_at lanes i next l within (subst (λ j. slice_get (set lanes i next) j ≡ Some l) here l_is) in
                let is_fed : HasFeed f.stream from frames lane f.marks t = subst (HasFeed f.stream from frames lane f.marks) (not_moved t frames i i (omega arith)) (fed_at from frames lanes feeds (moved_to t frames i) i lane f so_far is f_here) in
                ap (λ (x : LaneState). x.present) l_here ∙ reads.present f.stream from f.marks t is_fed
          ];
    }

-- all lanes were read
pub read_all : (from : ℤ) (size : ℕ) (lanes : List LaneState) (feeds : List Feed) (t : ℤ) (i : ℕ) → AreFedTo from size lanes feeds (moved_to t size i) → length feeds ≤ i
    → AreFed from size lanes feeds (t +ℤ pos size)
read_all from size lanes feeds t i fed all = record {
  count = fed.count;
  each = λ k lane feed l f.
      let within : k < length feeds = slice_get_within feeds k feed f in
      subst (HasFeed feed.stream from size lane feed.marks) (moved_here t size i k (omega arith)) (fed.each k lane feed l f);
}

-- so a block was read from every lane
pub were_read : (first lanes : List LaneState) (ins : List ℤ) (frames width at i : ℕ) → IsRead first lanes ins frames width at i → length first ≤ i → width ≡ lane_channels first
    → AreRead first lanes ins frames width
were_read first lanes ins frames width at i read all wide =
    let count = read.count in
    record {
      values = λ from feeds t fed f h.
          let many = fed.count in
          ap (λ w. take w (drop (f * width) ins)) (wide ∙ ap lane_channels (sym (take_all i first all)) ∙ sym read.at_is)
          ∙ read.laid from feeds t fed f h
          ∙ ap (λ fs. studio_values fs (t +ℤ pos f)) (take_all i feeds (omega (arith, many, all)));
      stands = λ from feeds t fed. let many = fed.count in read_all from frames lanes feeds t i (read.fed from feeds t fed) (omega (arith, many, all));
      moved = λ time each k d h. read.moved time each k d (omega (arith, count, h, all)) h;
      channels = read.channels;
      capacities = read.capacities;
      in_24_bits = read.in_24_bits;
      present = λ from feeds t fed. record {
        count = count ∙ fed.count;
        each = λ k lane feed l f. read.present from feeds t fed k lane feed (let w : k < length lanes = slice_get_within lanes k lane l in omega (arith, count, w, all)) l f;
      };
    }

channels_alone : (lanes : List LaneState) (d : LaneState) → length lanes ≡ 1 → lane_channels lanes ≡ (get_or lanes 0 d).format.channels
channels_alone [] d e = absurd (omega (arith, e))
channels_alone (lane ∷ []) d e = omega arith
channels_alone (lane ∷ more ∷ lanes) d e = absurd (omega (arith, e))

-- if there is only one stream, its values are the frames as they were read
pub read_alone : (lanes : List LaneState) (old ins : List ℤ) (frames width c : ℕ) (lane next : LaneState)
    → length lanes ≡ 1 → width ≡ lane_channels lanes → lane ≡ get_or lanes 0 lane → ReadsLane frames c lane next ins
    → All Is24Bits old → All Is24Bits ins → AreRead lanes (set lanes 0 next) ins frames width
read_alone lanes old ins frames width c lane next one wide is reads old_in_24_bits in_24_bits =
    let narrow : width ≡ c = wide ∙ channels_alone lanes lane one ∙ ap (λ (l : LaneState). l.format.channels) (sym is) ∙ sym reads.wide in
    were_read lanes (set lanes 0 next) ins frames width (0 + c) 1
    (read_more lanes lanes old ins frames width 0 0 c lane next ins (read_start lanes old frames width old_in_24_bits) (omega (arith, one)) is reads
    (λ f h. ap (λ k. take k (drop (f * width) ins)) (let e : 0 + c ≡ c = omega arith in e) ∙ ap (λ w. take c (drop (f * w) ins)) narrow) in_24_bits)
    (omega (arith, one)) wide
