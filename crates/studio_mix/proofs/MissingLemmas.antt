-- The streams that are missing in a block: by the lanes, and by the marks that they were fed.
use Rattle.std.proofs.Common.{◌≡◌, ◌<◌, ◌≤◌, ◌+◌, ℕ, zero, suc, Bool, true, false, not, ◌&&◌, ◌||◌, nat_lt, ℤ, pos, ◌+ℤ◌, ◌≤ℤ◌, int_eq, List, [], ◌∷◌, length, get_or, take, drop, if◌then◌else◌, refl, sym, ap, ◌∙◌, arith, inl, inr}
use Rattle.std.proofs.lemmas.Bool.{cases_Bool, false≢true}
use Rattle.std.proofs.lemmas.Int.{ints}
use Rattle.std.proofs.lemmas.List.{drop_more}
use Rattle.std.proofs.lemmas.List.Folds.{list_all_at}
use Rattle.std.proofs.lemmas.List.Sums.{sum_by_more, sum_by_more_le}
use Rattle.std.proofs.lemmas.List.FromFn.{length-map-range_with_len, get_or-map-range_with_len}
use Rattle.std.specs.List.{list_all, list_any, range_with_len}
use Rattle.rtp_stream.specs.StreamSpecFacts.{format_of}
use Rattle.rtp_stream.specs.declared.mark.PacketFormat.{PacketFormat}
use Rattle.lane_align.specs.Lane.{LaneState}
use Rattle.lane_align.specs.Presence.{is_present, presence_at, presence_from}
use Rattle.gain_mix.specs.Changes.{Changes, matrix_at}
use Rattle.gain_mix.specs.Gain.{are_used}
use Rattle.studio_config.specs.Studio.{Studio}
use Rattle.studio_mix.specs.Feed.{Feed}
use Rattle.studio_mix.specs.Lanes.{AreFed, ArePresent, lane_channels}
use Rattle.studio_mix.specs.Missing.{is_missing, is_heard, at_some, missing_from, heard_from}
use Rattle.studio_io.specs.declared.mixed_block.Missing.{Missing}
use Rattle.studio_mix.specs.MissingLanes.{is_whole, agrees, is_used_where, missing_lanes, heard_lanes}

-- a test of the numbers from one on: it holds for none of them, or for one
pub none_in : (test : ℕ → Bool) (a n : ℕ) → ((k : ℕ) → k < n → test (a + k) ≡ false) → list_any test (range_with_len a n) ≡ false
none_in test a zero none = refl
none_in test a (suc n) none =
    ap (λ b. b || list_any test (range_with_len (a + 1) n)) (ap test (let e : a ≡ a + 0 = omega arith in e) ∙ none 0 (omega arith))
    ∙ none_in test (a + 1) n (λ k h. ap test (let e : a + 1 + k ≡ a + (k + 1) = omega arith in e) ∙ none (k + 1) (omega (arith, h)))

or_right : (a b : Bool) → b ≡ true → (a || b) ≡ true
or_right true b h = refl
or_right false b h = h

pub one_in : (test : ℕ → Bool) (a n k : ℕ) → k < n → test (a + k) ≡ true → list_any test (range_with_len a n) ≡ true
one_in test a zero k h holds = absurd (omega (arith, h))
one_in test a (suc n) zero h holds = ap (λ b. b || list_any test (range_with_len (a + 1) n)) (ap test (let e : a ≡ a + 0 = omega arith in e) ∙ holds)
one_in test a (suc n) (suc k) h holds =
    or_right (test a) (list_any test (range_with_len (a + 1) n))
    (one_in test (a + 1) n k (omega (arith, h)) (ap test (let e : a + 1 + k ≡ a + suc k = omega arith in e) ∙ holds))

pub same_in : (test other : ℕ → Bool) (a n : ℕ) → ((k : ℕ) → k < n → test (a + k) ≡ other (a + k)) → list_any test (range_with_len a n) ≡ list_any other (range_with_len a n)
same_in test other a zero same = refl
same_in test other a (suc n) same =
    let here : a ≡ a + 0 = omega arith in
    ap (λ b. b || list_any test (range_with_len (a + 1) n)) (ap test here ∙ same 0 (omega arith) ∙ ap other (sym here))
    ∙ ap (λ b. other a || b) (same_in test other (a + 1) n (λ k h.
    let next : a + 1 + k ≡ a + (k + 1) = omega arith in
    ap test next ∙ same (k + 1) (omega (arith, h)) ∙ ap other (sym next)))

all_said : {X : Type 0} (p : X → Bool) (xs : List X) (k : ℕ) (d : X) → list_all p xs ≡ true → k < length xs → p (get_or xs k d) ≡ true
all_said p xs k d all h = elim (cases_Bool (p (get_or xs k d))) [
  | inl y ↦ y
  | inr n ↦ absurd (false≢true (sym (list_all_at p xs k d h n) ∙ all))
]

pub both_true : (a b : Bool) → a ≡ true → b ≡ true → a && b ≡ true
both_true true b h g = g
both_true false b h g = absurd (false≢true h)

pub both_left : (a b : Bool) → a && b ≡ true → a ≡ true
both_left true b h = refl
both_left false b h = absurd (false≢true h)

pub both_right : (a b : Bool) → a && b ≡ true → b ≡ true
both_right true b h = h
both_right false b h = absurd (false≢true h)

-- where every packet came, nothing is missing
whole_lane : (schedule : Changes) (t : ℤ) (at : ℕ) (lane : LaneState) → is_whole lane ≡ true → is_used_where false lane.present schedule t at lane.format.channels ≡ false
whole_lane schedule t at lane whole =
    none_in (λ f. agrees false (int_eq (get_or lane.present f (pos 0)) (pos 1)) && are_used (matrix_at schedule (t +ℤ pos f)) at lane.format.channels) 0 (length lane.present)
    (λ k h. ap (λ b. not b && are_used (matrix_at schedule (t +ℤ pos (0 + k))) at lane.format.channels) (all_said (λ p. int_eq p (pos 1)) lane.present (0 + k) (pos 0) whole (omega (arith, h))))

pub whole_lanes : (schedule : Changes) (t : ℤ) (at : ℕ) (lanes : List LaneState) → list_all is_whole lanes ≡ true → missing_lanes schedule t at lanes ≡ 0
whole_lanes schedule t at [] whole = refl
whole_lanes schedule t at (lane ∷ lanes) whole =
    ap (λ b. (if b then 1 else 0) + missing_lanes schedule t (at + lane.format.channels) lanes) (whole_lane schedule t at lane (both_left (is_whole lane) (list_all is_whole lanes) whole))
    ∙ (let none : 0 + missing_lanes schedule t (at + lane.format.channels) lanes ≡ missing_lanes schedule t (at + lane.format.channels) lanes = omega arith in none)
    ∙ whole_lanes schedule t (at + lane.format.channels) lanes (both_right (is_whole lane) (list_all is_whole lanes) whole)

-- what is missing among lanes is that of the first one and of the others
pub missing_next : (schedule : Changes) (t : ℤ) (at : ℕ) (lanes : List LaneState) (i : ℕ) (lane : LaneState) → i < length lanes → lane ≡ get_or lanes i lane
    → missing_lanes schedule t at (drop i lanes) ≡ (if is_used_where false lane.present schedule t at lane.format.channels then 1 else 0) + missing_lanes schedule t (at + lane.format.channels) (drop (i + 1) lanes)
missing_next schedule t at lanes i lane h is =
    ap (missing_lanes schedule t at) (drop_more lanes i lane h ∙ ap (λ l. l ∷ drop (i + 1) lanes) (sym is))

pub heard_next : (schedule : Changes) (t : ℤ) (at : ℕ) (lanes : List LaneState) (i : ℕ) (lane : LaneState) → i < length lanes → lane ≡ get_or lanes i lane
    → heard_lanes schedule t at (drop i lanes) ≡ (is_used_where true lane.present schedule t at lane.format.channels || heard_lanes schedule t (at + lane.format.channels) (drop (i + 1) lanes))
heard_next schedule t at lanes i lane h is =
    ap (heard_lanes schedule t at) (drop_more lanes i lane h ∙ ap (λ l. l ∷ drop (i + 1) lanes) (sym is))

-- the presence of a lane's block is that of the stream's marks
one_is : (present : Bool) → int_eq (if present then pos 1 else pos 0) (pos 1) ≡ present
one_is true = refl
one_is false = refl

and_turn : (a b : Bool) → a && b ≡ b && a
and_turn true true = refl
and_turn true false = refl
and_turn false true = refl
and_turn false false = refl

used_is : (came : Bool) (studio : Studio) (schedule : Changes) (frames at : ℕ) (lane : LaneState) (feed : Feed) (t : ℤ) (test : ℤ → Bool)
    → lane.format.channels ≡ feed.stream.channels → lane.present ≡ presence_from (format_of feed.stream) feed.marks t frames
    → ((u : ℤ) → t ≤ℤ u → matrix_at schedule u ≡ matrix_at studio.schedule u)
    → ((u : ℤ) → test u ≡ (are_used (matrix_at studio.schedule u) at feed.stream.channels && agrees came (is_present (format_of feed.stream) feed.marks u)))
    → is_used_where came lane.present schedule t at lane.format.channels ≡ at_some frames t test
used_is came studio schedule frames at lane feed t test wide present gains is =
    let format = format_of feed.stream in
    let presence : ℕ → ℤ = λ f. presence_at format feed.marks (t +ℤ pos f) in
    ap (λ ps. is_used_where came ps schedule t at lane.format.channels) present
    ∙ ap (λ c. is_used_where came (presence_from format feed.marks t frames) schedule t at c) wide
    ∙ ap (λ n. list_any (λ f. agrees came (int_eq (get_or (presence_from format feed.marks t frames) f (pos 0)) (pos 1)) && are_used (matrix_at schedule (t +ℤ pos f)) at feed.stream.channels) (range_with_len 0 n)) (length-map-range_with_len presence 0 frames)
    ∙ same_in (λ f. agrees came (int_eq (get_or (presence_from format feed.marks t frames) f (pos 0)) (pos 1)) && are_used (matrix_at schedule (t +ℤ pos f)) at feed.stream.channels) (λ f. test (t +ℤ pos f)) 0 frames
    (λ k h.
    let f = 0 + k in
    let below : f < frames = omega (arith, h) in
    let u = t +ℤ pos f in
    ap (λ p. agrees came (int_eq p (pos 1)) && are_used (matrix_at schedule u) at feed.stream.channels) (get_or-map-range_with_len presence 0 frames f f (pos 0) below (omega arith))
    ∙ ap (λ b. agrees came b && are_used (matrix_at schedule u) at feed.stream.channels) (one_is (is_present format feed.marks u))
    ∙ ap (λ m. agrees came (is_present format feed.marks u) && are_used m at feed.stream.channels) (gains u (omega (arith, ints)))
    ∙ and_turn (agrees came (is_present format feed.marks u)) (are_used (matrix_at studio.schedule u) at feed.stream.channels)
    ∙ sym (is u))

-- the first lane and the others
first_present : (frames : ℕ) (lane : LaneState) (lanes : List LaneState) (feed : Feed) (feeds : List Feed) (t : ℤ) → ArePresent frames (lane ∷ lanes) (feed ∷ feeds) t
    → lane.present ≡ presence_from (format_of feed.stream) feed.marks t frames
first_present frames lane lanes feed feeds t present = present.each 0 lane feed refl refl

rest_present : (frames : ℕ) (lane : LaneState) (lanes : List LaneState) (feed : Feed) (feeds : List Feed) (t : ℤ) → ArePresent frames (lane ∷ lanes) (feed ∷ feeds) t → ArePresent frames lanes feeds t
rest_present frames lane lanes feed feeds t present = record { count = let e = present.count in omega (arith, e); each = λ i l f. present.each (suc i) l f }

first_format : (from : ℤ) (size : ℕ) (lane : LaneState) (lanes : List LaneState) (feed : Feed) (feeds : List Feed) (t : ℤ) → AreFed from size (lane ∷ lanes) (feed ∷ feeds) t → lane.format.channels ≡ feed.stream.channels
first_format from size lane lanes feed feeds t fed = ap (λ (f : PacketFormat). f.channels) (fed.each 0 lane feed refl refl).format

rest_fed : (from : ℤ) (size : ℕ) (lane : LaneState) (lanes : List LaneState) (feed : Feed) (feeds : List Feed) (t : ℤ) → AreFed from size (lane ∷ lanes) (feed ∷ feeds) t → AreFed from size lanes feeds t
rest_fed from size lane lanes feed feeds t fed = record { count = let e = fed.count in omega (arith, e); each = λ i l f. fed.each (suc i) l f }

-- so what is missing among the lanes is what is missing among the marks
pub missing_is : (studio : Studio) (schedule : Changes) (from : ℤ) (at : ℕ) (lanes : List LaneState) (feeds : List Feed) (t later : ℤ)
    → AreFed from studio.output.frames lanes feeds later → ArePresent studio.output.frames lanes feeds t
    → ((u : ℤ) → t ≤ℤ u → matrix_at schedule u ≡ matrix_at studio.schedule u)
    → missing_lanes schedule t at lanes ≡ missing_from studio at feeds t
missing_is studio schedule from at [] [] t later fed present gains = refl
missing_is studio schedule from at [] (feed ∷ feeds) t later fed present gains = absurd (let e = fed.count in omega (arith, e))
missing_is studio schedule from at (lane ∷ lanes) [] t later fed present gains = absurd (let e = fed.count in omega (arith, e))
missing_is studio schedule from at (lane ∷ lanes) (feed ∷ feeds) t later fed present gains =
    let frames = studio.output.frames in
    let wide = first_format from frames lane lanes feed feeds later fed in
    ap (λ b. (if b then 1 else 0) + missing_lanes schedule t (at + lane.format.channels) lanes)
    (used_is false studio schedule frames at lane feed t (is_missing studio at feed) wide (first_present frames lane lanes feed feeds t present) gains (λ u. refl))
    ∙ ap (λ c. (if at_some frames t (is_missing studio at feed) then 1 else 0) + missing_lanes schedule t (at + c) lanes) wide
    ∙ ap (λ n. (if at_some frames t (is_missing studio at feed) then 1 else 0) + n)
    (missing_is studio schedule from (at + feed.stream.channels) lanes feeds t later (rest_fed from frames lane lanes feed feeds later fed) (rest_present frames lane lanes feed feeds t present) gains)

pub heard_is : (studio : Studio) (schedule : Changes) (from : ℤ) (at : ℕ) (lanes : List LaneState) (feeds : List Feed) (t later : ℤ)
    → AreFed from studio.output.frames lanes feeds later → ArePresent studio.output.frames lanes feeds t
    → ((u : ℤ) → t ≤ℤ u → matrix_at schedule u ≡ matrix_at studio.schedule u)
    → heard_lanes schedule t at lanes ≡ heard_from studio at feeds t
heard_is studio schedule from at [] [] t later fed present gains = refl
heard_is studio schedule from at [] (feed ∷ feeds) t later fed present gains = absurd (let e = fed.count in omega (arith, e))
heard_is studio schedule from at (lane ∷ lanes) [] t later fed present gains = absurd (let e = fed.count in omega (arith, e))
heard_is studio schedule from at (lane ∷ lanes) (feed ∷ feeds) t later fed present gains =
    let frames = studio.output.frames in
    let wide = first_format from frames lane lanes feed feeds later fed in
    ap (λ b. b || heard_lanes schedule t (at + lane.format.channels) lanes)
    (used_is true studio schedule frames at lane feed t (is_heard studio at feed) wide (first_present frames lane lanes feed feeds t present) gains (λ u. refl))
    ∙ ap (λ c. at_some frames t (is_heard studio at feed) || heard_lanes schedule t (at + c) lanes) wide
    ∙ ap (λ b. at_some frames t (is_heard studio at feed) || b)
    (heard_is studio schedule from (at + feed.stream.channels) lanes feeds t later (rest_fed from frames lane lanes feed feeds later fed) (rest_present frames lane lanes feed feeds t present) gains)

-- what is missing, by the two parts that it is made of
abbrev pub missing_by : ℕ → Bool → Missing
missing_by streams heard = record { streams = streams; is_empty = nat_lt 0 streams && not heard }

-- the first `i` lanes are counted, and the next one's first channel is `at`
pub record AreCounted (schedule : Changes) (t : ℤ) (lanes : List LaneState) (streams : ℕ) (heard : Bool) (at i : ℕ) : Type 0 where
  pub missing : missing_lanes schedule t 0 lanes ≡ streams + missing_lanes schedule t at (drop i lanes)
  pub is_heard : heard_lanes schedule t 0 lanes ≡ (heard || heard_lanes schedule t at (drop i lanes))
  pub channels : at ≡ lane_channels (take i lanes)
  pub few : streams ≤ i

pub none_counted : (schedule : Changes) (t : ℤ) (lanes : List LaneState) → AreCounted schedule t lanes 0 false 0 0
none_counted schedule t lanes = record { missing = omega arith; is_heard = refl; channels = refl; few = omega arith }

or_assoc : (a b c : Bool) → (a || (b || c)) ≡ ((a || b) || c)
or_assoc true b c = refl
or_assoc false b c = refl

one_at_most : (n : ℕ) (b : Bool) → n ≡ (if b then 1 else 0) → n ≤ 1
one_at_most n true e = omega (arith, e)
one_at_most n false e = omega (arith, e)

pub one_counted : (schedule : Changes) (t : ℤ) (lanes : List LaneState) (streams : ℕ) (heard : Bool) (at i : ℕ) (lane : LaneState) (more : ℕ) (now : Bool) (c : ℕ)
    → AreCounted schedule t lanes streams heard at i → i < length lanes → lane ≡ get_or lanes i lane → c ≡ lane.format.channels
    → more ≡ (if is_used_where false lane.present schedule t at c then 1 else 0) → now ≡ (heard || is_used_where true lane.present schedule t at c)
    → AreCounted schedule t lanes (streams + more) now (at + c) (i + 1)
one_counted schedule t lanes streams heard at i lane more now c before h is wide more_is now_is =
    let here : (if is_used_where false lane.present schedule t at c then 1 else 0) ≡ (if is_used_where false lane.present schedule t at lane.format.channels then 1 else 0) =
    ap (λ n. if is_used_where false lane.present schedule t at n then 1 else 0) wide in
    let next = missing_next schedule t at lanes i lane h is in
    let step : streams + missing_lanes schedule t at (drop i lanes) ≡ (streams + more) + missing_lanes schedule t (at + c) (drop (i + 1) lanes) =
    ap (λ n. streams + n) (next ∙ ap (λ n. n + missing_lanes schedule t (at + lane.format.channels) (drop (i + 1) lanes)) (sym (more_is ∙ here)) ∙ ap (λ n. more + missing_lanes schedule t (at + n) (drop (i + 1) lanes)) (sym wide))
    ∙ (let e : streams + (more + missing_lanes schedule t (at + c) (drop (i + 1) lanes)) ≡ (streams + more) + missing_lanes schedule t (at + c) (drop (i + 1) lanes) = omega arith in e) in
    record {
      missing = before.missing ∙ step;
      is_heard =
          before.is_heard
          ∙ ap (λ b. heard || b) (heard_next schedule t at lanes i lane h is ∙ ap (λ n. is_used_where true lane.present schedule t at n || heard_lanes schedule t (at + n) (drop (i + 1) lanes)) (sym wide))
          ∙ or_assoc heard (is_used_where true lane.present schedule t at c) (heard_lanes schedule t (at + c) (drop (i + 1) lanes))
          ∙ ap (λ b. b || heard_lanes schedule t (at + c) (drop (i + 1) lanes)) (sym now_is);
      channels =
          ap (λ a. a + c) before.channels
          ∙ ap (λ n. lane_channels (take i lanes) + n) (wide ∙ ap (λ (l : LaneState). l.format.channels) is)
          ∙ sym (sum_by_more (λ (l : LaneState). l.format.channels) lanes i lane h);
      few = let f = before.few in let m : more ≤ 1 = one_at_most more (is_used_where false lane.present schedule t at c) more_is in omega (arith, f, m);
    }

-- the lane's channels are among those of all
pub channels_within : (schedule : Changes) (t : ℤ) (lanes : List LaneState) (streams : ℕ) (heard : Bool) (at i : ℕ) (lane : LaneState) (c total : ℕ)
    → AreCounted schedule t lanes streams heard at i → i < length lanes → lane ≡ get_or lanes i lane → c ≡ lane.format.channels → lane_channels lanes ≡ total → at + c ≤ total
channels_within schedule t lanes streams heard at i lane c total before h is wide all =
    let sum = sum_by_more_le (λ (l : LaneState). l.format.channels) lanes i lane h in
    let at_is = before.channels in
    let own : c ≡ (get_or lanes i lane).format.channels = wide ∙ ap (λ (l : LaneState). l.format.channels) is in
    omega (arith, sum, at_is, own, all)
