-- Blocks that are ready, by the lanes and by the marks.
use Rattle.std.proofs.Common.{◌≡◌, [], ◌∷◌, ℕ, suc, ◌+◌, ◌-◌, ◌*◌, ◌/◌, ◌^◌, ◌<◌, ◌≤◌, Bool, true, false, not, cond, ◌&&◌, ◌||◌, nat_lt, ℤ, pos, ◌+ℤ◌, ◌-ℤ◌, ◌≤ℤ◌, ◌<ℤ◌, int_lt, List, length, get_or, Some, None, Option, unwrap_or, refl, sym, ap, subst, ◌∙◌, arith, inl, inr}
use Rattle.std.proofs.lemmas.Int.{ints, by_lt_z}
use Rattle.std.specs.Int.{int_max}
use Rattle.std.proofs.Math.Nat.{mul-le-mul_right, div-mul-le_self}
use Rattle.std.proofs.lemmas.Nat.{le-div}
use Rattle.lane_align.proofs.LaneLemmas.{distance, past, none}
use Rattle.std.specs.List.{list_all, list_any, All as AllOf}
use Rattle.std.proofs.lemmas.Bool.{cases_lt, cases_Bool, false≢true}
use Rattle.std.proofs.lemmas.Bool.Decides.{nat_tests}
use Rattle.rtp_stream.specs.declared.stream_spec.Stream.{Stream}
use Rattle.rtp_stream.specs.StreamSpecFacts.{format_of}
use Rattle.rtp_stream.specs.MarkFacts.{MarkView}
use Rattle.rtp_stream.specs.declared.mark.PacketFormat.{PacketFormat}
use Rattle.lane_align.specs.declared.cover.Cover.TheVariants.{Nothing, Until, All}
use Rattle.rtp_stream.specs.MarkList.{has_end}
use Rattle.lane_align.specs.Cover.{covers, cover_of, cover_to, end_of, last_slot, last_quiet, time_reached}
use Rattle.lane_align.specs.Lane.{LaneState, HasFeed, cover_at, end_at, natural}
use Rattle.mix_packets.specs.declared.out_spec.Output.{Output}
use Rattle.mix_packets.specs.Block.{block_start}
use Rattle.studio_mix.specs.Feed.{Feed}
use Rattle.studio_mix.specs.Ready.{are_covered, have_ended, greatest_end, block_count, is_ready}
use Rattle.std.proofs.lemmas.List.Folds.{list_all_at}
use Rattle.studio_config.specs.Studio.{Studio}
use Rattle.studio_mix.specs.Lanes.{AreFed, IsLaneAt, IsReadyLane, reaches_past}
use Rattle.studio_mix.specs.Mixer.{MixerState, HasFeeds, IsMixer}
use Rattle.studio_mix.proofs.MixerLemmas.{block_begin, block_end}

lt_no : (a b : ℤ) → b ≤ℤ a → int_lt a b ≡ false
lt_no a b h = grind (arith, ints, nat_tests)

pub lt_yes : (a b : ℤ) → a <ℤ b → int_lt a b ≡ true
lt_yes a b h = grind (arith, ints, nat_tests)

lt_said : (a b : ℤ) → int_lt a b ≡ true → a <ℤ b
lt_said a b h = grind (arith, ints, nat_tests)

lt_denied : (a b : ℤ) → int_lt a b ≡ false → b ≤ℤ a
lt_denied a b h = grind (arith, ints, nat_tests)

all_ended : (ended : Bool) (reached : Option ℤ) → All ≡ cover_to ended reached → ended ≡ true
all_ended true reached e = refl
all_ended false (Some t) e = absurd (let f : All ≡ Until t = e in cc)
all_ended false None e = absurd (let f : All ≡ Nothing = e in cc)

-- a lane that has ended, and whose end is not after a time
pub not_past : (time : ℤ) (lane : LaneState) → All ≡ cover_at lane → end_at lane ≤ℤ time → reaches_past time lane ≡ false
not_past time lane e h =
    ap (λ b. not b || int_lt time (end_at lane)) (all_ended lane.ended (time_reached lane.format.frames lane.slot lane.quiet) e) ∙ lt_no time (end_at lane) h

-- the cover and the end of a lane are those of its marks
cover_is : (stream : Stream) (from : ℤ) (size : ℕ) (lane : LaneState) (marks : List MarkView) (t : ℤ) → HasFeed stream from size lane marks t → cover_at lane ≡ cover_of (format_of stream) marks
cover_is stream from size lane marks t fed =
    ap (λ (f : PacketFormat). cover_to lane.ended (time_reached f.frames lane.slot lane.quiet)) fed.format
    ∙ ap (λ e. cover_to e (time_reached stream.frames lane.slot lane.quiet)) fed.ended
    ∙ ap (λ s. cover_to (has_end marks) (time_reached stream.frames s lane.quiet)) fed.slot
    ∙ ap (λ q. cover_to (has_end marks) (time_reached stream.frames (last_slot marks) q)) fed.quiet

end_is : (stream : Stream) (from : ℤ) (size : ℕ) (lane : LaneState) (marks : List MarkView) (t : ℤ) → HasFeed stream from size lane marks t → end_at lane ≡ end_of (format_of stream) from marks
end_is stream from size lane marks t fed =
    ap (λ (f : PacketFormat). unwrap_or (time_reached f.frames lane.slot lane.quiet) lane.start) fed.format
    ∙ ap (λ s. unwrap_or (time_reached stream.frames s lane.quiet) lane.start) fed.slot
    ∙ ap (λ q. unwrap_or (time_reached stream.frames (last_slot marks) q) lane.start) fed.quiet
    ∙ ap (unwrap_or (time_reached stream.frames (last_slot marks) (last_quiet marks))) fed.start

-- the first lane was fed the first stream's marks, and the other lanes those of the other streams
first_fed : (from : ℤ) (size : ℕ) (lane : LaneState) (lanes : List LaneState) (feed : Feed) (feeds : List Feed) (t : ℤ)
    → AreFed from size (lane ∷ lanes) (feed ∷ feeds) t → HasFeed feed.stream from size lane feed.marks t
first_fed from size lane lanes feed feeds t fed = fed.each 0 lane feed refl refl

rest_fed : (from : ℤ) (size : ℕ) (lane : LaneState) (lanes : List LaneState) (feed : Feed) (feeds : List Feed) (t : ℤ)
    → AreFed from size (lane ∷ lanes) (feed ∷ feeds) t → AreFed from size lanes feeds t
rest_fed from size lane lanes feed feeds t fed = record { count = let e = fed.count in omega (arith, e); each = λ i l f. fed.each (suc i) l f }

pub covered_is : (from : ℤ) (size : ℕ) (lanes : List LaneState) (feeds : List Feed) (t e : ℤ) → AreFed from size lanes feeds t
    → list_all (λ (lane : LaneState). covers (cover_at lane) e) lanes ≡ are_covered feeds e
covered_is from size [] [] t e fed = refl
covered_is from size [] (feed ∷ feeds) t e fed = absurd (let h = fed.count in omega (arith, h))
covered_is from size (lane ∷ lanes) [] t e fed = absurd (let h = fed.count in omega (arith, h))
covered_is from size (lane ∷ lanes) (feed ∷ feeds) t e fed =
    ap (λ c. covers c e && list_all (λ (l : LaneState). covers (cover_at l) e) lanes) (cover_is feed.stream from size lane feed.marks t (first_fed from size lane lanes feed feeds t fed))
    ∙ ap (λ b. covers (cover_of (format_of feed.stream) feed.marks) e && b) (covered_is from size lanes feeds t e (rest_fed from size lane lanes feed feeds t fed))

or_first : (x y : Bool) → (x ≡ false → y ≡ false) → x ≡ (x || y)
or_first true y h = refl
or_first false y h = sym (h refl)

or_second : (x y : Bool) → (x ≡ true → y ≡ true) → y ≡ (x || y)
or_second true y h = h refl
or_second false y h = refl

max_by : (t a b : ℤ) (s : Bool) → int_lt b a ≡ s → int_lt t (cond s a b) ≡ (int_lt t a || int_lt t b)
max_by t a b true e = or_first (int_lt t a) (int_lt t b) (λ f. lt_no t b (let g = lt_denied t a f in let h = lt_said b a e in omega (arith, ints, g, h)))
max_by t a b false e = or_second (int_lt t a) (int_lt t b) (λ f. lt_yes t b (let g = lt_said t a f in let h = lt_denied b a e in omega (arith, ints, g, h)))

-- a time is before the greater of two exactly if it is before one of them
pub lt_max : (t a b : ℤ) → int_lt t (int_max a b) ≡ (int_lt t a || int_lt t b)
lt_max t a b = max_by t a b (int_lt b a) refl

either : (e es a b : Bool) → ((not e || a) || (not es || b)) ≡ (not (e && es) || (a || b))
either true true a b = refl
either true false true b = refl
either true false false b = refl
either false es a b = refl

pub past_is : (from : ℤ) (size : ℕ) (lanes : List LaneState) (feeds : List Feed) (t time : ℤ) → AreFed from size lanes feeds t → from ≤ℤ time
    → list_any (reaches_past time) lanes ≡ (not (have_ended feeds) || int_lt time (greatest_end from feeds))
past_is from size [] [] t time fed h = sym (lt_no time from h)
past_is from size [] (feed ∷ feeds) t time fed h = absurd (let e = fed.count in omega (arith, e))
past_is from size (lane ∷ lanes) [] t time fed h = absurd (let e = fed.count in omega (arith, e))
past_is from size (lane ∷ lanes) (feed ∷ feeds) t time fed h =
    let first = first_fed from size lane lanes feed feeds t fed in
    ap (λ b. (not b || int_lt time (end_at lane)) || list_any (reaches_past time) lanes) first.ended
    ∙ ap (λ u. (not (has_end feed.marks) || int_lt time u) || list_any (reaches_past time) lanes) (end_is feed.stream from size lane feed.marks t first)
    ∙ ap (λ b. (not (has_end feed.marks) || int_lt time (end_of (format_of feed.stream) from feed.marks)) || b) (past_is from size lanes feeds t time (rest_fed from size lane lanes feed feeds t fed) h)
    ∙ either (has_end feed.marks) (have_ended feeds) (int_lt time (end_of (format_of feed.stream) from feed.marks)) (int_lt time (greatest_end from feeds))
    ∙ ap (λ b. not (has_end feed.marks && have_ended feeds) || b) (sym (lt_max time (end_of (format_of feed.stream) from feed.marks) (greatest_end from feeds)))

few_steps : (c n q : ℕ) → 0 < q → c * q ≤ n * q + (q - 1) → c ≤ n
few_steps c n q some h = elim (cases_lt n c) [
  | inl more ↦ absurd (let m = mul-le-mul_right q (let e : n + 1 ≤ c = omega arith in e) in omega (arith, m))
  | inr le ↦ le
]

-- a step begins before the end exactly if its number is below the number of steps from the start to the end, the last
-- one perhaps not full
counted : (start end : ℤ) (n q : ℕ) → 0 < q → int_lt (start +ℤ pos (n * q)) end ≡ nat_lt n ((natural (end -ℤ start) + (q - 1)) / q)
counted start end n q some = by_lt_z (start +ℤ pos (n * q)) end
    (λ before.
    let long : (n + 1) * q ≤ natural (end -ℤ start) + (q - 1) = elim (distance (end -ℤ start)) [
      | past e ↦ omega (arith, ints)
      | none e z ↦ absurd (omega (arith, ints))
    ] in
    let below : n + 1 ≤ (natural (end -ℤ start) + (q - 1)) / q = le-div (n + 1) (natural (end -ℤ start) + (q - 1)) q some long in
    lt_yes (start +ℤ pos (n * q)) end before ∙ (let no : true ≡ nat_lt n ((natural (end -ℤ start) + (q - 1)) / q) = grind (arith, nat_tests) in no))
    (λ after.
    let short : natural (end -ℤ start) ≤ n * q = elim (distance (end -ℤ start)) [
      | past e ↦ omega (arith, ints)
      | none e z ↦ omega (arith, ints)
    ] in
    let fits : (natural (end -ℤ start) + (q - 1)) / q * q ≤ natural (end -ℤ start) + (q - 1) = div-mul-le_self (natural (end -ℤ start) + (q - 1)) q in
    let within : (natural (end -ℤ start) + (q - 1)) / q ≤ n = few_steps ((natural (end -ℤ start) + (q - 1)) / q) n q some (omega arith) in
    lt_no (start +ℤ pos (n * q)) end after ∙ (let no : false ≡ nat_lt n ((natural (end -ℤ start) + (q - 1)) / q) = grind (arith, nat_tests) in no))

-- a block begins before the greatest end exactly if its number is below the count
pub before_count : (out : Output) (feeds : List Feed) (n : ℕ) → 0 < out.frames
    → int_lt (block_start out n) (greatest_end out.start feeds) ≡ nat_lt n (block_count out feeds)
before_count out feeds n some = counted out.start (greatest_end out.start feeds) n out.frames some

pub ready_is : (out : Output) (lanes : List LaneState) (feeds : List Feed) (n : ℕ) → 0 < out.frames → AreFed out.start out.frames lanes feeds (block_start out n)
    → (list_all (λ (lane : LaneState). covers (cover_at lane) (block_start out (n + 1))) lanes && list_any (reaches_past (block_start out n)) lanes) ≡ is_ready out feeds n
ready_is out lanes feeds n some fed =
    ap (λ b. b && list_any (reaches_past (block_start out n)) lanes) (covered_is out.start out.frames lanes feeds (block_start out n) (block_start out (n + 1)) fed)
    ∙ ap (λ b. are_covered feeds (block_start out (n + 1)) && b) (past_is out.start out.frames lanes feeds (block_start out n) (block_start out n) fed (omega (arith, ints)))
    ∙ ap (λ b. are_covered feeds (block_start out (n + 1)) && (not (have_ended feeds) || b)) (before_count out feeds n some)

-- the tests of the lanes say whether the block is ready
pub ready_of : (studio : Studio) (mixer : MixerState) (feeds : List Feed) (n : ℕ) (out : Output) (time : ℤ) (one ins outs : List ℤ)
    → IsMixer mixer out time one ins outs → HasFeeds studio mixer feeds n
    → (list_all (λ (lane : LaneState). covers (cover_at lane) (time +ℤ pos out.frames)) mixer.lanes && list_any (reaches_past time) mixer.lanes) ≡ is_ready studio.output feeds n
ready_of studio mixer feeds n out time one ins outs sound fed =
    let some : 0 < studio.output.frames = subst (λ (o : Output). 0 < o.frames) (sound.out_is ∙ fed.output) sound.out_ok.some_frames in
    ap (λ e. list_all (λ (lane : LaneState). covers (cover_at lane) e) mixer.lanes && list_any (reaches_past time) mixer.lanes) (block_end studio mixer feeds n out time one ins outs sound fed)
    ∙ ap (λ t. list_all (λ (lane : LaneState). covers (cover_at lane) (block_start studio.output (n + 1))) mixer.lanes && list_any (reaches_past t) mixer.lanes) (block_begin studio mixer feeds n out time one ins outs sound fed)
    ∙ ready_is studio.output mixer.lanes feeds n some fed.lanes

all_said : {X : Type 0} (p : X → Bool) (xs : List X) (k : ℕ) (d : X) → list_all p xs ≡ true → k < length xs → p (get_or xs k d) ≡ true
all_said p xs k d all h = elim (cases_Bool (p (get_or xs k d))) [
  | inl y ↦ y
  | inr n ↦ absurd (false≢true (sym (list_all_at p xs k d h n) ∙ all))
]

-- the tests of the lanes, as the code makes them
pub ready_answer : (studio : Studio) (mixer : MixerState) (feeds : List Feed) (n : ℕ) (out : Output) (time : ℤ) (one ins outs : List ℤ)
    → IsMixer mixer out time one ins outs → HasFeeds studio mixer feeds n
    → (e now : ℤ) (xs ys : List LaneState) → e ≡ time +ℤ pos out.frames → now ≡ time → xs ≡ mixer.lanes → ys ≡ mixer.lanes
    → (covered past : Bool) → covered ≡ list_all (λ (lane : LaneState). covers (cover_at lane) e) xs → past ≡ list_any (reaches_past now) ys
    → (covered && past) ≡ is_ready studio.output feeds n
ready_answer studio mixer feeds n out time one ins outs sound fed e now xs ys e_is now_is xs_is ys_is covered later cov lat =
    ap (λ b. b && later) (cov ∙ ap (λ t. list_all (λ (lane : LaneState). covers (cover_at lane) t) xs) e_is ∙ ap (list_all (λ (lane : LaneState). covers (cover_at lane) (time +ℤ pos out.frames))) xs_is)
    ∙ ap (λ b. list_all (λ (lane : LaneState). covers (cover_at lane) (time +ℤ pos out.frames)) mixer.lanes && b) (lat ∙ ap (λ t. list_any (reaches_past t) ys) now_is ∙ ap (list_any (reaches_past time)) ys_is)
    ∙ ready_of studio mixer feeds n out time one ins outs sound fed

pub ready_lanes : (size : ℕ) (time : ℤ) (lanes : List LaneState) → AllOf (IsLaneAt size time) lanes → time ≤ℤ pos (2 ^ 61 + 384)
    → list_all (λ (lane : LaneState). covers (cover_at lane) (time +ℤ pos size)) lanes ≡ true → AllOf (IsReadyLane size) lanes
ready_lanes size time lanes each late covered = λ k d h.
    let lane = get_or lanes k d in
    let at = each k d h in
    let is_covered : covers (cover_at lane) (time +ℤ pos size) ≡ true = all_said (λ (l : LaneState). covers (cover_at l) (time +ℤ pos size)) lanes k d covered h in
    record {
      block = at.block;
      covered = ap (λ b. covers (cover_at lane) (lane.position +ℤ pos b)) at.block ∙ ap (λ t. covers (cover_at lane) (t +ℤ pos size)) at.position ∙ is_covered;
      early = let p = at.position in omega (arith, ints, p, late);
      some_channels = at.some_channels;
      few_channels = at.few_channels;
    }
