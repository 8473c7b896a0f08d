-- A path's track shows how many of its last 256 arrivals were astray, and how many beyond, and since when many were; and
-- the standing of an arrival by its place.
use Rattle.std.proofs.Common.{◌≡◌, ℕ, zero, suc, ◌+◌, ◌*◌, ◌%◌, ◌^◌, ◌<◌, ◌≤◌, Bool, true, false, cond, not, ◌&&◌, ◌||◌, max, List, [], ◌∷◌, ◌++◌, length, map, take, drop, reverse, count_by, Option, Some, None, ℤ, Result, Ok, Err, refl, sym, ap, subst, ◌∙◌, arith, if◌then◌else◌}
use Rattle.std.specs.Prelude.{count_ones, nat_eq, nat_le, nat_lt, slice_index_or, slice_set}
use Rattle.std.proofs.lemmas.Bool.Decides.{nat_tests}
use Rattle.std.proofs.lemmas.List.{reverse-append}
use Rattle.std.proofs.lemmas.Simd.{mask_l-mod, ones-mask_l, ones-mask_l_cons}
use Rattle.std.proofs.Math.Seq.{take-add}
use Rattle.std.proofs.lemmas.Nat.{mod_below, mod_low}
use lib.Lanes.{mask_l}
use native.Mathlib.Numerals.{unary_clauses}
use Rattle.rtp_stream.proofs.ProbationLemmas.{by_last}
use Rattle.rtp_stream.specs.Fate.{place_of}
use Rattle.rtp_stream.specs.Grid.{extended_number, of_width, is_in_time, is_on_grid}
use Rattle.rtp_stream.specs.Anchor.{is_source_wanted}
use Rattle.rtp_stream.specs.ArrivalBits.{are_often, bits_with, has_top, no_bits, shifted}
use Rattle.rtp_stream.specs.FollowTrack.{is_early, is_slip_by, no_track, silenced, since_after, standing_by, track_after, track_at, track_from, track_of, track_with}
use Rattle.rtp_stream.specs.Probation.{is_off}
use Rattle.rtp_stream.specs.Follow.{are_many, are_many_at, astray_since, end_of_standings, has_wire_size, is_astray, is_beyond, is_following, is_for_long, is_silent, latest_time, run_at, run_of, time_or}
use Rattle.rtp_stream.specs.declared.arrival_bits.ArrivalBits.{ArrivalBits}
use Rattle.rtp_stream.specs.declared.stream_spec.Stream.{Stream}
use Rattle.rtp_stream.specs.declared.anchor.Anchor.{Anchor}
use Rattle.rtp_stream.specs.declared.fate.Fate.{Fate}
use Rattle.rtp_stream.specs.declared.fate.Fate.TheVariants.{Ahead, Late, OffGrid, WrongSource}
use Rattle.rtp_stream.specs.declared.packet.Packet.{Packet}
use Rattle.rtp_stream.specs.declared.follow.Standing.{Standing}
use Rattle.rtp_stream.specs.declared.follow.Track.{Track}

twofold : (k : ℕ) → 2 ^ suc k ≡ 2 * 2 ^ k
twofold k = simp unary_clauses (omega arith)

-- the bit of the element at `k`, if there is one, is the highest of the first `k` + 1
abbrev TopIs : (Standing → Bool) → ℕ → List Standing → List Standing → Type 0
TopIs f k standings [] = (drop (suc k) standings ≡ []) × (mask_l (map f (take (suc k) standings)) ≡ mask_l (map f (take k standings)))
TopIs f k standings (x ∷ rest) = (drop (suc k) standings ≡ rest) × (mask_l (map f (take (suc k) standings)) ≡ cond (f x) (2 ^ k) 0 + mask_l (map f (take k standings)))

top_is : (f : Standing → Bool) (k : ℕ) (standings : List Standing) → TopIs f k standings (drop k standings)
top_is f zero [] = (refl, refl)
top_is f zero (s ∷ standings) = (refl, by_test (f s))
  where
    by_test : (b : Bool) → cond b 1 0 + 2 * 0 ≡ cond b (2 ^ 0) 0 + 0
    by_test true = refl
    by_test false = refl
top_is f (suc k) [] = (refl, refl)
top_is f (suc k) (s ∷ standings) = by_rest (drop k standings) (top_is f k standings)
  where
    twice : (b : Bool) (low m n : ℕ) → m ≡ cond b (2 ^ k) 0 + n → low + 2 * m ≡ cond b (2 ^ suc k) 0 + (low + 2 * n)
    twice true low m n e = let double : 2 ^ suc k ≡ 2 * 2 ^ k = twofold k in omega (arith, e, double)
    twice false low m n e = omega (arith, e)

    by_rest : (rest : List Standing) → TopIs f k standings rest → TopIs f (suc k) (s ∷ standings) rest
    by_rest [] top = (top.0, ap (λ n. cond (f s) 1 0 + 2 * n) top.1)
    by_rest (x ∷ rest) top = (top.0, twice (f x) (cond (f s) 1 0) (mask_l (map f (take (suc k) standings))) (mask_l (map f (take k standings))) top.1)

short : {A : Type 0} (k : ℕ) (xs : List A) → length (take k xs) ≤ k
short zero xs = omega arith
short (suc k) [] = omega arith
short (suc k) (x ∷ xs) = omega (arith, short k xs)

length-map_of : {A B : Type 0} (f : A → B) (xs : List A) → length (map f xs) ≡ length xs
length-map_of f [] = refl
length-map_of f (x ∷ xs) = ap suc (length-map_of f xs)

small_mask : (f : Standing → Bool) (k : ℕ) (standings : List Standing) → mask_l (map f (take k standings)) < 2 ^ k
small_mask f k standings =
    let few : length (map f (take k standings)) ≤ k = omega (arith, length-map_of f (take k standings), short k standings) in
    subst (λ m. m < 2 ^ k) (mask_l-mod (map f (take k standings)) k few) (mod_below (mask_l (map f (take k standings))) (2 ^ k) (pow_some k))
  where
    pow_some : (k : ℕ) → 0 < 2 ^ k
    pow_some zero = omega arith
    pow_some (suc k) = let double : 2 ^ suc k ≡ 2 * 2 ^ k = twofold k in omega (arith, double, pow_some k)

-- one more arrival is one more bit
bits_more : (f : Standing → Bool) (s : Standing) (standings : List Standing) → shifted (mask_l (map f (take 64 standings))) (f s) ≡ mask_l (map f (take 64 (s ∷ standings)))
bits_more f s standings = by_rest (drop 63 standings) (top_is f 63 standings)
  where
    by_top : (b c : Bool) (m n : ℕ) → m ≡ cond b (2 ^ 63) 0 + n → n < 2 ^ 63 → ((m + m) % 2 ^ 64 + (if c then 1 else 0)) % 2 ^ 64 ≡ cond c 1 0 + 2 * n
    by_top b c m n e small = ap (λ x. (x + (if c then 1 else 0)) % 2 ^ 64) (dropped b e) ∙ kept c
      where
        dropped : (b : Bool) → m ≡ cond b (2 ^ 63) 0 + n → (m + m) % 2 ^ 64 ≡ n + n
        dropped true e =
            let twice : m + m ≡ 1 * 2 ^ 64 + (n + n) = omega (arith, e) in
            ap (λ x. x % 2 ^ 64) twice ∙ mod_low 1 64 (n + n) (omega (arith, small))
        dropped false e =
            let twice : m + m ≡ 0 * 2 ^ 64 + (n + n) = omega (arith, e) in
            ap (λ x. x % 2 ^ 64) twice ∙ mod_low 0 64 (n + n) (omega (arith, small))

        kept : (c : Bool) → (n + n + (if c then 1 else 0)) % 2 ^ 64 ≡ cond c 1 0 + 2 * n
        kept true =
            let same : n + n + 1 ≡ 0 * 2 ^ 64 + (1 + 2 * n) = omega arith in
            ap (λ x. x % 2 ^ 64) same ∙ mod_low 0 64 (1 + 2 * n) (omega (arith, small))
        kept false =
            let same : n + n + 0 ≡ 0 * 2 ^ 64 + (0 + 2 * n) = omega arith in
            ap (λ x. x % 2 ^ 64) same ∙ mod_low 0 64 (0 + 2 * n) (omega (arith, small))

    by_rest : (rest : List Standing) → TopIs f 63 standings rest → shifted (mask_l (map f (take 64 standings))) (f s) ≡ mask_l (map f (take 64 (s ∷ standings)))
    by_rest [] top = by_top false (f s) (mask_l (map f (take 64 standings))) (mask_l (map f (take 63 standings))) (omega (arith, top.1)) (small_mask f 63 standings)
    by_rest (x ∷ rest) top = by_top (f x) (f s) (mask_l (map f (take 64 standings))) (mask_l (map f (take 63 standings))) top.1 (small_mask f 63 standings)

zero_plus : (n : ℕ) → 0 + n ≡ n
zero_plus n = omega arith

top_set : (n : ℕ) → n < 2 ^ 63 → has_top (2 ^ 63 + n) ≡ true
top_set n small = grind (arith, nat_tests, small)

top_unset : (n : ℕ) → n < 2 ^ 63 → has_top n ≡ false
top_unset n small = grind (arith, nat_tests, small)

top_bit : (b : Bool) (n : ℕ) → n < 2 ^ 63 → has_top (cond b (2 ^ 63) 0 + n) ≡ b
top_bit true n small = top_set n small
top_bit false n small = ap has_top (zero_plus n) ∙ top_unset n small

-- the highest bit of one word is the lowest of the next one
carry : (f : Standing → Bool) (standings : List Standing) → shifted (mask_l (map f (take 64 (drop 64 standings)))) (has_top (mask_l (map f (take 64 standings)))) ≡ mask_l (map f (take 64 (drop 63 standings)))
carry f standings = by_rest (drop 63 standings) (top_is f 63 standings)
  where
    by_rest : (rest : List Standing) → TopIs f 63 standings rest → shifted (mask_l (map f (take 64 (drop 64 standings)))) (has_top (mask_l (map f (take 64 standings)))) ≡ mask_l (map f (take 64 rest))
    by_rest [] top =
        ap (λ l. shifted (mask_l (map f (take 64 l))) (has_top (mask_l (map f (take 64 standings))))) top.0
        ∙ ap (shifted 0) (ap has_top top.1 ∙ top_unset (mask_l (map f (take 63 standings))) (small_mask f 63 standings))
    by_rest (x ∷ rest) top =
        ap (λ l. shifted (mask_l (map f (take 64 l))) (has_top (mask_l (map f (take 64 standings))))) top.0
        ∙ ap (shifted (mask_l (map f (take 64 rest)))) (ap has_top top.1 ∙ top_bit (f x) (mask_l (map f (take 63 standings))) (small_mask f 63 standings))
        ∙ bits_more f x rest

drop_none : (k : ℕ) → drop {A = Standing} k [] ≡ []
drop_none zero = refl
drop_none (suc k) = refl

drop_drop : (m n : ℕ) (standings : List Standing) → drop m (drop n standings) ≡ drop (m + n) standings
drop_drop m zero standings = let none : m + 0 ≡ m = omega arith in ap (λ k. drop k standings) (sym none)
drop_drop m (suc n) [] = drop_none m ∙ sym (drop_none (m + suc n))
drop_drop m (suc n) (s ∷ standings) = drop_drop m n standings ∙ let more : m + suc n ≡ suc (m + n) = omega arith in sym (ap (λ k. drop k (s ∷ standings)) more)

-- the bits of the first 256 of these arrivals
pub record HasBits (bits : ArrivalBits) (f : Standing → Bool) (standings : List Standing) : Type 0 where
  pub latest : bits.latest ≡ mask_l (map f (take 64 standings))
  pub second : bits.second ≡ mask_l (map f (take 64 (drop 64 standings)))
  pub third : bits.third ≡ mask_l (map f (take 64 (drop 128 standings)))
  pub oldest : bits.oldest ≡ mask_l (map f (take 64 (drop 192 standings)))

bits_none : (f : Standing → Bool) → HasBits no_bits f []
bits_none f = record { latest = refl; second = refl; third = refl; oldest = refl }

bits_push : (bits : ArrivalBits) (f : Standing → Bool) (standings : List Standing) (s : Standing) → HasBits bits f standings → HasBits (bits_with bits (f s)) f (s ∷ standings)
bits_push bits f standings s has = record {
  latest = ap (λ w. shifted w (f s)) has.latest ∙ bits_more f s standings;
  second =
      ap (λ w. shifted w (has_top bits.latest)) has.second
      ∙ ap (λ w. shifted (mask_l (map f (take 64 (drop 64 standings)))) (has_top w)) has.latest
      ∙ carry f standings;
  third =
      ap (λ w. shifted w (has_top bits.second)) (has.third ∙ ap (λ l. mask_l (map f (take 64 l))) (sym (drop_drop 64 64 standings)))
      ∙ ap (λ w. shifted (mask_l (map f (take 64 (drop 64 (drop 64 standings))))) (has_top w)) has.second
      ∙ carry f (drop 64 standings)
      ∙ ap (λ l. mask_l (map f (take 64 l))) (drop_drop 63 64 standings);
  oldest =
      ap (λ w. shifted w (has_top bits.third)) (has.oldest ∙ ap (λ l. mask_l (map f (take 64 l))) (sym (drop_drop 64 128 standings)))
      ∙ ap (λ w. shifted (mask_l (map f (take 64 (drop 64 (drop 128 standings))))) (has_top w)) has.third
      ∙ carry f (drop 128 standings)
      ∙ ap (λ l. mask_l (map f (take 64 l))) (drop_drop 63 128 standings);
}

count_cons : (f : Standing → Bool) (s : Standing) (standings : List Standing) → count_by f (s ∷ standings) ≡ cond (f s) 1 0 + count_by f standings
count_cons f s standings = sym (ones-mask_l f (s ∷ standings)) ∙ ones-mask_l_cons (f s) (map f standings) ∙ ap (λ n. cond (f s) 1 0 + n) (ones-mask_l f standings)

count_append : (f : Standing → Bool) (xs ys : List Standing) → count_by f (xs ++ ys) ≡ count_by f xs + count_by f ys
count_append f [] ys = sym (zero_plus (count_by f ys))
count_append f (s ∷ xs) ys = omega (arith, count_cons f s xs, count_cons f s (xs ++ ys), count_append f xs ys)

count_split : (f : Standing → Bool) (n m : ℕ) (standings : List Standing) → count_by f (take (n + m) standings) ≡ count_by f (take n standings) + count_by f (take m (drop n standings))
count_split f n m standings = ap (count_by f) (take-add n m standings) ∙ count_append f (take n standings) (take m (drop n standings))

-- the bits show whether many passed the test
often_is : (bits : ArrivalBits) (f : Standing → Bool) (standings : List Standing) → HasBits bits f standings → are_often bits ≡ are_many f standings
often_is bits f standings has =
    let a = ap count_ones has.latest ∙ ones-mask_l f (take 64 standings) in
    let b = ap count_ones has.second ∙ ones-mask_l f (take 64 (drop 64 standings)) in
    let c = ap count_ones has.third ∙ ones-mask_l f (take 64 (drop 128 standings)) in
    let d = ap count_ones has.oldest ∙ ones-mask_l f (take 64 (drop 192 standings)) in
    let halves = count_split f 128 128 standings in
    let newer = count_split f 64 64 standings in
    let older = count_split f 64 64 (drop 128 standings) ∙ ap (λ l. count_by f (take 64 (drop 128 standings)) + count_by f (take 64 l)) (drop_drop 64 128 standings) in
    let sum : count_ones bits.latest + count_ones bits.second + (count_ones bits.third + count_ones bits.oldest) ≡ count_by f (take 256 standings) = omega (arith, a, b, c, d, halves, newer, older) in
    ap (nat_le 8) sum

track_from-push : (t : Track) (standings : List Standing) (s : Standing) → track_from t (standings ++ s ∷ []) ≡ track_after (track_from t standings) s
track_from-push t [] s = refl
track_from-push t (x ∷ standings) s = track_from-push (track_after t x) standings s

pub track_of-push : (standings : List Standing) (s : Standing) → track_of (standings ++ s ∷ []) ≡ track_after (track_of standings) s
track_of-push standings s = track_from-push no_track standings s

end-push : (standings : List Standing) (s : Standing) → end_of_standings (standings ++ s ∷ []) ≡ max (end_of_standings standings) s.end
end-push [] s = omega arith
end-push (x ∷ standings) s = omega (arith, end-push standings s)

-- the track of a path's arrivals
pub record IsTracked (t : Track) (standings : List Standing) : Type 0 where
  pub astray : HasBits t.astray is_astray (run_of (reverse standings))
  pub early : HasBits t.early is_beyond (run_of (reverse standings))
  pub end : t.end ≡ end_of_standings standings
  pub last : t.last ≡ latest_time (reverse standings)
  pub since : t.since ≡ astray_since (run_of (reverse standings))

-- one arrival more, of a run
record IsRun (t : Track) (run : List Standing) : Type 0 where
  astray : HasBits t.astray is_astray run
  early : HasBits t.early is_beyond run
  since : t.since ≡ astray_since run

run_push : (t : Track) (run : List Standing) (s : Standing) → IsRun t run → IsRun (track_with t s) (s ∷ run)
run_push t run s is =
    let astray = bits_push t.astray is_astray run s is.astray in
    record {
      astray = astray;
      early = bits_push t.early is_beyond run s is.early;
      since =
          ap (λ since. since_after since (are_often (bits_with t.astray (is_astray s))) s.time) is.since
          ∙ ap (λ often. since_after (astray_since run) often s.time) (often_is (bits_with t.astray (is_astray s)) is_astray (s ∷ run) astray);
    }

pub tracked : (standings : List Standing) → IsTracked (track_of standings) standings
tracked = by_last (λ standings. IsTracked (track_of standings) standings) (record { astray = bits_none is_astray; early = bits_none is_beyond; end = refl; last = refl; since = refl }) step
  where
    step : (standings : List Standing) (s : Standing) → IsTracked (track_of standings) standings → IsTracked (track_of (standings ++ s ∷ [])) (standings ++ s ∷ [])
    step standings s before =
        let turned : reverse (standings ++ s ∷ []) ≡ s ∷ reverse standings = reverse-append standings (s ∷ []) in
        let after : track_after (track_of standings) s ≡ track_with (if is_silent (latest_time (reverse standings)) s.time then silenced (track_of standings) else track_of standings) s =
        ap (λ last. track_with (if is_silent last s.time then silenced (track_of standings) else track_of standings) s) before.last in
        let is : IsRun (track_after (track_of standings) s) (run_of (s ∷ reverse standings)) =
        subst (λ t. IsRun t (run_of (s ∷ reverse standings))) (sym after) (by_silence (is_silent (latest_time (reverse standings)) s.time)) in
        subst (λ t. IsTracked t (standings ++ s ∷ [])) (sym (track_of-push standings s)) (record {
          astray = subst (λ l. HasBits (track_after (track_of standings) s).astray is_astray (run_of l)) (sym turned) is.astray;
          early = subst (λ l. HasBits (track_after (track_of standings) s).early is_beyond (run_of l)) (sym turned) is.early;
          end = kept_end (is_silent (track_of standings).last s.time) ∙ ap (λ e. max e s.end) before.end ∙ sym (end-push standings s);
          last = last_is (is_silent (track_of standings).last s.time) ∙ ap latest_time (sym turned);
          since = is.since ∙ ap (λ l. astray_since (run_of l)) (sym turned);
        })
      where
        by_silence : (b : Bool) → IsRun (track_with (if b then silenced (track_of standings) else track_of standings) s) (s ∷ (if b then [] else run_of (reverse standings)))
        by_silence true = run_push (silenced (track_of standings)) [] s (record { astray = bits_none is_astray; early = bits_none is_beyond; since = refl })
        by_silence false = run_push (track_of standings) (run_of (reverse standings)) s (record { astray = before.astray; early = before.early; since = before.since })

        kept_end : (b : Bool) → (track_with (if b then silenced (track_of standings) else track_of standings) s).end ≡ max (track_of standings).end s.end
        kept_end true = refl
        kept_end false = refl

        last_is : (b : Bool) → (track_with (if b then silenced (track_of standings) else track_of standings) s).last ≡ Some s.time
        last_is true = refl
        last_is false = refl

-- the track shows whether many arrivals are beyond at a time, since when many are astray, and where the copies in time end
pub early_is : (standings : List Standing) (time : ℤ) → is_early (track_of standings) time ≡ are_many_at is_beyond time standings
early_is standings time = ap (λ last. not (is_silent last time) && are_often (track_of standings).early) (tracked standings).last ∙ by_silence (is_silent (latest_time (reverse standings)) time)
  where
    by_silence : (b : Bool) → (not b && are_often (track_of standings).early) ≡ are_many is_beyond (if b then [] else run_of (reverse standings))
    by_silence true = refl
    by_silence false = often_is (track_of standings).early is_beyond (run_of (reverse standings)) (tracked standings).early

pub since_is : (standings : List Standing) → (track_of standings).since ≡ astray_since (run_of (reverse standings))
since_is standings = (tracked standings).since

pub end_is : (standings : List Standing) → (track_of standings).end ≡ end_of_standings standings
end_is standings = (tracked standings).end

-- one path's track among all
pub track_at-get : (place : ℕ) (tracks : List Track) (other : Track) → place < length tracks → track_at tracks place ≡ slice_index_or tracks place other
track_at-get zero [] other lt = absurd (omega (arith, lt))
track_at-get (suc place) [] other lt = absurd (omega (arith, lt))
track_at-get zero (t ∷ tracks) other lt = refl
track_at-get (suc place) (t ∷ tracks) other lt = track_at-get place tracks other (omega (arith, lt))

pub track_at-set : (place : ℕ) (tracks : List Track) (t : Track) → place < length tracks → track_at (slice_set tracks place t) place ≡ t
track_at-set zero [] t lt = absurd (omega (arith, lt))
track_at-set (suc place) [] t lt = absurd (omega (arith, lt))
track_at-set zero (u ∷ tracks) t lt = refl
track_at-set (suc place) (u ∷ tracks) t lt = track_at-set place tracks t (omega (arith, lt))

pub track_at-other : (other place : ℕ) (tracks : List Track) (t : Track) → nat_eq other place ≡ false → track_at (slice_set tracks place t) other ≡ track_at tracks other
track_at-other other place [] t apart = refl
track_at-other zero zero (u ∷ tracks) t apart = cc
track_at-other (suc other) zero (u ∷ tracks) t apart = refl
track_at-other zero (suc place) (u ∷ tracks) t apart = refl
track_at-other (suc other) (suc place) (u ∷ tracks) t apart = track_at-other other place tracks t (grind (arith, nat_tests, apart))

-- both of two tests
both : (a b : Bool) → (a && b) ≡ true → (a ≡ true) × (b ≡ true)
both true b e = (refl, e)
both false b e = cc

wire_size : (packet : Packet) → packet.seq < 2 ^ 16 → packet.ts < 2 ^ 32 → has_wire_size packet ≡ true
wire_size packet seq ts =
    let s : nat_lt packet.seq (2 ^ 16) ≡ true = grind (arith, nat_tests, seq) in
    let t : nat_lt packet.ts (2 ^ 32) ≡ true = grind (arith, nat_tests, ts) in
    rw (s, t) refl

-- a slip, by what the code tests
pub slip_is : (stream : Stream) (anchor : Anchor) (next : ℕ) (time : ℤ) (tracks : List Track) (path : ℕ) (packet : Packet) (standing : Standing) (track : Track) (result : Bool)
    → (is_following stream.clock && is_source_wanted stream.ssrc packet.ssrc) ≡ true → packet.seq < 2 ^ 16 → packet.ts < 2 ^ 32
    → standing ≡ standing_by stream anchor next time tracks path packet → track ≡ track_after (track_at tracks path) (standing_by stream anchor next time tracks path packet)
    → result ≡ (is_astray standing && is_for_long track.since standing.time)
    → result ≡ (is_source_wanted stream.ssrc packet.ssrc && is_slip_by stream anchor next time tracks path packet)
slip_is stream anchor next time tracks path packet standing track result judged seq ts stands noted is =
    let tests = both (is_following stream.clock) (is_source_wanted stream.ssrc packet.ssrc) judged in
    is
    ∙ ap (λ (s : Standing). is_astray s && is_for_long track.since s.time) stands
    ∙ ap (λ (t : Track). is_astray (standing_by stream anchor next time tracks path packet) && is_for_long t.since time) noted
    ∙ sym (ap (λ w. w && is_slip_by stream anchor next time tracks path packet) tests.1
    ∙ ap (λ f. f && (has_wire_size packet && (is_astray (standing_by stream anchor next time tracks path packet) && is_for_long (track_after (track_at tracks path) (standing_by stream anchor next time tracks path packet)).since time))) tests.0
    ∙ ap (λ w. w && (is_astray (standing_by stream anchor next time tracks path packet) && is_for_long (track_after (track_at tracks path) (standing_by stream anchor next time tracks path packet)).since time)) (wire_size packet seq ts))
