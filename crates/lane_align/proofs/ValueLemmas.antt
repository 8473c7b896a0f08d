-- Values by places, and frame by frame.
use Rattle.std.proofs.Common.{◌≡◌, ◌<◌, ◌+◌, ◌*◌, ◌-◌, ℕ, zero, suc, List, ◌∷◌, ◌++◌, length, replicate, map, get_or, ℤ, pos, ◌+ℤ◌, refl, sym, ap, ◌∙◌, arith, length-append, length-take, inl, inr, zero-mul}
use Rattle.std.proofs.lemmas.Bool.{cases_lt}
use Rattle.std.proofs.lemmas.List.{length-replicate, get_or-replicate, get_or-take, get_or_append_left, get_or-append_right, get_or_past}
use Rattle.std.proofs.lemmas.List.FromFn.{fill_by_all}
use Rattle.std.specs.List.{range_with_len, flat_map}
use Rattle.rtp_stream.specs.MarkFacts.{MarkView}
use Rattle.rtp_stream.specs.declared.mark.PacketFormat.{PacketFormat}
use Rattle.lane_align.specs.HeldValues.{first_values}
use Rattle.lane_align.specs.Value.{value_at, frames_from}
use Rattle.lane_align.specs.Presence.{presence_at, presence_from}

-- every value of silence is 0, also past its end
get_or-silence : (n i : ℕ) → get_or (replicate n (pos 0)) i (pos 0) ≡ pos 0
get_or-silence n i = elim (cases_lt i n) [
  | inl below ↦ get_or-replicate n i (pos 0) (pos 0) below
  | inr past ↦ get_or_past (replicate n (pos 0)) i (pos 0) (let e : length (replicate n (pos 0)) ≡ n = length-replicate n (pos 0) in omega arith)
]

pub get_or-padded : (xs : List ℤ) (n i : ℕ) → get_or (xs ++ replicate n (pos 0)) i (pos 0) ≡ get_or xs i (pos 0)
get_or-padded xs n i = elim (cases_lt i (length xs)) [
  | inl below ↦ get_or_append_left xs (replicate n (pos 0)) (pos 0) i below
  | inr past ↦ get_or-append_right xs (replicate n (pos 0)) (length xs) i (pos 0) refl past ∙ get_or-silence n (i - length xs) ∙ sym (get_or_past xs i (pos 0) past)
]

pub length-first : (n : ℕ) (xs : List ℤ) → length (first_values n xs) ≡ n
length-first n xs =
    let cut = length-take n (xs ++ replicate n (pos 0)) in
    let whole = length-append xs (replicate n (pos 0)) in
    let silence : length (replicate n (pos 0)) ≡ n = length-replicate n (pos 0) in
    omega arith

first_is_map : (n : ℕ) (xs : List ℤ) → first_values n xs ≡ map (λ i. get_or xs i (pos 0)) (range_with_len 0 n)
first_is_map n xs = fill_by_all (λ i. get_or xs i (pos 0)) (first_values n xs) n (pos 0) (length-first n xs) (λ k h. get_or-take n (xs ++ replicate n (pos 0)) k (pos 0) h ∙ get_or-padded xs n k)

map_shift : (p q : ℕ → ℤ) (b j m : ℕ) → ((k : ℕ) → k < m → p (b + k) ≡ q (j + k)) → map p (range_with_len b m) ≡ map q (range_with_len j m)
map_shift p q b j zero same = refl
map_shift p q b j (suc m) same =
    let here : p b ≡ q j = ap p (let e : b ≡ b + 0 = omega arith in e) ∙ same 0 (omega arith) ∙ ap q (let e : j + 0 ≡ j = omega arith in e) in
    let rest = map_shift p q (b + 1) (j + 1) m (λ k h. ap p (let e : b + 1 + k ≡ b + (k + 1) = omega arith in e) ∙ same (k + 1) (omega arith) ∙ ap q (let e : j + (k + 1) ≡ j + 1 + k = omega arith in e)) in
    ap (λ v. v ∷ map p (range_with_len (b + 1) m)) here ∙ ap (λ vs. q j ∷ vs) rest

map_split : (p : ℕ → ℤ) (a m n : ℕ) → map p (range_with_len a (m + n)) ≡ map p (range_with_len a m) ++ map p (range_with_len (a + m) n)
map_split p a zero n = ap (λ k. map p (range_with_len a k)) (let e : 0 + n ≡ n = omega arith in e) ∙ ap (λ k. map p (range_with_len k n)) (let e : a ≡ a + 0 = omega arith in e)
map_split p a (suc m) n =
    ap (λ k. map p (range_with_len a k)) (let e : suc m + n ≡ suc (m + n) = omega arith in e)
    ∙ ap (λ vs. p a ∷ vs) (map_split p (a + 1) m n)
    ∙ ap (λ k. p a ∷ (map p (range_with_len (a + 1) m) ++ map p (range_with_len k n))) (let e : a + 1 + m ≡ a + suc m = omega arith in e)

rows : (p : ℕ → ℤ) (h : ℕ → ℕ → ℤ) (channels a n : ℕ) → ((f k : ℕ) → k < channels → p (f * channels + k) ≡ h f k)
    → map p (range_with_len (a * channels) (n * channels)) ≡ flat_map (λ f. map (h f) (range_with_len 0 channels)) (range_with_len a n)
rows p h channels a zero same = ap (λ k. map p (range_with_len (a * channels) k)) (zero-mul channels)
rows p h channels a (suc n) same =
    ap (λ k. map p (range_with_len (a * channels) k)) (let e : suc n * channels ≡ channels + n * channels = omega arith in e)
    ∙ map_split p (a * channels) channels (n * channels)
    ∙ ap (λ vs. vs ++ map p (range_with_len (a * channels + channels) (n * channels))) (map_shift p (h a) (a * channels) 0 channels (λ k lt. same a k lt ∙ ap (h a) (let e : k ≡ 0 + k = omega arith in e)))
    ∙ ap (λ k. map (h a) (range_with_len 0 channels) ++ map p (range_with_len k (n * channels))) (let e : a * channels + channels ≡ (a + 1) * channels = omega arith in e)
    ∙ ap (λ vs. map (h a) (range_with_len 0 channels) ++ vs) (rows p h channels (a + 1) n same)

-- a list with the right value at each place is the list of frames
pub frames_by_place : (format : PacketFormat) (marks : List MarkView) (t : ℤ) (count : ℕ) (xs : List ℤ)
    → ((f k : ℕ) → k < format.channels → get_or xs (f * format.channels + k) (pos 0) ≡ value_at format marks (t +ℤ pos f) k)
    → first_values (count * format.channels) xs ≡ frames_from format marks t count
frames_by_place format marks t count xs same =
    first_is_map (count * format.channels) xs
    ∙ ap (λ a. map (λ i. get_or xs i (pos 0)) (range_with_len a (count * format.channels))) (sym (zero-mul format.channels))
    ∙ rows (λ i. get_or xs i (pos 0)) (λ f k. value_at format marks (t +ℤ pos f) k) format.channels 0 count same

-- a list with the right presence at each place is the presence of the frames
pub presence_by_place : (format : PacketFormat) (marks : List MarkView) (t : ℤ) (count : ℕ) (xs : List ℤ)
    → ((f : ℕ) → get_or xs f (pos 0) ≡ presence_at format marks (t +ℤ pos f))
    → first_values count xs ≡ presence_from format marks t count
presence_by_place format marks t count xs same =
    first_is_map count xs ∙ map_shift (λ i. get_or xs i (pos 0)) (λ f. presence_at format marks (t +ℤ pos f)) 0 0 count (λ k h. same (0 + k))
