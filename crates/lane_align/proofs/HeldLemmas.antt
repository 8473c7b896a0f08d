-- Values that are held, with silence stored as numbers of frames.
use Rattle.std.proofs.Common.{◌≡◌, ◌≤◌, ◌<◌, ◌+◌, ◌*◌, ◌-◌, ℕ, min, List, [], ◌++◌, length, take, drop, replicate, ℤ, pos, refl, sym, ap, ◌∙◌, arith, append_assoc, length-append, length-take, length-drop, take-append-drop, inl, inr, zero-mul}
use Rattle.std.proofs.lemmas.Bool.{cases_lt}
use Rattle.std.proofs.lemmas.List.{append-nil, length-replicate, replicate-append-replicate, drop_at, take-append-le, drop-append-le, drop_all, take-replicate, drop-replicate, drop_min}
use Rattle.std.proofs.Math.Seq.{take-append-add, drop-append-add, take-length, drop-append_seam, take-append_seam}
use Rattle.std.proofs.Math.Nat.{mul-le-mul_right}
use borrow.Rule.Slice.PartMut.{put_mid}
use Rattle.circular_buffer.specs.Buffer.{Buffer, buffer}
use Rattle.lane_align.specs.HeldValues.{Held, silence, first_values, values_held, IsHeld}

-- one more frame of silence
pub silence_more : (items : List ℤ) (channels i : ℕ) → (items ++ silence channels i) ++ replicate channels (pos 0) ≡ items ++ silence channels (i + 1)
silence_more items channels i =
    append_assoc items (silence channels i) (replicate channels (pos 0))
    ∙ ap (λ s. items ++ s) (replicate-append-replicate (i * channels) channels (pos 0)
    ∙ ap (λ n. replicate n (pos 0)) (let e : i * channels + channels ≡ (i + 1) * channels = omega arith in e))

-- one more frame of silence was stored
pub frame_stored : (base : List ℤ) (channels i frames capacity : ℕ) (stored new : Buffer ℤ) (r : ℕ)
    → stored ≡ buffer (base ++ silence channels i) capacity
    → r ≡ min (length (take channels (replicate 64 (pos 0)))) (stored.capacity - length stored.items)
    → new ≡ buffer (stored.items ++ take r (take channels (replicate 64 (pos 0)))) stored.capacity
    → channels ≤ 64 → length base + frames * channels ≤ capacity → i < frames
    → new ≡ buffer (base ++ silence channels (i + 1)) capacity
frame_stored base channels i frames capacity stored new r e k h few space lt =
    let items : stored.items ≡ base ++ silence channels i = ap (λ (b : Buffer ℤ). b.items) e in
    let cap : stored.capacity ≡ capacity = ap (λ (b : Buffer ℤ). b.capacity) e in
    let len : length stored.items ≡ length base + i * channels =
    ap length items ∙ length-append base (silence channels i) ∙ ap (λ n. length base + n) (length-replicate (i * channels) (pos 0)) in
    let zeros : take channels (replicate 64 (pos 0)) ≡ replicate channels (pos 0) = take-replicate channels 64 (pos 0) few in
    let some : length (take channels (replicate 64 (pos 0))) ≡ channels = ap length zeros ∙ length-replicate channels (pos 0) in
    let more : (i + 1) * channels ≤ frames * channels = mul-le-mul_right channels (let m : i + 1 ≤ frames = omega arith in m) in
    let step : (i + 1) * channels ≡ i * channels + channels = omega arith in
    let full : r ≡ channels = omega arith in
    let piece : take r (take channels (replicate 64 (pos 0))) ≡ replicate channels (pos 0) =
    ap (λ n. take n (take channels (replicate 64 (pos 0)))) full ∙ ap (take channels) zeros ∙ take-replicate channels channels (pos 0) (omega arith) in
    h ∙ ap (λ n. buffer (stored.items ++ take r (take channels (replicate 64 (pos 0)))) n) cap
    ∙ ap (λ xs. buffer (xs ++ take r (take channels (replicate 64 (pos 0)))) capacity) items
    ∙ ap (λ xs. buffer ((base ++ silence channels i) ++ xs) capacity) piece
    ∙ ap (λ xs. buffer xs capacity) (silence_more base channels i)

-- the first values, if silence reaches past their end
first_silent : (n a : ℕ) (rest : List ℤ) → n ≤ a → first_values n (replicate a (pos 0) ++ rest) ≡ replicate n (pos 0)
first_silent n a rest h =
    let len : length (replicate a (pos 0)) ≡ a = length-replicate a (pos 0) in
    let whole : length (replicate a (pos 0) ++ rest) ≡ length (replicate a (pos 0)) + length rest = length-append (replicate a (pos 0)) rest in
    take-append-le n (replicate a (pos 0) ++ rest) (replicate n (pos 0)) (omega arith)
    ∙ take-append-le n (replicate a (pos 0)) rest (omega arith)
    ∙ take-replicate n a (pos 0) h

-- the first values of a list that may be too short: its values, and then silence
first_stored : (w n : ℕ) (xs : List ℤ) → w ≤ n → take w (xs ++ replicate n (pos 0)) ≡ take (min w (length xs)) xs ++ replicate (w - min w (length xs)) (pos 0)
first_stored w n xs h = elim (cases_lt (length xs) w) [
  | inl short ↦
      let e : w ≡ length xs + (w - length xs) = omega arith in
      let m : min w (length xs) ≡ length xs = omega arith in
      ap (λ k. take k (xs ++ replicate n (pos 0))) e
      ∙ take-append-add xs (replicate n (pos 0)) (w - length xs)
      ∙ ap (λ s. xs ++ s) (take-replicate (w - length xs) n (pos 0) (omega arith))
      ∙ sym (ap (λ k. take k xs ++ replicate (w - k) (pos 0)) m ∙ ap (λ s. s ++ replicate (w - length xs) (pos 0)) (take-length xs))
  | inr long ↦
      let m : min w (length xs) ≡ w = omega arith in
      let none : w - w ≡ 0 = omega arith in
      take-append-le w xs (replicate n (pos 0)) long
      ∙ sym (ap (λ k. take k xs ++ replicate (w - k) (pos 0)) m ∙ ap (λ k. take w xs ++ replicate k (pos 0)) none ∙ append-nil (take w xs))
]

-- the first values after silence: the silence, then the values of a list, and then silence
first_after : (z w : ℕ) (xs : List ℤ) → first_values (z + w) (replicate z (pos 0) ++ xs) ≡ replicate z (pos 0) ++ (take (min w (length xs)) xs ++ replicate (w - min w (length xs)) (pos 0))
first_after z w xs =
    ap (take (z + w)) (append_assoc (replicate z (pos 0)) xs (replicate (z + w) (pos 0)))
    ∙ ap (λ k. take (k + w) (replicate z (pos 0) ++ (xs ++ replicate (z + w) (pos 0)))) (sym (length-replicate z (pos 0)))
    ∙ take-append-add (replicate z (pos 0)) (xs ++ replicate (z + w) (pos 0)) w
    ∙ ap (λ s. replicate z (pos 0) ++ s) (first_stored w (z + w) xs (omega arith))

-- the first values, if they end exactly at a gap
first_gapped : (z : ℕ) (xs rest : List ℤ) → first_values (z + length xs) (replicate z (pos 0) ++ (xs ++ rest)) ≡ replicate z (pos 0) ++ xs
first_gapped z xs rest =
    ap (take (z + length xs)) (append_assoc (replicate z (pos 0)) (xs ++ rest) (replicate (z + length xs) (pos 0)))
    ∙ ap (λ k. take (k + length xs) (replicate z (pos 0) ++ ((xs ++ rest) ++ replicate (z + length xs) (pos 0)))) (sym (length-replicate z (pos 0)))
    ∙ take-append-add (replicate z (pos 0)) ((xs ++ rest) ++ replicate (z + length xs) (pos 0)) (length xs)
    ∙ ap (λ s. replicate z (pos 0) ++ take (length xs) s) (append_assoc xs rest (replicate (z + length xs) (pos 0)))
    ∙ ap (λ s. replicate z (pos 0) ++ s) (take-append_seam xs (rest ++ replicate (z + length xs) (pos 0)))

-- the values that are written: silence, the stored values that were read, and silence
written : (n z r : ℕ) (stored : List ℤ) → z ≤ n → r ≤ n - z
    → put_mid z (n - z) (replicate n (pos 0)) (take r stored ++ drop r (take (n - z) (drop z (replicate n (pos 0))))) ≡ replicate z (pos 0) ++ (take r stored ++ replicate (n - z - r) (pos 0))
written n z r stored low few =
    let before : take z (replicate n (pos 0)) ≡ replicate z (pos 0) = take-replicate z n (pos 0) low in
    let after : drop z (replicate n (pos 0)) ≡ replicate (n - z) (pos 0) = drop-replicate z n (pos 0) in
    let left : drop r (take (n - z) (drop z (replicate n (pos 0)))) ≡ replicate (n - z - r) (pos 0) =
    ap (λ s. drop r (take (n - z) s)) after ∙ ap (drop r) (take-replicate (n - z) (n - z) (pos 0) (omega arith)) ∙ drop-replicate r (n - z) (pos 0) in
    let none : drop (n - z) (drop z (replicate n (pos 0))) ≡ [] =
    ap (drop (n - z)) after ∙ drop_all (n - z) (replicate (n - z) (pos 0)) (let e : length (replicate (n - z) (pos 0)) ≡ n - z = length-replicate (n - z) (pos 0) in omega arith) in
    ap (λ s. s ++ ((take r stored ++ drop r (take (n - z) (drop z (replicate n (pos 0))))) ++ drop (n - z) (drop z (replicate n (pos 0))))) before
    ∙ ap (λ s. replicate z (pos 0) ++ ((take r stored ++ s) ++ drop (n - z) (drop z (replicate n (pos 0))))) left
    ∙ ap (λ s. replicate z (pos 0) ++ ((take r stored ++ replicate (n - z - r) (pos 0)) ++ s)) none
    ∙ ap (λ s. replicate z (pos 0) ++ s) (append-nil (take r stored ++ replicate (n - z - r) (pos 0)))

-- without a gap, the values are the silence before and the stored values
pub without_gap : (channels lead front gap : ℕ) (stored : List ℤ) → gap ≡ 0 → values_held channels lead front gap stored ≡ silence channels lead ++ stored
without_gap channels lead front gap stored none =
    ap (λ g. silence channels lead ++ (take front stored ++ (silence channels g ++ drop front stored))) none
    ∙ ap (λ k. silence channels lead ++ (take front stored ++ (replicate k (pos 0) ++ drop front stored))) (zero-mul channels)
    ∙ ap (λ s. silence channels lead ++ s) (take-append-drop front stored)

-- the three shapes that the values of the next block can have: all silence, no gap in the block, or a gap at its end
data Shape (channels block lead front gap : ℕ) (stored : List ℤ) : Type 0 where
  quiet : gap ≡ 0 → block < lead → Shape channels block lead front gap stored
  plain : gap ≡ 0 → lead ≤ block → Shape channels block lead front gap stored
  gapped : lead ≤ block → lead * channels + front ≡ block * channels → front ≤ length stored → Shape channels block lead front gap stored

shape_of : (channels block lead front gap : ℕ) (stored : List ℤ) → IsHeld channels block lead front gap stored → Shape channels block lead front gap stored
shape_of channels block lead front gap stored held = elim (cases_lt 0 gap) [
  | inl some ↦
      let at_end = held.block_end some in
      elim (cases_lt block lead) [
        | inl long ↦
            let up : (block + 1) * channels ≤ lead * channels = mul-le-mul_right channels (let m : block + 1 ≤ lead = omega arith in m) in
            let some_channels = held.some_channels in
            absurd (omega arith)
        | inr short ↦ gapped short at_end held.front_stored
      ]
  | inr none ↦
      let no_gap : gap ≡ 0 = omega arith in
      elim (cases_lt block lead) [ inl long ↦ quiet no_gap long | inr short ↦ plain no_gap short ]
]

-- the values that are read are the first ones that are held
pub values_read : (channels block lead front gap : ℕ) (stored : List ℤ) → IsHeld channels block lead front gap stored → (silent r : ℕ) (filled dst : List ℤ)
    → silent ≡ min lead block → filled ≡ replicate (block * channels) (pos 0)
    → r ≡ min (length (take (length filled - silent * channels) (drop (silent * channels) filled))) (length stored)
    → dst ≡ take r stored ++ drop r (take (length filled - silent * channels) (drop (silent * channels) filled))
    → put_mid (silent * channels) (length filled - silent * channels) filled dst ≡ first_values (block * channels) (values_held channels lead front gap stored)
values_read channels block lead front gap stored held silent r filled dst e_silent e_filled e_r e_dst =
    let n = block * channels in
    let z = silent * channels in
    let len : length filled ≡ n = ap length e_filled ∙ length-replicate n (pos 0) in
    let low : z ≤ n = mul-le-mul_right channels (let m : silent ≤ block = omega arith in m) in
    let part : length (take (length filled - z) (drop z filled)) ≡ n - z = simp (length-take, length-drop) (omega arith) in
    let r_is : r ≡ min (n - z) (length stored) = omega arith in
    ap (put_mid z (length filled - z) filled) e_dst
    ∙ ap (λ k. put_mid z (k - z) filled (take r stored ++ drop r (take (k - z) (drop z filled)))) len
    ∙ ap (λ f. put_mid z (n - z) f (take r stored ++ drop r (take (n - z) (drop z f)))) e_filled
    ∙ written n z r stored low (omega arith)
    ∙ sym (elim (shape_of channels block lead front gap stored held) as (λ _. first_values n (values_held channels lead front gap stored) ≡ replicate z (pos 0) ++ (take r stored ++ replicate (n - z - r) (pos 0))) [
      | quiet none long ↦
          let all : silent ≡ block = omega arith in
          let z_is : z ≡ n = ap (λ k. k * channels) all in
          let r_none : r ≡ 0 = omega arith in
          let rest : n - z - r ≡ 0 = omega arith in
          ap (first_values n) (without_gap channels lead front gap stored none)
          ∙ first_silent n (lead * channels) stored (mul-le-mul_right channels (let m : block ≤ lead = omega arith in m))
          ∙ sym (ap (λ k. replicate z (pos 0) ++ (take k stored ++ replicate (n - z - r) (pos 0))) r_none
          ∙ ap (λ k. replicate z (pos 0) ++ replicate k (pos 0)) rest
          ∙ append-nil (replicate z (pos 0))
          ∙ ap (λ k. replicate k (pos 0)) z_is)
      | plain none short ↦
          let all : silent ≡ lead = omega arith in
          let n_is : n ≡ z + (n - z) = omega arith in
          ap (first_values n) (without_gap channels lead front gap stored none)
          ∙ ap (λ k. first_values n (silence channels k ++ stored)) (sym all)
          ∙ ap (λ k. first_values k (replicate z (pos 0) ++ stored)) n_is
          ∙ first_after z (n - z) stored
          ∙ ap (λ k. replicate z (pos 0) ++ (take k stored ++ replicate (n - z - k) (pos 0))) (sym r_is)
      | gapped short at_end some ↦
          let all : silent ≡ lead = omega arith in
          let z_is : z ≡ lead * channels = ap (λ k. k * channels) all in
          let taken : length (take front stored) ≡ front = length-take front stored ∙ (let m : min front (length stored) ≡ front = omega arith in m) in
          let n_is : n ≡ z + length (take front stored) = omega arith in
          let r_front : r ≡ front = omega arith in
          let rest : n - z - r ≡ 0 = omega arith in
          ap (λ k. first_values n (replicate k (pos 0) ++ (take front stored ++ (silence channels gap ++ drop front stored)))) (sym z_is)
          ∙ ap (λ k. first_values k (replicate z (pos 0) ++ (take front stored ++ (silence channels gap ++ drop front stored)))) n_is
          ∙ first_gapped z (take front stored) (silence channels gap ++ drop front stored)
          ∙ sym (ap (λ k. replicate z (pos 0) ++ (take r stored ++ replicate k (pos 0))) rest
          ∙ ap (λ s. replicate z (pos 0) ++ s) (append-nil (take r stored))
          ∙ ap (λ k. replicate z (pos 0) ++ take k stored) r_front)
    ])

-- the values that are left after reading are the rest of those that were held
pub rest_read : (channels block lead front gap : ℕ) (stored : List ℤ) → IsHeld channels block lead front gap stored → (silent r : ℕ)
    → silent ≡ min lead block
    → r ≡ min (block * channels - silent * channels) (length stored)
    → values_held channels (lead - silent + gap) 0 0 (drop r stored) ≡ drop (block * channels) (values_held channels lead front gap stored)
rest_read channels block lead front gap stored held silent r e_silent e_r =
    let n = block * channels in
    without_gap channels (lead - silent + gap) 0 0 (drop r stored) refl
    ∙ elim (shape_of channels block lead front gap stored held) as (λ _. silence channels (lead - silent + gap) ++ drop r stored ≡ drop n (values_held channels lead front gap stored)) [
      | quiet none long ↦
          let all : silent ≡ block = omega arith in
          let z_is : silent * channels ≡ n = ap (λ k. k * channels) all in
          let r_none : r ≡ 0 = omega arith in
          let left : lead - silent + gap ≡ lead - block = omega arith in
          let lead_is : lead ≡ (lead - block) + block = omega arith in
          let times : lead * channels ≡ (lead - block) * channels + n = ap (λ k. k * channels) lead_is ∙ (let d = lead - block in let m : (d + block) * channels ≡ d * channels + block * channels = omega arith in m) in
          let rest : lead * channels - n ≡ (lead - block) * channels = omega arith in
          ap (λ k. silence channels k ++ drop r stored) left
          ∙ ap (λ k. silence channels (lead - block) ++ drop k stored) r_none
          ∙ sym (ap (drop n) (without_gap channels lead front gap stored none)
          ∙ drop-append-le n (silence channels lead) stored (let len : length (silence channels lead) ≡ lead * channels = length-replicate (lead * channels) (pos 0) in omega arith)
          ∙ ap (λ s. s ++ stored) (drop-replicate n (lead * channels) (pos 0) ∙ ap (λ k. replicate k (pos 0)) rest))
      | plain none short ↦
          let all : silent ≡ lead = omega arith in
          let z_is : silent * channels ≡ lead * channels = ap (λ k. k * channels) all in
          let low : lead * channels ≤ n = mul-le-mul_right channels short in
          let left : lead - silent + gap ≡ 0 = omega arith in
          let n_is : n ≡ length (silence channels lead) + (n - lead * channels) = let len : length (silence channels lead) ≡ lead * channels = length-replicate (lead * channels) (pos 0) in omega arith in
          let r_is : r ≡ min (n - lead * channels) (length stored) = omega arith in
          ap (λ k. silence channels k ++ drop r stored) left
          ∙ ap (λ k. replicate k (pos 0) ++ drop r stored) (zero-mul channels)
          ∙ ap (λ k. drop k stored) r_is
          ∙ drop_min (n - lead * channels) stored
          ∙ sym (ap (drop n) (without_gap channels lead front gap stored none)
          ∙ ap (λ k. drop k (silence channels lead ++ stored)) n_is
          ∙ drop-append-add (silence channels lead) stored (n - lead * channels))
      | gapped short at_end some ↦
          let all : silent ≡ lead = omega arith in
          let z_is : silent * channels ≡ lead * channels = ap (λ k. k * channels) all in
          let left : lead - silent + gap ≡ gap = omega arith in
          let r_front : r ≡ front = omega arith in
          let taken : length (take front stored) ≡ front = length-take front stored ∙ (let m : min front (length stored) ≡ front = omega arith in m) in
          let n_is : n ≡ length (silence channels lead) + front = let len : length (silence channels lead) ≡ lead * channels = length-replicate (lead * channels) (pos 0) in omega arith in
          ap (λ k. silence channels k ++ drop r stored) left
          ∙ ap (λ k. silence channels gap ++ drop k stored) r_front
          ∙ sym (ap (λ k. drop k (values_held channels lead front gap stored)) n_is
          ∙ drop-append-add (silence channels lead) (take front stored ++ (silence channels gap ++ drop front stored)) front
          ∙ drop_at (take front stored) (silence channels gap ++ drop front stored) front taken)
    ]

pub length_held : (channels lead front gap : ℕ) (stored : List ℤ) → front ≤ length stored → length (values_held channels lead front gap stored) ≡ lead * channels + (gap * channels + length stored)
length_held channels lead front gap stored some =
    let a : length (silence channels lead) ≡ lead * channels = length-replicate (lead * channels) (pos 0) in
    let b : length (silence channels gap) ≡ gap * channels = length-replicate (gap * channels) (pos 0) in
    let before = length-take front stored in
    let after = length-drop front stored in
    let outer = length-append (silence channels lead) (take front stored ++ (silence channels gap ++ drop front stored)) in
    let middle = length-append (take front stored) (silence channels gap ++ drop front stored) in
    let inner = length-append (silence channels gap) (drop front stored) in
    omega arith

-- if at most a block is held, there is no gap in it
pub no_gap : (channels block lead front gap : ℕ) (stored : List ℤ) → IsHeld channels block lead front gap stored → length (values_held channels lead front gap stored) ≤ block * channels → gap ≡ 0
no_gap channels block lead front gap stored held short = elim (cases_lt 0 gap) [
  | inl some ↦
      let at_end = held.block_end some in
      let len = length_held channels lead front gap stored held.front_stored in
      let more : 1 * channels ≤ gap * channels = mul-le-mul_right channels some in
      let some_channels = held.some_channels in
      let front_stored = held.front_stored in
      absurd (omega arith)
  | inr none ↦ omega arith
]

abbrev pub held_of : ℕ → ℕ → ℕ → List ℤ → Held
held_of channels block capacity values = record { channels = channels; block = block; capacity = capacity; values = values }

-- silence and samples are added at the end
pub values_added : (channels block lead front gap : ℕ) (stored : List ℤ) → IsHeld channels block lead front gap stored → (silent more capacity r end : ℕ) (samples : List ℤ) (old silenced new : Buffer ℤ)
    → old ≡ buffer stored capacity
    → length (values_held channels lead front gap stored) + silent * channels ≤ block * channels
    → block * channels + length samples ≤ capacity
    → silenced ≡ buffer (stored ++ silence channels silent) capacity
    → end ≡ length silenced.items
    → r ≡ min (length samples) (silenced.capacity - length silenced.items)
    → new ≡ buffer (silenced.items ++ take r samples) silenced.capacity
    → held_of channels block new.capacity (values_held channels lead end more new.items) ≡ held_of channels block capacity (values_held channels lead front gap stored ++ (silence channels (silent + more) ++ samples))
values_added channels block lead front gap stored held silent more capacity r end samples old silenced new e_old within space e_silenced e_end e_r e_new =
    let none : gap ≡ 0 = no_gap channels block lead front gap stored held (omega arith) in
    let plain = without_gap channels lead front gap stored none in
    let len = length_held channels lead front gap stored held.front_stored in
    let items : silenced.items ≡ stored ++ silence channels silent = ap (λ (b : Buffer ℤ). b.items) e_silenced in
    let cap : silenced.capacity ≡ capacity = ap (λ (b : Buffer ℤ). b.capacity) e_silenced in
    let stored_len : length silenced.items ≡ length stored + silent * channels =
    ap length items ∙ length-append stored (silence channels silent) ∙ ap (λ k. length stored + k) (length-replicate (silent * channels) (pos 0)) in
    let full : r ≡ length samples = omega arith in
    let new_items : new.items ≡ (stored ++ silence channels silent) ++ samples =
    ap (λ (b : Buffer ℤ). b.items) e_new ∙ ap (λ xs. xs ++ take r samples) items ∙ ap (λ xs. (stored ++ silence channels silent) ++ xs) (ap (λ k. take k samples) full ∙ take-length samples) in
    let new_cap : new.capacity ≡ capacity = ap (λ (b : Buffer ℤ). b.capacity) e_new ∙ cap in
    let end_is : end ≡ length (stored ++ silence channels silent) = e_end ∙ ap length items in
    let base = stored ++ silence channels silent in
    let both : silence channels silent ++ silence channels more ≡ silence channels (silent + more) =
    replicate-append-replicate (silent * channels) (more * channels) (pos 0) ∙ ap (λ k. replicate k (pos 0)) (let m : silent * channels + more * channels ≡ (silent + more) * channels = omega arith in m) in
    ap (λ k. held_of channels block k (values_held channels lead end more new.items)) new_cap
    ∙ ap (λ xs. held_of channels block capacity (values_held channels lead end more xs)) new_items
    ∙ ap (λ k. held_of channels block capacity (values_held channels lead k more (base ++ samples))) end_is
    ∙ ap (λ xs. held_of channels block capacity (silence channels lead ++ (xs ++ (silence channels more ++ drop (length base) (base ++ samples))))) (take-append_seam base samples)
    ∙ ap (λ xs. held_of channels block capacity (silence channels lead ++ (base ++ (silence channels more ++ xs)))) (drop-append_seam base samples)
    ∙ ap (held_of channels block capacity) (
    ap (λ xs. silence channels lead ++ xs) (append_assoc stored (silence channels silent) (silence channels more ++ samples)
    ∙ ap (λ xs. stored ++ xs) (sym (append_assoc (silence channels silent) (silence channels more) samples) ∙ ap (λ xs. xs ++ samples) both))
    ∙ sym (append_assoc (silence channels lead) stored (silence channels (silent + more) ++ samples))
    ∙ ap (λ xs. xs ++ (silence channels (silent + more) ++ samples)) (sym plain))

-- silence and samples are added at the end, and the silence is stored as values
pub values_appended : (channels block lead front gap : ℕ) (stored : List ℤ) → IsHeld channels block lead front gap stored → (silent capacity r : ℕ) (samples : List ℤ) (old silenced new : Buffer ℤ)
    → old ≡ buffer stored capacity
    → length (values_held channels lead front gap stored) + silent * channels + length samples ≤ capacity
    → silenced ≡ buffer (stored ++ silence channels silent) capacity
    → r ≡ min (length samples) (silenced.capacity - length silenced.items)
    → new ≡ buffer (silenced.items ++ take r samples) silenced.capacity
    → held_of channels block new.capacity (values_held channels lead front gap new.items) ≡ held_of channels block capacity (values_held channels lead front gap stored ++ (silence channels silent ++ samples))
values_appended channels block lead front gap stored held silent capacity r samples old silenced new e_old space e_silenced e_r e_new =
    let len = length_held channels lead front gap stored held.front_stored in
    let items : silenced.items ≡ stored ++ silence channels silent = ap (λ (b : Buffer ℤ). b.items) e_silenced in
    let cap : silenced.capacity ≡ capacity = ap (λ (b : Buffer ℤ). b.capacity) e_silenced in
    let stored_len : length silenced.items ≡ length stored + silent * channels =
    ap length items ∙ length-append stored (silence channels silent) ∙ ap (λ k. length stored + k) (length-replicate (silent * channels) (pos 0)) in
    let full : r ≡ length samples = omega arith in
    let more = silence channels silent ++ samples in
    let new_items : new.items ≡ stored ++ more =
    ap (λ (b : Buffer ℤ). b.items) e_new ∙ ap (λ xs. xs ++ take r samples) items ∙ ap (λ xs. (stored ++ silence channels silent) ++ xs) (ap (λ k. take k samples) full ∙ take-length samples)
    ∙ append_assoc stored (silence channels silent) samples in
    let new_cap : new.capacity ≡ capacity = ap (λ (b : Buffer ℤ). b.capacity) e_new ∙ cap in
    let back = take-append-le front stored more held.front_stored in
    let rest = drop-append-le front stored more held.front_stored in
    ap (λ k. held_of channels block k (values_held channels lead front gap new.items)) new_cap
    ∙ ap (held_of channels block capacity) (
    ap (values_held channels lead front gap) new_items
    ∙ ap (λ xs. silence channels lead ++ (xs ++ (silence channels gap ++ drop front (stored ++ more)))) back
    ∙ ap (λ xs. silence channels lead ++ (take front stored ++ (silence channels gap ++ xs))) rest
    ∙ ap (λ xs. silence channels lead ++ (take front stored ++ xs)) (sym (append_assoc (silence channels gap) (drop front stored) more))
    ∙ ap (λ xs. silence channels lead ++ xs) (sym (append_assoc (take front stored) (silence channels gap ++ drop front stored) more))
    ∙ sym (append_assoc (silence channels lead) (take front stored ++ (silence channels gap ++ drop front stored)) more))
