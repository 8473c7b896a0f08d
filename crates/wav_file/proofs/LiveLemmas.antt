-- A file that is written live, while its header is renewed and at its end.
use Rattle.std.proofs.Common.{◌≡◌, ◌≤◌, ◌+◌, ◌*◌, ℕ, zero, suc, List, [], ◌∷◌, ◌++◌, length, take, drop, Option, Some, None, refl, sym, ap, subst, ◌∙◌, arith, append_assoc, append-nil, length-append, length-take, length-drop}
use Rattle.std.proofs.lemmas.List.{drop-append-le, drop_at, take_all}
use Rattle.std.proofs.Math.Seq.{take-append_seam}
use Rattle.std.specs.Io.KnownBytes.{Appends}
use Rattle.rtp_wire.specs.declared.encoding.Enc.{Enc}
use Rattle.rtp_wire.specs.declared.encoding.Enc.TheVariants.{L16, L24}
use Rattle.rtp_wire.specs.Sample.{octets_per_sample}
use Rattle.wav_file.specs.Header.{header_with}
use Rattle.wav_file.specs.File.{Overwrites, OverwritesPart, pad_octets}
use Rattle.wav_file.specs.LiveFile.{HasData, IsCut, KeepsData, LiveState, header_over, live_octets}
use Rattle.wav_file.specs.Samples.{little_16, little_24, little_samples}

-- the octets of a file, if they are known, after a write, a cut, and a write over the first octets
pub known_more : (a b : Option (List ℕ)) (xs ys : List ℕ) → a ≡ Some xs → Appends a b ys → b ≡ Some (xs ++ ys)
known_more a (Some zs) xs ys is appends = ap Some (subst (λ o. Appends o (Some zs) ys) is appends)
known_more a None xs ys is appends = absurd (subst (λ o. Appends o None ys) is appends)

known_cut : (a b : Option (List ℕ)) (xs : List ℕ) (n : ℕ) → a ≡ Some xs → IsCut a b n → b ≡ Some (take n xs)
known_cut a (Some zs) xs n is cut = ap Some (subst (λ o. IsCut o (Some zs) n) is cut)
known_cut a None xs n is cut = absurd (subst (λ o. IsCut o None n) is cut)

pub known_over : (a b : Option (List ℕ)) (xs ys : List ℕ) → a ≡ Some xs → Overwrites a b ys → length ys ≤ length xs → b ≡ Some (ys ++ drop (length ys) xs)
known_over a (Some zs) xs ys is over fits = ap Some ((subst (λ o. Overwrites o (Some zs) ys) is over) fits)
known_over a None xs ys is over fits = absurd (subst (λ o. Overwrites o None ys) is over)

pub known_part : (a b : Option (List ℕ)) (xs ys : List ℕ) → a ≡ Some xs → OverwritesPart a b ys → length ys ≤ length xs → (n : ℕ) × (n ≤ length ys) × (b ≡ Some (take n ys ++ drop n xs))
known_part a (Some zs) xs ys is over fits =
    let part : (n : ℕ) × (n ≤ length ys) × (zs ≡ take n ys ++ drop n xs) = (subst (λ o. OverwritesPart o (Some zs) ys) is over) fits in
    (part.0, part.1, ap Some part.2)
known_part a None xs ys is over fits = absurd (subst (λ o. OverwritesPart o None ys) is over)

-- nothing was written over the first octets
pub known_still : (b : Option (List ℕ)) (xs ys : List ℕ) → b ≡ Some xs → (n : ℕ) × (n ≤ length ys) × (b ≡ Some (take n ys ++ drop n xs))
known_still b xs ys is = (0, omega arith, is)

-- all was
pub known_whole : (b : Option (List ℕ)) (xs ys : List ℕ) → b ≡ Some (ys ++ drop (length ys) xs) → (n : ℕ) × (n ≤ length ys) × (b ≡ Some (take n ys ++ drop n xs))
known_whole b xs ys is =
    let all : length ys ≤ length ys = omega arith in
    (length ys, all, is ∙ ap (λ l. Some (l ++ drop (length ys) xs)) (sym (take_all (length ys) ys all)))

-- the header has its space
pub fits_head : (size_of : ℕ) (head octets rest new : List ℕ) → length head ≡ size_of → length new ≡ size_of → length new ≤ length (head ++ octets ++ rest)
fits_head size_of head octets rest new size same =
    let first = length-append (head ++ octets) rest in
    let second = length-append head octets in
    omega (arith, first, second, size, same)

-- the new header is over the old one
pub data_renewed : (a b : Option (List ℕ)) (wav : LiveState) (head octets rest new : List ℕ) → HasData a wav head octets rest → new ≡ header_with wav.format wav.chunk wav.count → length new ≡ 80 + length wav.chunk
    → ((xs : List ℕ) → a ≡ Some xs → length new ≤ length xs → b ≡ Some (new ++ drop (length new) xs))
    → HasData b wav (header_with wav.format wav.chunk (length octets)) octets rest
data_renewed a b wav head octets rest new d is size put =
    let same : new ≡ header_with wav.format wav.chunk (length octets) = is ∙ ap (header_with wav.format wav.chunk) d.count in
    let behind : drop (length new) (head ++ octets ++ rest) ≡ octets ++ rest =
    ap (drop (length new)) (append_assoc head octets rest) ∙ drop_at head (octets ++ rest) (length new) (d.size ∙ sym size) in
    record {
      holds = put (head ++ octets ++ rest) d.holds (fits_head (80 + length wav.chunk) head octets rest new d.size size)
          ∙ ap (λ l. Some (new ++ l)) behind
          ∙ ap Some (sym (append_assoc new octets rest))
          ∙ ap (λ h. Some (h ++ octets ++ rest)) same;
      size = ap length (sym same) ∙ size;
      count = d.count;
    }

-- a header over a part of another
over_length : (n size_of : ℕ) (xs ys : List ℕ) → length xs ≡ size_of → length ys ≡ size_of → length (take n xs ++ drop n ys) ≡ size_of
over_length n size_of xs ys one other =
    let all = length-append (take n xs) (drop n ys) in
    let front = length-take n xs in
    let back = length-drop n ys in
    omega (arith, all, front, back, one, other)

data_over : (b : Option (List ℕ)) (wav : LiveState) (head octets rest new : List ℕ) (n : ℕ) → n ≤ 80 + length wav.chunk → length head ≡ 80 + length wav.chunk → wav.count ≡ length octets
    → new ≡ header_with wav.format wav.chunk (length octets) → length new ≡ 80 + length wav.chunk → b ≡ Some (take n new ++ drop n (head ++ octets ++ rest))
    → HasData b wav (header_over wav.format wav.chunk (length octets) n head) octets rest
data_over b wav head octets rest new n few first count same size at = record {
  holds = at
      ∙ ap (λ l. Some (take n new ++ l)) (ap (drop n) (append_assoc head octets rest) ∙ drop-append-le n head (octets ++ rest) (omega (arith, few, first)))
      ∙ ap Some (sym (append_assoc (take n new) (drop n head) (octets ++ rest)))
      ∙ ap Some (sym (append_assoc (take n new ++ drop n head) octets rest))
      ∙ ap (λ h. Some ((take n h ++ drop n head) ++ octets ++ rest)) same;
  size = over_length n (80 + length wav.chunk) (header_with wav.format wav.chunk (length octets)) head (ap length (sym same) ∙ size) first;
  count = count;
}

-- a part of the header was written
pub data_broken : (a b : Option (List ℕ)) (wav : LiveState) (head octets rest new : List ℕ) → HasData a wav head octets rest → new ≡ header_with wav.format wav.chunk wav.count → length new ≡ 80 + length wav.chunk
    → ((xs : List ℕ) → a ≡ Some xs → length new ≤ length xs → (n : ℕ) × (n ≤ length new) × (b ≡ Some (take n new ++ drop n xs)))
    → (n : ℕ) × HasData b wav (header_over wav.format wav.chunk (length octets) n head) octets rest
data_broken a b wav head octets rest new d is size put =
    let same : new ≡ header_with wav.format wav.chunk (length octets) = is ∙ ap (header_with wav.format wav.chunk) d.count in
    let got : (n : ℕ) × (n ≤ length new) × (b ≡ Some (take n new ++ drop n (head ++ octets ++ rest))) =
    put (head ++ octets ++ rest) d.holds (fits_head (80 + length wav.chunk) head octets rest new d.size size) in
    let few = got.1 in
    (got.0, data_over b wav head octets rest new got.0 (omega (arith, few, size)) d.size d.count same size got.2)

-- octets were added behind the data
pub data_more : (a b : Option (List ℕ)) (wav : LiveState) (head octets rest more : List ℕ) → HasData a wav head octets rest → Appends a b more → HasData b wav head octets (rest ++ more)
data_more a b wav head octets rest more d added = record {
  holds = known_more a b (head ++ octets ++ rest) more d.holds added ∙ ap Some (append_assoc (head ++ octets) rest more);
  size = d.size;
  count = d.count;
}

-- the file was cut behind them
pub data_cut : (a b : Option (List ℕ)) (wav : LiveState) (head octets rest : List ℕ) (len : ℕ) → HasData a wav head octets rest → len ≡ 80 + length wav.chunk + wav.count → IsCut a b len → HasData b wav head octets []
data_cut a b wav head octets rest len d is cut =
    let start = d.size in
    let some = d.count in
    let sum = length-append head octets in
    let whole : len ≡ length (head ++ octets) = omega (arith, is, start, some, sum) in
    record {
      holds = known_cut a b (head ++ octets ++ rest) len d.holds cut
          ∙ ap Some (ap (λ n. take n (head ++ octets ++ rest)) whole ∙ take-append_seam (head ++ octets) rest ∙ sym (append-nil (head ++ octets)));
      size = d.size;
      count = d.count;
    }

-- the file is whole
pub data_whole : (a : Option (List ℕ)) (wav : LiveState) (octets : List ℕ) → HasData a wav (header_with wav.format wav.chunk (length octets)) octets (pad_octets (length octets)) → a ≡ Some (live_octets wav.format wav.chunk octets)
data_whole a wav octets d = d.holds

pub keeps : (a : Option (List ℕ)) (wav : LiveState) (head octets rest : List ℕ) → HasData a wav head octets rest → KeepsData a wav octets
keeps a wav head octets rest d = record { head = head; rest = rest; held = d }

-- samples were added to the data, and are counted
pub data_pushed : (a b : Option (List ℕ)) (wav then : LiveState) (head octets more : List ℕ) → HasData a wav head octets [] → Appends a b more → then.chunk ≡ wav.chunk → then.count ≡ wav.count + length more → HasData b then head (octets ++ more) []
data_pushed a b wav then head octets more d added same counted =
    let some = d.count in
    let sum = length-append octets more in
    record {
      holds = known_more a b (head ++ octets ++ []) more d.holds added
          ∙ ap Some (ap (λ l. l ++ more) (append-nil (head ++ octets)) ∙ append_assoc head octets more ∙ sym (append-nil (head ++ (octets ++ more))));
      size = d.size ∙ ap (λ l. 80 + length l) (sym same);
      count = omega (arith, counted, some, sum);
    }

-- whole samples, and those behind them
append_16 : (k : ℕ) (xs ys : List ℕ) → length xs ≡ k * 2 → little_16 (xs ++ ys) ≡ little_16 xs ++ little_16 ys
append_16 k [] ys is = refl
append_16 k (a ∷ []) ys is = absurd (omega (arith, is))
append_16 zero (a ∷ b ∷ xs) ys is = absurd (omega (arith, is))
append_16 (suc k) (a ∷ b ∷ xs) ys is = ap (λ l. b ∷ a ∷ l) (append_16 k xs ys (omega (arith, is)))

append_24 : (k : ℕ) (xs ys : List ℕ) → length xs ≡ k * 3 → little_24 (xs ++ ys) ≡ little_24 xs ++ little_24 ys
append_24 k [] ys is = refl
append_24 k (a ∷ []) ys is = absurd (omega (arith, is))
append_24 k (a ∷ b ∷ []) ys is = absurd (omega (arith, is))
append_24 zero (a ∷ b ∷ c ∷ xs) ys is = absurd (omega (arith, is))
append_24 (suc k) (a ∷ b ∷ c ∷ xs) ys is = ap (λ l. c ∷ b ∷ a ∷ l) (append_24 k xs ys (omega (arith, is)))

pub samples_append : (enc : Enc) (k : ℕ) (xs ys : List ℕ) → length xs ≡ k * octets_per_sample enc → little_samples enc (xs ++ ys) ≡ little_samples enc xs ++ little_samples enc ys
samples_append L16 k xs ys is = append_16 k xs ys is
samples_append L24 k xs ys is = append_24 k xs ys is

pub samples_none : (enc : Enc) → little_samples enc [] ≡ []
samples_none L16 = refl
samples_none L24 = refl
