-- A file that broke off.
use Rattle.std.proofs.Common.{◌≡◌, inr, ◌≤◌, ◌+◌, ℕ, List, [], ◌∷◌, ◌++◌, length, take, drop, Option, Some, None, Result, Ok, Err, OnOk, OnErr, refl, sym, ap, subst, ◌∙◌, arith, append_assoc, append-nil, length-append, take-append-drop}
use Rattle.std.specs.Io.KnownBytes.{Appends}
use Rattle.std.proofs.KnownBytes.{Appends-trans}
use Rattle.std.proofs.lemmas.List.{drop-append-le, drop_all, take_all}
use Rattle.std.proofs.Math.Seq.{take-length}
use Rattle.wav_file.specs.declared.header.WavFormat.{WavFormat}
use Rattle.wav_file.specs.Header.{header_octets}
use Rattle.wav_file.specs.File.{Becomes, IsBegun, OverwritesPart, WavState, pad_octets}
use Rattle.wav_file.specs.PartFile.{BecomesPart, part_header}
use Rattle.wav_file.proofs.FileLemmas.{first_length}

-- some of the sizes were written over the header
pub sized_part : (a b : Option (List ℕ)) (wav : WavState) (octets rest head : List ℕ) → IsBegun a wav octets rest → head ≡ header_octets wav.format wav.count → length head ≡ 80
    → OverwritesPart a b head → BecomesPart a b wav.format octets rest
sized_part None b wav octets rest head begun is len over = tt
sized_part (Some old) None wav octets rest head begun is len over = absurd over
sized_part (Some old) (Some new) wav octets rest head begun is len over =
    let first = first_length wav.format in
    let empty = header_octets wav.format 0 in
    let whole : old ≡ empty ++ (octets ++ rest) = begun.holds ∙ append_assoc empty octets rest in
    let long : length old ≡ 80 + length (octets ++ rest) = ap length whole ∙ length-append empty (octets ++ rest) ∙ ap (λ n. n + length (octets ++ rest)) first in
    let part : (written : ℕ) × (written ≤ length head) × (new ≡ take written head ++ drop written old) = over (omega (arith, long, len)) in
    let n = part.0 in
    let few = part.1 in
    let within : n ≤ length empty = omega (arith, few, len, first) in
    let head_is : head ≡ header_octets wav.format (length octets) = is ∙ ap (header_octets wav.format) begun.count in (
      n,
      part.2 ∙ ap (λ l. take n head ++ l) (ap (drop n) whole ∙ drop-append-le n empty (octets ++ rest) within)
          ∙ sym (append_assoc (take n head) (drop n empty) (octets ++ rest))
          ∙ ap (λ h. (take n h ++ drop n empty) ++ (octets ++ rest)) head_is
          ∙ sym (append_assoc (part_header wav.format (length octets) n) octets rest),
    )

-- all of them were
part_whole : (format : WavFormat) (count n : ℕ) → length (header_octets format count) ≤ n → 80 ≤ n → part_header format count n ≡ header_octets format count
part_whole format count n all long =
    let first = first_length format in
    ap (λ l. l ++ drop n (header_octets format 0)) (take_all n (header_octets format count) all)
    ∙ ap (λ l. header_octets format count ++ l) (drop_all n (header_octets format 0) (omega (arith, first, long))) ∙ append-nil (header_octets format count)

pub part_of_sized : (a b : Option (List ℕ)) (format : WavFormat) (octets rest : List ℕ) → Becomes a b (header_octets format (length octets) ++ octets ++ rest) → BecomesPart a b format octets rest
part_of_sized None b format octets rest is = tt
part_of_sized (Some old) None format octets rest is = absurd is
part_of_sized (Some old) (Some new) format octets rest is =
    let head = header_octets format (length octets) in
    let n = length head + 80 in
    (n, is ∙ ap (λ h. h ++ octets ++ rest) (sym (part_whole format (length octets) n (omega arith) (omega arith))))

-- whether they could be written or not
pub part_either : {T E : Type 0} (r : Result T E) (a b : Option (List ℕ)) (wav : WavState)
    → OnOk r ((octets rest : List ℕ) → IsBegun a wav octets rest → Becomes a b (header_octets wav.format (length octets) ++ octets ++ rest))
    → OnErr r ((octets rest : List ℕ) → IsBegun a wav octets rest → BecomesPart a b wav.format octets rest)
    → (octets rest : List ℕ) → IsBegun a wav octets rest → BecomesPart a b wav.format octets rest
part_either (Ok x) a b wav whole part octets rest begun = part_of_sized a b wav.format octets rest (whole octets rest begun)
part_either (Err e) a b wav whole part octets rest begun = part octets rest begun

-- known octets became others in two steps
part_later : (a b c : Option (List ℕ)) (xs : List ℕ) (format : WavFormat) (octets rest : List ℕ) → Appends a b xs → BecomesPart b c format octets rest → BecomesPart a c format octets rest
part_later None b c xs format octets rest p q = tt
part_later (Some x) None c xs format octets rest p q = absurd p
part_later (Some x) (Some y) None xs format octets rest p q = absurd q
part_later (Some x) (Some y) (Some z) xs format octets rest p q = q

-- a rest was written behind the data, and then the sizes
end_part : (a b c : Option (List ℕ)) (wav : WavState) (octets rest : List ℕ) → IsBegun a wav octets [] → Appends a b rest
    → ((octets rest : List ℕ) → IsBegun b wav octets rest → BecomesPart b c wav.format octets rest) → BecomesPart a c wav.format octets rest
end_part None b c wav octets rest begun p sizes = tt
end_part (Some x) None c wav octets rest begun p sizes = absurd p
end_part (Some x) (Some y) c wav octets rest begun p sizes =
    part_later (Some x) (Some y) c rest wav.format octets rest p
    (sizes octets rest (record {
      holds = p ∙ ap (λ l. l ++ rest) (begun.holds ∙ append-nil (header_octets wav.format 0 ++ octets));
      count = begun.count;
    }))

pad_either : {T E : Type 0} (p : Result T E) (a b : Option (List ℕ)) (pad : List ℕ) → OnOk p (Appends a b pad) → OnErr p ((n : ℕ) × Appends a b (take n pad)) → (n : ℕ) × Appends a b (take n pad)
pad_either (Ok x) a b pad whole part = (length pad, subst (Appends a b) (sym (take-length pad)) whole)
pad_either (Err e) a b pad whole part = part

-- the octet behind the data or the sizes weren't written
pub finish_part : {T E U F : Type 0} (p : Result T E) (r : Result U F) (a b c : Option (List ℕ)) (wav : WavState) (octets : List ℕ) → IsBegun a wav octets []
    → OnOk p (Appends a b (pad_octets wav.count)) → OnErr p ((n : ℕ) × Appends a b (take n (pad_octets wav.count)))
    → OnOk r ((octets rest : List ℕ) → IsBegun b wav octets rest → Becomes b c (header_octets wav.format (length octets) ++ octets ++ rest))
    → OnErr r ((octets rest : List ℕ) → IsBegun b wav octets rest → BecomesPart b c wav.format octets rest)
    → (n : ℕ) × BecomesPart a c wav.format octets (take n (pad_octets (length octets)))
finish_part p r a b c wav octets begun padded unpadded sized unsized =
    let some = pad_either p a b (pad_octets wav.count) padded unpadded in
    let n = some.0 in
    let rest = take n (pad_octets (length octets)) in
    (n, end_part a b c wav octets rest begun (subst (λ k. Appends a b (take n (pad_octets k))) begun.count some.1) (part_either r b c wav sized unsized))
