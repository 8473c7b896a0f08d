-- A file's sizes at its end.
use Rattle.std.proofs.Common.{◌≡◌, ◌+◌, ℕ, List, [], ◌++◌, Option, Some, None, Result, Ok, Err, OnOk, OnErr, length, drop, refl, sym, ap, ◌∙◌, arith, append_assoc, append-nil, length-append}
use Rattle.std.proofs.lemmas.List.{drop_at}
use Rattle.std.specs.Io.KnownBytes.{Appends}
use Rattle.wav_file.specs.declared.header.WavFormat.{WavFormat}
use Rattle.wav_file.specs.Header.{header_octets}
use Rattle.wav_file.specs.File.{Becomes, IsBegun, Overwrites, WavState, pad_octets, wav_octets}

-- the head has 80 octets before any data
pub first_length : (format : WavFormat) → length (header_octets format 0) ≡ 80
first_length format = refl

-- the sizes were written over the head
pub sized : (a b : Option (List ℕ)) (wav : WavState) (octets rest head : List ℕ) → IsBegun a wav octets rest → head ≡ header_octets wav.format wav.count → length head ≡ 80
    → Overwrites a b head → Becomes a b (header_octets wav.format (length octets) ++ octets ++ rest)
sized None b wav octets rest head begun is len over = tt
sized (Some old) None wav octets rest head begun is len over = absurd over
sized (Some old) (Some new) wav octets rest head begun is len over =
    let first = first_length wav.format in
    let whole : old ≡ header_octets wav.format 0 ++ (octets ++ rest) = begun.holds ∙ append_assoc (header_octets wav.format 0) octets rest in
    let long : length old ≡ 80 + length (octets ++ rest) = ap length whole ∙ length-append (header_octets wav.format 0) (octets ++ rest) ∙ ap (λ n. n + length (octets ++ rest)) first in
    let left : drop (length head) old ≡ octets ++ rest = ap (λ l. drop (length head) l) whole ∙ drop_at (header_octets wav.format 0) (octets ++ rest) (length head) (first ∙ sym len) in
    over (omega (arith, long, len)) ∙ ap (λ l. head ++ l) left ∙ sym (append_assoc head octets rest)
    ∙ ap (λ h. h ++ octets ++ rest) (is ∙ ap (header_octets wav.format) begun.count)

-- known octets became others in two steps
becomes_later : (a b c : Option (List ℕ)) (xs ys : List ℕ) → Appends a b xs → Becomes b c ys → Becomes a c ys
becomes_later None b c xs ys p q = tt
becomes_later (Some x) None c xs ys p q = absurd p
becomes_later (Some x) (Some y) None xs ys p q = absurd q
becomes_later (Some x) (Some y) (Some z) xs ys p q = q

-- the sizes were written after the data
pub finished : (a b c : Option (List ℕ)) (wav : WavState) (octets : List ℕ) → IsBegun a wav octets [] → Appends a b (pad_octets wav.count)
    → ((octets rest : List ℕ) → IsBegun b wav octets rest → Becomes b c (header_octets wav.format (length octets) ++ octets ++ rest))
    → Becomes a c (wav_octets wav.format octets)
finished None b c wav octets begun p sizes = tt
finished (Some x) None c wav octets begun p sizes = absurd p
finished (Some x) (Some y) c wav octets begun p sizes =
    let pad : pad_octets wav.count ≡ pad_octets (length octets) = ap pad_octets begun.count in
    becomes_later (Some x) (Some y) c (pad_octets wav.count) (wav_octets wav.format octets) p
    (sizes octets (pad_octets (length octets)) (record {
      holds = p ∙ ap (λ l. x ++ l) pad ∙ ap (λ l. l ++ pad_octets (length octets)) (begun.holds ∙ append-nil (header_octets wav.format 0 ++ octets));
      count = begun.count;
    }))

-- what follows from a fact at `Ok`
pub at_ok : {T E P Q : Type 0} (r : Result T E) → (P → Q) → OnOk r P → OnOk r Q
at_ok (Ok value) follows holds = follows holds
at_ok (Err fault) follows holds = tt

pub at_err : {T E P Q : Type 0} (r : Result T E) → (P → Q) → OnErr r P → OnErr r Q
at_err (Ok value) follows holds = tt
at_err (Err fault) follows holds = follows holds
