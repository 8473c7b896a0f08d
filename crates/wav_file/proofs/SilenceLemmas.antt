-- Silence, chunk by chunk.
use Rattle.std.proofs.Common.{◌≡◌, ◌≤◌, ◌+◌, ◌-◌, ◌*◌, ℕ, zero, suc, List, ◌∷◌, ◌++◌, length, take, drop, replicate, Option, refl, ap, sym, ◌∙◌, subst, arith, append_assoc, take-append-drop}
use Rattle.std.proofs.lemmas.List.{length-replicate, replicate-append-replicate, take-replicate}
use Rattle.std.specs.Io.KnownBytes.{Appends}
use Rattle.std.proofs.KnownBytes.{Appends-trans}
use Rattle.rtp_wire.specs.declared.encoding.Enc.{Enc}
use Rattle.rtp_wire.specs.declared.encoding.Enc.TheVariants.{L16, L24}
use Rattle.rtp_wire.specs.Sample.{octets_per_sample}
use Rattle.wav_file.specs.declared.header.WavFormat.{WavFormat}
use Rattle.wav_file.specs.Header.{frame_length}
use Rattle.wav_file.specs.Samples.{little_16, little_24, little_samples}
use Rattle.wav_file.specs.File.{WavState, silent_octets}
use Rattle.wav_file.specs.PartFile.{HasPrefix}

zeros_16 : (n : ℕ) → little_16 (replicate (n * 2) 0) ≡ replicate (n * 2) 0
zeros_16 zero = refl
zeros_16 (suc n) =
    let next : suc n * 2 ≡ suc (suc (n * 2)) = omega arith in
    rw next (ap (λ l. 0 ∷ 0 ∷ l) (zeros_16 n))

zeros_24 : (n : ℕ) → little_24 (replicate (n * 3) 0) ≡ replicate (n * 3) 0
zeros_24 zero = refl
zeros_24 (suc n) =
    let next : suc n * 3 ≡ suc (suc (suc (n * 3))) = omega arith in
    rw next (ap (λ l. 0 ∷ 0 ∷ 0 ∷ l) (zeros_24 n))

-- whole samples of 0 are the same in the other order
zeros : (enc : Enc) (n : ℕ) → little_samples enc (replicate (n * octets_per_sample enc) 0) ≡ replicate (n * octets_per_sample enc) 0
zeros L16 n = zeros_16 n
zeros L24 n = zeros_24 n

-- the silence of this many sampling instants
pub zeros_of : (format : WavFormat) (n : ℕ) → n * frame_length format ≤ 1440
    → little_samples format.enc (take (n * frame_length format) (replicate 1440 0)) ≡ replicate (n * frame_length format) 0
zeros_of format n fits =
    let same : n * frame_length format ≡ n * format.channels * octets_per_sample format.enc = omega arith in
    ap (little_samples format.enc) (take-replicate (n * frame_length format) 1440 0 fits)
    ∙ ap (λ k. little_samples format.enc (replicate k 0)) same
    ∙ zeros format.enc (n * format.channels) ∙ ap (λ k. replicate k 0) (sym same)

-- one chunk more
pub silence_more : (a b c : Option (List ℕ)) (done n frame : ℕ) → Appends a b (replicate (done * frame) 0) → Appends b c (replicate (n * frame) 0)
    → Appends a c (replicate ((done + n) * frame) 0)
silence_more a b c done n frame before next =
    let same : done * frame + n * frame ≡ (done + n) * frame = omega arith in
    subst (Appends a c) (replicate-append-replicate (done * frame) (n * frame) 0 ∙ ap (λ k. replicate k 0) same)
    (Appends-trans a b c (replicate (done * frame) 0) (replicate (n * frame) 0) before next)

-- a chunk more is counted
pub count_more : (old now count done n frame : ℕ) (octets : List ℕ) → now ≡ old + done * frame → count ≡ now + length octets → octets ≡ replicate (n * frame) 0
    → count ≡ old + (done + n) * frame
count_more old now count done n frame octets before next are =
    let long : length octets ≡ n * frame = ap length are ∙ length-replicate (n * frame) 0 in
    omega (arith, before, next, long)

-- the silence broke off in a chunk
pub silence_broken : (a b c : Option (List ℕ)) (old now then : WavState) (done frame m n instants : ℕ) (octets : List ℕ) → now.count ≡ old.count + done * frame → now.format ≡ old.format
    → frame ≡ frame_length old.format → done + n ≤ instants
    → Appends a b (replicate (done * frame) 0) → octets ≡ replicate (n * frame) 0 → Appends b c (take m octets) → then ≡ now → HasPrefix a c old then (silent_octets old.format instants)
silence_broken a b c old now then done frame m n instants octets count format size within before are part same =
    let front : List ℕ = replicate (done * frame) 0 in
    let chunk : List ℕ = replicate (n * frame) 0 in
    let others = (instants - (done + n)) * frame in
    let behind : List ℕ = replicate others 0 in
    let rest = take m chunk in
    let left = drop m chunk in
    let parts : instants ≡ (done + n) + (instants - (done + n)) = omega (arith, within) in
    let sum : instants * frame ≡ done * frame + (n * frame + others) =
    ap (λ k. k * frame) parts ∙ times_add (done + n) (instants - (done + n)) frame ∙ ap (λ k. k + others) (times_add done n frame) ∙ sums (done * frame) (n * frame) others in
    let long : length front ≡ done * frame = length-replicate (done * frame) 0 in
    record {
      octets = front;
      rest = rest;
      left = left ++ behind;
      all = ap (λ k. replicate (instants * k) 0) (sym size) ∙ ap (λ k. replicate k 0) sum
          ∙ sym (replicate-append-replicate (done * frame) (n * frame + others) 0)
          ∙ ap (λ l. front ++ l) (sym (replicate-append-replicate (n * frame) others 0))
          ∙ ap (λ l. front ++ (l ++ behind)) (sym (take-append-drop m chunk))
          ∙ ap (λ l. front ++ l) (append_assoc rest left behind)
          ∙ sym (append_assoc front rest (left ++ behind));
      added = record {
        added = Appends-trans a b c front rest before (subst (Appends b c) (ap (take m) are) part);
        count = ap (λ (w : WavState). w.count) same ∙ count ∙ ap (λ k. old.count + k) (sym long);
        format = ap (λ (w : WavState). w.format) same ∙ format;
      };
    }
  where
    times_add : (x y z : ℕ) → (x + y) * z ≡ x * z + y * z
    times_add x y z = omega arith

    sums : (x y z : ℕ) → (x + y) + z ≡ x + (y + z)
    sums x y z = omega arith
