-- The samples of a replay's datagrams in a WAV file, one datagram after another.
use Rattle.std.proofs.Common.{◌≡◌, ◌≤◌, ◌+◌, ℕ, Bool, true, false, List, [], ◌∷◌, ◌++◌, length, take, Option, Some, None, refl, sym, ap, subst, ◌∙◌, arith, append_assoc, append-nil, length-append}
use Rattle.std.specs.Io.KnownBytes.{Appends}
use Rattle.std.proofs.KnownBytes.{Appends-trans}
use Rattle.std.proofs.lemmas.Grind.{flat_map-append}
use Rattle.std.proofs.lemmas.List.{take-append-le}
use Rattle.std.proofs.Math.Seq.{take-append_seam, take-length}
use Rattle.rtp_wire.specs.declared.encoding.Enc.{Enc}
use Rattle.wav_file.specs.declared.header.WavFormat.{WavFormat}
use Rattle.wav_file.specs.Header.{header_octets}
use Rattle.wav_file.specs.File.{Becomes, IsBegun, WavState, wav_octets}
use Rattle.wav_runs.specs.MixWav.{HasAdded}
use Rattle.wav_file.specs.MixSamples.{datagram_samples, samples_in}
use Rattle.wav_runs.proofs.StreamTrackLemmas.{added_both, added_by}
use Rattle.wav_runs.specs.WavObserver.{HasAddedBy, HasAddedFirst, HasFront, HasHead, HasSounded, SoundState}

samples_more : (enc : Enc) (datagrams : List (List ℕ)) (datagram : List ℕ) → samples_in enc (datagrams ++ datagram ∷ []) ≡ samples_in enc datagrams ++ datagram_samples enc datagram
samples_more enc datagrams datagram =
    flat_map-append (datagram_samples enc) datagrams (datagram ∷ []) ∙ ap (λ l. samples_in enc datagrams ++ l) (append-nil (datagram_samples enc datagram))

-- the first of some datagrams are the first of more
first_more : (first now : SoundState) (datagrams : List (List ℕ)) (datagram : List ℕ) → HasAddedFirst first now datagrams → HasAddedFirst first now (datagrams ++ datagram ∷ [])
first_more first now datagrams datagram a =
    let enc = first.wav.format.enc in
    let more = length-append datagrams (datagram ∷ []) in
    let few = a.within in
    let same : take a.count datagrams ≡ take a.count (datagrams ++ datagram ∷ []) = sym (take-append-le a.count datagrams (datagram ∷ []) few) in
    record {
      count = a.count;
      within = omega (arith, few, more);
      rest = a.rest;
      added = subst (λ l. Appends first.made now.made (samples_in enc l ++ a.rest)) same a.added;
      counted = subst (λ l. now.wav.count ≡ first.wav.count + length (samples_in enc l)) same a.counted;
      format = a.format;
    }

-- nothing is added any more
pub sounded_still : (first now : SoundState) (datagrams : List (List ℕ)) (datagram : List ℕ) → now.failed ≡ true → HasSounded first now datagrams → HasSounded first now (datagrams ++ datagram ∷ [])
sounded_still first now datagrams datagram failed s =
    subst (λ b. HasAddedBy b first now (datagrams ++ datagram ∷ [])) (sym failed)
    (first_more first now datagrams datagram (subst (λ b. HasAddedBy b first now datagrams) failed s))

-- one datagram's samples were added
pub sounded_more : (first old new : SoundState) (datagrams : List (List ℕ)) (datagram : List ℕ) → old.failed ≡ false → new.failed ≡ false → HasSounded first old datagrams
    → Appends old.made new.made (datagram_samples old.wav.format.enc datagram)
    → new.wav ≡ record { format = old.wav.format; count = old.wav.count + length (datagram_samples old.wav.format.enc datagram) } → HasSounded first new (datagrams ++ datagram ∷ [])
sounded_more first old new datagrams datagram whole then s more is =
    let before = subst (λ b. HasAddedBy b first old datagrams) whole s in
    let enc = first.wav.format.enc in
    let same : old.wav.format.enc ≡ enc = ap (λ (f : WavFormat). f.enc) before.format in
    let added = added_both first.made old.made new.made first.wav old.wav new.wav (samples_in enc datagrams) (datagram_samples old.wav.format.enc datagram) before
    (added_by old.made new.made old.wav new.wav (datagram_samples old.wav.format.enc datagram) more is) in
    let all : samples_in enc datagrams ++ datagram_samples old.wav.format.enc datagram ≡ samples_in enc (datagrams ++ datagram ∷ []) =
    ap (λ e. samples_in enc datagrams ++ datagram_samples e datagram) same ∙ sym (samples_more enc datagrams datagram) in
    subst (λ b. HasAddedBy b first new (datagrams ++ datagram ∷ [])) (sym then) (subst (HasAdded first.made new.made first.wav new.wav) all added)

-- a part of a datagram's samples was added, which isn't counted
pub sounded_broken : (first old new : SoundState) (datagrams : List (List ℕ)) (datagram rest : List ℕ) → old.failed ≡ false → new.failed ≡ true → HasSounded first old datagrams
    → Appends old.made new.made rest → new.wav ≡ old.wav → HasSounded first new (datagrams ++ datagram ∷ [])
sounded_broken first old new datagrams datagram rest whole then s part is =
    let before = subst (λ b. HasAddedBy b first old datagrams) whole s in
    let enc = first.wav.format.enc in
    let more = length-append datagrams (datagram ∷ []) in
    let front : datagrams ≡ take (length datagrams) (datagrams ++ datagram ∷ []) = sym (take-append_seam datagrams (datagram ∷ [])) in
    subst (λ b. HasAddedBy b first new (datagrams ++ datagram ∷ [])) (sym then) (record {
      count = length datagrams;
      within = omega (arith, more);
      rest = rest;
      added = subst (λ l. Appends first.made new.made (samples_in enc l ++ rest)) front (Appends-trans first.made old.made new.made (samples_in enc datagrams) rest before.added part);
      counted = ap (λ (w : WavState). w.count) is ∙ subst (λ l. old.wav.count ≡ first.wav.count + length (samples_in enc l)) front before.count;
      format = ap (λ (w : WavState). w.format) is ∙ before.format;
    })

-- a file that had its head alone
begun_added : (x : List ℕ) (b : Option (List ℕ)) (wav then : WavState) (octets rest : List ℕ) → x ≡ header_octets wav.format 0 → wav.count ≡ 0 → Appends (Some x) b (octets ++ rest)
    → then.count ≡ wav.count + length octets → then.format ≡ wav.format → IsBegun b then octets rest
begun_added x None wav then octets rest head none added count format = absurd added
begun_added x (Some y) wav then octets rest head none added count format = record {
  holds = added ∙ ap (λ l. l ++ (octets ++ rest)) head ∙ ap (λ f. header_octets f 0 ++ (octets ++ rest)) (sym format) ∙ sym (append_assoc (header_octets then.format 0) octets rest);
  count = omega (arith, count, none);
}

became : (x : List ℕ) (b c : Option (List ℕ)) (added octets : List ℕ) → Appends (Some x) b added → Becomes b c octets → c ≡ Some octets
became x None c added octets a is = absurd a
became x (Some y) None added octets a is = absurd is
became x (Some y) (Some z) added octets a is = ap Some is

-- all samples, and none that isn't counted
first_all : (first now : SoundState) (datagrams : List (List ℕ)) → HasAdded first.made now.made first.wav now.wav (samples_in first.wav.format.enc datagrams) → HasAddedFirst first now datagrams
first_all first now datagrams a =
    let enc = first.wav.format.enc in
    let all : datagrams ≡ take (length datagrams) datagrams = sym (take-length datagrams) in
    record {
      count = length datagrams;
      within = (let e : length datagrams ≤ length datagrams = omega arith in e);
      rest = [];
      added = subst (λ l. Appends first.made now.made (samples_in enc l ++ [])) all (subst (Appends first.made now.made) (sym (append-nil (samples_in enc datagrams))) a.added);
      counted = subst (λ l. now.wav.count ≡ first.wav.count + length (samples_in enc l)) all a.count;
      format = a.format;
    }

-- the sizes were set
front_whole : (first now : SoundState) (datagrams : List (List ℕ)) (c : Option (List ℕ)) → HasHead first → HasAddedFirst first now datagrams
    → ((octets rest : List ℕ) → IsBegun now.made now.wav octets rest → Becomes now.made c (header_octets now.wav.format (length octets) ++ octets ++ rest)) → HasFront first.wav.format c datagrams
front_whole first now datagrams c head a sizes =
    let octets = samples_in first.wav.format.enc (take a.count datagrams) in
    let x = header_octets first.wav.format 0 in
    let added : Appends (Some x) now.made (octets ++ a.rest) = subst (λ m. Appends m now.made (octets ++ a.rest)) head.made a.added in
    let begun = begun_added x now.made first.wav now.wav octets a.rest refl head.none added a.counted a.format in
    record {
      count = a.count;
      within = a.within;
      rest = a.rest;
      holds = became x now.made c (octets ++ a.rest) _ added (sizes octets a.rest begun) ∙ ap (λ f. Some (header_octets f (length octets) ++ octets ++ a.rest)) a.format;
    }

front_by : (b : Bool) (first now : SoundState) (datagrams : List (List ℕ)) (c : Option (List ℕ)) → HasHead first → HasAddedBy b first now datagrams
    → ((octets rest : List ℕ) → IsBegun now.made now.wav octets rest → Becomes now.made c (header_octets now.wav.format (length octets) ++ octets ++ rest)) → HasFront first.wav.format c datagrams
front_by false first now datagrams c head a sizes = front_whole first now datagrams c head (first_all first now datagrams a) sizes
front_by true first now datagrams c head a sizes = front_whole first now datagrams c head a sizes

pub ends_broken : (first now : SoundState) (datagrams : List (List ℕ)) (c : Option (List ℕ)) → HasHead first → HasSounded first now datagrams
    → ((octets rest : List ℕ) → IsBegun now.made now.wav octets rest → Becomes now.made c (header_octets now.wav.format (length octets) ++ octets ++ rest)) → HasFront first.wav.format c datagrams
ends_broken first now datagrams c head s sizes = front_by now.failed first now datagrams c head s sizes

pub ends_finished : (first now : SoundState) (datagrams : List (List ℕ)) (c : Option (List ℕ)) → HasHead first → now.failed ≡ false → HasSounded first now datagrams
    → ((octets : List ℕ) → IsBegun now.made now.wav octets [] → Becomes now.made c (wav_octets now.wav.format octets)) → c ≡ Some (wav_octets first.wav.format (samples_in first.wav.format.enc datagrams))
ends_finished first now datagrams c head whole s sizes =
    let a = subst (λ b. HasAddedBy b first now datagrams) whole s in
    let octets = samples_in first.wav.format.enc datagrams in
    let x = header_octets first.wav.format 0 in
    let added : Appends (Some x) now.made (octets ++ []) = subst (λ m. Appends m now.made (octets ++ [])) head.made (subst (Appends first.made now.made) (sym (append-nil octets)) a.added) in
    let begun = begun_added x now.made first.wav now.wav octets [] refl head.none added a.count a.format in
    became x now.made c (octets ++ []) _ added (sizes octets begun) ∙ ap (λ f. Some (wav_octets f octets)) a.format
