-- The files of a run's audio: more octets, and one file more.
use Rattle.std.proofs.Common.{◌≡◌, ◌≤◌, ◌+◌, ◌-◌, ◌*◌, ℕ, zero, suc, Bool, List, [], ◌∷◌, ◌++◌, length, take, drop, Option, Some, None, refl, sym, ap, subst, ◌∙◌, arith, append-nil, length-append, length-drop, mul-le-mul_right}
use Rattle.std.proofs.lemmas.List.{drop-append-le, drop-drop, drop_all, take-append-le, take_all}
use Rattle.std.specs.Io.KnownBytes.{Appends}
use Rattle.rtp_wire.specs.Sample.{octets_per_sample}
use Rattle.wav_file.specs.declared.header.WavFormat.{WavFormat}
use Rattle.wav_file.specs.Header.{header_with}
use Rattle.wav_file.specs.File.{Becomes}
use Rattle.wav_file.specs.LiveFile.{Closes, HasData, LiveState, live_octets}
use Rattle.wav_file.specs.Samples.{little_samples}
use Rattle.wav_file.proofs.LiveLemmas.{data_pushed, known_more, samples_append, samples_none}
use Rattle.live_audio.specs.Parts.{AreChunks, HasParts, IsChunk, later, part_files, time_behind}
use Rattle.live_audio.specs.declared.parts.PartPlan.{PartPlan}
use Rattle.live_audio.specs.declared.parts.WavParts.{WavParts}

-- a file's octets are those of the first, and of the others
first_of : (n len : ℕ) → len ≤ suc n * len
first_of n len = omega arith

others_of : (n len all : ℕ) → suc n * len ≤ all → n * len ≤ all - len
others_of n len all fits = omega (arith, fits)

one_more : (n len : ℕ) → len + n * len ≡ suc n * len
one_more n len = omega arith

-- octets behind those of whole files are in none of them
pub files_more : (format : WavFormat) (len : ℕ) (octets more : List ℕ) (chunks : List (List ℕ)) → length chunks * len ≤ length octets → part_files format len (octets ++ more) chunks ≡ part_files format len octets chunks
files_more format len octets more [] fits = refl
files_more format len octets more (chunk ∷ chunks) fits =
    let some : len ≤ length octets = omega (arith, fits, first_of (length chunks) len) in
    let left : length chunks * len ≤ length (drop len octets) = omega (arith, others_of (length chunks) len (length octets) fits, length-drop len octets) in
    ap (λ l. live_octets format chunk (little_samples format.enc l) ∷ part_files format len (drop len (octets ++ more)) chunks) (take-append-le len octets more some)
    ∙ ap (λ l. live_octets format chunk (little_samples format.enc (take len octets)) ∷ part_files format len l chunks) (drop-append-le len octets more some)
    ∙ ap (λ l. live_octets format chunk (little_samples format.enc (take len octets)) ∷ l) (files_more format len (drop len octets) more chunks left)

-- one whole file more has the octets behind them
pub files_next : (format : WavFormat) (len : ℕ) (octets : List ℕ) (chunks : List (List ℕ)) (chunk : List ℕ)
    → part_files format len octets (chunks ++ chunk ∷ []) ≡ part_files format len octets chunks ++ live_octets format chunk (little_samples format.enc (take len (drop (length chunks * len) octets))) ∷ []
files_next format len octets [] chunk = let none : 0 * len ≡ 0 = omega arith in ap (λ n. live_octets format chunk (little_samples format.enc (take len (drop n octets))) ∷ []) (sym none)
files_next format len octets (first ∷ chunks) chunk =
    ap (λ l. live_octets format first (little_samples format.enc (take len octets)) ∷ l)
    (files_next format len (drop len octets) chunks chunk
    ∙ ap (λ l. part_files format len (drop len octets) chunks ++ live_octets format chunk (little_samples format.enc (take len l)) ∷ [])
    (drop-drop (length chunks * len) len octets ∙ ap (λ n. drop n octets) (one_more (length chunks) len)))

-- one chunk more
pub chunks_next : (stamped : Bool) (step at : ℕ) (chunks : List (List ℕ)) (chunk : List ℕ) → AreChunks stamped step at chunks → IsChunk stamped (time_behind step at (length chunks)) chunk
    → AreChunks stamped step at (chunks ++ chunk ∷ [])
chunks_next stamped step at [] chunk all one = (one, tt)
chunks_next stamped step at (first ∷ chunks) chunk all one = (all.0, chunks_next stamped step (later step at) chunks chunk all.1 one)

pub time_next : (step at files : ℕ) → time_behind step at (suc files) ≡ later step (time_behind step at files)
time_next step at zero = refl
time_next step at (suc files) = time_next step (later step at) files

-- a file is closed
closes_known : (a b : Option (List (List ℕ))) (c : Option (List ℕ)) (files : List (List ℕ)) (octets : List ℕ) → a ≡ Some files → c ≡ Some octets → Closes a b c → b ≡ Some (files ++ octets ∷ [])
closes_known None b c files octets is has closes = absurd (let e : None ≡ Some files = is in cc)
closes_known (Some x) None c files octets is has closes = absurd closes
closes_known (Some x) (Some y) None files octets is has closes = absurd (let e : None ≡ Some octets = has in cc)
closes_known (Some x) (Some y) (Some z) files octets is has closes =
    let same : x ≡ files = (let e : Some x ≡ Some files = is in cc) in
    let own : z ≡ octets = (let e : Some z ≡ Some octets = has in cc) in
    ap Some (closes ∙ ap (λ l. l ++ z ∷ []) same ∙ ap (λ l. files ++ l ∷ []) own)

-- if the octets of a file were known, the new ones are too
pub becomes_known : (a b : Option (List ℕ)) (xs ys : List ℕ) → a ≡ Some xs → Becomes a b ys → b ≡ Some ys
becomes_known None b xs ys is becomes = absurd (let e : None ≡ Some xs = is in cc)
becomes_known (Some x) None xs ys is becomes = absurd becomes
becomes_known (Some x) (Some y) xs ys is becomes = ap Some becomes

length_one : (chunks : List (List ℕ)) (chunk : List ℕ) → length (chunks ++ chunk ∷ []) ≡ suc (length chunks)
length_one chunks chunk = let sum = length-append chunks (chunk ∷ []) in omega (arith, sum)

-- a file without space has all octets of a file
full_octets : (n blocks block all : ℕ) → all + 0 * block ≡ n * (blocks * block) + blocks * block → all - n * (blocks * block) ≡ blocks * block
full_octets n blocks block all is = omega (arith, is)

full_next : (n blocks block all : ℕ) → all + 0 * block ≡ n * (blocks * block) + blocks * block → all ≡ suc n * (blocks * block)
full_next n blocks block all is = omega (arith, is)

blocks_next : (n blocks block all : ℕ) → all ≡ suc n * (blocks * block) → all + blocks * block ≡ suc n * (blocks * block) + blocks * block
blocks_next n blocks block all is = omega (arith, is)

-- how many octets are in closed files: no more than came
pub begins_within : (n blocks block left all : ℕ) → left ≤ blocks → all + left * block ≡ n * (blocks * block) + blocks * block → n * (blocks * block) ≤ all
begins_within n blocks block left all few is =
    let more : left * block ≤ blocks * block = mul-le-mul_right block few in
    omega (arith, is, more)

pub ends_within : (n blocks block left all : ℕ) → all + left * block ≡ n * (blocks * block) + blocks * block → all ≤ n * (blocks * block) + blocks * block
ends_within n blocks block left all is = omega (arith, is)

times_add : (x y z : ℕ) → x * z + y * z ≡ (x + y) * z
times_add x y z = omega arith

-- a part of a product, and the rest
rest_of : (b l c : ℕ) → l ≤ b → (b - l) * c + l * c ≡ b * c
rest_of b l c few = let all : b - l + l ≡ b = omega (arith, few) in times_add (b - l) l c ∙ ap (λ n. n * c) all

turned : (x y z : ℕ) → x * (y * z) ≡ x * y * z
turned x y z = omega arith

-- the octets of the file that is written are whole blocks
own_octets : (n blocks block left all : ℕ) → left ≤ blocks → all + left * block ≡ n * (blocks * block) + blocks * block → all - n * (blocks * block) ≡ (blocks - left) * block
own_octets n blocks block left all few is =
    let rest = rest_of blocks left block few in
    omega (arith, is, rest)

-- the own of a file, by their value
held_same : (a : Option (List ℕ)) (wav : LiveState) (head h octets o rest : List ℕ) → head ≡ h → octets ≡ o → HasData a wav head octets rest → HasData a wav h o rest
held_same a wav head h octets o rest i j d = subst (λ x. HasData a wav h x rest) j (subst (λ x. HasData a wav x octets rest) i d)

-- whole blocks went to the file, which has space for them
pub parts_pushed : (past : Option (List (List ℕ))) (a b : Option (List ℕ)) (format : WavFormat) (plan : PartPlan) (block : ℕ) (old new : WavParts) (octets part : List ℕ) (n samples : ℕ) (head : List ℕ)
    → HasParts past a format plan block old octets head [] → length part ≡ n * block → n ≤ old.left → block ≡ samples * octets_per_sample format.enc → Appends a b (little_samples format.enc part)
    → new.wav ≡ record { format = old.wav.format; chunk = old.wav.chunk; count = old.wav.count + length (little_samples format.enc part) } → new.at ≡ old.at → new.left ≡ old.left - n
    → HasParts past b format plan block new (octets ++ part) head []
parts_pushed past a b format plan block old new octets part n samples head h size fits unit added is at left =
    let len = plan.blocks * block in
    let k = length h.chunks in
    let chunk : new.wav.chunk ≡ old.wav.chunk = ap (λ (w : LiveState). w.chunk) is in
    let begins : k * len ≤ length octets = begins_within k plan.blocks block old.left (length octets) h.few h.left in
    let own : List ℕ = drop (k * len) octets in
    let whole : length own ≡ (plan.blocks - old.left) * samples * octets_per_sample format.enc =
    length-drop (k * len) octets ∙ own_octets k plan.blocks block old.left (length octets) h.few h.left ∙ ap (λ m. (plan.blocks - old.left) * m) unit
    ∙ turned (plan.blocks - old.left) samples (octets_per_sample format.enc) in
    let sum = length-append octets part in
    let rest = rest_of old.left n block fits in
    let few = h.few in
    let before = h.left in
    record {
      chunks = h.chunks;
      closed = h.closed ∙ ap Some (sym (files_more format len octets part h.chunks begins));
      times = subst (λ c. AreChunks plan.stamped plan.step plan.at (h.chunks ++ c ∷ [])) (sym chunk) h.times;
      at = at ∙ h.at;
      held = held_same b new.wav head head (little_samples format.enc own ++ little_samples format.enc part) _ [] refl
          (sym (samples_append format.enc ((plan.blocks - old.left) * samples) own part whole) ∙ ap (little_samples format.enc) (sym (drop-append-le (k * len) octets part begins)))
          (data_pushed a b old.wav new.wav head (little_samples format.enc own) (little_samples format.enc part) h.held added chunk (ap (λ (w : LiveState). w.count) is));
      few = omega (arith, left, few);
      left = ap (λ m. length (octets ++ part) + m * block) left ∙ joined (length (octets ++ part)) (length octets) (length part) n block (old.left - n) old.left (k * len + plan.blocks * block) sum size rest before;
    }
  where
    joined : (all some more n block left then total : ℕ) → all ≡ some + more → more ≡ n * block → left * block + n * block ≡ then * block → some + then * block ≡ total → all + left * block ≡ total
    joined all some more n block left then total sum size rest is = omega (arith, sum, size, rest, is)

-- a file without space was closed
pub parts_closed : (past then : Option (List (List ℕ))) (a b : Option (List ℕ)) (format : WavFormat) (plan : PartPlan) (block : ℕ) (old : WavParts) (octets head : List ℕ)
    → (h : HasParts past a format plan block old octets head []) → old.left ≡ 0 → old.wav.format ≡ format
    → ((head octets : List ℕ) → HasData a old.wav head octets [] → b ≡ Some (live_octets old.wav.format old.wav.chunk octets)) → Closes past then b
    → then ≡ Some (part_files format (plan.blocks * block) octets (h.chunks ++ old.wav.chunk ∷ []))
parts_closed past then a b format plan block old octets head h none same finish closes =
    let len = plan.blocks * block in
    let k = length h.chunks in
    let own : List ℕ = drop (k * len) octets in
    let last : length octets + 0 * block ≡ k * len + len = ap (λ n. length octets + n * block) (sym none) ∙ h.left in
    let size : length own ≡ len = length-drop (k * len) octets ∙ full_octets k plan.blocks block (length octets) last in
    let whole : own ≡ take len own = sym (take_all len own (omega (arith, size))) in
    closes_known past then b (part_files format len octets h.chunks) (live_octets format old.wav.chunk (little_samples format.enc (take len own))) h.closed
    (finish head _ h.held ∙ ap (λ f. Some (live_octets f old.wav.chunk (little_samples format.enc own))) same ∙ ap (λ l. Some (live_octets format old.wav.chunk (little_samples format.enc l))) whole)
    closes
    ∙ ap Some (sym (files_next format len octets h.chunks old.wav.chunk))

-- all octets are in closed files then
pub parts_full : (past : Option (List (List ℕ))) (a : Option (List ℕ)) (format : WavFormat) (plan : PartPlan) (block : ℕ) (old : WavParts) (octets head : List ℕ)
    → (h : HasParts past a format plan block old octets head []) → old.left ≡ 0 → length octets ≡ length (h.chunks ++ old.wav.chunk ∷ []) * (plan.blocks * block)
parts_full past a format plan block old octets head h none =
    full_next (length h.chunks) plan.blocks block (length octets) (ap (λ n. length octets + n * block) (sym none) ∙ h.left) ∙ ap (λ n. n * (plan.blocks * block)) (sym (length_one h.chunks old.wav.chunk))

-- the time of the next one
pub parts_later : (past : Option (List (List ℕ))) (a : Option (List ℕ)) (format : WavFormat) (plan : PartPlan) (block : ℕ) (old : WavParts) (octets head : List ℕ) (at : ℕ) (chunk : List ℕ)
    → (h : HasParts past a format plan block old octets head []) → at ≡ later plan.step old.at → at ≡ time_behind plan.step plan.at (length (h.chunks ++ old.wav.chunk ∷ []))
parts_later past a format plan block old octets head at chunk h is =
    is ∙ ap (later plan.step) h.at ∙ sym (time_next plan.step plan.at (length h.chunks)) ∙ ap (time_behind plan.step plan.at) (sym (length_one h.chunks old.wav.chunk))

pub parts_times : (past : Option (List (List ℕ))) (a : Option (List ℕ)) (format : WavFormat) (plan : PartPlan) (block : ℕ) (old : WavParts) (octets head : List ℕ) (at : ℕ) (chunk : List ℕ)
    → (h : HasParts past a format plan block old octets head []) → at ≡ later plan.step old.at → IsChunk plan.stamped at chunk
    → AreChunks plan.stamped plan.step plan.at ((h.chunks ++ old.wav.chunk ∷ []) ++ chunk ∷ [])
parts_times past a format plan block old octets head at chunk h is one =
    chunks_next plan.stamped plan.step plan.at (h.chunks ++ old.wav.chunk ∷ []) chunk h.times (subst (λ t. IsChunk plan.stamped t chunk) (parts_later past a format plan block old octets head at chunk h is) one)

-- a file whose header was written has no own yet
pub head_alone : (b c : Option (List ℕ)) (wav : LiveState) (head : List ℕ) → b ≡ Some [] → Appends b c head → length head ≡ 80 + length wav.chunk → wav.count ≡ 0 → HasData c wav head [] []
head_alone b c wav head empty added size none = record {
  holds = known_more b c [] head empty added ∙ ap Some (sym (append-nil head) ∙ ap (λ l. l ++ []) (sym (append-nil head)));
  size = size;
  count = none;
}

-- the next file was begun
pub parts_begun : (past then : Option (List (List ℕ))) (a b c d : Option (List ℕ)) (format : WavFormat) (plan : PartPlan) (block : ℕ) (old new : WavParts) (octets head : List ℕ)
    → HasParts past a format plan block old octets head [] → old.left ≡ 0 → old.wav.format ≡ format
    → ((head octets : List ℕ) → HasData a old.wav head octets [] → b ≡ Some (live_octets old.wav.format old.wav.chunk octets)) → Closes past then b → Becomes b c []
    → Appends c d (header_with format new.wav.chunk 0) → length (header_with format new.wav.chunk 0) ≡ 80 + length new.wav.chunk → new.wav.count ≡ 0
    → new.at ≡ later plan.step old.at → IsChunk plan.stamped new.at new.wav.chunk → new.left ≡ plan.blocks
    → HasParts then d format plan block new octets (header_with format new.wav.chunk 0) []
parts_begun past then a b c d format plan block old new octets head h none same finish closes becomes added size empty at one left =
    let len = plan.blocks * block in
    let k = length h.chunks in
    let chunks : List (List ℕ) = h.chunks ++ old.wav.chunk ∷ [] in
    let full = parts_full past a format plan block old octets head h none in
    let gone : drop (length chunks * len) octets ≡ [] = drop_all (length chunks * len) octets (omega (arith, full)) in
    record {
      chunks = chunks;
      closed = parts_closed past then a b format plan block old octets head h none same finish closes;
      times = parts_times past a format plan block old octets head new.at new.wav.chunk h at one;
      at = parts_later past a format plan block old octets head new.at new.wav.chunk h at;
      held = held_same d new.wav _ _ [] _ [] refl (sym (ap (little_samples format.enc) gone ∙ samples_none format.enc))
          (head_alone c d new.wav (header_with format new.wav.chunk 0) (becomes_known b c _ [] (finish head _ h.held) becomes) added size empty);
      few = omega (arith, left);
      left = ap (λ n. length octets + n * block) left ∙ ap (λ n. n + plan.blocks * block) full;
    }

-- the first file was
pub parts_first : (past : Option (List (List ℕ))) (b c : Option (List ℕ)) (format : WavFormat) (plan : PartPlan) (block : ℕ) (new : WavParts) (octets : List ℕ)
    → octets ≡ [] → past ≡ Some [] → b ≡ Some [] → Appends b c (header_with format new.wav.chunk 0) → length (header_with format new.wav.chunk 0) ≡ 80 + length new.wav.chunk → new.wav.count ≡ 0
    → new.at ≡ plan.at → IsChunk plan.stamped new.at new.wav.chunk → new.left ≡ plan.blocks
    → HasParts past c format plan block new octets (header_with format new.wav.chunk 0) []
parts_first past b c format plan block new octets nothing first empty added size none at one left =
    let gone : drop (0 * (plan.blocks * block)) octets ≡ [] = ap (drop (0 * (plan.blocks * block))) nothing ∙ drop_all (0 * (plan.blocks * block)) [] (omega arith) in
    record {
      chunks = [];
      closed = first;
      times = (subst (λ t. IsChunk plan.stamped t new.wav.chunk) at one, tt);
      at = at;
      held = held_same c new.wav _ _ [] _ [] refl (sym (ap (little_samples format.enc) gone ∙ samples_none format.enc)) (head_alone b c new.wav (header_with format new.wav.chunk 0) empty added size none);
      few = omega (arith, left);
      left = ap (λ n. length octets + n * block) left ∙ ap (λ l. length l + plan.blocks * block) nothing ∙ zero_more (plan.blocks * block);
    }
  where
    zero_more : (n : ℕ) → 0 + n ≡ 0 * n + n
    zero_more n = omega arith
