-- The part of the mix that went to its files, one step further.
use Rattle.std.proofs.Common.{◌≡◌, ◌≤◌, ◌<◌, ◌+◌, ◌-◌, ◌*◌, ◌/◌, ◌%◌, ◌^◌, min, ℕ, true, false, nat_le, List, [], ◌∷◌, ◌++◌, length, take, drop, Option, Some, Result, Ok, Err, OnOk, OnErr, refl, sym, ap, subst, ◌∙◌, arith, inl, inr, get_or, slice_get, append-nil, length-append, div-add-mod', div-mul-le_self, eq-or-lt_of_le, mod-lt, mul-le-mul_right}
use Rattle.std.specs.Io.KnownBytes.{Appends}
use Rattle.std.proofs.lemmas.Bool.Decides.{nat_tests}
use Rattle.std.proofs.lemmas.Option.{slice_get_read}
use Rattle.rtrb.specs.Ring.{received}
use Rattle.rtp_stream.specs.declared.stream_spec.Stream.{Stream}
use Rattle.rtp_wire.specs.declared.encoding.Enc.{Enc}
use Rattle.rtp_wire.specs.declared.encoding.Enc.TheVariants.{L16, L24}
use Rattle.rtp_wire.specs.Sample.{octets_per_sample}
use Rattle.mix_packets.specs.declared.out_spec.Output.{Output}
use Rattle.wav_file.specs.declared.header.WavFormat.{WavFormat}
use Rattle.wav_file.specs.Header.{frame_length, header_with}
use Rattle.wav_file.specs.File.{Becomes}
use Rattle.wav_file.specs.LiveFile.{Closes, HasData, LiveState, live_octets}
use Rattle.wav_file.specs.Samples.{little_samples}
use Rattle.wav_file.proofs.LiveLemmas.{data_more}
use Rattle.live_audio.specs.Parts.{AreChunks, HasParts, IsChunk, later}
use Rattle.live_audio.specs.AudioWriter.{AreBlocks, HasFailed, HasMoved, HasWritten, IsFresh, IsSameWriter, IsWritten, LacksBlock}
use Rattle.live_audio.specs.declared.parts.PartPlan.{PartPlan}
use Rattle.live_audio.specs.declared.parts.WavParts.{WavParts}
use Rattle.live_audio.specs.declared.writer.AudioFile.{AudioFile}
use Rattle.live_audio.specs.declared.writer.AudioWriter.{AudioWriter}
use Rattle.live_audio.proofs.PartLemmas.{begins_within, ends_within, parts_begun, parts_closed, parts_first, parts_full, parts_pushed, parts_times}

-- blocks by equal lengths and numbers
blocks_same : (block b octets o count c : ℕ) → block ≡ b → octets ≡ o → count ≡ c → AreBlocks block octets count → AreBlocks b o c
blocks_same block b octets o count c i j k a = record { blocks = a.blocks; whole = sym j ∙ a.whole ∙ ap (λ n. a.blocks * n) i; counted = sym k ∙ a.counted }

blocks_more : (block all some more n count then : ℕ) → all ≡ some + more → more ≡ n * block → then ≡ min (count + n) (2 ^ 64 - 1) → AreBlocks block some count → AreBlocks block all then
blocks_more block all some more n count then sum size counted a =
    let before = a.whole in
    let numbered = a.counted in
    record {
      blocks = a.blocks + n;
      whole = sum ∙ ap (λ m. m + more) before ∙ ap (λ m. a.blocks * block + m) size ∙ times_add a.blocks n block;
      counted = omega (arith, counted, numbered);
    }
  where
    times_add : (x y z : ℕ) → x * z + y * z ≡ (x + y) * z
    times_add x y z = omega arith

-- files of a writer that is the same
parts_same : (past : Option (List (List ℕ))) (a : Option (List ℕ)) (old new : AudioWriter) (parts : WavParts) → received new.ring ≡ received old.ring → new.format ≡ old.format → new.block_len ≡ old.block_len
    → new.plan ≡ old.plan
    → HasParts past a old.format old.plan old.block_len parts (received old.ring) (header_with old.format parts.wav.chunk parts.sized) []
    → HasParts past a new.format new.plan new.block_len parts (received new.ring) (header_with new.format parts.wav.chunk parts.sized) []
parts_same past a old new parts came format block plan h =
    subst (λ f. HasParts past a f new.plan new.block_len parts (received new.ring) (header_with f parts.wav.chunk parts.sized) []) (sym format)
    (subst (λ p. HasParts past a old.format p new.block_len parts (received new.ring) (header_with old.format parts.wav.chunk parts.sized) []) (sym plan)
    (subst (λ b. HasParts past a old.format old.plan b parts (received new.ring) (header_with old.format parts.wav.chunk parts.sized) []) (sym block)
    (subst (λ r. HasParts past a old.format old.plan old.block_len parts r (header_with old.format parts.wav.chunk parts.sized) []) (sym came) h)))

-- the writer has received nothing more
pub moved_same : (past : Option (List (List ℕ))) (a : Option (List ℕ)) (old new : AudioWriter) (parts : WavParts) → IsSameWriter old new → HasMoved past a old parts → HasMoved past a new parts
moved_same past a old new parts s m =
    let enc : old.format.enc ≡ new.format.enc = ap (λ (f : WavFormat). f.enc) (sym s.format) in
    record {
      format = m.format ∙ sym s.format;
      some = subst (λ f. 0 < frame_length f) (sym s.format) m.some;
      some_blocks = subst (λ (p : PartPlan). 0 < p.blocks) (sym s.plan) m.some_blocks;
      samples = m.samples;
      block = s.block ∙ m.block ∙ ap (λ e. m.samples * octets_per_sample e) enc;
      whole = blocks_same _ _ _ _ _ _ (sym s.block) (sym (ap length s.came)) (sym s.counted) m.whole;
      held = parts_same past a old new parts s.came s.format s.block s.plan m.held;
    }

pub written_same : (past : Option (List (List ℕ))) (a : Option (List ℕ)) (old new : AudioWriter) (parts : WavParts) → IsSameWriter old new → HasWritten past a old parts → HasWritten past a new parts
written_same past a old new parts s w = record {
  moved = moved_same past a old new parts s w.moved;
  recent = subst (λ f. parts.wav.count < parts.sized + 48000 * frame_length f) (sym s.format) w.recent;
}

-- whole blocks more came and went to the file
pub moved_more : (past : Option (List (List ℕ))) (a b : Option (List ℕ)) (old new : AudioWriter) (parts then : WavParts) (n : ℕ) (part : List ℕ) → length part ≡ n * old.block_len
    → received new.ring ≡ received old.ring ++ part → new.format ≡ old.format → new.block_len ≡ old.block_len → new.plan ≡ old.plan → new.blocks ≡ min (old.blocks + n) (2 ^ 64 - 1)
    → n ≤ parts.left → Appends a b (little_samples parts.wav.format.enc part)
    → then.wav ≡ record { format = parts.wav.format; chunk = parts.wav.chunk; count = parts.wav.count + length (little_samples parts.wav.format.enc part) }
    → then.at ≡ parts.at → then.left ≡ parts.left - n → then.sized ≡ parts.sized
    → HasMoved past a old parts → HasMoved past b new then
moved_more past a b old new parts then n part size came format block plan counted fits added is at left sized m =
    let mine : parts.wav.format.enc ≡ old.format.enc = ap (λ (f : WavFormat). f.enc) m.format in
    let enc : old.format.enc ≡ new.format.enc = ap (λ (f : WavFormat). f.enc) (sym format) in
    let chunk : then.wav.chunk ≡ parts.wav.chunk = ap (λ (w : LiveState). w.chunk) is in
    let pushed : HasParts past b old.format old.plan old.block_len then (received old.ring ++ part) (header_with old.format parts.wav.chunk parts.sized) [] =
    parts_pushed past a b old.format old.plan old.block_len parts then (received old.ring) part n m.samples (header_with old.format parts.wav.chunk parts.sized) m.held size fits m.block
    (subst (λ e. Appends a b (little_samples e part)) mine added)
    (is ∙ ap (λ e. record { format = parts.wav.format; chunk = parts.wav.chunk; count = parts.wav.count + length (little_samples e part) }) mine) at left in
    let headed : HasParts past b old.format old.plan old.block_len then (received old.ring ++ part) (header_with old.format then.wav.chunk then.sized) [] =
    subst (λ h. HasParts past b old.format old.plan old.block_len then (received old.ring ++ part) h [])
    (ap (λ c. header_with old.format c parts.sized) (sym chunk) ∙ ap (header_with old.format then.wav.chunk) (sym sized)) pushed in
    record {
      format = ap (λ (w : LiveState). w.format) is ∙ m.format ∙ sym format;
      some = subst (λ f. 0 < frame_length f) (sym format) m.some;
      some_blocks = subst (λ (p : PartPlan). 0 < p.blocks) (sym plan) m.some_blocks;
      samples = m.samples;
      block = block ∙ m.block ∙ ap (λ e. m.samples * octets_per_sample e) enc;
      whole = blocks_same _ _ _ _ _ _ (sym block) refl refl (blocks_more old.block_len (length (received new.ring)) (length (received old.ring)) (length part) n old.blocks new.blocks
          (ap length came ∙ length-append (received old.ring) part) size counted m.whole);
      held = subst (λ f. HasParts past b f new.plan new.block_len then (received new.ring) (header_with f then.wav.chunk then.sized) []) (sym format)
          (subst (λ p. HasParts past b old.format p new.block_len then (received new.ring) (header_with old.format then.wav.chunk then.sized) []) (sym plan)
          (subst (λ k. HasParts past b old.format old.plan k then (received new.ring) (header_with old.format then.wav.chunk then.sized) []) (sym block)
          (subst (λ r. HasParts past b old.format old.plan old.block_len then r (header_with old.format then.wav.chunk then.sized) []) (sym came) headed)));
    }

-- files whose last one got something behind its own, or another header
parts_kept : (past : Option (List (List ℕ))) (a b : Option (List ℕ)) (format : WavFormat) (plan : PartPlan) (block : ℕ) (parts then : WavParts) (octets head rest h r : List ℕ)
    → then.wav ≡ parts.wav → then.at ≡ parts.at → then.left ≡ parts.left → (p : HasParts past a format plan block parts octets head rest)
    → ((own : List ℕ) → HasData a parts.wav head own rest → HasData b parts.wav h own r)
    → HasParts past b format plan block then octets h r
parts_kept past a b format plan block parts then octets head rest h r wav at left p own = record {
  chunks = p.chunks;
  closed = p.closed;
  times = subst (λ (w : LiveState). AreChunks plan.stamped plan.step plan.at (p.chunks ++ w.chunk ∷ [])) (sym wav) p.times;
  at = at ∙ p.at;
  held = subst (λ w. HasData b w h (little_samples format.enc (drop (length p.chunks * (plan.blocks * block)) octets)) r) (sym wav) (own _ p.held);
  few = subst (λ n. n ≤ plan.blocks) (sym left) p.few;
  left = ap (λ n. length octets + n * block) left ∙ p.left;
}

-- a write of blocks failed
pub failed_more : (past : Option (List (List ℕ))) (a b : Option (List ℕ)) (old new : AudioWriter) (parts then : WavParts) (k : ℕ) (part : List ℕ)
    → received new.ring ≡ received old.ring ++ part → new.format ≡ old.format → new.block_len ≡ old.block_len → new.plan ≡ old.plan → new.blocks ≡ old.blocks
    → Appends a b (take k (little_samples parts.wav.format.enc part)) → then.wav ≡ parts.wav → then.at ≡ parts.at → then.left ≡ parts.left
    → HasMoved past a old parts → HasFailed past b new then
failed_more past a b old new parts then k part came format block plan counted added wav at left m = record {
  format = ap (λ (w : LiveState). w.format) wav ∙ m.format ∙ sym format;
  kept = received old.ring;
  rest = part;
  came = came;
  whole = blocks_same _ _ _ _ _ _ (sym block) refl (sym counted) m.whole;
  head = header_with old.format parts.wav.chunk parts.sized;
  behind = take k (little_samples parts.wav.format.enc part);
  held = subst (λ f. HasParts past b f new.plan new.block_len then (received old.ring) (header_with old.format parts.wav.chunk parts.sized) (take k (little_samples parts.wav.format.enc part))) (sym format)
      (subst (λ p. HasParts past b old.format p new.block_len then (received old.ring) (header_with old.format parts.wav.chunk parts.sized) (take k (little_samples parts.wav.format.enc part))) (sym plan)
      (subst (λ n. HasParts past b old.format old.plan n then (received old.ring) (header_with old.format parts.wav.chunk parts.sized) (take k (little_samples parts.wav.format.enc part))) (sym block)
      (parts_kept past a b old.format old.plan old.block_len parts then (received old.ring) (header_with old.format parts.wav.chunk parts.sized) [] _ (take k (little_samples parts.wav.format.enc part)) wav at left m.held
      (λ own d. data_more a b parts.wav _ own [] (take k (little_samples parts.wav.format.enc part)) d added))));
}

-- all went to the file, and then its sizes could not be renewed
pub failed_renewal : (past : Option (List (List ℕ))) (a b : Option (List ℕ)) (writer : AudioWriter) (parts : WavParts) → (m : HasMoved past a writer parts)
    → ((head own : List ℕ) → HasData a parts.wav head own [] → (n : ℕ) × HasData b parts.wav (take n (header_with parts.wav.format parts.wav.chunk (length own)) ++ drop n head) own [])
    → HasFailed past b writer parts
failed_renewal past a b writer parts m renews =
    let own : List ℕ = little_samples writer.format.enc (drop (length m.held.chunks * (writer.plan.blocks * writer.block_len)) (received writer.ring)) in
    let got = renews _ own m.held.held in
    record {
      format = m.format;
      kept = received writer.ring;
      rest = [];
      came = sym (append-nil (received writer.ring));
      whole = m.whole;
      head = take got.0 (header_with parts.wav.format parts.wav.chunk (length own)) ++ drop got.0 (header_with writer.format parts.wav.chunk parts.sized);
      behind = [];
      held = record { chunks = m.held.chunks; closed = m.held.closed; times = m.held.times; at = m.held.at; held = got.1; few = m.held.few; left = m.held.left };
    }

-- they were renewed
pub renewed : (past : Option (List (List ℕ))) (a b : Option (List ℕ)) (writer : AudioWriter) (parts then : WavParts) → then.wav ≡ parts.wav → then.at ≡ parts.at → then.left ≡ parts.left
    → then.sized ≡ parts.wav.count → (m : HasMoved past a writer parts)
    → ((head own : List ℕ) → HasData a parts.wav head own [] → HasData b parts.wav (header_with parts.wav.format parts.wav.chunk (length own)) own [])
    → HasWritten past b writer then
renewed past a b writer parts then wav at left sized m renews =
    let counted : parts.wav.count ≡ length (little_samples writer.format.enc (drop (length m.held.chunks * (writer.plan.blocks * writer.block_len)) (received writer.ring))) = m.held.held.count in
    let own : List ℕ = little_samples writer.format.enc (drop (length m.held.chunks * (writer.plan.blocks * writer.block_len)) (received writer.ring)) in
    let head : header_with parts.wav.format parts.wav.chunk (length own) ≡ header_with writer.format then.wav.chunk then.sized =
    ap (λ f. header_with f parts.wav.chunk (length own)) m.format ∙ ap (λ (w : LiveState). header_with writer.format w.chunk (length own)) (sym wav)
    ∙ ap (header_with writer.format then.wav.chunk) (sym (sized ∙ counted)) in
    let count : then.wav.count ≡ parts.wav.count = ap (λ (w : LiveState). w.count) wav in
    let some = m.some in
    record {
      moved = record {
        format = ap (λ (w : LiveState). w.format) wav ∙ m.format;
        some = m.some;
        some_blocks = m.some_blocks;
        samples = m.samples;
        block = m.block;
        whole = m.whole;
        held = record {
          chunks = m.held.chunks;
          closed = m.held.closed;
          times = subst (λ (w : LiveState). AreChunks writer.plan.stamped writer.plan.step writer.plan.at (m.held.chunks ++ w.chunk ∷ [])) (sym wav) m.held.times;
          at = at ∙ m.held.at;
          held = subst (λ w. HasData b w (header_with writer.format then.wav.chunk then.sized) own []) (sym wav)
              (subst (λ h. HasData b parts.wav h own []) head (renews _ own m.held.held));
          few = subst (λ n. n ≤ writer.plan.blocks) (sym left) m.held.few;
          left = ap (λ n. length (received writer.ring) + n * writer.block_len) left ∙ m.held.left;
        };
      };
      recent = omega (arith, sized, count, some);
    }

-- they need not be
pub not_due : (past : Option (List (List ℕ))) (a : Option (List ℕ)) (writer : AudioWriter) (parts : WavParts) → nat_le (48000 * frame_length writer.format) (parts.wav.count - parts.sized) ≡ false
    → HasMoved past a writer parts → HasWritten past a writer parts
not_due past a writer parts due m = record { moved = m; recent = grind (arith, nat_tests, due) }

-- the first file's header was written
pub begun : (past : Option (List (List ℕ))) (b c : Option (List ℕ)) (output : Output) (writer : AudioWriter) (parts : WavParts) (chunk : List ℕ) → IsFresh output writer → past ≡ Some [] → b ≡ Some []
    → parts.wav ≡ record { format = writer.format; chunk = chunk; count = 0 } → Appends b c (header_with writer.format chunk 0)
    → length (header_with writer.format chunk 0) ≡ 80 + length chunk → parts.at ≡ writer.plan.at → IsChunk writer.plan.stamped parts.at chunk
    → parts.left ≡ writer.plan.blocks → parts.sized ≡ 0 → HasWritten past c writer parts
begun past b c output writer parts chunk f first empty is added size at one left sized =
    let mine : chunk ≡ parts.wav.chunk = sym (ap (λ (w : LiveState). w.chunk) is) in
    let count : parts.wav.count ≡ 0 = ap (λ (w : LiveState). w.count) is in
    let some = f.some in
    let counted = f.counted in
    let none : 0 ≡ 0 * writer.block_len = omega arith in
    record {
      moved = record {
        format = ap (λ (w : LiveState). w.format) is;
        some = f.some;
        some_blocks = f.parts;
        samples = output.frames * output.channels;
        block = f.block ∙ ap (λ e. output.frames * output.channels * octets_per_sample e) (ap (λ (g : WavFormat). g.enc) (sym f.format));
        whole = record { blocks = 0; whole = ap length f.none ∙ none; counted = omega (arith, counted) };
        held = subst (λ n. HasParts past c writer.format writer.plan writer.block_len parts (received writer.ring) (header_with writer.format parts.wav.chunk n) []) (sym sized)
            (parts_first past b c writer.format writer.plan writer.block_len parts (received writer.ring) f.none first empty (subst (λ l. Appends b c (header_with writer.format l 0)) mine added)
            (subst (λ l. length (header_with writer.format l 0) ≡ 80 + length l) mine size) count at (subst (IsChunk writer.plan.stamped parts.at) mine one) left);
      };
      recent = omega (arith, count, sized, some);
    }

-- the next file was begun
pub begun_next : (past then : Option (List (List ℕ))) (a b c d : Option (List ℕ)) (writer : AudioWriter) (old new : WavParts) (chunk : List ℕ) → HasWritten past a writer old → old.left ≡ 0
    → ((head octets : List ℕ) → HasData a old.wav head octets [] → b ≡ Some (live_octets old.wav.format old.wav.chunk octets)) → Closes past then b → Becomes b c []
    → new.wav ≡ record { format = writer.format; chunk = chunk; count = 0 } → Appends c d (header_with writer.format chunk 0)
    → length (header_with writer.format chunk 0) ≡ 80 + length chunk → new.at ≡ later writer.plan.step old.at → IsChunk writer.plan.stamped new.at chunk
    → new.left ≡ writer.plan.blocks → new.sized ≡ 0 → HasWritten then d writer new
begun_next past then a b c d writer old new chunk w none finish closes becomes is added size at one left sized =
    let mine : chunk ≡ new.wav.chunk = sym (ap (λ (w : LiveState). w.chunk) is) in
    let m = w.moved in
    let count : new.wav.count ≡ 0 = ap (λ (w : LiveState). w.count) is in
    let some = m.some in
    record {
      moved = record {
        format = ap (λ (w : LiveState). w.format) is;
        some = m.some;
        some_blocks = m.some_blocks;
        samples = m.samples;
        block = m.block;
        whole = m.whole;
        held = subst (λ n. HasParts then d writer.format writer.plan writer.block_len new (received writer.ring) (header_with writer.format new.wav.chunk n) []) (sym sized)
            (parts_begun past then a b c d writer.format writer.plan writer.block_len old new (received writer.ring) _ m.held none m.format finish closes becomes (subst (λ l. Appends c d (header_with writer.format l 0)) mine added)
            (subst (λ l. length (header_with writer.format l 0) ≡ 80 + length l) mine size) count at (subst (IsChunk writer.plan.stamped new.at) mine one) left);
      };
      recent = omega (arith, count, sized, some);
    }

-- the last file is finished behind all that came
pub finished : (past : Option (List (List ℕ))) (a b : Option (List ℕ)) (writer : AudioWriter) (parts : WavParts) (file : AudioFile) → file.blocks ≡ writer.blocks
    → (file.is_all ≡ true → LacksBlock writer)
    → (file.is_whole ≡ true → (head octets : List ℕ) → HasData a parts.wav head octets [] → b ≡ Some (live_octets parts.wav.format parts.wav.chunk octets)) → HasWritten past a writer parts
    → IsWritten past b writer file
finished past a b writer parts file counted none whole w =
    let m = w.moved in
    record {
      kept = received writer.ring;
      rest = [];
      came = sym (append-nil (received writer.ring));
      blocks = blocks_same _ _ _ _ _ _ refl refl (sym counted) m.whole;
      all = λ _. refl;
      none = none;
      chunks = m.held.chunks;
      chunk = parts.wav.chunk;
      times = m.held.times;
      closed = m.held.closed;
      begins = begins_within (length m.held.chunks) writer.plan.blocks writer.block_len parts.left (length (received writer.ring)) m.held.few m.held.left;
      ends = ends_within (length m.held.chunks) writer.plan.blocks writer.block_len parts.left (length (received writer.ring)) m.held.left;
      holds = λ is. whole is _ _ m.held.held
          ∙ ap (λ f. Some (live_octets f parts.wav.chunk (little_samples writer.format.enc (drop (length m.held.chunks * (writer.plan.blocks * writer.block_len)) (received writer.ring))))) m.format;
    }

-- the last file ends behind what was written before a write failed
pub broken_off : (past : Option (List (List ℕ))) (a b : Option (List ℕ)) (writer : AudioWriter) (parts : WavParts) (file : AudioFile) → file.blocks ≡ writer.blocks → file.is_all ≡ false
    → (file.is_whole ≡ true → (head octets rest : List ℕ) → HasData a parts.wav head octets rest → b ≡ Some (live_octets parts.wav.format parts.wav.chunk octets)) → HasFailed past a writer parts
    → IsWritten past b writer file
broken_off past a b writer parts file counted some whole f = record {
  kept = f.kept;
  rest = f.rest;
  came = f.came;
  blocks = blocks_same _ _ _ _ _ _ refl refl (sym counted) f.whole;
  all = λ all. absurd (let e : false ≡ true = sym some ∙ all in cc);
  none = λ all. absurd (let e : false ≡ true = sym some ∙ all in cc);
  chunks = f.held.chunks;
  chunk = parts.wav.chunk;
  times = f.held.times;
  closed = f.held.closed;
  begins = begins_within (length f.held.chunks) writer.plan.blocks writer.block_len parts.left (length f.kept) f.held.few f.held.left;
  ends = ends_within (length f.held.chunks) writer.plan.blocks writer.block_len parts.left (length f.kept) f.held.left;
  holds = λ is. whole is _ _ _ f.held.held
      ∙ ap (λ g. Some (live_octets g parts.wav.chunk (little_samples writer.format.enc (drop (length f.held.chunks * (writer.plan.blocks * writer.block_len)) f.kept)))) f.format;
}

-- the file before the next one could not be finished
pub unfinished : (past : Option (List (List ℕ))) (a b : Option (List ℕ)) (writer : AudioWriter) (parts : WavParts) → HasWritten past a writer parts
    → IsWritten past b writer (record { blocks = writer.blocks; is_all = false; is_whole = false })
unfinished past a b writer parts w =
    finished past a b writer parts (record { blocks = writer.blocks; is_all = false; is_whole = false }) refl (λ all. absurd (let e : false ≡ true = all in cc))
    (λ all. absurd (let e : false ≡ true = all in cc)) w

-- the last file was finished, and the next one could not be created
pub uncreated : (past then : Option (List (List ℕ))) (a b c : Option (List ℕ)) (writer : AudioWriter) (parts : WavParts) → HasWritten past a writer parts
    → ((head octets : List ℕ) → HasData a parts.wav head octets [] → b ≡ Some (live_octets parts.wav.format parts.wav.chunk octets)) → c ≡ b → then ≡ past
    → IsWritten then c writer (record { blocks = writer.blocks; is_all = false; is_whole = true })
uncreated past then a b c writer parts w finish same kept =
    subst (λ p. IsWritten p c writer (record { blocks = writer.blocks; is_all = false; is_whole = true })) (sym kept)
    (finished past a c writer parts (record { blocks = writer.blocks; is_all = false; is_whole = true }) refl (λ all. absurd (let e : false ≡ true = all in cc))
    (λ _ head octets has. same ∙ finish head octets has) w)

-- the next file was created, and its header could not be written
pub unbegun : (past then : Option (List (List ℕ))) (a b d : Option (List ℕ)) (writer : AudioWriter) (old : WavParts) (at : ℕ) (chunk : List ℕ) → HasWritten past a writer old → old.left ≡ 0
    → ((head octets : List ℕ) → HasData a old.wav head octets [] → b ≡ Some (live_octets old.wav.format old.wav.chunk octets)) → Closes past then b
    → at ≡ later writer.plan.step old.at → IsChunk writer.plan.stamped at chunk
    → IsWritten then d writer (record { blocks = writer.blocks; is_all = false; is_whole = false })
unbegun past then a b d writer old at chunk w none finish closes is one =
    let m = w.moved in
    let full = parts_full past a writer.format writer.plan writer.block_len old (received writer.ring) _ m.held none in
    record {
      kept = received writer.ring;
      rest = [];
      came = sym (append-nil (received writer.ring));
      blocks = m.whole;
      all = λ all. refl;
      none = λ all. absurd (let e : false ≡ true = all in cc);
      chunks = m.held.chunks ++ old.wav.chunk ∷ [];
      chunk = chunk;
      times = parts_times past a writer.format writer.plan writer.block_len old (received writer.ring) _ at chunk m.held is one;
      closed = parts_closed past then a b writer.format writer.plan writer.block_len old (received writer.ring) _ m.held none m.format finish closes;
      begins = omega (arith, full);
      ends = omega (arith, full);
      holds = λ all. absurd (let e : false ≡ true = all in cc);
    }

-- the first file's header could not be written
pub never_begun : (past : Option (List (List ℕ))) (b : Option (List ℕ)) (output : Output) (writer : AudioWriter) (file : AudioFile) (chunk : List ℕ) → IsFresh output writer → past ≡ Some []
    → IsChunk writer.plan.stamped writer.plan.at chunk → file.blocks ≡ 0 → file.is_all ≡ false → file.is_whole ≡ false → IsWritten past b writer file
never_begun past b output writer file chunk f first one counted some part = record {
  kept = [];
  rest = received writer.ring;
  came = refl;
  blocks = record { blocks = 0; whole = (let none : 0 ≡ 0 * writer.block_len = omega arith in none); counted = omega (arith, counted) };
  all = λ all. absurd (let e : false ≡ true = sym some ∙ all in cc);
  none = λ all. absurd (let e : false ≡ true = sym some ∙ all in cc);
  chunks = [];
  chunk = chunk;
  times = (one, tt);
  closed = first;
  begins = omega arith;
  ends = omega arith;
  holds = λ all. absurd (let e : false ≡ true = sym part ∙ all in cc);
}

-- an instant has octets, and a block its samples
pub some_octets : (enc : Enc) (n : ℕ) → 0 < n → 0 < n * octets_per_sample enc
some_octets L16 n some = omega (arith, some)
some_octets L24 n some = omega (arith, some)

-- whole blocks fit the octets that they were counted in
pub blocks_fit : (octets block : ℕ) → octets / block * block ≤ octets
blocks_fit octets block = div-mul-le_self octets block

pub no_block : (octets block : ℕ) → octets / block ≡ 0 → 0 < block → octets < block
no_block octets block none some =
    let whole : octets ≡ 0 * block + octets % block = sym (div-add-mod' octets block) ∙ ap (λ q. q * block + octets % block) none in
    let less = mod-lt octets some in
    omega (arith, whole, less)

-- a greater latency has more space
pub octets_more : (latency greatest frame : ℕ) → latency ≤ greatest → (latency + 96000) * frame ≤ (greatest + 96000) * frame
octets_more latency greatest frame less = mul-le-mul_right frame (let more : latency + 96000 ≤ greatest + 96000 = omega (arith, less) in more)

-- the samples of a datagram are behind its header
pub behind_header : (n m : ℕ) → n ≡ 12 + m → n - 12 ≡ m
behind_header n m is = omega (arith, is)

-- what follows from two facts at `Ok`, and at `Err`
pub both_ok : {T E P Q S : Type 0} (r : Result T E) → (P → Q → S) → OnOk r P → OnOk r Q → OnOk r S
both_ok (Ok value) follows one other = follows one other
both_ok (Err fault) follows one other = tt

pub both_err : {T E P Q S : Type 0} (r : Result T E) → (P → Q → S) → OnErr r P → OnErr r Q → OnErr r S
both_err (Ok value) follows one other = tt
both_err (Err fault) follows one other = follows one other

some_inj : {x y : Stream} → Some x ≡ Some y → x ≡ y
some_inj e = cc

-- one stream more has no greater latency
pub latency_more : (streams : List Stream) (number greatest latency then : ℕ) (stream : Stream) → greatest ≤ then → latency ≤ then → latency ≡ stream.latency → stream ≡ get_or streams number stream
    → number < length streams → ((place : ℕ) (spec : Stream) → place < number → slice_get streams place ≡ Some spec → spec.latency ≤ greatest)
    → (place : ℕ) (spec : Stream) → place < number + 1 → slice_get streams place ≡ Some spec → spec.latency ≤ then
latency_more streams number greatest latency then stream past this_one own here within before place spec less at =
    elim (eq-or-lt_of_le (let most : place ≤ number = omega (arith, less) in most)) [
      | inl same ↦
          let this : stream ≡ spec = some_inj (sym (slice_get_read streams (length streams) number stream refl within here) ∙ ap (slice_get streams) (sym same) ∙ at) in
          let fits : stream.latency ≤ then = omega (arith, this_one, own) in
          subst (λ (s : Stream). s.latency ≤ then) this fits
      | inr below ↦
          let earlier = before place spec below at in
          omega (arith, past, earlier)
    ]

-- what follows from a fact at `Ok`, and at `Err`
pub then_ok : {T E P Q : Type 0} (r : Result T E) → (P → Q) → OnOk r P → OnOk r Q
then_ok (Ok value) follows one = follows one
then_ok (Err fault) follows one = tt

pub then_err : {T E P Q : Type 0} (r : Result T E) → (P → Q) → OnErr r P → OnErr r Q
then_err (Ok value) follows one = tt
then_err (Err fault) follows one = follows one
