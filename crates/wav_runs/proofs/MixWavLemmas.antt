-- The lines of a report and the samples of a file, one datagram after another.
use Rattle.std.proofs.Common.{◌≡◌, ◌<◌, ◌+◌, ℕ, false, List, [], ◌∷◌, ◌++◌, length, Option, Some, None, refl, sym, ap, subst, ◌∙◌, arith, append-nil, length-append}
use Rattle.std.specs.Io.KnownBytes.{Appends}
use Rattle.std.proofs.KnownBytes.{Appends-nil, Appends-trans}
use Rattle.std.proofs.lemmas.Bool.Decides.{nat_tests}
use Rattle.std.proofs.lemmas.Grind.{flat_map-append}
use Rattle.rtp_wire.specs.declared.encoding.Enc.{Enc}
use Rattle.studio_config.specs.Studio.{Studio}
use Rattle.studio_mix.specs.Ready.{is_ready}
use Rattle.studio_mix.proofs.FirstBlockLemmas.{first_all}
use Rattle.studio_session.specs.Event.{TraceEvent}
use Rattle.studio_session.specs.Play.{HasPlayed, SessionState, feeds_of}
use Rattle.studio_session.proofs.RunLemmas.{blocks_more}
use Rattle.studio_run.specs.Buffer.{PassesOn}
use Rattle.studio_run.specs.Report.{datagram_line}
use Rattle.studio_run.specs.Listing.{counts_text_of, datagrams_text}
use Rattle.studio_run.proofs.BufferLemmas.{PassesOn-none, PassesOn-trans, PassesOn-finished}
use Rattle.studio_run.proofs.StudioReportLemmas.{Gives}
use Rattle.wav_file.specs.declared.header.WavFormat.{WavFormat}
use Rattle.wav_file.specs.Header.{header_octets}
use Rattle.wav_file.specs.File.{Becomes, Holds, IsBegun, WavState, wav_octets}
use Rattle.wav_file.specs.MixSamples.{datagram_samples, samples_in}
use Rattle.wav_runs.specs.MixWav.{HasAdded, HasBoth, HasRecorded, IsRecording, Records}

-- the text and the samples of one datagram more
line_more : (datagrams : List (List ℕ)) (datagram : List ℕ) → datagrams_text (datagrams ++ datagram ∷ []) ≡ datagrams_text datagrams ++ datagram_line datagram
line_more datagrams datagram = flat_map-append datagram_line datagrams (datagram ∷ []) ∙ ap (λ l. datagrams_text datagrams ++ l) (append-nil (datagram_line datagram))

samples_more : (enc : Enc) (datagrams : List (List ℕ)) (datagram : List ℕ) → samples_in enc (datagrams ++ datagram ∷ []) ≡ samples_in enc datagrams ++ datagram_samples enc datagram
samples_more enc datagrams datagram =
    flat_map-append (datagram_samples enc) datagrams (datagram ∷ []) ∙ ap (λ l. samples_in enc datagrams ++ l) (append-nil (datagram_samples enc datagram))

-- no sample was added
added_none : (m : Option (List ℕ)) (wav : WavState) → HasAdded m m wav wav []
added_none m wav = record { added = Appends-nil m; count = omega arith; format = refl }

-- more samples were
added_more : (m n o : Option (List ℕ)) (wav mid then : WavState) (xs ys : List ℕ) → HasAdded m n wav mid xs → Appends n o ys
    → then ≡ record { format = mid.format; count = mid.count + length ys } → HasAdded m o wav then (xs ++ ys)
added_more m n o wav mid then xs ys before more is =
    let counted : then.count ≡ mid.count + length ys = ap (λ (w : WavState). w.count) is in
    let format : then.format ≡ mid.format = ap (λ (w : WavState). w.format) is in
    record {
      added = Appends-trans m n o xs ys before.added more;
      count = omega (arith, counted, before.count, length-append xs ys);
      format = format ∙ before.format;
    }

-- no block was written yet
pub recording_none : (studio : Studio) (events : List TraceEvent) (a : Option (List ℕ)) (h : List ℕ) (m : Option (List ℕ)) (wav : WavState) (session : SessionState)
    → HasPlayed studio events session 0 → IsRecording studio events a h m wav session a h m wav
recording_none studio events a h m wav session played = record {
  datagrams = [];
  given = record {
    played = played;
    first = record {
      ready = λ n less. absurd (let b : n < 0 = grind (arith, nat_tests, less) in omega (arith, b));
      each = λ n datagram at. absurd (let f : None ≡ Some datagram = at in cc);
    };
  };
  wrote = PassesOn-none a h;
  samples = added_none m wav;
}

-- one block more was written
pub recording_more : (studio : Studio) (events : List TraceEvent) (a b c : Option (List ℕ)) (h i j : List ℕ) (m n o : Option (List ℕ)) (wav mid then : WavState)
    (old new : SessionState) (datagram : List ℕ) → (r : IsRecording studio events a h m wav old b i n mid) → Gives studio events new (length r.datagrams) datagram
    → PassesOn b i c j (datagram_line datagram) → Appends n o (datagram_samples mid.format.enc datagram)
    → then ≡ record { format = mid.format; count = mid.count + length (datagram_samples mid.format.enc datagram) }
    → IsRecording studio events a h m wav new c j o then
recording_more studio events a b c h i j m n o wav mid then old new datagram r gives line more is =
    let enc : mid.format.enc ≡ wav.format.enc = ap (λ (f : WavFormat). f.enc) r.samples.format in
    let added = added_more m n o wav mid then (samples_in wav.format.enc r.datagrams) (datagram_samples mid.format.enc datagram) r.samples more is in
    let same : samples_in wav.format.enc r.datagrams ++ datagram_samples mid.format.enc datagram ≡ samples_in wav.format.enc (r.datagrams ++ datagram ∷ []) =
    ap (λ e. samples_in wav.format.enc r.datagrams ++ datagram_samples e datagram) enc ∙ sym (samples_more wav.format.enc r.datagrams datagram) in
    record {
      datagrams = r.datagrams ++ datagram ∷ [];
      given = blocks_more studio events old new r.datagrams datagram r.given gives.ready gives.is gives.played;
      wrote = subst (PassesOn a h c j) (sym (line_more r.datagrams datagram)) (PassesOn-trans a b c h i j (datagrams_text r.datagrams) (datagram_line datagram) r.wrote line);
      samples = subst (HasAdded m o wav then) same added;
    }

-- no block is left
pub recorded_all : (studio : Studio) (events : List TraceEvent) (a b : Option (List ℕ)) (h i : List ℕ) (m n : Option (List ℕ)) (wav then : WavState) (old new : SessionState)
    (r : IsRecording studio events a h m wav old b i n then) → is_ready studio.output (feeds_of studio events) (length r.datagrams) ≡ false
    → HasPlayed studio events new (length r.datagrams) → HasRecorded studio events a h m wav new b i n then
recorded_all studio events a b h i m n wav then old new r last played = record {
  datagrams = r.datagrams;
  ready = first_all studio (feeds_of studio events) r.datagrams r.given.first last;
  played = played;
  wrote = r.wrote;
  samples = r.samples;
}

-- the counts follow, and the rest of the report is written
pub both_whole : (studio : Studio) (events : List TraceEvent) (a b c d : Option (List ℕ)) (h i j : List ℕ) (m n : Option (List ℕ)) (wav then : WavState) (session : SessionState)
    → h ≡ [] → HasRecorded studio events a h m wav session b i n then → PassesOn b i c j (counts_text_of studio events) → Appends c d j
    → HasBoth studio events a d m n wav then
both_whole studio events a b c d h i j m n wav then session empty r counts rest =
    let text : List ℕ = datagrams_text r.datagrams ++ counts_text_of studio events in
    let passes : PassesOn a h c j text = PassesOn-trans a b c h i j (datagrams_text r.datagrams) (counts_text_of studio events) r.wrote counts in
    record {
      datagrams = r.datagrams;
      ready = r.ready;
      report = PassesOn-finished a c d j text (subst (λ l. PassesOn a l c j text) empty passes) rest;
      samples = r.samples;
    }

-- the file has its head and its data
begun : (x y z : List ℕ) (wav then : WavState) (octets : List ℕ) → wav.count ≡ 0 → y ≡ x ++ header_octets wav.format 0 → HasAdded (Some y) (Some z) wav then octets
    → x ≡ [] → IsBegun (Some z) then octets []
begun x y z wav then octets new head added empty =
    let first : y ≡ header_octets then.format 0 = head ∙ ap (λ l. l ++ header_octets wav.format 0) empty ∙ ap (λ f. header_octets f 0) (sym added.format) in
    record {
      holds = added.added ∙ ap (λ l. l ++ octets) first ∙ sym (append-nil (header_octets then.format 0 ++ octets));
      count = omega (arith, added.count, new);
    }

-- the file is whole
pub file_whole : (a b c d : Option (List ℕ)) (wav then : WavState) (octets : List ℕ) → wav.count ≡ 0 → Appends a b (header_octets wav.format 0) → HasAdded b c wav then octets
    → ((all : List ℕ) → IsBegun c then all [] → Becomes c d (wav_octets then.format all)) → Holds a [] → Becomes a d (wav_octets wav.format octets)
file_whole None b c d wav then octets new head added sizes empty = tt
file_whole (Some x) None c d wav then octets new head added sizes empty = absurd head
file_whole (Some x) (Some y) None d wav then octets new head added sizes empty = absurd added.added
file_whole (Some x) (Some y) (Some z) None wav then octets new head added sizes empty = absurd (sizes octets (begun x y z wav then octets new head added empty))
file_whole (Some x) (Some y) (Some z) (Some w) wav then octets new head added sizes empty =
    sizes octets (begun x y z wav then octets new head added empty) ∙ ap (λ f. wav_octets f octets) added.format

-- the report and the file are
pub records_whole : (studio : Studio) (events : List TraceEvent) (written written_then a b c d : Option (List ℕ)) (format : WavFormat) (wav then : WavState)
    → wav ≡ record { format = format; count = 0 } → Appends a b (header_octets format 0) → HasBoth studio events written written_then b c wav then
    → ((all : List ℕ) → IsBegun c then all [] → Becomes c d (wav_octets then.format all)) → Records studio events format written written_then a d
records_whole studio events written written_then a b c d format wav then is head before sizes =
    let first : WavState = record { format = format; count = 0 } in
    let both = subst (λ w. HasBoth studio events written written_then b c w then) is before in
    record {
      datagrams = both.datagrams;
      ready = both.ready;
      report = both.report;
      wav = file_whole a b c d first then (samples_in format.enc both.datagrams) refl head both.samples sizes;
    }
