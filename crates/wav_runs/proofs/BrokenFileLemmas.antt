-- The file of a mix that broke off.
use Rattle.std.proofs.Common.{◌≡◌, inr, ◌≤◌, ◌+◌, ℕ, List, [], ◌∷◌, ◌++◌, length, take, drop, Option, Some, None, Result, Ok, Err, OnOk, OnErr, refl, sym, ap, subst, ◌∙◌, arith, append_assoc, append-nil, length-append, take-append-drop}
use Rattle.std.specs.Io.KnownBytes.{Appends}
use Rattle.std.proofs.KnownBytes.{Appends-trans}
use Rattle.std.proofs.lemmas.Grind.{flat_map-append}
use Rattle.std.proofs.lemmas.List.{drop-append-le, drop_all, take_all}
use Rattle.std.proofs.Math.Seq.{take-length}
use Rattle.rtp_wire.specs.declared.encoding.Enc.{Enc}
use Rattle.studio_config.specs.Studio.{Studio}
use Rattle.studio_session.specs.Event.{TraceEvent}
use Rattle.studio_session.specs.Play.{SessionState}
use Rattle.studio_session.specs.Run.{AreDatagrams}
use Rattle.studio_session.proofs.RunLemmas.{blocks_more}
use Rattle.studio_run.proofs.StudioReportLemmas.{Gives, first_blocks, same_blocks}
use Rattle.wav_file.specs.declared.header.WavFormat.{WavFormat}
use Rattle.wav_file.specs.Header.{header_octets}
use Rattle.wav_file.specs.File.{Becomes, Holds, IsBegun, OverwritesPart, WavState, pad_octets}
use Rattle.wav_file.specs.MixSamples.{datagram_samples, samples_in}
use Rattle.wav_runs.specs.MixWav.{HasAdded, HasBoth, HasRecorded, IsRecording}
use Rattle.wav_file.specs.PartFile.{BecomesPart, HasPart}
use Rattle.wav_runs.specs.BrokenFile.{BreaksOffMix, BreaksSamples, HasFirst}
use Rattle.wav_file.proofs.FileLemmas.{first_length}

-- the samples of the first datagrams, and of the others
first_samples : (enc : Enc) (k : ℕ) (all : List (List ℕ)) → samples_in enc all ≡ samples_in enc (take k all) ++ samples_in enc (drop k all)
first_samples enc k all = ap (samples_in enc) (sym (take-append-drop k all)) ∙ flat_map-append (datagram_samples enc) (take k all) (drop k all)

-- the samples of some datagrams were added, and no part of another's
pub part_of_some : (studio : Studio) (events : List TraceEvent) (a b m n : Option (List ℕ)) (h i : List ℕ) (wav mid : WavState) (session : SessionState) (all : List (List ℕ))
    → IsRecording studio events a h m wav session b i n mid → AreDatagrams studio events all → HasFirst m n wav mid all
part_of_some studio events a b m n h i wav mid session all r are =
    let enc = wav.format.enc in
    let k = length r.datagrams in
    let first : r.datagrams ≡ take k all = first_blocks studio events session r.datagrams all r.given are in
    let front = samples_in enc (take k all) in
    record {
      whole = k;
      rest = [];
      left = samples_in enc (drop k all);
      all = first_samples enc k all ∙ ap (λ l. l ++ samples_in enc (drop k all)) (sym (append-nil front));
      added = record {
        added = subst (λ l. Appends m n (samples_in enc l ++ [])) first (subst (Appends m n) (sym (append-nil (samples_in enc r.datagrams))) r.samples.added);
        count = subst (λ l. mid.count ≡ wav.count + length (samples_in enc l)) first r.samples.count;
        format = r.samples.format;
      };
    }

-- a part of the next one's was
pub part_of_next : (studio : Studio) (events : List TraceEvent) (a b m n o : Option (List ℕ)) (h i : List ℕ) (wav mid then : WavState) (old new : SessionState) (datagram : List ℕ) (all : List (List ℕ)) (k : ℕ)
    → (r : IsRecording studio events a h m wav old b i n mid) → Gives studio events new (length r.datagrams) datagram → AreDatagrams studio events all
    → Appends n o (take k (datagram_samples mid.format.enc datagram)) → then ≡ mid → HasFirst m o wav then all
part_of_next studio events a b m n o h i wav mid then old new datagram all k r gives are part same =
    let enc = wav.format.enc in
    let some = r.datagrams ++ datagram ∷ [] in
    let i = length r.datagrams in
    let j = length some in
    let before : r.datagrams ≡ take i all = first_blocks studio events old r.datagrams all r.given are in
    let first : some ≡ take j all = first_blocks studio events new some all (blocks_more studio events old new r.datagrams datagram r.given gives.ready gives.is gives.played) are in
    let own : mid.format.enc ≡ enc = ap (λ (f : WavFormat). f.enc) r.samples.format in
    let front = samples_in enc r.datagrams in
    let next = datagram_samples enc datagram in
    let others = samples_in enc (drop j all) in
    let rest = take k next in
    let left = drop k next in
    let more : samples_in enc some ≡ front ++ next = flat_map-append (datagram_samples enc) r.datagrams (datagram ∷ []) ∙ ap (λ l. front ++ l) (append-nil next) in
    record {
      whole = i;
      rest = rest;
      left = left ++ others;
      all = first_samples enc j all
          ∙ ap (λ l. samples_in enc l ++ others) (sym first)
          ∙ ap (λ l. l ++ others) more
          ∙ append_assoc front next others
          ∙ ap (λ l. front ++ (l ++ others)) (sym (take-append-drop k next))
          ∙ ap (λ l. front ++ l) (append_assoc rest left others)
          ∙ sym (append_assoc front rest (left ++ others))
          ∙ ap (λ l. (samples_in enc l ++ rest) ++ (left ++ others)) before;
      added = record {
        added = subst (λ l. Appends m o (samples_in enc l ++ rest)) before
            (Appends-trans m n o front rest r.samples.added (subst (λ e. Appends n o (take k (datagram_samples e datagram))) own part));
        count = ap (λ (w : WavState). w.count) same ∙ subst (λ l. mid.count ≡ wav.count + length (samples_in enc l)) before r.samples.count;
        format = ap (λ (w : WavState). w.format) same ∙ r.samples.format;
      };
    }

-- the samples of all datagrams were added
pub part_of_all : (studio : Studio) (events : List TraceEvent) (a b m n : Option (List ℕ)) (h i : List ℕ) (wav then : WavState) (session : SessionState) (all : List (List ℕ))
    → HasRecorded studio events a h m wav session b i n then → AreDatagrams studio events all → HasFirst m n wav then all
part_of_all studio events a b m n h i wav then session all r are =
    let enc = wav.format.enc in
    let k = length all in
    let whole : all ≡ take k all = sym (take-length all) in
    let first : r.datagrams ≡ take k all = same_blocks studio events r.datagrams all r.ready are ∙ whole in
    let samples = samples_in enc (take k all) in
    record {
      whole = k;
      rest = [];
      left = [];
      all = ap (samples_in enc) whole ∙ sym (append-nil samples) ∙ sym (append-nil (samples ++ []));
      added = record {
        added = subst (λ l. Appends m n (samples_in enc l ++ [])) first (subst (Appends m n) (sym (append-nil (samples_in enc r.datagrams))) r.samples.added);
        count = subst (λ l. then.count ≡ wav.count + length (samples_in enc l)) first r.samples.count;
        format = r.samples.format;
      };
    }

-- a file that had its header alone has its data
pub begun_part : (y z : List ℕ) (wav then : WavState) (octets rest : List ℕ) → y ≡ header_octets wav.format 0 → wav.count ≡ 0 → HasPart (Some y) (Some z) wav then octets rest → IsBegun (Some z) then octets rest
begun_part y z wav then octets rest head none h =
    let count = h.count in
    record {
      holds = h.added ∙ ap (λ l. l ++ (octets ++ rest)) head ∙ ap (λ f. header_octets f 0 ++ (octets ++ rest)) (sym h.format)
          ∙ sym (append_assoc (header_octets then.format 0) octets rest);
      count = omega (arith, count, none);
    }

headed : (x y : List ℕ) (format : WavFormat) → x ≡ [] → y ≡ x ++ header_octets format 0 → y ≡ header_octets format 0
headed x y format empty head = head ∙ ap (λ l. l ++ header_octets format 0) empty

part_from : (x z : List ℕ) (d : Option (List ℕ)) (f g : WavFormat) (octets rest : List ℕ) → f ≡ g → BecomesPart (Some z) d f octets rest → BecomesPart (Some x) d g octets rest
part_from x z None f g octets rest same part = absurd part
part_from x z (Some w) f g octets rest same part = subst (λ (h : WavFormat). BecomesPart (Some x) (Some w) h octets rest) same part

pub becomes_mix : (a b c d : Option (List ℕ)) (wav then : WavState) (octets rest : List ℕ) → wav.count ≡ 0 → Appends a b (header_octets wav.format 0) → HasPart b c wav then octets rest
    → ((octets rest : List ℕ) → IsBegun c then octets rest → BecomesPart c d then.format octets rest) → Holds a [] → BecomesPart a d wav.format octets rest
becomes_mix None b c d wav then octets rest none head h sizes empty = tt
becomes_mix (Some x) None c d wav then octets rest none head h sizes empty = absurd head
becomes_mix (Some x) (Some y) None d wav then octets rest none head h sizes empty = absurd h.added
becomes_mix (Some x) (Some y) (Some z) d wav then octets rest none head h sizes empty =
    part_from x z d then.format wav.format octets rest h.format
    (sizes octets rest (begun_part y z wav then octets rest (headed x y wav.format empty head) none h))

pub becomes_end : (a b c d : Option (List ℕ)) (wav then : WavState) (octets : List ℕ) → wav.count ≡ 0 → Appends a b (header_octets wav.format 0) → HasAdded b c wav then octets
    → ((octets : List ℕ) → IsBegun c then octets [] → (n : ℕ) × BecomesPart c d then.format octets (take n (pad_octets (length octets)))) → Holds a []
    → (n : ℕ) × BecomesPart a d wav.format octets (take n (pad_octets (length octets)))
becomes_end None b c d wav then octets none head h sizes empty = (0, tt)
becomes_end (Some x) None c d wav then octets none head h sizes empty = absurd head
becomes_end (Some x) (Some y) None d wav then octets none head h sizes empty = absurd h.added
becomes_end (Some x) (Some y) (Some z) d wav then octets none head h sizes empty =
    let part : HasPart (Some y) (Some z) wav then octets [] = record {
      added = subst (Appends (Some y) (Some z)) (sym (append-nil octets)) h.added;
      count = h.count;
      format = h.format;
    } in
    let more = sizes octets (begun_part y z wav then octets [] (headed x y wav.format empty head) none part) in
    (more.0, part_from x z d then.format wav.format octets (take more.0 (pad_octets (length octets))) h.format more.1)

-- the datagrams or their lines weren't all written
pub broke_mix : (a b c d : Option (List ℕ)) (format : WavFormat) (wav then : WavState) (datagrams : List (List ℕ)) → wav ≡ record { format = format; count = 0 } → Appends a b (header_octets format 0)
    → HasFirst b c wav then datagrams → ((octets rest : List ℕ) → IsBegun c then octets rest → BecomesPart c d then.format octets rest) → Holds a [] → BreaksOffMix format datagrams a d
broke_mix a b c d format wav then datagrams is head has sizes empty =
    let first : WavState = record { format = format; count = 0 } in
    let h = subst (λ w. HasFirst b c w then datagrams) is has in
    let octets = samples_in format.enc (take h.whole datagrams) in
    let pad = pad_octets (length (samples_in format.enc datagrams)) in
    let breaks : BreaksSamples format datagrams a d = record {
      whole = h.whole;
      rest = h.rest;
      left = h.left ++ pad;
      all = ap (λ l. l ++ pad) h.all ∙ append_assoc (octets ++ h.rest) h.left pad;
      becomes = becomes_mix a b c d first then octets h.rest refl head h.added sizes empty;
    } in
    inr breaks

-- the end of the file wasn't
pub broke_end : (studio : Studio) (events : List TraceEvent) (written written_then a b c d : Option (List ℕ)) (format : WavFormat) (wav then : WavState) (all : List (List ℕ))
    → wav ≡ record { format = format; count = 0 } → Appends a b (header_octets format 0) → HasBoth studio events written written_then b c wav then → AreDatagrams studio events all
    → ((octets : List ℕ) → IsBegun c then octets [] → (n : ℕ) × BecomesPart c d then.format octets (take n (pad_octets (length octets)))) → Holds a [] → BreaksOffMix format all a d
broke_end studio events written written_then a b c d format wav then all is head has are sizes empty =
    let first : WavState = record { format = format; count = 0 } in
    let enc = format.enc in
    let both = subst (λ w. HasBoth studio events written written_then b c w then) is has in
    let k = length all in
    let whole : all ≡ take k all = sym (take-length all) in
    let same : both.datagrams ≡ take k all = same_blocks studio events both.datagrams all both.ready are ∙ whole in
    let ends = subst (λ l. (n : ℕ) × BecomesPart a d format (samples_in enc l) (take n (pad_octets (length (samples_in enc l))))) same
    (becomes_end a b c d first then (samples_in enc both.datagrams) refl head both.samples sizes empty) in
    let n = ends.0 in
    let octets = samples_in enc (take k all) in
    let pad = pad_octets (length octets) in
    let breaks : BreaksSamples format all a d = record {
      whole = k;
      rest = take n pad;
      left = drop n pad;
      all = ap (λ l. samples_in enc l ++ pad_octets (length (samples_in enc l))) whole ∙ ap (λ l. octets ++ l) (sym (take-append-drop n pad)) ∙ sym (append_assoc octets (take n pad) (drop n pad));
      becomes = ends.1;
    } in
    inr breaks
