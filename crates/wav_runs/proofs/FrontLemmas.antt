-- A prefix of a report.
use Rattle.std.proofs.Common.{◌≡◌, ◌<◌, ◌≤◌, ◌+◌, ℕ, zero, suc, List, [], ◌∷◌, ◌++◌, length, take, drop, Option, refl, sym, ap, subst, ◌∙◌, append_assoc, take-append-drop, arith}
use Rattle.std.specs.Io.KnownBytes.{Appends}
use Rattle.std.proofs.KnownBytes.{Appends-nil}
use Rattle.std.proofs.lemmas.Grind.{flat_map-append}
use Rattle.std.proofs.lemmas.List.{append-nil, take_all}
use Rattle.std.proofs.Math.Seq.{take-append-add}
use Rattle.studio_config.specs.Studio.{Studio}
use Rattle.studio_session.specs.Event.{TraceEvent}
use Rattle.studio_session.specs.Play.{SessionState}
use Rattle.studio_session.specs.Run.{AreDatagrams}
use Rattle.studio_run.specs.Buffer.{BreaksOff, PassesOn}
use Rattle.studio_run.specs.Report.{datagram_line}
use Rattle.studio_run.specs.Listing.{counts_text_of, datagrams_text}
use Rattle.studio_run.specs.StudioReport.{HasReported, IsReport, IsReporting}
use Rattle.studio_run.proofs.StudioReportLemmas.{Gives, first_blocks, report_alone, report_broken, report_unfinished, report_whole, reporting_broken, reporting_more}
use Rattle.wav_file.specs.File.{WavState}
use Rattle.wav_runs.specs.MixWav.{HasBoth, HasRecorded, IsRecording}
use Rattle.wav_runs.specs.MixRun.{WritesFront}

-- the write of a report broke off
pub front_broken : (a b : Option (List ℕ)) (h xs : List ℕ) → BreaksOff a h b xs → WritesFront a h b xs
front_broken a b h xs broke = (broke.count, broke.wrote)

-- nothing was written
pub front_none : (a : Option (List ℕ)) (h xs : List ℕ) → WritesFront a h a xs
front_none a h xs = (0, Appends-nil a)

-- more follows what was written
front_passed : (a b : Option (List ℕ)) (h i xs ys : List ℕ) → PassesOn a h b i xs → WritesFront a h b (xs ++ ys)
front_passed a b h i xs ys passes =
    let whole : h ++ (xs ++ ys) ≡ passes.front ++ (i ++ ys) = sym (append_assoc h xs ys) ∙ ap (λ l. l ++ ys) passes.whole ∙ append_assoc passes.front i ys in
    let same : take (length passes.front + 0) (h ++ (xs ++ ys)) ≡ passes.front =
    ap (take (length passes.front + 0)) whole ∙ take-append-add passes.front (i ++ ys) 0 ∙ append-nil passes.front in
    (length passes.front + 0, subst (Appends a b) (sym same) passes.wrote)

take_longer : (n : ℕ) (xs ys : List ℕ) → (m : ℕ) × (take n xs ≡ take m (xs ++ ys))
take_longer zero xs ys = (0, refl)
take_longer (suc n) [] ys = (0, refl)
take_longer (suc n) (x ∷ xs) ys = (suc (take_longer n xs ys).0, ap (λ l. x ∷ l) (take_longer n xs ys).1)

-- more follows the text
front_longer : (a b : Option (List ℕ)) (h xs ys : List ℕ) → WritesFront a h b xs → WritesFront a h b (xs ++ ys)
front_longer a b h xs ys front =
    let longer = take_longer front.0 (h ++ xs) ys in
    (longer.0, subst (Appends a b) (longer.1 ∙ ap (take longer.0) (append_assoc h xs ys)) front.1)

-- the report of a recording alone
abbrev reporting_of : (studio : Studio) (events : List TraceEvent) (a b m n : Option (List ℕ)) (h i : List ℕ) (wav mid : WavState) (session : SessionState)
    → IsRecording studio events a h m wav session b i n mid → IsReporting studio events a h session b i
reporting_of studio events a b m n h i wav mid session r = record { datagrams = r.datagrams; given = r.given; wrote = r.wrote }

-- the line of the next datagram broke off
pub front_of_line : (studio : Studio) (events : List TraceEvent) (a b c m n : Option (List ℕ)) (h i : List ℕ) (wav mid : WavState) (old new : SessionState) (datagram : List ℕ) (all : List (List ℕ))
    → (r : IsRecording studio events a h m wav old b i n mid) → Gives studio events new (length r.datagrams) datagram → AreDatagrams studio events all → BreaksOff b i c (datagram_line datagram)
    → WritesFront a h c (datagrams_text all)
front_of_line studio events a b c m n h i wav mid old new datagram all r gives are line =
    front_broken a c h (datagrams_text all) (reporting_broken studio events a b c h i old new datagram all (reporting_of studio events a b m n h i wav mid old r) gives are line)

-- a datagram's line was written, and its samples weren't
pub front_of_more : (studio : Studio) (events : List TraceEvent) (a b c m n : Option (List ℕ)) (h i j : List ℕ) (wav mid : WavState) (old new : SessionState) (datagram : List ℕ) (all : List (List ℕ))
    → (r : IsRecording studio events a h m wav old b i n mid) → Gives studio events new (length r.datagrams) datagram → AreDatagrams studio events all → PassesOn b i c j (datagram_line datagram)
    → WritesFront a h c (datagrams_text all)
front_of_more studio events a b c m n h i j wav mid old new datagram all r gives are line =
    let more = reporting_more studio events a b c h i j old new datagram (reporting_of studio events a b m n h i wav mid old r) gives line in
    let some = more.datagrams in
    let rest = drop (length some) all in
    let whole : datagrams_text some ++ datagrams_text rest ≡ datagrams_text all =
    ap (λ l. datagrams_text l ++ datagrams_text rest) (first_blocks studio events new some all more.given are)
    ∙ sym (flat_map-append datagram_line (take (length some) all) rest) ∙ ap datagrams_text (take-append-drop (length some) all) in
    subst (WritesFront a h c) whole (front_passed a c h j (datagrams_text some) (datagrams_text rest) more.wrote)

-- the datagrams' lines weren't all written
pub front_of_datagrams : (studio : Studio) (events : List TraceEvent) (a b : Option (List ℕ)) (h report : List ℕ) → h ≡ [] → (is : IsReport studio events report)
    → WritesFront a h b (datagrams_text is.datagrams) → WritesFront a [] b report
front_of_datagrams studio events a b h report empty is front =
    subst (WritesFront a [] b) (sym is.whole) (front_longer a b [] (datagrams_text is.datagrams) (counts_text_of studio events) (subst (λ l. WritesFront a l b (datagrams_text is.datagrams)) empty front))

abbrev reported_of : (studio : Studio) (events : List TraceEvent) (a b m n : Option (List ℕ)) (h i : List ℕ) (wav mid : WavState) (session : SessionState)
    → HasRecorded studio events a h m wav session b i n mid → HasReported studio events a h session b i
reported_of studio events a b m n h i wav mid session r = record { datagrams = r.datagrams; ready = r.ready; played = r.played; wrote = r.wrote }

-- the counts broke off
pub front_of_counts : (studio : Studio) (events : List TraceEvent) (a b c m n : Option (List ℕ)) (h i report : List ℕ) (wav mid : WavState) (session : SessionState) → h ≡ []
    → HasRecorded studio events a h m wav session b i n mid → IsReport studio events report → BreaksOff b i c (counts_text_of studio events) → WritesFront a [] c report
front_of_counts studio events a b c m n h i report wav mid session empty r is counts =
    subst (λ l. WritesFront a l c report) empty
    (front_broken a c h report (report_broken studio events a b c h i session report (reported_of studio events a b m n h i wav mid session r) is counts))

-- the write of what was held at the end broke off
pub front_of_rest : (studio : Studio) (events : List TraceEvent) (a b c d m n : Option (List ℕ)) (h i j report : List ℕ) (wav mid : WavState) (session : SessionState) → h ≡ []
    → HasRecorded studio events a h m wav session b i n mid → IsReport studio events report → PassesOn b i c j (counts_text_of studio events)
    → (k : ℕ) × (k < length j) × Appends c d (take k j) → WritesFront a [] d report
front_of_rest studio events a b c d m n h i j report wav mid session empty r is counts part =
    front_broken a d [] report
    (report_unfinished studio events a c d h j empty (report_whole studio events a b c h i j session (reported_of studio events a b m n h i wav mid session r) counts) report is part)

-- all was written
pub front_of_all : (studio : Studio) (events : List TraceEvent) (a b m n : Option (List ℕ)) (report : List ℕ) (wav mid : WavState) → HasBoth studio events a b m n wav mid
    → IsReport studio events report → WritesFront a [] b report
front_of_all studio events a b m n report wav mid both is =
    let text = datagrams_text both.datagrams ++ counts_text_of studio events in
    let same : text ≡ report = report_alone studio events text report (record { datagrams = both.datagrams; ready = both.ready; whole = refl }) is in
    (length report, subst (Appends a b) (same ∙ sym (take_all (length report) report (let e : length report ≤ length report = omega arith in e))) both.report)
