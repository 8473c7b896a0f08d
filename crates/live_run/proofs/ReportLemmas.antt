-- The lines of a report, one after another.
use Rattle.std.proofs.Common.{◌≡◌, inl, inr, ◌<◌, ◌+◌, min, ℕ, suc, List, ◌++◌, length, take, drop, get_or, sym, ap, ◌∙◌, arith, drop-cons}
use Rattle.std.proofs.lemmas.Bool.{cases_lt}
use Rattle.std.proofs.lemmas.List.{drop_all, take_all}
use Rattle.rtp_stream.specs.Counts.{tally_of}
use Rattle.rtp_stream.specs.PathCounts.{path_tally_of}
use Rattle.rtp_stream.specs.declared.stream_counts.PathCounts.{PathCounts}
use Rattle.rtp_stream.specs.declared.stream_counts.StreamCounts.{StreamCounts}
use Rattle.live_status.specs.Lines.{feed_line}
use Rattle.studio_run.specs.Report.{merge_line, path_line}
use Rattle.studio_io.specs.declared.report.WorkReport.{WorkReport}
use Rattle.live_run.specs.Report.{feeds_text, own_feeds_text, paths_in, paths_text, report_text, sink_text, stream_text, streams_in, streams_text}

-- those of the next stream, and of the rest
pub streams_next : (n : ℕ) (streams : List StreamCounts) (counts : StreamCounts) → n < length streams → counts ≡ get_or streams n counts
    → streams_text n (drop n streams) ≡ stream_text n counts ++ streams_text (n + 1) (drop (n + 1) streams)
streams_next n streams counts within is =
    ap (streams_text n) (drop-cons streams n counts within) ∙ ap (λ c. stream_text n c ++ streams_text (suc n) (drop (suc n) streams)) (sym is)
    ∙ ap (λ k. stream_text n counts ++ streams_text k (drop k streams)) (let e : suc n ≡ n + 1 = omega arith in e)

-- of the next path
pub paths_next : (stream n path : ℕ) (paths : List PathCounts) (counts : PathCounts) → path ≡ n → n < length paths → counts ≡ get_or paths n counts
    → paths_text stream n (drop n paths) ≡ path_line stream path (path_tally_of counts) ++ paths_text stream (n + 1) (drop (n + 1) paths)
paths_next stream n path paths counts here within is =
    ap (paths_text stream n) (drop-cons paths n counts within)
    ∙ ap (λ (c : PathCounts). path_line stream n (path_tally_of c) ++ paths_text stream (suc n) (drop (suc n) paths)) (sym is)
    ∙ ap (λ p. path_line stream p (path_tally_of counts) ++ paths_text stream (suc n) (drop (suc n) paths)) (sym here)
    ∙ ap (λ k. path_line stream path (path_tally_of counts) ++ paths_text stream k (drop k paths)) (let e : suc n ≡ n + 1 = omega arith in e)

-- of a stream's next feed
pub own_next : (stream n path : ℕ) (faults : List ℕ) → path ≡ n → n < length faults
    → own_feeds_text stream n (drop n faults) ≡ feed_line stream path (get_or faults n 0) ++ own_feeds_text stream (n + 1) (drop (n + 1) faults)
own_next stream n path faults here within =
    ap (own_feeds_text stream n) (drop-cons faults n 0 within)
    ∙ ap (λ p. feed_line stream p (get_or faults n 0) ++ own_feeds_text stream (suc n) (drop (suc n) faults)) (sym here)
    ∙ ap (λ k. feed_line stream path (get_or faults n 0) ++ own_feeds_text stream k (drop k faults)) (let e : suc n ≡ n + 1 = omega arith in e)

-- no more than there are
taken : (k : ℕ) (xs : List ℕ) → take k xs ≡ take (min k (length xs)) xs
taken k xs = elim (cases_lt k (length xs)) [
  | inl few ↦ ap (λ n. take n xs) (let e : k ≡ min k (length xs) = omega (arith, few) in e)
  | inr all ↦ take_all k xs all ∙ sym (take_all (min k (length xs)) xs (omega (arith, all)))
]

dropped : (k : ℕ) (xs : List ℕ) → drop k xs ≡ drop (min k (length xs)) xs
dropped k xs = elim (cases_lt k (length xs)) [
  | inl few ↦ ap (λ n. drop n xs) (let e : k ≡ min k (length xs) = omega (arith, few) in e)
  | inr all ↦ drop_all k xs all ∙ sym (drop_all (min k (length xs)) xs (omega (arith, all)))
]

-- of the next stream's feeds
pub feeds_next : (n count : ℕ) (streams : List StreamCounts) (counts : StreamCounts) (faults own others : List ℕ) → n < length streams → counts ≡ get_or streams n counts
    → count ≡ min (length (paths_in counts)) (length faults) → own ≡ take count faults → others ≡ drop count faults
    → feeds_text n (drop n streams) faults ≡ own_feeds_text n 0 own ++ feeds_text (n + 1) (drop (n + 1) streams) others
feeds_next n count streams counts faults own others within is few front back =
    let k : ℕ = length (paths_in counts) in
    ap (λ ss. feeds_text n ss faults) (drop-cons streams n counts within)
    ∙ ap (λ (c : StreamCounts). own_feeds_text n 0 (take (length (paths_in c)) faults) ++ feeds_text (suc n) (drop (suc n) streams) (drop (length (paths_in c)) faults)) (sym is)
    ∙ ap (λ fs. own_feeds_text n 0 fs ++ feeds_text (suc n) (drop (suc n) streams) (drop k faults)) (taken k faults)
    ∙ ap (λ fs. own_feeds_text n 0 (take (min k (length faults)) faults) ++ feeds_text (suc n) (drop (suc n) streams) fs) (dropped k faults)
    ∙ ap (λ m. own_feeds_text n 0 (take m faults) ++ feeds_text (suc n) (drop (suc n) streams) (drop m faults)) (sym few)
    ∙ ap (λ m. own_feeds_text n 0 (take count faults) ++ feeds_text m (drop m streams) (drop count faults)) (let e : suc n ≡ n + 1 = omega arith in e)
    ∙ ap (λ fs. own_feeds_text n 0 fs ++ feeds_text (n + 1) (drop (n + 1) streams) (drop count faults)) (sym front)
    ∙ ap (λ fs. own_feeds_text n 0 own ++ feeds_text (n + 1) (drop (n + 1) streams) fs) (sym back)

-- the lines of a stream, whose paths were looked up before
pub stream_is : (n : ℕ) (counts : StreamCounts) (paths : List PathCounts) → paths ≡ paths_in counts
    → paths_text n 0 paths ++ merge_line n (length paths) (tally_of counts.merge) ≡ stream_text n counts
stream_is n counts paths is = ap (λ (ps : List PathCounts). paths_text n 0 ps ++ merge_line n (length ps) (tally_of counts.merge)) is

-- a whole report, whose streams and faults were looked up before
pub report_is : (report : WorkReport) (streams : List StreamCounts) (faults : List ℕ) → streams ≡ streams_in report → faults ≡ report.feed_faults.items
    → streams_text 0 streams ++ feeds_text 0 streams faults ++ sink_text report ≡ report_text report
report_is report streams faults same all =
    ap (λ (fs : List ℕ). streams_text 0 streams ++ feeds_text 0 streams fs ++ sink_text report) all
    ∙ ap (λ (ss : List StreamCounts). streams_text 0 ss ++ feeds_text 0 ss report.feed_faults.items ++ sink_text report) same
