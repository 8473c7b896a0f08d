-- The report of a live run.
use Rattle.std.specs.Prelude.{ℕ, suc, List, [], ◌∷◌, ◌++◌, length, take, drop}
use Rattle.rtp_stream.specs.Counts.{tally_of}
use Rattle.rtp_stream.specs.PathCounts.{path_tally_of}
use Rattle.rtp_stream.specs.declared.stream_counts.PathCounts.{PathCounts}
use Rattle.rtp_stream.specs.declared.stream_counts.StreamCounts.{StreamCounts}
use Rattle.studio_run.specs.Report.{path_line, merge_line}
use Rattle.live_status.specs.Lines.{feed_line, sink_line}
use Rattle.studio_io.specs.declared.report.WorkReport.{WorkReport}

-- the counts of a stream's paths, at most four
abbrev pub paths_in : StreamCounts → List PathCounts
paths_in counts = take 4 counts.paths.items

-- the lines of a stream's paths, from this one on
abbrev pub paths_text : ℕ → ℕ → List PathCounts → List ℕ
paths_text stream path [] = []
paths_text stream path (counts ∷ more) = path_line stream path (path_tally_of counts) ++ paths_text stream (suc path) more

-- the lines of a stream's counts: of each of its paths, and of its merge
abbrev pub stream_text : ℕ → StreamCounts → List ℕ
stream_text stream counts = paths_text stream 0 (paths_in counts) ++ merge_line stream (length (paths_in counts)) (tally_of counts.merge)

-- the lines of the counts of streams, from this one on
abbrev pub streams_text : ℕ → List StreamCounts → List ℕ
streams_text stream [] = []
streams_text stream (counts ∷ more) = stream_text stream counts ++ streams_text (suc stream) more

-- the lines of a stream's feeds, from that of this path on
abbrev pub own_feeds_text : ℕ → ℕ → List ℕ → List ℕ
own_feeds_text stream path [] = []
own_feeds_text stream path (faults ∷ more) = feed_line stream path faults ++ own_feeds_text stream (suc path) more

-- the lines of the feeds of streams, from this one on; their faults are ordered by stream and then by path
abbrev pub feeds_text : ℕ → List StreamCounts → List ℕ → List ℕ
feeds_text stream [] faults = []
feeds_text stream (counts ∷ more) faults =
    own_feeds_text stream 0 (take (length (paths_in counts)) faults) ++ feeds_text (suc stream) more (drop (length (paths_in counts)) faults)

-- the streams of a report, at most sixteen
abbrev pub streams_in : WorkReport → List StreamCounts
streams_in report = take 16 report.streams.items

-- the number of datagrams of a report, and of those that each address took
abbrev pub sink_text : WorkReport → List ℕ
sink_text report =
    sink_line (record { blocks = report.blocks; sent_a = report.sent_a; sent_b = report.sent_b; fault_a = report.fault_a; fault_b = report.fault_b })

-- the whole report: the counts of each stream, the faults of each feed, and the datagrams
abbrev pub report_text : WorkReport → List ℕ
report_text report = streams_text 0 (streams_in report) ++ feeds_text 0 (streams_in report) report.feed_faults.items ++ sink_text report
