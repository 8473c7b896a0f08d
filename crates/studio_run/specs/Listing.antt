-- The texts of a studio over its events: the listing of its marks, and the lines of its counts.
use Rattle.std.specs.Prelude.{ℕ, zero, suc, ℤ, List, [], ◌∷◌, ◌++◌, flat_map}
use Rattle.rtp_stream.specs.declared.stream_spec.Stream.{Stream}
use Rattle.studio_config.specs.Studio.{Studio}
use Rattle.studio_session.specs.Event.{TraceEvent}
use Rattle.studio_session.specs.Play.{stream_marks}
use Rattle.studio_session.specs.Counts.{path_counts_of}
use Rattle.studio_session.specs.Report.{merge_tally_of}
use Rattle.studio_run.specs.Text.{marks_text}
use Rattle.studio_run.specs.Report.{datagram_line, path_line, merge_line}

-- a text for each of these streams, which are numbered from `number` on
abbrev pub texts_from : (Stream → ℕ → List ℕ) → ℕ → List Stream → List ℕ
texts_from text number [] = []
texts_from text number (stream ∷ streams) = text stream number ++ texts_from text (suc number) streams

-- the lines of all marks of a stream
abbrev pub stream_listing : ℤ → List TraceEvent → Stream → ℕ → List ℕ
stream_listing open_at events stream number = marks_text number (stream_marks stream number open_at events)

-- the listing: the lines of all marks, stream after stream
abbrev pub listing_text : Studio → List TraceEvent → List ℕ
listing_text studio events = texts_from (stream_listing studio.open_at events) 0 studio.streams

-- the lines of the counts of a stream's datagrams on each of its first paths
abbrev pub paths_text : Stream → ℕ → List TraceEvent → ℕ → List ℕ
paths_text stream number events zero = []
paths_text stream number events (suc count) = paths_text stream number events count ++ path_line number count (path_counts_of stream number count events)

-- the lines of a stream's counts: of each of its paths, and of its merge
abbrev pub stream_counts_text : ℤ → List TraceEvent → Stream → ℕ → List ℕ
stream_counts_text open_at events stream number =
    paths_text stream number events stream.paths ++ merge_line number stream.paths (merge_tally_of stream number open_at events)

-- the lines of the counts of all streams
abbrev pub counts_text_of : Studio → List TraceEvent → List ℕ
counts_text_of studio events = texts_from (stream_counts_text studio.open_at events) 0 studio.streams

-- the lines of datagrams
abbrev pub datagrams_text : List (List ℕ) → List ℕ
datagrams_text datagrams = flat_map datagram_line datagrams
