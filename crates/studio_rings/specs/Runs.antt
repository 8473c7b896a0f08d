-- The streams' histories and the datagrams of a run, as its report has them.
use Rattle.std.specs.Prelude.{◌≡◌, ℕ, suc, ◌-◌, ◌*◌, ◌<◌, ◌≤◌, ◌^◌, true, List, [], ◌∷◌, ◌++◌, length, sum_by, ℤ, Option}
use Rattle.rtp_stream.specs.declared.stream_spec.Stream.{Stream}
use Rattle.rtp_stream.specs.History.{is_closed, is_well_timed}
use Rattle.rtp_stream.specs.Marks.{marks_of}
use Rattle.rtp_stream.specs.Counts.{counts_of, tally_of}
use Rattle.rtp_stream.specs.declared.event.Event.{Event}
use Rattle.rtp_stream.specs.declared.event.Event.TheVariants.{Close}
use Rattle.studio_config.specs.Studio.{Studio}
use Rattle.studio_mix.specs.Changed.{with_changes}
use Rattle.studio_mix.specs.Feed.{Feed}
use Rattle.studio_mix.specs.Blocks.{AreBlocks}
use Rattle.rtp_stream.specs.PathCounts.{empty_path_tally, path_tally_of}
use Rattle.rtp_stream.specs.declared.stream_counts.PathCounts.{PathCounts}
use Rattle.rtp_stream.specs.declared.stream_counts.StreamCounts.{StreamCounts}
use Rattle.studio_ends.specs.Streams.{packets_by}
use Rattle.studio_io.specs.Answers.{Answer, CountsOthers, IsPartOf, reaches_end, told_datagrams, told_packets}
use Rattle.studio_io.specs.FaultCounts.{AreFaultNumbers}
use Rattle.studio_rings.specs.ClockTurns.{GoByClock, events_in}
use Rattle.studio_io.specs.Sinks.{Hands}
use Rattle.studio_io.specs.declared.report.WorkReport.{WorkReport}

-- a path has as many arrivals as packets that were counted as sent. If the results of its feed are known to the end,
-- these are packets of the feed's datagrams, in order, each at most once. All of them arrived if at most 1,000 offers
-- found the ring full. For each packet that is missing, 1,001 offers found the ring full. Each datagram that is not a
-- packet of the stream was counted once. There were at most 1,001 offers for each datagram
pub record HasPathHistory (stream : Stream) (path : ℕ) (told : List Answer) (counts : PathCounts) (events : List Event) : Type 0 where
  pub sent : counts.sent ≡ length (packets_by path events)
  pub some : reaches_end 0 told ≡ true → IsPartOf (packets_by path events) (told_packets stream 0 told)
  pub all : reaches_end 0 told ≡ true → counts.full ≤ 1000 → counts.offered < 2 ^ 62 → packets_by path events ≡ told_packets stream 0 told
  pub lacking : reaches_end 0 told ≡ true → counts.offered < 2 ^ 62 → (length (told_packets stream 0 told) - length (packets_by path events)) * 1001 ≤ counts.full
  pub others : reaches_end 0 told ≡ true → counts.offered < 2 ^ 62 → CountsOthers stream (told_datagrams 0 told) empty_path_tally (path_tally_of counts)
  pub offered : reaches_end 0 told ≡ true → counts.offered ≤ 1001 * length (told_datagrams 0 told)

-- each path from this one on has such a history
abbrev pub HavePathHistories : Stream → ℕ → List (List Answer) → List PathCounts → List Event → Type 0
HavePathHistories stream path [] [] events = Unit {0}
HavePathHistories stream path (told ∷ more) (counts ∷ rest) events = HasPathHistory stream path told counts events × HavePathHistories stream (suc path) more rest events
HavePathHistories stream path [] (counts ∷ rest) events = ⊥
HavePathHistories stream path (told ∷ more) [] events = ⊥

-- the number of packets that the paths of a stream sent
abbrev pub sent_total : List PathCounts → ℕ
sent_total paths = sum_by (λ (counts : PathCounts). counts.sent) paths

-- a stream has this history: turns by the known readings of its clock, and then a close; its counts are those of the
-- history
pub record HasStreamHistory (open_at : ℤ) (places : ℕ) (stream : Stream) (told : List (List Answer)) (clock : List ℤ) (counts : StreamCounts) (events : List Event) : Type 0 where
  pub well_timed : is_well_timed open_at events ≡ true
  pub closed : is_closed events ≡ true
  pub turns : List (List Event)
  pub made : events ≡ events_in turns ++ Close ∷ []
  pub timed : GoByClock stream open_at places open_at clock [] turns
  pub merge : tally_of counts.merge ≡ counts_of stream open_at events (marks_of stream open_at events)
  pub arrived : sent_total counts.paths.items ≤ 2 ^ 62 → counts.merge.arrived ≡ sent_total counts.paths.items
  pub paths : HavePathHistories stream 0 told counts.paths.items events

-- each stream has such a history. The results of the feeds are ordered by stream, one for each path of the stream, and
-- there is a clock for each stream
abbrev pub HaveStreamHistories : ℤ → ℕ → List Stream → List (List Answer) → List (List ℤ) → List StreamCounts → List (List Event) → Type 0
HaveStreamHistories open_at places [] told clocks [] [] = (told ≡ []) × (clocks ≡ [])
HaveStreamHistories open_at places (stream ∷ streams) told clocks (counts ∷ rest) (events ∷ histories) =
    (own : List (List Answer)) × (others : List (List Answer)) × (clock : List ℤ) × (left : List (List ℤ))
    × (told ≡ own ++ others) × (length own ≡ stream.paths) × (clocks ≡ clock ∷ left)
    × HasStreamHistory open_at places stream own clock counts events × HaveStreamHistories open_at places streams others left rest histories
HaveStreamHistories open_at places [] told clocks (counts ∷ rest) histories = ⊥
HaveStreamHistories open_at places [] told clocks [] (events ∷ histories) = ⊥
HaveStreamHistories open_at places (stream ∷ streams) told clocks [] histories = ⊥
HaveStreamHistories open_at places (stream ∷ streams) told clocks (counts ∷ rest) [] = ⊥

-- each stream, with all marks of its history
abbrev pub feeds_of : ℤ → List Stream → List (List Event) → List Feed
feeds_of open_at [] histories = []
feeds_of open_at (stream ∷ streams) [] = []
feeds_of open_at (stream ∷ streams) (events ∷ histories) = record { stream = stream; marks = marks_of stream open_at events } ∷ feeds_of open_at streams histories

-- the result of a settled run over rings of `places` places: each stream has a whole history, and each feed has the
-- number of its faults in the report. If the contents of the sink are known at the end, it was passed the datagrams of
-- exactly the blocks that are ready by the streams' marks, in order
pub record IsSettledRun (studio : Studio) (places : ℕ) (told : List (List Answer)) (clocks : List (List ℤ)) (report : WorkReport) (before after : Option (List (List ℕ))) : Type 0 where
  pub histories : List (List Event)
  pub streams : HaveStreamHistories studio.open_at places studio.streams told clocks report.streams.items histories
  pub faults : AreFaultNumbers told report.feed_faults.items
  pub datagrams : List (List ℕ)
  pub blocks : AreBlocks studio (feeds_of studio.open_at studio.streams histories) datagrams
  pub count : length datagrams < 2 ^ 64 → report.blocks ≡ length datagrams
  pub handed : Hands before datagrams after

-- a settled run that began with this studio, and ran the studio with exactly the changes of gains that its source took
pub record IsSettledRunWith (studio : Studio) (places : ℕ) (told : List (List Answer)) (clocks : List (List ℤ)) (report : WorkReport) (before after : Option (List (List ℕ))) (first last : List (ℤ × List ℤ)) : Type 0 where
  pub changes : List (ℤ × List ℤ)
  pub taken : last ≡ first ++ changes
  pub run : IsSettledRun (with_changes studio changes) places told clocks report before after
