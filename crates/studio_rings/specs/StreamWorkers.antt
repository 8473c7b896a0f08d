-- The job of a stream's worker, and its result.
use Rattle.std.specs.Prelude.{◌≡◌, ℕ, ◌<◌, ◌≤◌, ◌^◌, Bool, true, false, List, [], ◌∷◌, ◌++◌, length, map, slice_get, ℤ, pos, ◌≤ℤ◌, vec_len, vec_capacity, Option, Some, None, IsSome, IfSome}
use Rattle.rtrb.specs.Ends.{SameRing}
use Rattle.rtrb.specs.Ring.{all_sent, producer_capacity, IsFinishedOf, IsPair}
use Rattle.rtp_stream.specs.declared.stream_spec.Stream.{Stream}
use Rattle.rtp_stream.specs.Counts.{tally_of, counts_of}
use Rattle.rtp_stream.specs.Marks.{marks_of}
use Rattle.rtp_stream.specs.MarkFacts.{MarkView}
use Rattle.rtp_stream.specs.declared.packet.Packet.{Packet}
use Rattle.rtp_stream.specs.declared.event.Event.{Event}
use Rattle.rtp_stream.specs.declared.event.Event.TheVariants.{Close}
use Rattle.rtp_stream.specs.History.{is_closed, is_well_timed}
use Rattle.studio_ends.specs.FreshEnds.{IsFreshStream}
use Rattle.studio_ends.specs.Streams.{StreamHasHistory}
use Rattle.studio_ends.specs.Tokens.{HandsIn}
use Rattle.studio_ends.specs.declared.path_end.PathDone.{PathDone}
use Rattle.studio_ends.specs.declared.path_end.PathEnd.{PathEnd}
use Rattle.studio_ends.specs.declared.rings.TokenConsumer.{TokenConsumer}
use Rattle.studio_io.specs.Answers.{Answer}
use Rattle.studio_io.specs.FaultCounts.{AreFaultNumbers}
use Rattle.studio_rings.specs.ClockTurns.{GoByClock, events_in}
use Rattle.studio_rings.specs.Runs.{HasStreamHistory}
use Rattle.studio_rings.specs.Turns.{HaveArrived}
use Rattle.studio_rings.specs.declared.jobs.PathJob.{PathJob}
use Rattle.studio_rings.specs.declared.jobs.PathResult.{PathResult}
use Rattle.studio_rings.specs.declared.worker.clocked_stream.ClockedStream.{ClockedStream}
use Rattle.studio_rings.specs.declared.jobs.StreamJob.{StreamJob}
use Rattle.studio_rings.specs.declared.jobs.StreamResult.{StreamResult}

abbrev pub all_told : Option PathDone → List Packet
all_told None = []
all_told (Some done) = all_sent done.token

-- the packets that a path's token reports, none if there is no token
abbrev pub told_by : PathResult → List Packet
told_by result = all_told result.done

-- each path returned its token
abbrev pub PathsGiveTokens : List PathResult → Type 0
PathsGiveTokens [] = Unit {0}
PathsGiveTokens (result ∷ results) = IsSome result.done × PathsGiveTokens results

-- each token, if there is one, is that of the ring at its place
abbrev pub AllTokensFit : List PathResult → List (TokenConsumer Packet) → Type 0
AllTokensFit [] [] = Unit {0}
AllTokensFit (result ∷ results) (side ∷ sides) = IfSome result.done (λ done. IsFinishedOf done.token side.ring) × AllTokensFit results sides
AllTokensFit [] (side ∷ sides) = ⊥
AllTokensFit (result ∷ results) [] = ⊥

-- the token, if there is one, is that of the ring at this place
abbrev pub FitsAt : Option PathDone → ℕ → List (TokenConsumer Packet) → Type 0
FitsAt None place sides = Unit {0}
FitsAt (Some done) place sides = (place < length sides) × ((side : TokenConsumer Packet) → slice_get sides place ≡ Some side → IsFinishedOf done.token side.ring)

-- the token is passed to the consumer at this place, if there is one
abbrev pub HandsOne : Option PathDone → ℕ → List (TokenConsumer Packet) → Bool → List (TokenConsumer Packet) → Type 0
HandsOne None place olds given news = (given ≡ false) × (news ≡ olds)
HandsOne (Some done) place olds given news = (given ≡ true) × HandsIn olds place (all_sent done.token) news

-- after these events a stream made turns by its clock, and was closed. In its whole history exactly the packets of
-- `lists` arrived, and its marks are those that were sent
pub record HasEnded {C : Type 0} (clock_told : C → List ℤ) (stream : Stream) (open_at : ℤ) (s : ClockedStream C) (events : List Event) (lists : List (List Packet)) (result : StreamResult) (marks : List MarkView) : Type 0 where
  pub turns : List (List Event)
  pub timed : GoByClock stream open_at (producer_capacity s.end.marks) s.now (clock_told s.clock) events turns
  pub before : List Event
  pub before_is : before ≡ events ++ events_in turns
  pub open_before : is_closed before ≡ false
  pub well_timed : is_well_timed open_at (before ++ Close ∷ []) ≡ true
  pub arrived : HaveArrived stream 0 lists before
  pub marks_are : marks ≡ marks_of stream open_at (before ++ Close ∷ [])
  pub counts : tally_of result.counts.merge ≡ counts_of stream open_at (before ++ Close ∷ []) (marks_of stream open_at (before ++ Close ∷ []))

-- a stream came to its end, after its paths had these results. Nothing is claimed about its history if it returned no
-- token
pub record EndsStream {C : Type 0} (clock_told : C → List ℤ) (s : ClockedStream C) (results : List PathResult) (result : StreamResult) : Type 0 where
  pub paths : result.counts.paths.items ≡ map (λ (r : PathResult). r.counts) results
  pub faults : result.faults.items ≡ map (λ (r : PathResult). r.faults) results
  pub token : IfSome result.done (λ done. SameRing s.end.marks.end done.token.end)
  pub given : IfSome result.done (λ done. PathsGiveTokens results)
  pub ended : IfSome result.done (λ done. (stream : Stream) (open_at : ℤ) (events : List Event) → StreamHasHistory stream open_at s.end events
      → HasEnded clock_told stream open_at s events (map told_by results) result (all_sent done.token))

-- a stream has a whole history, and these are all of its marks
pub record HasMarks (open_at : ℤ) (places : ℕ) (stream : Stream) (told : List (List Answer)) (clock : List ℤ) (result : StreamResult) (marks : List MarkView) : Type 0 where
  pub events : List Event
  pub history : HasStreamHistory open_at places stream told clock result.counts events
  pub marks_are : marks ≡ marks_of stream open_at events

module _ {F : Type 0} where
  -- each path's end is the producer of the ring at its place
  abbrev pub ArePairs : List (PathJob F) → List (TokenConsumer Packet) → Type 0
  ArePairs [] [] = Unit {0}
  ArePairs (path ∷ paths) (side ∷ sides) = IsPair path.end.ring side.ring × ArePairs paths sides
  ArePairs [] (side ∷ sides) = ⊥
  ArePairs (path ∷ paths) [] = ⊥

  abbrev pub ends_of : List (PathJob F) → List PathEnd
  ends_of paths = map (λ (path : PathJob F). path.end) paths

  abbrev pub told_of : (F → List Answer) → List (PathJob F) → List (List Answer)
  told_of told paths = map (λ (path : PathJob F). told path.feed) paths

module _ {F C : Type 0} where
  -- the stream of a job is not closed, its paths are those of its rings, and there is space for their results
  pub record IsReady (job : StreamJob F C) : Type 0 where
    pub open_yet : job.end.merge.closed ≡ false
    pub in_time : job.end.merge.time ≤ℤ pos (2 ^ 60)
    pub pairs : ArePairs job.paths.items job.end.sides.items
    pub ended : vec_len job.paths ≤ vec_len job.ended
    pub no_results : vec_len job.results ≡ 0
    pub results : vec_len job.paths ≤ vec_capacity job.results
    pub no_counts : vec_len job.counts ≡ 0
    pub counts : vec_len job.paths ≤ vec_capacity job.counts
    pub no_faults : vec_len job.faults ≡ 0
    pub faults : vec_len job.paths ≤ vec_capacity job.faults

  -- all jobs are ready
  abbrev pub AllReady : List (StreamJob F C) → Type 0
  AllReady [] = Unit {0}
  AllReady (job ∷ jobs) = IsReady job × AllReady jobs

  -- the result of a stream's worker: a number of faults for each path, and the token of its end, if there is one, which
  -- reports all marks of a whole history. If there is a token, each number is that of the path's feed
  pub record IsStreamResult (told : F → List Answer) (clock_told : C → List ℤ) (job : StreamJob F C) (result : StreamResult) : Type 0 where
    pub faults : vec_len result.faults ≡ length job.paths.items
    pub numbers : IfSome result.done (λ done. AreFaultNumbers (told_of told job.paths.items) result.faults.items)
    pub token : IfSome result.done (λ done. SameRing job.end.marks.end done.token.end)
    pub history : IfSome result.done (λ done. (stream : Stream) (open_at : ℤ) (places : ℕ) → IsFreshStream open_at places stream (ends_of job.paths.items) job.end
        → HasMarks open_at (producer_capacity job.end.marks) stream (told_of told job.paths.items) (clock_told job.clock) result (all_sent done.token))
