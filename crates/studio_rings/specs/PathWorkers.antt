-- The packets of a feed that a path's worker sends.
use Rattle.std.specs.Prelude.{◌≡◌, ℕ, ◌+◌, ◌-◌, ◌*◌, ◌<◌, ◌≤◌, ◌^◌, List, [], ◌∷◌, ◌++◌, length, ◌⊎◌, true, IfSome}
use Rattle.rtrb.specs.Ends.{SameRing}
use Rattle.rtrb.specs.Ring.{all_sent, sent, SameProducer}
use Rattle.rtp_stream.specs.declared.packet.Packet.{Packet}
use Rattle.rtp_stream.specs.PathCounts.{path_tally_of}
use Rattle.rtp_stream.specs.declared.stream_counts.PathCounts.{PathCounts}
use Rattle.studio_ends.specs.Fitting.{fitting}
use Rattle.studio_ends.specs.declared.path_end.PathDone.{PathDone}
use Rattle.studio_ends.specs.declared.path_end.PathEnd.{PathEnd}
use Rattle.studio_io.specs.Answers.{Answer, CountsOthers, IsPartOf, packets_in, packets_of, reaches_end, told_datagrams, told_packets}
use Rattle.studio_io.specs.FaultCounts.{IsFaultNumber}
use Rattle.studio_rings.specs.declared.jobs.PathJob.{PathJob}
use Rattle.studio_rings.specs.declared.jobs.PathResult.{PathResult}

-- a datagram was offered, and again while the ring was full, but at most 1,000 times more. Its packet was sent at most
-- once. It was sent if fewer than 1,001 of these offers found the ring full
pub record OffersAgain (octets : List ℕ) (p q : PathEnd) : Type 0 where
  pub ring : SameProducer p.ring q.ring
  pub spec : q.spec ≡ p.spec
  pub sends : (sent q.ring ≡ sent p.ring) ⊎ (sent q.ring ≡ sent p.ring ++ packets_of p.spec octets)
  pub all : q.counts.full < p.counts.full + 1001 → q.counts.offered < 2 ^ 62 → sent q.ring ≡ sent p.ring ++ packets_of p.spec octets
  pub others : q.counts.offered < 2 ^ 62 → CountsOthers p.spec (octets ∷ []) (path_tally_of p.counts) (path_tally_of q.counts)
  pub full : p.counts.full ≤ q.counts.full
  pub offered : p.counts.offered ≤ q.counts.offered
  pub few : q.counts.offered ≤ p.counts.offered + 1001

-- what was sent in all from a feed with the results `told`: packets of its datagrams, in order, each at most once. All
-- of them were sent if at most 1,000 offers found the ring full. For each packet that is missing, 1,001 offers found
-- the ring full. Each datagram that is not a packet of the stream was counted once. There were at most 1,001 offers for
-- each datagram
pub record SendsFeed (told : List Answer) (p : PathEnd) (sent_in_all : List Packet) (counts : PathCounts) : Type 0 where
  pub more : List Packet
  pub sends : sent_in_all ≡ sent p.ring ++ more
  pub some : IsPartOf more (told_packets p.spec 0 told)
  pub all : counts.full ≤ 1000 → counts.offered < 2 ^ 62 → more ≡ told_packets p.spec 0 told
  pub lacking : counts.offered < 2 ^ 62 → p.counts.full + (length (told_packets p.spec 0 told) - length more) * 1001 ≤ counts.full
  pub others : counts.offered < 2 ^ 62 → CountsOthers p.spec (told_datagrams 0 told) (path_tally_of p.counts) (path_tally_of counts)
  pub offered : counts.offered ≤ p.counts.offered + 1001 * length (told_datagrams 0 told)

-- `SendsFeed` before the feed has ended: the results `left` are still to come, after `faults` faults in a row, and the
-- datagrams `tried` were offered
pub record SendsSoFar (told : List Answer) (p : PathEnd) (left : List Answer) (faults : ℕ) (q : PathEnd) : Type 0 where
  pub ring : SameProducer p.ring q.ring
  pub spec : q.spec ≡ p.spec
  pub whole : reaches_end faults left ≡ true
  pub more : List Packet
  pub sends : sent q.ring ≡ sent p.ring ++ more
  pub some : (rest : List Packet) → IsPartOf rest (told_packets p.spec faults left) → IsPartOf (more ++ rest) (told_packets p.spec 0 told)
  pub all : q.counts.full ≤ 1000 → q.counts.offered < 2 ^ 62 → more ++ told_packets p.spec faults left ≡ told_packets p.spec 0 told
  pub tried : List (List ℕ)
  pub before : tried ++ told_datagrams faults left ≡ told_datagrams 0 told
  pub grows : p.counts.full ≤ q.counts.full
  pub lacking : q.counts.offered < 2 ^ 62 → p.counts.full + length (packets_in p.spec tried) * 1001 ≤ q.counts.full + length more * 1001
  pub others : q.counts.offered < 2 ^ 62 → CountsOthers p.spec tried (path_tally_of p.counts) (path_tally_of q.counts)
  pub offered : q.counts.offered ≤ p.counts.offered + 1001 * length tried

-- the token of this path's ring
abbrev pub IsTokenOf : PathEnd → PathDone → Type 0
IsTokenOf p done = SameRing p.ring.end done.token.end

module _ {F : Type 0} where
  -- the result of a path's worker. Its token, if it has one, is that of the job's ring, and reports packets of the
  -- stream's length, whose number was counted. If the results of the feed are known to its end, `SendsFeed` says which
  -- of its packets these are, and the number of faults is that of the feed
  pub record IsPathResult (told : F → List Answer) (job : PathJob F) (result : PathResult) : Type 0 where
    pub token : IfSome result.done (λ done. IsTokenOf job.end done)
    pub fit : IfSome result.done (λ done. fitting job.end.spec (all_sent done.token) ≡ all_sent done.token)
    pub count : IfSome result.done (λ done. result.counts.sent ≡ length (all_sent done.token))
    pub sent : reaches_end 0 (told job.feed) ≡ true → IfSome result.done (λ done. SendsFeed (told job.feed) job.end (all_sent done.token) result.counts)
    pub faults : IfSome result.done (λ done. IsFaultNumber (told job.feed) result.faults)
