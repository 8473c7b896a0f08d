-- The results of `Feed::next`, and the packets of the datagrams that it returns.
use Rattle.std.specs.Prelude.{◌≡◌, ℕ, ◌+◌, ◌≤◌, Bool, true, false, nat_eq, List, [], ◌∷◌, take, count_by, flat_map, ◌⊎◌, if◌then◌else◌}
use Rattle.rtp_stream.specs.declared.stream_spec.Stream.{Stream}
use Rattle.rtp_stream.specs.declared.packet.Packet.{Packet}
use Rattle.rtp_stream.specs.Reception.{reception_of, is_bad, is_wrong_length, is_wrong_type}
use Rattle.rtp_stream.specs.PathCounts.{PathTally}
use Rattle.rtp_stream.specs.declared.reception.Reception.{Reception}
use Rattle.rtp_stream.specs.declared.reception.Reception.TheVariants.{Sent, Bad, WrongType, WrongLength}
use Rattle.studio_io.specs.declared.feed.FeedAnswer.{FeedAnswer}
use Rattle.studio_io.specs.declared.feed.FeedAnswer.TheVariants.{Datagram, Nothing, Fault, Ended}

pub data Answer : Type 0 where
  Gives : List ℕ → Answer
  Waits : Answer
  Fails : Answer
  Stops : Answer

-- a result of `next`, with the octets that it wrote to the buffer if it is a datagram
abbrev pub answer_of : List ℕ → FeedAnswer → Answer
answer_of octets (Datagram n) = Gives (take n octets)
answer_of octets Nothing = Waits
answer_of octets Fault = Fails
answer_of octets Ended = Stops

-- if the next result of a feed is known, `next` returns it, and the known results after it are left
abbrev pub Tells : List Answer → List ℕ → FeedAnswer → List Answer → Type 0
Tells [] octets answer rest = Unit {0}
Tells (next ∷ told) octets answer rest = (answer_of octets answer ≡ next) × (rest ≡ told)

-- a datagram is at most as long as the buffer
abbrev pub IsWithin : FeedAnswer → ℕ → Type 0
IsWithin (Datagram n) capacity = n ≤ capacity
IsWithin Nothing capacity = Unit {0}
IsWithin Fault capacity = Unit {0}
IsWithin Ended capacity = Unit {0}

-- whether a feed ends with these results, after `faults` faults in a row: it says so, or fails 1,000 times in a row
unfoldable pub reaches_end : ℕ → List Answer → Bool
reaches_end faults [] = false
reaches_end faults (Gives octets ∷ told) = reaches_end 0 told
reaches_end faults (Waits ∷ told) = reaches_end 0 told
reaches_end faults (Fails ∷ told) = if nat_eq faults 999 then true else reaches_end (faults + 1) told
reaches_end faults (Stops ∷ told) = true

-- the packet that was received, if it is one of the stream
abbrev pub packet_in : Reception → List Packet
packet_in (Sent packet) = packet ∷ []
packet_in (Bad fault) = []
packet_in WrongType = []
packet_in WrongLength = []

abbrev pub packets_of : Stream → List ℕ → List Packet
packets_of stream octets = packet_in (reception_of stream octets)

-- the datagrams that these results bring before the feed ends, after `faults` faults in a row
unfoldable pub told_datagrams : ℕ → List Answer → List (List ℕ)
told_datagrams faults [] = []
told_datagrams faults (Gives octets ∷ told) = octets ∷ told_datagrams 0 told
told_datagrams faults (Waits ∷ told) = told_datagrams 0 told
told_datagrams faults (Fails ∷ told) = if nat_eq faults 999 then [] else told_datagrams (faults + 1) told
told_datagrams faults (Stops ∷ told) = []

-- the stream's packets among these datagrams
abbrev pub packets_in : Stream → List (List ℕ) → List Packet
packets_in stream datagrams = flat_map (packets_of stream) datagrams

-- the number of these datagrams whose reception by the stream passes the test
abbrev pub received_as : (Reception → Bool) → Stream → List (List ℕ) → ℕ
received_as test stream datagrams = count_by (λ octets. test (reception_of stream octets)) datagrams

-- the stream's packets among these datagrams, `told_datagrams`
abbrev pub told_packets : Stream → ℕ → List Answer → List Packet
told_packets stream faults told = packets_in stream (told_datagrams faults told)

-- some of the packets, in their order
unfoldable pub IsPartOf : List Packet → List Packet → Type 0
IsPartOf some [] = some ≡ []
IsPartOf some (packet ∷ packets) = IsPartOf some packets ⊎ ((rest : List Packet) × (some ≡ packet ∷ rest) × IsPartOf rest packets)

-- each datagram that is not a packet of the stream was counted once: as bad, of a wrong type or of a wrong length
pub record CountsOthers (stream : Stream) (datagrams : List (List ℕ)) (before after : PathTally) : Type 0 where
  pub bad : after.bad ≡ before.bad + received_as is_bad stream datagrams
  pub wrong_type : after.wrong_type ≡ before.wrong_type + received_as is_wrong_type stream datagrams
  pub wrong_length : after.wrong_length ≡ before.wrong_length + received_as is_wrong_length stream datagrams
