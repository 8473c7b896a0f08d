-- The steps of a path's end with a datagram.
use Rattle.std.specs.Prelude.{◌≡◌, ℕ, ◌<◌, ◌^◌, List, [], ◌∷◌, ◌++◌}
use Rattle.rtrb.specs.Ring.{sent, known_free}
use Rattle.rtp_stream.specs.declared.packet.Packet.{Packet}
use Rattle.rtp_stream.specs.PathCounts.{path_tally_of, with_full, with_reception}
use Rattle.rtp_stream.specs.Reception.{reception_of}
use Rattle.rtp_stream.specs.declared.reception.Reception.{Reception}
use Rattle.rtp_stream.specs.declared.reception.Reception.TheVariants.{Sent as Received, Bad as BadWire, WrongType as OtherType, WrongLength as OtherLength}
use Rattle.studio_ends.specs.declared.path_end.PathEnd.{PathEnd}
use Rattle.studio_ends.specs.declared.path_end.Offer.{Offer}
use Rattle.studio_ends.specs.declared.path_end.Offer.TheVariants.{CountersFull, Bad, WrongType, WrongLength, Full, Sent}

-- the datagram has this reception, and was counted
pub record Receives (octets : List ℕ) (p : PathEnd) (reception : Reception) (q : PathEnd) : Type 0 where
  pub space : p.counts.offered < 2 ^ 62
  pub received : reception_of p.spec octets ≡ reception
  pub counted : path_tally_of q.counts ≡ with_reception (path_tally_of p.counts) reception

-- the datagram is a packet of the stream, but no free place was known in the ring; it was counted as `full`
pub record FindsNoSpace (octets : List ℕ) (p q : PathEnd) : Type 0 where
  pub space : p.counts.offered < 2 ^ 62
  pub packet : Packet
  pub received : reception_of p.spec octets ≡ Received packet
  pub none_free : known_free q.ring ≡ 0
  pub counted : path_tally_of q.counts ≡ with_full (path_tally_of p.counts)

-- what each result of an offer means; the datagram's packet is sent if the result is `Sent`, and otherwise nothing is
abbrev pub Offers : List ℕ → PathEnd → Offer → PathEnd → Type 0
Offers octets p CountersFull q = (q ≡ p) × (p.counts.offered ≡ 2 ^ 62)
Offers octets p (Bad fault) q = Receives octets p (BadWire fault) q × (sent q.ring ≡ sent p.ring)
Offers octets p WrongType q = Receives octets p OtherType q × (sent q.ring ≡ sent p.ring)
Offers octets p WrongLength q = Receives octets p OtherLength q × (sent q.ring ≡ sent p.ring)
Offers octets p Full q = FindsNoSpace octets p q × (sent q.ring ≡ sent p.ring)
Offers octets p Sent q = (packet : Packet) × Receives octets p (Received packet) q × (sent q.ring ≡ sent p.ring ++ packet ∷ [])
