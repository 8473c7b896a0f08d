use Rattle.std.proofs.Common.{sym, ◌∙◌}
use Rattle.rtp_wire.specs.Datagram.{head_at, payload_at}
use Rattle.rtp_wire.proofs.DatagramLemmas.{Places-of, IsWhole-from_none, none_from_IsWhole, IsDatagram-from_whole}
use Rattle.rtp_wire.proofs.laws.datagrams_are_read_one_way.Goals as goal

pub returns-clause-one : goal.returns-clause-one
returns-clause-one c octets head other payload rest at at' =
    let first = Places-of octets head payload at in
    let second = Places-of octets other rest at' in
    (sym first.head_is ∙ second.head_is, sym first.payload_is ∙ second.payload_is)

pub returns-clause-fault : goal.returns-clause-fault
returns-clause-fault c octets are = (
  (λ e. (head_at octets, payload_at octets, IsDatagram-from_whole octets are (IsWhole-from_none octets e))),
  (λ (head, payload, at). none_from_IsWhole octets (Places-of octets head payload at).whole),
)

pub returns-clause-places : goal.returns-clause-places
returns-clause-places c octets head payload at =
    let places = Places-of octets head payload at in
    (sym places.head_is, sym places.payload_is)
