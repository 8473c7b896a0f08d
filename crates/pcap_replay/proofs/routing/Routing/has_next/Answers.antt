use Rattle.pcap_replay.proofs.routing.Routing.has_next.Goals as goal

pub returns-in-Flows-clause-end : goal.returns-in-Flows-clause-end
returns-in-Flows-clause-end g c = rw c.in-Flows.is c.has_block.ensures.end

pub returns-in-Interfaces-clause-end : goal.returns-in-Interfaces-clause-end
returns-in-Interfaces-clause-end g c = rw c.in-Interfaces.is c.has_whole_block.ensures.end
