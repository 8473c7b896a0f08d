use Rattle.studio_mix.proofs.FirstBlockLemmas.{first_all}
use Rattle.studio_session.specs.Play.{feeds_of}
use Rattle.studio_engine.proofs.CountsLemmas.{settled_ready}
use Rattle.studio_engine.proofs.datagram_laws.an_engine_gives_the_datagrams_of_its_events.Goals as goal

pub returns-clause-first : goal.returns-clause-first
returns-clause-first c studio engine events datagrams s = s.given.first

pub returns-clause-ready : goal.returns-clause-ready
returns-clause-ready c studio engine events datagrams g = first_all studio (feeds_of studio events) datagrams g.stands.given.first g.none

pub returns-clause-settled : goal.returns-clause-settled
returns-clause-settled c studio engine events datagrams s shut = first_all studio (feeds_of studio events) datagrams s.given.first (settled_ready studio engine events datagrams s shut)
