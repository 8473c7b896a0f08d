use Rattle.std.proofs.Common.{inl, inr, refl}
use Rattle.pcap_replay.proofs.state.ReplayState.break_off.Goals as goal

pub returns-in-Write : goal.returns-in-Write
returns-in-Write g c = inl (c.in-Write.is, refl, refl)

pub returns-in-Ok : goal.returns-in-Ok
returns-in-Ok g c = inr (c.in_default.not-Write, inl (refl, c.in-Ok.ensures.ok))

pub returns : goal.returns
returns g c = inr (c.in_default.not-Write, inr (refl, c.in-Err.ensures.fault))
