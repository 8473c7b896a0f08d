use Rattle.live_status.specs.Conditions.{Updates, SetsCondition}
use Rattle.live_status.proofs.Each.{IsUpTo}
use Rattle.live_status.proofs.publisher.set_conditions.Given as goal

abbrev pub invariant-loop-number : goal.invariant-loop-number
invariant-loop-number l = IsUpTo (SetsCondition l.initial.statuses l.now l.have_ended) l.number l.initial.streams l.streams
    × IsUpTo (Updates l.initial.streams l.now) l.number l.initial.statuses l.statuses
