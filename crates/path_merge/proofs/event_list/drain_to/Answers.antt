use Rattle.std.proofs.Common.{◌+◌}
use Rattle.path_merge.proofs.RunLemmas.{drained_more, drained_all}
use Rattle.path_merge.proofs.event_list.drain_to.Goals as goal

pub drains-preserved : goal.drains-preserved
drains-preserved g c = λ stream open_at events k at all.
    let w = c.drains.invariant stream open_at events k at all in
    let more = drained_more stream open_at c.drain.new.self events w.0 c.in-Some.mark c.drains.marks.items (c.in-Some.ensures.stands stream open_at events w.0 w.1) w.2 in
    rw c.in_ok-push-in-Some.ensures.items (w.0 + 1, more.0, more.1)

pub returns-in-None : goal.returns-in-None
returns-in-None g c = λ stream open_at events k at all.
    let w = c.drains.invariant stream open_at events k at all in
    drained_all stream open_at c.drain.new.self events w.0 c.drains.marks.items (c.in-None.ensures.stands stream open_at events w.0 w.1) w.2
