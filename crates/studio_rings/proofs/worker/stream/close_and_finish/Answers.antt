use Rattle.studio_rings.proofs.worker.stream.close_and_finish.Goals as goal

pub returns : goal.returns
returns g c = record {
  closed = c.in_ok-end.end;
  closes = c.in_ok-end.ensures;
  drained = c.drain.new.end;
  drains = c.in_ok-drain.ensures;
  token = c.finish.ensures.token;
  counted = c.finish.ensures.counts;
}
