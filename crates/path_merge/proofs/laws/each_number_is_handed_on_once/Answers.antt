use Rattle.path_merge.proofs.GainLemmas.{close_gives, slots_told, tick_gives}
use Rattle.path_merge.proofs.SpanLemmas.{spanned}
use Rattle.path_merge.proofs.laws.each_number_is_handed_on_once.Goals as goal

pub returns-clause-spans : goal.returns-clause-spans
returns-clause-spans c stream open_at events some well_timed = spanned stream open_at some events well_timed

pub returns-clause-by_tick : goal.returns-clause-by_tick
returns-clause-by_tick c stream open_at u events open_yet = tick_gives stream open_at events u open_yet

pub returns-clause-by_close : goal.returns-clause-by_close
returns-clause-by_close c stream open_at events open_yet = close_gives stream open_at events open_yet

pub returns-clause-counted : goal.returns-clause-counted
returns-clause-counted c stream open_at events given = slots_told given
