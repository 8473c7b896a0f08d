use Rattle.path_merge.proofs.HeardOnceLemmas.{heard_once}
use Rattle.path_merge.proofs.PastLemmas.{past_by_fate}
use Rattle.path_merge.proofs.SentOnceLemmas.{sent_number}
use Rattle.path_merge.proofs.laws.an_epoch_begins_past_all_that_was_heard.Goals as goal

pub returns-clause-past : goal.returns-clause-past
returns-clause-past c stream open_at events anchor path packet some few is_a fate on = past_by_fate stream open_at some events path packet anchor few is_a fate on

pub returns-clause-once : goal.returns-clause-once
returns-clause-once c stream open_at events some well_timed few go = heard_once stream open_at some events well_timed few go

pub returns-clause-sent : goal.returns-clause-sent
returns-clause-sent c stream first anchor open_at sent packet bounds begins are_near still go in_force near on = sent_number stream first open_at bounds sent anchor packet begins are_near still go in_force near on
