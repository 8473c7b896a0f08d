use Rattle.path_merge.proofs.CarriedLemmas.{all_carried, all_in_step}
use Rattle.path_merge.proofs.MediaTimeLemmas.{copy_media_time}
use Rattle.path_merge.proofs.media_laws.media_time_is_absolute.Goals as goal

pub returns-clause-copies : goal.returns-clause-copies
returns-clause-copies c stream offset open_at before path packet anchor number ok clock timed copy = copy_media_time stream offset open_at ok clock before path packet anchor number timed copy

pub returns-clause-carried : goal.returns-clause-carried
returns-clause-carried c stream open_at events some timed = all_carried stream open_at some events timed

pub returns-clause-slots : goal.returns-clause-slots
returns-clause-slots c stream offset open_at events ok clock timed = all_in_step stream offset open_at ok clock events timed
