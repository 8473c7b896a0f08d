use Rattle.path_merge.proofs.CarriedLemmas.{slots_hold, sound_by_timestamp}
use Rattle.path_merge.proofs.media_laws.slots_hold_the_sound_of_their_packets.Goals as goal

pub returns-clause-slots : goal.returns-clause-slots
returns-clause-slots c sound stream open_at events some timed has = slots_hold sound stream open_at events some timed has

pub returns-clause-by_timestamp : goal.returns-clause-by_timestamp
returns-clause-by_timestamp c sound stream offset open_at events ok clock timed has = sound_by_timestamp sound stream open_at events offset ok clock timed has
