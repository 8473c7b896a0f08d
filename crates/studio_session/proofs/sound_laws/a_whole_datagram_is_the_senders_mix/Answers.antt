use Rattle.studio_session.proofs.SoundOfEventsLemmas.{sound_mix, sounds_by_timestamp}
use Rattle.studio_session.proofs.sound_laws.a_whole_datagram_is_the_senders_mix.Goals as goal

pub returns-clause-datagram : goal.returns-clause-datagram
returns-clause-datagram c = sound_mix

pub returns-clause-by_timestamp : goal.returns-clause-by_timestamp
returns-clause-by_timestamp c sound studio events number run has = sound_mix sound studio events number run (sounds_by_timestamp sound studio events run has)
