use Rattle.studio_session.proofs.SoundOfEventsLemmas.{sound_copies, sounds_by_timestamp}
use Rattle.studio_session.proofs.sound_laws.receivers_of_one_sound_return_copies.Goals as goal

pub returns-clause-datagrams : goal.returns-clause-datagrams
returns-clause-datagrams c = sound_copies

pub returns-clause-by_timestamp : goal.returns-clause-by_timestamp
returns-clause-by_timestamp c sound studio other events others number its twins run runs has have =
    sound_copies sound studio other events others number its twins run runs
    (sounds_by_timestamp sound studio events run has) (sounds_by_timestamp sound other others runs have)
