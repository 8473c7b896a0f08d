use Rattle.studio_session.proofs.SoundOfEventsLemmas.{packets_of_sound, values_of_sound, sounds_by_timestamp}
use Rattle.studio_session.proofs.sound_laws.events_have_the_sound_of_their_packets.Goals as goal

pub returns-clause-packets : goal.returns-clause-packets
returns-clause-packets c = packets_of_sound

pub returns-clause-values : goal.returns-clause-values
returns-clause-values c = values_of_sound

pub returns-clause-by_timestamp : goal.returns-clause-by_timestamp
returns-clause-by_timestamp c = sounds_by_timestamp
