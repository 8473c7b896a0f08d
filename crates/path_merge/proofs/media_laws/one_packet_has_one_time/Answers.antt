use Rattle.std.proofs.Common.{subst, sym}
use Rattle.rtp_stream.specs.Anchor.{media_time_of}
use Rattle.rtp_stream.specs.History.{time_of}
use Rattle.path_merge.proofs.MediaTimeLemmas.{copy_media_time, one_time}
use Rattle.path_merge.specs.MediaTime.{IsMediaTimeOf}
use Rattle.path_merge.proofs.media_laws.one_packet_has_one_time.Goals as goal

pub returns-clause-copies : goal.returns-clause-copies
returns-clause-copies c one other offset open_at other_open_at before other_before path other_path packet other_packet anchor other_anchor number other_number ok other_ok clock other_clock timed other_timed copy other_copy stamps near =
    one_time one other offset packet.ts (time_of open_at before) (time_of other_open_at other_before) (media_time_of one anchor number) (media_time_of other other_anchor other_number) ok other_ok near
    (copy_media_time one offset open_at ok clock before path packet anchor number timed copy)
    (subst (λ ts. IsMediaTimeOf other offset ts (time_of other_open_at other_before) (media_time_of other other_anchor other_number)) (sym stamps) (copy_media_time other offset other_open_at other_ok other_clock other_before other_path other_packet other_anchor other_number other_timed other_copy))

pub returns-clause-slots : goal.returns-clause-slots
returns-clause-slots c one other offset open_at other_open_at events other_events epoch other_epoch number other_number media other_media octets other_octets slot other_slot ok other_ok stamps near =
    one_time one other offset slot.carried.packet.ts (time_of open_at slot.carried.before) (time_of other_open_at other_slot.carried.before) media other_media ok other_ok near slot.media_time
    (subst (λ ts. IsMediaTimeOf other offset ts (time_of other_open_at other_slot.carried.before) other_media) (sym stamps) other_slot.media_time)
