-- The value of a stream's channel at a media time.
use Rattle.std.specs.Prelude.{ℕ, ◌+◌, ◌*◌, Bool, ◌&&◌, List, [], ◌∷◌, map, ℤ, pos, ◌+ℤ◌, ◌-ℤ◌, int_lt, int_le, Option, Some, None, unwrap_or, unsigned_abs, if◌then◌else◌}
use Rattle.std.specs.Option.{option_or}
use Rattle.std.specs.List.{range_with_len, flat_map}
use Rattle.rtp_wire.specs.Sample.{sample_at}
use Rattle.rtp_stream.specs.MarkFacts.{MarkView}
use Rattle.rtp_stream.specs.declared.mark.PacketFormat.{PacketFormat}
use Rattle.rtp_stream.specs.declared.mark.Body.{Body}
use Rattle.rtp_stream.specs.declared.mark.Body.TheVariants.{Got, Lost}
use Rattle.rtp_stream.specs.declared.mark.MarkKind.{MarkKind}
use Rattle.rtp_stream.specs.declared.mark.MarkKind.TheVariants.{Slot, Quiet, End}

-- the time is that of one of the frames from `media` on
abbrev pub is_within : ℕ → ℤ → ℤ → Bool
is_within frames media t = int_le media t && int_lt t (media +ℤ pos frames)

-- a channel's sample at this frame of a packet, if the packet came
abbrev pub sample_of : PacketFormat → Body → ℕ → ℕ → Option ℤ
sample_of format (Got payload) frame k = Some (sample_at format.enc payload.items (frame * format.channels + k))
sample_of format Lost frame k = None

-- a channel's sample at a time, if the mark is a slot that has this sample
abbrev pub sample_in : PacketFormat → MarkKind → ℤ → ℕ → Option ℤ
sample_in format (Slot epoch number media body) t k =
    if is_within format.frames media t then sample_of format body (unsigned_abs (t -ℤ media)) k else None
sample_in format (Quiet until) t k = None
sample_in format End t k = None

-- a channel's sample at a time, if one of the marks is a slot that has this sample
abbrev pub sample_among : PacketFormat → List MarkView → ℤ → ℕ → Option ℤ
sample_among format [] t k = None
sample_among format (mark ∷ marks) t k = option_or (sample_in format mark.kind t k) (sample_among format marks t k)

-- the value of a channel at a time: its sample, or silence if no mark has a sample
abbrev pub value_at : PacketFormat → List MarkView → ℤ → ℕ → ℤ
value_at format marks t k = unwrap_or (sample_among format marks t k) (pos 0)

-- the values of all channels at a time
abbrev pub frame_at : PacketFormat → List MarkView → ℤ → List ℤ
frame_at format marks t = map (value_at format marks t) (range_with_len 0 format.channels)

-- the values of frames from a time on, frame by frame
abbrev pub frames_from : PacketFormat → List MarkView → ℤ → ℕ → List ℤ
frames_from format marks t count = flat_map (λ f. frame_at format marks (t +ℤ pos f)) (range_with_len 0 count)
