-- The times at which a stream is present: those of the packets that came.
use Rattle.std.specs.Prelude.{ℕ, Bool, true, false, ◌&&◌, List, map, ℤ, pos, ◌+ℤ◌, replicate, if◌then◌else◌}
use Rattle.std.specs.List.{range_with_len, list_any}
use Rattle.rtp_stream.specs.MarkFacts.{MarkView}
use Rattle.rtp_stream.specs.declared.mark.PacketFormat.{PacketFormat}
use Rattle.rtp_stream.specs.declared.mark.Body.{Body}
use Rattle.rtp_stream.specs.declared.mark.Body.TheVariants.{Got, Lost}
use Rattle.rtp_stream.specs.declared.mark.MarkKind.{MarkKind}
use Rattle.rtp_stream.specs.declared.mark.MarkKind.TheVariants.{Slot, Quiet, End}
use Rattle.lane_align.specs.Value.{is_within}

-- the packet came
abbrev pub is_got : Body → Bool
is_got (Got payload) = true
is_got Lost = false

-- the mark is a slot whose packet came, and the time is that of one of its frames
abbrev pub brings : ℕ → MarkKind → ℤ → Bool
brings frames (Slot epoch number media body) t = is_got body && is_within frames media t
brings frames (Quiet until) t = false
brings frames End t = false

-- a packet that came has the frame of this time
abbrev pub is_present : PacketFormat → List MarkView → ℤ → Bool
is_present format marks t = list_any (λ (mark : MarkView). brings format.frames mark.kind t) marks

-- 1 if the stream is present at the time, and 0 if not
abbrev pub presence_at : PacketFormat → List MarkView → ℤ → ℤ
presence_at format marks t = if is_present format marks t then pos 1 else pos 0

-- the presence of frames from a time on
abbrev pub presence_from : PacketFormat → List MarkView → ℤ → ℕ → List ℤ
presence_from format marks t count = map (λ f. presence_at format marks (t +ℤ pos f)) (range_with_len 0 count)

-- the presence of a slot's frames
abbrev pub body_presence : ℕ → Body → List ℤ
body_presence frames (Got payload) = replicate frames (pos 1)
body_presence frames Lost = replicate frames (pos 0)
