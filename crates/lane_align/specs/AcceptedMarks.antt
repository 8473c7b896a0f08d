-- The marks of a list that are accepted.
use Rattle.std.specs.Prelude.{List, [], ◌∷◌, ◌++◌, if◌then◌else◌}
use Rattle.rtp_stream.specs.MarkFacts.{MarkView}
use Rattle.rtp_stream.specs.MarkList.{is_mark_list}
use Rattle.rtp_stream.specs.declared.mark.PacketFormat.{PacketFormat}

-- the accepted marks after one more mark, which is accepted if the marks stay a mark list with it
abbrev pub accepted_with : PacketFormat → List MarkView → MarkView → List MarkView
accepted_with format accepted mark = if is_mark_list format (accepted ++ mark ∷ []) then accepted ++ mark ∷ [] else accepted

abbrev pub accepted_after : PacketFormat → List MarkView → List MarkView → List MarkView
accepted_after format accepted [] = accepted
accepted_after format accepted (mark ∷ marks) = accepted_after format (accepted_with format accepted mark) marks

-- the marks of a list that are accepted, one after another
abbrev pub accepted_marks : PacketFormat → List MarkView → List MarkView
accepted_marks format marks = accepted_after format [] marks
