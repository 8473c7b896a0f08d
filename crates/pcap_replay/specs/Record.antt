-- The marks of a live run among the entries of a file.
use Rattle.std.specs.Prelude.{ℕ, List, [], ◌∷◌, Option, Some, None}
use Rattle.pcap_file.specs.declared.decode.record_mark.RecordMark.{RecordMark}
use Rattle.pcap_file.specs.declared.decode.record_mark.RecordMark.TheVariants.{Opened, Closed}
use Rattle.pcap_file.specs.Entries.{Entry, Packet, Mark}

-- the opening time of the studio, by a mark
abbrev pub opening_by : RecordMark → Option ℕ
opening_by (Opened open_at) = Some open_at
opening_by (Closed time) = None

-- the opening time by the entries of a file: it is in the first mark, before the first packet; other files are no
-- record of a run
abbrev pub opening_in : List Entry → Option ℕ
opening_in [] = None
opening_in (Packet packet ∷ entries) = None
opening_in (Mark mark ∷ entries) = opening_by mark

-- what the entries of a record or a block say about the opening time; nothing is decided if there are none
abbrev pub opening_decided : List Entry → Option (Option ℕ)
opening_decided [] = None
opening_decided (entry ∷ entries) = Some (opening_in (entry ∷ entries))

-- the time at which the studio was closed, by the first mark of a close, anywhere in the file
abbrev pub closing_in : List Entry → Option ℕ
closing_in [] = None
closing_in (Packet packet ∷ entries) = closing_in entries
closing_in (Mark (Opened open_at) ∷ entries) = closing_in entries
closing_in (Mark (Closed time) ∷ entries) = Some time

-- the time of the close after one more mark, if there is one
abbrev pub closing_with : Option ℕ → Option RecordMark → Option ℕ
closing_with (Some time) mark = Some time
closing_with None None = None
closing_with None (Some (Opened open_at)) = None
closing_with None (Some (Closed time)) = Some time

-- the place of the record or block with the first mark of a close, by that of the ones so far and the place of one more
abbrev pub place_with : Option ℕ → ℕ → ℕ → ℕ
place_with (Some time) so_far place = so_far
place_with None so_far place = place
