-- The numbers of a tally, by the fields that name them.
use Rattle.std.specs.Prelude.{ℕ, List, codes}
use Rattle.rtp_stream.specs.CountsFacts.{Tally}
use Rattle.rtp_stream.specs.declared.count_field.CountField.{CountField}
use Rattle.rtp_stream.specs.declared.count_field.CountField.TheVariants.{Arrived, Taken, Double, Unlike, OffGrid, Late, Ahead, WrongSource, Got, Lost, Restarts}

-- the name of a number on the page
abbrev pub count_key : CountField → List ℕ
count_key Arrived = codes "arrived"
count_key Taken = codes "taken"
count_key Double = codes "double"
count_key Unlike = codes "unlike"
count_key OffGrid = codes "off_grid"
count_key Late = codes "late"
count_key Ahead = codes "ahead"
count_key WrongSource = codes "wrong_source"
count_key Got = codes "got"
count_key Lost = codes "lost"
count_key Restarts = codes "restarts"

-- the name of a number in a report
abbrev pub count_word : CountField → List ℕ
count_word WrongSource = codes "source"
count_word field = count_key field

-- the description of a number
abbrev pub count_help : CountField → List ℕ
count_help Arrived = codes "Packets that came to the merge."
count_help Taken = codes "Packets that were the first copy of their number."
count_help Double = codes "Further copies, with the payload of the first."
count_help Unlike = codes "Further copies, with another payload than the first."
count_help OffGrid = codes "Packets whose timestamp was not in step with their number."
count_help Late = codes "Packets that came after their deadline."
count_help Ahead = codes "Packets beyond the reorder window."
count_help WrongSource = codes "Packets of another synchronization source."
count_help Got = codes "Slots that were passed to the mix with a payload."
count_help Lost = codes "Slots that were passed to the mix as lost."
count_help Restarts = codes "Packets that opened a new epoch."

-- the value of a number
abbrev pub count_value : CountField → Tally → ℕ
count_value Arrived counts = counts.arrived
count_value Taken counts = counts.taken
count_value Double counts = counts.double
count_value Unlike counts = counts.unlike
count_value OffGrid counts = counts.off_grid
count_value Late counts = counts.late
count_value Ahead counts = counts.ahead
count_value WrongSource counts = counts.wrong_source
count_value Got counts = counts.got
count_value Lost counts = counts.lost
count_value Restarts counts = counts.restarts
