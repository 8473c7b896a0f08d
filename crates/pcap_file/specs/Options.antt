-- The options of a block (pcapng, Options): each has a code and a length of two octets each, and its value, padded to
-- four octets.
use Rattle.std.specs.Prelude.{◌+◌, ◌*◌, ◌/◌, ℕ, zero, suc, List, length, drop, slice_range, Option, Some, None, option_map, Result, Ok, Err, nat_lt, ◌==◌, if◌then◌else◌}
use Rattle.std.specs.Borrow.{Bor}
use Rattle.std.specs.Result.{result_map_both}
use Rattle.pcap_file.specs.declared.decode.endian.Endian.{Endian}
use Rattle.pcap_file.specs.declared.fault.CaptureFaultKind.{CaptureFaultKind}
use Rattle.pcap_file.specs.declared.fault.CaptureFaultKind.TheVariants as fault
use Rattle.pcap_file.specs.Octets.{number_at}

-- an option's code, the place where its value ends, and the place where the next option begins
abbrev pub code_of : Endian → List ℕ → ℕ
code_of order options = number_at order 2 0 options

abbrev pub value_end : Endian → List ℕ → ℕ
value_end order options = 4 + number_at order 2 2 options

abbrev pub option_end : Endian → List ℕ → ℕ
option_end order options = 4 * ((value_end order options + 3) / 4)

-- the value of the first option with a code, among at most `count` options; the code 0 ends them, and so does the block
unfoldable pub option_among : ℕ → Endian → ℕ → List ℕ → Result (Option (List ℕ)) CaptureFaultKind
option_among zero order code options = Ok None
option_among (suc count) order code options =
    if nat_lt (length options) 4 then Ok None
    else (if code_of order options == 0 then Ok None
    else (if nat_lt (length options) (value_end order options) then Err fault.Options
    else (if code_of order options == code then Ok (Some (slice_range options 4 (value_end order options)))
    else option_among count order code (drop (option_end order options) options))))

-- the value of the first option with a code, among all options: there are no more of them than octets
abbrev pub option_of : Endian → ℕ → List ℕ → Result (Option (List ℕ)) CaptureFaultKind
option_of order code options = option_among (length options) order code options

-- the view of the value in the code
abbrev pub value_view : Result (Option (Bor (List ℕ))) CaptureFaultKind → Result (Option (List ℕ)) CaptureFaultKind
value_view value = result_map_both (option_map (λ octets. octets.now)) (λ kind. kind) value
