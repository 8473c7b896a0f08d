-- The marks of a record, which a live run wrote: the times at which its studio was opened and closed.
use Rattle.std.specs.Prelude.{◌-◌, ◌^◌, ℕ, List, [], ◌++◌, length, take, drop, slice_get, slice_range, Option, Some, None, option_map, option_and_then, Result, Ok, Err, codes, decimal, bytes_eq, nat_lt, ◌==◌, ◌&&◌, if◌then◌else◌}
use Rattle.std.specs.Str.Parse.{digits_value}
use Rattle.pcap_file.specs.declared.decode.endian.Endian.{Endian}
use Rattle.pcap_file.specs.declared.decode.interface.Interface.{Interface}
use Rattle.pcap_file.specs.declared.fault.CaptureFaultKind.{CaptureFaultKind}
use Rattle.pcap_file.specs.declared.decode.record_mark.RecordMark.{RecordMark}
use Rattle.pcap_file.specs.declared.decode.record_mark.RecordMark.TheVariants as mark
use Rattle.pcap_file.specs.Octets.{number_at}
use Rattle.pcap_file.specs.Options.{option_of}
use Rattle.pcap_file.specs.Interface.{time_of, time_units}

-- the comment of a record: its studio's opening time in sampling instants
abbrev pub opening_text : ℕ → List ℕ
opening_text open_at = codes "open_at " ++ decimal open_at

-- the number below 2^63 whose decimal text this is
abbrev pub number_if : ℕ → List ℕ → Option ℕ
number_if number text = if nat_lt number (2 ^ 63) && bytes_eq text (decimal number) then Some number else None

unfoldable pub number_in : List ℕ → Option ℕ
number_in text = number_if (digits_value 10 text) text

-- the opening time in a comment
abbrev pub opening_in : List ℕ → Option ℕ
opening_in comment = if bytes_eq (take 8 comment) (codes "open_at ") then number_in (drop 8 comment) else None

-- an option's text, or an empty text if the option isn't found
abbrev pub found_text : Result (Option (List ℕ)) CaptureFaultKind → List ℕ
found_text (Ok None) = []
found_text (Ok (Some text)) = text
found_text (Err kind) = []

abbrev pub text_at : Endian → ℕ → List ℕ → List ℕ
text_at order code options = found_text (option_of order code options)

-- the options of a section header, between its fixed fields and the length at its end
abbrev pub section_options : List ℕ → List ℕ
section_options block = slice_range block 24 (length block - 4)

-- the opening time in a section header, if its writer, the option 4, is `darbexum`, and its comment, the option 1, has
-- it
unfoldable pub opened_by : Endian → List ℕ → Option RecordMark
opened_by order block =
    if nat_lt (length block) 28 then None
    else (if bytes_eq (text_at order 4 (section_options block)) (codes "darbexum")
    then option_map (λ open_at. mark.Opened open_at) (opening_in (text_at order 1 (section_options block))) else None)

-- the time of an interface's statistics, if the interface is described and 64 bits hold the nanoseconds
unfoldable pub closed_by : Endian → List Interface → List ℕ → Option RecordMark
closed_by order interfaces block =
    if nat_lt (length block) 24 then None
    else option_map (λ time. mark.Closed time)
    (option_and_then (λ interface. time_of interface (time_units order block)) (slice_get interfaces (number_at order 4 8 block)))

-- the mark in a whole block: a section header, or statistics, whose type is 5
abbrev pub mark_of : Endian → List Interface → List ℕ → Option RecordMark
mark_of order interfaces block =
    if number_at order 4 0 block == 0x0a0d0d0a then opened_by order block
    else (if number_at order 4 0 block == 5 then closed_by order interfaces block else None)
