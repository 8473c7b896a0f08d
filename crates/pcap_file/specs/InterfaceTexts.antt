-- The texts of an interface: its name and its description (pcapng, Interface Description Block).
use Rattle.std.specs.Prelude.{ℕ, List, length, Option, Some, None, nat_lt, ◌==◌, if◌then◌else◌}
use Rattle.pcap_file.specs.declared.cursor.Format.{Format}
use Rattle.pcap_file.specs.declared.cursor.Format.TheVariants as format
use Rattle.pcap_file.specs.declared.decode.endian.Endian.{Endian}
use Rattle.pcap_file.specs.declared.decode.interface_texts.InterfaceTexts.{InterfaceTexts}
use Rattle.pcap_file.specs.Octets.{number_at}
use Rattle.pcap_file.specs.Interface.{interface_options}
use Rattle.pcap_file.specs.Mark.{text_at}

-- the option 2, `if_name`, and the option 3, `if_description`; a text is empty if its option isn't found
pub record TextsView : Type 0 where
  pub name : List ℕ
  pub description : List ℕ

-- the texts in a block, if it describes an interface: its type is 1, and it has space for the fields of a description
unfoldable pub texts_in : Endian → List ℕ → Option TextsView
texts_in order block =
    if nat_lt (length block) 20 then None
    else (if number_at order 4 0 block == 1
    then Some (record { name = text_at order 2 (interface_options block); description = text_at order 3 (interface_options block) })
    else None)

-- the texts in a block of a capture: no record of a pcap file describes an interface
abbrev pub texts_as : Format → Endian → List ℕ → Option TextsView
texts_as (format.Pcap header) order block = None
texts_as format.Pcapng order block = texts_in order block

-- the view of the value in the code
abbrev pub texts_view : InterfaceTexts → TextsView
texts_view t = record { name = t.name.now; description = t.description.now }
