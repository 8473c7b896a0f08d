-- The opening and the close among the entries of a file.
use Rattle.std.proofs.Common.{◌≡◌, ℕ, Bool, List, [], ◌∷◌, ◌++◌, Option, Some, None, refl, ap, ◌∙◌}
use Rattle.pcap_file.specs.declared.decode.record_mark.RecordMark.{RecordMark}
use Rattle.pcap_file.specs.declared.decode.record_mark.RecordMark.TheVariants.{Opened, Closed}
use Rattle.pcap_file.specs.declared.block_parser.BlockParser.{BlockParser}
use Rattle.pcap_file.specs.Packet.{PacketView}
use Rattle.pcap_file.specs.Entries.{Entry, Packet, Mark, entries_at, entries_in, entries_of}
use Rattle.pcap_file.specs.Reader.{HasReturned}
use Rattle.pcap_replay.specs.Record.{closing_in, closing_with, opening_decided, opening_in}

-- the close behind some entries, with one mark more
closing_mark : (tells : Option RecordMark) → closing_in (entries_in None tells) ≡ closing_with None tells
closing_mark None = refl
closing_mark (Some (Opened open_at)) = refl
closing_mark (Some (Closed time)) = refl

closing_one : (packet : Option PacketView) (tells : Option RecordMark) → closing_in (entries_in packet tells) ≡ closing_with None tells
closing_one None tells = closing_mark tells
closing_one (Some p) tells = closing_mark tells

pub closing_more : (entries : List Entry) (packet : Option PacketView) (tells : Option RecordMark) → closing_in (entries ++ entries_in packet tells) ≡ closing_with (closing_in entries) tells
closing_more [] packet tells = closing_one packet tells
closing_more (Packet p ∷ entries) packet tells = closing_more entries packet tells
closing_more (Mark (Opened open_at) ∷ entries) packet tells = closing_more entries packet tells
closing_more (Mark (Closed time) ∷ entries) packet tells = refl

-- entries that decide of the opening are the first
decided : (entries later : List Entry) (given : Option ℕ) → opening_decided entries ≡ Some given → opening_in (entries ++ later) ≡ given
decided [] later given is = absurd (let f : None ≡ Some given = is in cc)
decided (Packet p ∷ entries) later given is = let e : None ≡ given = cc in e
decided (Mark mark ∷ entries) later given is = let e : opening_in (Mark mark ∷ entries) ≡ given = cc in e

-- a file that begins with them is a record by them, or is none
pub opening_told : (file : List ℕ) (entries : List Entry) (given : Option ℕ) (left : Option (List ℕ)) (parts : BlockParser) (held : List ℕ) (ended : Bool) → opening_decided entries ≡ Some given
    → HasReturned file entries left parts held ended → opening_in (entries_of file) ≡ given
opening_told file entries given left parts held ended is told = ap opening_in told.all ∙ decided entries (entries_at parts (held ++ told.rest)) given is
