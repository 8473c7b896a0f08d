-- The packets among entries, with those of a record or a block more.
use Rattle.std.proofs.Common.{◌≡◌, List, [], ◌∷◌, ◌++◌, Option, Some, None, refl, ap, ◌∙◌}
use Rattle.std.specs.Option.{option_to_list}
use Rattle.pcap_file.specs.declared.decode.record_mark.RecordMark.{RecordMark}
use Rattle.pcap_file.specs.Packet.{PacketView}
use Rattle.pcap_file.specs.Entries.{Entry, Packet, Mark, entries_in}
use Rattle.pcap_file.specs.Reader.{packets_among}

among_marks : (tells : Option RecordMark) → packets_among (entries_in None tells) ≡ []
among_marks None = refl
among_marks (Some mark) = refl

among_one : (packet : Option PacketView) (tells : Option RecordMark) → packets_among (entries_in packet tells) ≡ option_to_list packet
among_one None tells = among_marks tells
among_one (Some p) tells = ap (λ l. p ∷ l) (among_marks tells)

among_both : (entries more : List Entry) → packets_among (entries ++ more) ≡ packets_among entries ++ packets_among more
among_both [] more = refl
among_both (Packet p ∷ entries) more = ap (λ l. p ∷ l) (among_both entries more)
among_both (Mark mark ∷ entries) more = among_both entries more

pub among_more : (entries : List Entry) (packet : Option PacketView) (tells : Option RecordMark) → packets_among (entries ++ entries_in packet tells) ≡ packets_among entries ++ option_to_list packet
among_more entries packet tells = among_both entries (entries_in packet tells) ∙ ap (λ l. packets_among entries ++ l) (among_one packet tells)
