-- A table with a capture's next packet, or its fault.
use Rattle.std.proofs.Common.{◌≡◌, ℕ, List, [], ◌∷◌, ◌++◌, map, Option, Some, None, Ok, Err, refl, sym, ap, ◌∙◌, append-nil}
use Rattle.std.proofs.lemmas.List.{map-append}
use Rattle.pcap_file.specs.declared.fault.CaptureFault.{CaptureFault}
use Rattle.pcap_file.specs.declared.decode.record_mark.RecordMark.{RecordMark}
use Rattle.pcap_file.specs.Entries.{Entry, entries_in}
use Rattle.pcap_file.specs.Packet.{PacketView}
use Rattle.pcap_file.specs.Capture.{Item, packets_of}
use Rattle.pcap_flows.specs.FlowTable.{TableView, no_table, table_after, table_with}
use Rattle.pcap_file.specs.Reader.{HasEntries, IsFaultBehind, packets_among}
use Rattle.pcap_file.proofs.ReaderEntryLemmas.{among_more}

table_more : (t : TableView) (items : List Item) (item : Item) → table_after t (items ++ item ∷ []) ≡ table_with (table_after t items) item
unfolding table_after
table_more t [] item = refl
table_more t (i ∷ items) item = table_more (table_with t i) items item

-- no packet so far
pub seen_none : no_table ≡ table_after no_table []
unfolding table_after
seen_none = refl

seen_packet : (old new : TableView) (packets : List PacketView) (packet : PacketView) → new ≡ table_with old (Ok packet) → old ≡ table_after no_table (map Ok packets)
    → new ≡ table_after no_table (map Ok (packets ++ packet ∷ []))
seen_packet old new packets packet is seen =
    is ∙ ap (λ t. table_with t (Ok packet)) seen ∙ sym (table_more no_table (map Ok packets) (Ok packet)) ∙ ap (table_after no_table) (sym (map-append Ok packets (packet ∷ [])))

seen_more : (table : TableView) (packets : List PacketView) → table ≡ table_after no_table (map Ok packets) → table ≡ table_after no_table (map Ok (packets ++ []))
seen_more table packets seen = seen ∙ ap (λ l. table_after no_table (map Ok l)) (sym (append-nil packets))

-- the packet of a record or a block was counted, if it has one
pub seen_part : (old new : TableView) (entries : List Entry) (packet : PacketView) (tells : Option RecordMark) → new ≡ table_with old (Ok packet) → old ≡ table_after no_table (map Ok (packets_among entries))
    → new ≡ table_after no_table (map Ok (packets_among (entries ++ entries_in (Some packet) tells)))
seen_part old new entries packet tells is seen =
    seen_packet old new (packets_among entries) packet is seen ∙ ap (λ l. table_after no_table (map Ok l)) (sym (among_more entries (Some packet) tells))

pub seen_same : (table : TableView) (entries : List Entry) (tells : Option RecordMark) → table ≡ table_after no_table (map Ok (packets_among entries))
    → table ≡ table_after no_table (map Ok (packets_among (entries ++ entries_in None tells)))
seen_same table entries tells seen = seen_more table (packets_among entries) seen ∙ ap (λ l. table_after no_table (map Ok l)) (sym (among_more entries None tells))

seen_with : (file : List ℕ) (old new : TableView) (packets : List PacketView) (fault : CaptureFault) → new ≡ table_with old (Err fault) → old ≡ table_after no_table (map Ok packets)
    → packets_of file ≡ map Ok packets ++ Err fault ∷ [] → new ≡ table_after no_table (packets_of file)
seen_with file old new packets fault is seen behind =
    is ∙ ap (λ t. table_with t (Err fault)) seen ∙ sym (table_more no_table (map Ok packets) (Err fault)) ∙ ap (table_after no_table) (sym behind)

pub seen_fault : (file : List ℕ) (old new : TableView) (entries : List Entry) (fault : CaptureFault) → new ≡ table_with old (Err fault) → old ≡ table_after no_table (map Ok (packets_among entries))
    → IsFaultBehind file entries fault → new ≡ table_after no_table (packets_of file)
seen_fault file old new entries fault is seen behind = seen_with file old new (packets_among entries) fault is seen behind.packets

pub seen_all : (file : List ℕ) (table : TableView) (entries : List Entry) → table ≡ table_after no_table (map Ok (packets_among entries)) → HasEntries file entries → table ≡ table_after no_table (packets_of file)
seen_all file table entries seen whole = seen ∙ ap (table_after no_table) (sym whole.packets)

-- a file whose header is at fault
pub seen_header : (file : List ℕ) (new : TableView) (fault : CaptureFault) → new ≡ table_with no_table (Err fault) → packets_of file ≡ Err fault ∷ [] → new ≡ table_after no_table (packets_of file)
seen_header file new fault is behind = seen_with file no_table new [] fault is seen_none behind
