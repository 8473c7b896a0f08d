-- The paths that a record describes: one more at their front, and those of a block more behind them.
use Rattle.std.proofs.Common.{◌≡◌, ℕ, suc, ◌+◌, Bool, true, false, List, ◌∷◌, ◌++◌, take, drop, Option, Some, None, option_map, Result, Ok, Err, IfOk, sym, ap, subst, ◌∙◌}
use Rattle.std.specs.Prelude.{is_some}
use Rattle.std.specs.Option.{option_to_list}
use Rattle.pcap_file.specs.declared.block_parser.BlockParser.{BlockParser}
use Rattle.pcap_file.specs.declared.decode.Packet.{Packet}
use Rattle.pcap_file.specs.Packet.{packet_view}
use Rattle.pcap_file.specs.InterfaceTexts.{TextsView, texts_as}
use Rattle.pcap_file.specs.Described.{DescribesNext, HasDescribed, interfaces_of}
use Rattle.rtp_stream.specs.declared.stream_spec.Stream.{Stream}
use Rattle.pcap_replay.specs.declared.recording.RecordedPath.{RecordedPath}
use Rattle.pcap_replay.specs.RecordedPaths.{Begins, IsPathOf}

pub ok_then : {X E : Type 0} (r : Result X E) (P Q : X → Type 0) → ((x : X) → P x → Q x) → IfOk r P → IfOk r Q
ok_then (Ok x) P Q f p = f x p
ok_then (Err e) P Q f p = tt

pub begins_more : (number : ℕ) (stream : Stream) (letter left count : ℕ) (path : RecordedPath) (behind paths rest : List RecordedPath)
    → count ≡ suc left → paths ≡ path ∷ behind → IsPathOf number stream letter path → Begins number stream (letter + 1) left behind rest
    → Begins number stream letter count paths rest
begins_more number stream letter left count path behind paths rest is list own more =
    subst (λ n. Begins number stream letter n paths rest) (sym is) (subst (λ l. Begins number stream letter (suc left) l rest) (sym list) (own, more))

-- the octets of a block were passed over
pub consumed_as : (file : List ℕ) (texts : List TextsView) (left : Option (List ℕ)) (parts : BlockParser) (held now : List ℕ) (ended over : Bool) → now ≡ held → over ≡ ended → HasDescribed file texts left parts held ended → HasDescribed file texts left parts now over
consumed_as file texts left parts held now ended over same still has =
    subst (λ h. HasDescribed file texts left parts h over) (sym same) (subst (λ e. HasDescribed file texts left parts held e) (sym still) has)

-- a block without a packet was passed over, and its texts were added
pub described_texts : (file : List ℕ) (texts more : List TextsView) (left : Option (List ℕ)) (parts : BlockParser) (held : List ℕ) (ended : Bool) (len : ℕ) (packet : Option Packet) (own : Option TextsView)
    → is_some packet ≡ false → own ≡ texts_as parts.format parts.section.order (take len held) → more ≡ texts ++ option_to_list own → DescribesNext file texts left parts held ended len (option_map packet_view packet)
    → HasDescribed file more left parts (drop len held) ended
described_texts file texts more left parts held ended len None own none is added next =
    subst (λ l. HasDescribed file l left parts (drop len held) ended) (sym (added ∙ ap (λ o. texts ++ option_to_list o) is)) next
described_texts file texts more left parts held ended len (Some packet) own none is added next = absurd (let f : true ≡ false = none in cc)

-- the block has a packet
pub no_more_texts : (file : List ℕ) (texts : List TextsView) (left : Option (List ℕ)) (parts : BlockParser) (held : List ℕ) (ended : Bool) (len : ℕ) (packet : Option Packet)
    → is_some packet ≡ true → DescribesNext file texts left parts held ended len (option_map packet_view packet) → texts ≡ interfaces_of file
no_more_texts file texts left parts held ended len None some next = absurd (let f : false ≡ true = some in cc)
no_more_texts file texts left parts held ended len (Some packet) some next = sym next
