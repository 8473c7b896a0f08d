-- Packets that have a stream's length, after one more.
use Rattle.std.proofs.Common.{◌≡◌, Bool, true, false, nat_eq, List, [], ◌∷◌, ◌++◌, length, if◌then◌else◌, refl, sym, ap, ◌∙◌, arith}
use Rattle.std.proofs.lemmas.Bool.Decides.{nat_tests}
use Rattle.rtp_stream.specs.declared.stream_spec.Stream.{Stream}
use Rattle.rtp_stream.specs.StreamSpecFacts.{format_of}
use Rattle.rtp_stream.specs.StreamSpec.{Fits}
use Rattle.rtp_stream.specs.MarkFacts.{payload_length}
use Rattle.rtp_stream.specs.declared.packet.Packet.{Packet}
use Rattle.studio_ends.specs.Fitting.{fitting}

by_fit : (b : Bool) (x : Packet) (l fs gs : List Packet) → l ≡ fs ++ gs → (if b then x ∷ l else l) ≡ (if b then x ∷ fs else fs) ++ gs
by_fit true x l fs gs e = ap (λ m. x ∷ m) e
by_fit false x l fs gs e = e

pub fitting-append : (stream : Stream) (xs ys : List Packet) → fitting stream (xs ++ ys) ≡ fitting stream xs ++ fitting stream ys
fitting-append stream [] ys = refl
fitting-append stream (x ∷ xs) ys = by_fit (nat_eq (length x.payload.items) (payload_length (format_of stream))) x (fitting stream (xs ++ ys)) (fitting stream xs) (fitting stream ys) (fitting-append stream xs ys)

pub fitting-one : (stream : Stream) (packet : Packet) → Fits stream packet → fitting stream (packet ∷ []) ≡ packet ∷ []
fitting-one stream packet fits =
    let t : nat_eq (length packet.payload.items) (payload_length (format_of stream)) ≡ true = grind (arith, nat_tests, fits) in
    ap (λ b. if b then packet ∷ [] else []) t

pub fitting-none : (stream : Stream) (packet : Packet) → (Fits stream packet → ⊥) → fitting stream (packet ∷ []) ≡ []
fitting-none stream packet not_fits =
    let t : nat_eq (length packet.payload.items) (payload_length (format_of stream)) ≡ false = grind (arith, nat_tests, not_fits) in
    ap (λ b. if b then packet ∷ [] else []) t

-- packets that all have the stream's length, and one more that has it
pub fitting-more : (stream : Stream) (xs ys : List Packet) (packet : Packet) → ys ≡ xs ++ packet ∷ [] → fitting stream xs ≡ xs → Fits stream packet → fitting stream ys ≡ ys
fitting-more stream xs ys packet is all fits =
    ap (fitting stream) is ∙ (fitting-append stream xs (packet ∷ []) ∙ (ap (λ l. l ++ fitting stream (packet ∷ [])) all ∙ (ap (λ l. xs ++ l) (fitting-one stream packet fits) ∙ sym is)))
