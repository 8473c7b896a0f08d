-- Options that are written are read back.
use Rattle.std.proofs.Common.{◌≡◌, ◌≢◌, ◌<◌, ◌≤◌, ◌+◌, ◌*◌, ◌%◌, ℕ, List, [], ◌++◌, length, min, replicate, Some, None, Ok, refl, sym, ap, ◌∙◌, arith, append_assoc, length-append}
use Rattle.std.proofs.lemmas.List.{length-replicate}
use Rattle.byteorder.specs.Endian.{little_bytes}
use Rattle.pcap_file.specs.declared.decode.endian.Endian.TheVariants.{Little}
use Rattle.pcap_file.specs.Octets.{number_at}
use Rattle.pcap_file.specs.Options.{code_of, option_end, option_of, value_end}
use Rattle.pcap_file.proofs.OptionsLemmas.{option_of-end, option_of-found, option_of-next}
use Rattle.pcap_file.specs.Blocks.{option_octets, options_end, padded}
use Rattle.pcap_file.proofs.OctetLemmas.{behind_front, midst, number_behind}

pub length-padded : (octets : List ℕ) → length (padded octets) ≡ length octets + 3 * length octets % 4
unfolding padded
length-padded octets = length-append octets (replicate (3 * length octets % 4) 0) ∙ ap (λ n. length octets + n) (length-replicate {A = ℕ} (3 * length octets % 4) 0)

pub length-option : (code : ℕ) (value : List ℕ) → length (option_octets code value) ≡ 4 + (length value + 3 * length value % 4)
unfolding option_octets
length-option code value = omega (arith, length-padded value)

-- an option before others, piece by piece
pieces : (code : ℕ) (value rest : List ℕ)
    → option_octets code value ++ rest ≡ (little_bytes 2 code ++ little_bytes 2 (length value)) ++ (value ++ (replicate (3 * length value % 4) 0 ++ rest))
unfolding option_octets padded
pieces code value rest =
    append_assoc (little_bytes 2 code ++ little_bytes 2 (length value)) (value ++ replicate (3 * length value % 4) 0) rest
    ∙ ap (λ l. (little_bytes 2 code ++ little_bytes 2 (length value)) ++ l) (append_assoc value (replicate (3 * length value % 4) 0) rest)

code_is : (code : ℕ) (value rest : List ℕ) → code < 65536 → code_of Little (option_octets code value ++ rest) ≡ code
code_is code value rest fits =
    number_behind 2 0 code [] (little_bytes 2 (length value) ++ (value ++ (replicate (3 * length value % 4) 0 ++ rest))) _ (pieces code value rest) refl fits

end_is : (code : ℕ) (value rest : List ℕ) → length value < 65536 → value_end Little (option_octets code value ++ rest) ≡ 4 + length value
end_is code value rest fits =
    ap (λ n. 4 + n) (number_behind 2 2 (length value) (little_bytes 2 code) (value ++ (replicate (3 * length value % 4) 0 ++ rest)) _ (pieces code value rest) refl fits)

-- one with the code that is looked for
pub option_found : (code : ℕ) (value rest : List ℕ) → 1 ≤ code → code < 65536 → length value < 65536
    → option_of Little code (option_octets code value ++ rest) ≡ Ok (Some value)
option_found code value rest some fits short =
    let options : List ℕ = option_octets code value ++ rest in
    let is = code_is code value rest fits in
    let end = end_is code value rest short in
    let count : length options ≡ length (option_octets code value) + length rest = length-append (option_octets code value) rest in
    let size = length-option code value in
    option_of-found Little code options (omega (arith, count, size)) (λ e. absurd (omega (arith, is, e, some))) (omega (arith, count, size, end)) is
    ∙ ap (λ l. Ok (Some l))
    (midst 4 (value_end Little options) (little_bytes 2 code ++ little_bytes 2 (length value)) value (replicate (3 * length value % 4) 0 ++ rest) options
    (pieces code value rest) refl end)

-- an option with another code is passed over
pub option_passed : (wanted code : ℕ) (value rest : List ℕ) → 1 ≤ code → code < 65536 → length value < 65536 → code ≢ wanted
    → option_of Little wanted (option_octets code value ++ rest) ≡ option_of Little wanted rest
option_passed wanted code value rest some fits short differs =
    let options : List ℕ = option_octets code value ++ rest in
    let is = code_is code value rest fits in
    let end = end_is code value rest short in
    let count : length options ≡ length (option_octets code value) + length rest = length-append (option_octets code value) rest in
    let size = length-option code value in
    let place : min (option_end Little options) (length options) ≡ length (option_octets code value) = omega (arith, count, size, end) in
    sym (option_of-next Little wanted options rest (omega (arith, count, size)) (λ e. absurd (omega (arith, is, e, some))) (omega (arith, count, size, end))
    (λ e. differs (sym is ∙ e)) (sym (behind_front _ (option_octets code value) rest place)))

-- there is no option behind the last
pub option_none : (wanted : ℕ) → option_of Little wanted options_end ≡ Ok None
unfolding number_at
option_none wanted = option_of-end Little wanted options_end (omega arith) refl
