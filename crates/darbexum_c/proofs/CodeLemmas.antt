-- The code that a call returns.
use Rattle.std.proofs.Common.{◌≡◌, ◌<◌, ◌≤◌, nat_lt, ℕ, zero, suc, ℤ, List, [], ◌∷◌, pos, true, false, length, Option, Some, None, if◌then◌else◌, option_map, slice_get, ap, sym, ◌∙◌, arith}
use Rattle.std.proofs.lemmas.Bool.Decides.{nat_tests}
use Rattle.mix_packets.specs.OutSpec.{datagram_length}
use Rattle.path_merge.specs.Clock.{clock_fault_of}
use Rattle.path_merge.specs.declared.clock.ClockFault.{ClockFault}
use Rattle.rtp_stream.specs.declared.stream_spec.Stream.{Stream}
use Rattle.studio_session.specs.Cursor.{CursorState}
use Rattle.studio_engine.specs.Engine.{EngineState, arrive_fault_of, stream_spec_of}
use Rattle.studio_engine.specs.declared.fault.ArriveFault.{ArriveFault}
use Rattle.darbexum_c.specs.Codes.{arrive_code_of, arrive_fault_code, clock_fault_code, no_path, no_stream, short_room, stream_code_of, turn_code_of}

-- a datagram on one of four paths
pub on_path : (engine : EngineState) (stream path : ℕ) (fault : Option ArriveFault) → path < 4 → arrive_fault_of engine stream path ≡ fault
    → arrive_code_of engine stream path ≡ option_map arrive_fault_code fault
on_path engine stream path fault few is =
    let test : nat_lt path 4 ≡ true = grind (arith, nat_tests, few) in
    ap (λ t. if t then option_map arrive_fault_code (arrive_fault_of engine stream path) else Some no_path) test ∙ ap (option_map arrive_fault_code) is

-- the code for a path that no stream has
pub off_path : (engine : EngineState) (stream path : ℕ) → 4 ≤ path → arrive_code_of engine stream path ≡ Some no_path
off_path engine stream path many =
    let test : nat_lt path 4 ≡ false = grind (arith, nat_tests, many) in
    ap (λ t. if t then option_map arrive_fault_code (arrive_fault_of engine stream path) else Some no_path) test

-- a turn with space for a datagram
pub with_space : (engine : EngineState) (now : ℤ) (capacity : ℕ) (fault : Option ClockFault) → datagram_length engine.mixer.packer.spec ≤ capacity → clock_fault_of engine.time engine.closed now ≡ fault
    → turn_code_of engine now capacity ≡ option_map clock_fault_code fault
with_space engine now capacity fault wide is =
    let test : nat_lt capacity (datagram_length engine.mixer.packer.spec) ≡ false = grind (arith, nat_tests, wide) in
    ap (λ t. if t then Some short_room else option_map clock_fault_code (clock_fault_of engine.time engine.closed now)) test ∙ ap (option_map clock_fault_code) is

-- the code for a buffer that is too short
pub without_space : (engine : EngineState) (now : ℤ) (capacity : ℕ) → capacity < datagram_length engine.mixer.packer.spec → turn_code_of engine now capacity ≡ Some short_room
without_space engine now capacity narrow =
    let test : nat_lt capacity (datagram_length engine.mixer.packer.spec) ≡ true = grind (arith, nat_tests, narrow) in
    ap (λ t. if t then Some short_room else option_map clock_fault_code (clock_fault_of engine.time engine.closed now)) test

-- a stream that has a specification is there
pub stream_there : (cursors : List CursorState) (i : ℕ) (spec : Stream) → Some spec ≡ stream_spec_of (slice_get cursors i) → i < length cursors
stream_there [] i spec is = absurd (let e : Some spec ≡ None = is in cc)
stream_there (cursor ∷ cursors) zero spec is = grind arith
stream_there (cursor ∷ cursors) (suc i) spec is = let below = stream_there cursors i spec is in omega (arith, below)

-- a stream without a specification is past the last stream
pub stream_missing : (cursors : List CursorState) (i : ℕ) → None ≡ stream_spec_of (slice_get cursors i) → length cursors ≤ i
stream_missing [] i is = grind arith
stream_missing (cursor ∷ cursors) zero is = absurd (let e : None ≡ Some cursor.spec = is in cc)
stream_missing (cursor ∷ cursors) (suc i) is = let above = stream_missing cursors i is in omega (arith, above)

pub stream_found : (engine : EngineState) (stream size : ℕ) → nat_lt size 40 ≡ false → stream < length engine.cursors → pos 0 ≡ stream_code_of 40 engine stream size
stream_found engine stream size wide there =
    let test : nat_lt stream (length engine.cursors) ≡ true = grind (arith, nat_tests, there) in
    sym (ap (λ t. if t then short_room else (if nat_lt stream (length engine.cursors) then pos 0 else no_stream)) wide ∙ ap (λ t. if t then pos 0 else no_stream) test)

pub stream_lacking : (engine : EngineState) (stream size : ℕ) → nat_lt size 40 ≡ false → length engine.cursors ≤ stream → no_stream ≡ stream_code_of 40 engine stream size
stream_lacking engine stream size wide missing =
    let test : nat_lt stream (length engine.cursors) ≡ false = grind (arith, nat_tests, missing) in
    sym (ap (λ t. if t then short_room else (if nat_lt stream (length engine.cursors) then pos 0 else no_stream)) wide ∙ ap (λ t. if t then pos 0 else no_stream) test)
