-- The numbers that represent results.
use Rattle.std.specs.Prelude.{ℕ, ℤ, List, pos, negsuc, nat_lt, length, slice_get, Option, Some, None, if◌then◌else◌, option_map}
use Rattle.gain_mix.specs.declared.live_schedule.ChangeFault.{ChangeFault}
use Rattle.gain_mix.specs.declared.live_schedule.ChangeFault.TheVariants.{Shape, Range, Time, TooMany}
use Rattle.mix_packets.specs.OutSpec.{datagram_length}
use Rattle.studio_mix.specs.Changed.{gains_fault_of}
use Rattle.path_merge.specs.Clock.{clock_fault_of}
use Rattle.path_merge.specs.declared.clock.ClockFault.{ClockFault}
use Rattle.path_merge.specs.declared.clock.ClockFault.TheVariants.{WentBack, TooFar, Closed as ClosedClock}
use Rattle.studio_session.specs.Cursor.{CursorState}
use Rattle.studio_engine.specs.Engine.{EngineState, arrive_fault_of}
use Rattle.studio_engine.specs.declared.fault.ArriveFault.{ArriveFault}
use Rattle.studio_engine.specs.declared.fault.ArriveFault.TheVariants.{Unfinished, Stream as NoStream, Path as NoPath, Full}
use Rattle.rtp_stream.specs.declared.fate.Fate.{Fate}
use Rattle.rtp_stream.specs.declared.fate.Fate.TheVariants.{Closed, CountersFull, WrongSource, OffGrid, Late, Ahead, Taken, Double, Unlike, Restarted}
use Rattle.rtp_stream.specs.declared.stream_spec.StreamClock.{StreamClock}
use Rattle.rtp_stream.specs.declared.stream_spec.StreamClock.TheVariants.{Media, Arrival, Follow}
use Rattle.studio_session.specs.declared.arrive_outcome.ArriveOutcome.{ArriveOutcome}
use Rattle.studio_session.specs.declared.arrive_outcome.ArriveOutcome.TheVariants.{Offered, Bad, WrongType, WrongLength}

-- DARBEXUM_NO_ENGINE, -1, to DARBEXUM_TOO_MANY, -17
abbrev pub no_engine : ℤ
no_engine = negsuc 0

abbrev pub unfinished : ℤ
unfinished = negsuc 1

abbrev pub no_stream : ℤ
no_stream = negsuc 2

abbrev pub no_path : ℤ
no_path = negsuc 3

abbrev pub full : ℤ
full = negsuc 4

abbrev pub went_back : ℤ
went_back = negsuc 5

abbrev pub too_far : ℤ
too_far = negsuc 6

abbrev pub closed : ℤ
closed = negsuc 7

abbrev pub short_room : ℤ
short_room = negsuc 8

abbrev pub no_toml : ℤ
no_toml = negsuc 9

abbrev pub no_studio : ℤ
no_studio = negsuc 10

abbrev pub no_memory : ℤ
no_memory = negsuc 11

abbrev pub none : ℤ
none = negsuc 12

abbrev pub bad_shape : ℤ
bad_shape = negsuc 13

abbrev pub bad_gain : ℤ
bad_gain = negsuc 14

abbrev pub bad_time : ℤ
bad_time = negsuc 15

abbrev pub too_many : ℤ
too_many = negsuc 16

abbrev pub fate_code : Fate → ℕ
fate_code Closed = 0
fate_code CountersFull = 1
fate_code WrongSource = 2
fate_code OffGrid = 3
fate_code Late = 4
fate_code Ahead = 5
fate_code Taken = 6
fate_code Double = 7
fate_code Unlike = 8
fate_code Restarted = 9

abbrev pub outcome_code : ArriveOutcome → ℕ
outcome_code (Offered packet) = fate_code packet.fate
outcome_code (Bad fault) = 10
outcome_code WrongType = 11
outcome_code WrongLength = 12

abbrev pub clock_code : StreamClock → ℕ
clock_code (Media offset) = 0
clock_code Arrival = 1
clock_code Follow = 2

abbrev pub arrive_fault_code : ArriveFault → ℤ
arrive_fault_code Unfinished = unfinished
arrive_fault_code NoStream = no_stream
arrive_fault_code NoPath = no_path
arrive_fault_code Full = full

abbrev pub clock_fault_code : ClockFault → ℤ
clock_fault_code WentBack = went_back
clock_fault_code TooFar = too_far
clock_fault_code ClosedClock = closed

abbrev pub change_fault_code : ChangeFault → ℤ
change_fault_code Shape = bad_shape
change_fault_code Range = bad_gain
change_fault_code Time = bad_time
change_fault_code TooMany = too_many

abbrev pub gains_code : Option ChangeFault → ℤ
gains_code None = pos 0
gains_code (Some fault) = change_fault_code fault

-- 0 if a change of gains is taken, or else the code of its fault
abbrev pub gains_code_of : EngineState → ℤ → List ℤ → ℤ
gains_code_of engine at gains = gains_code (gains_fault_of engine.mixer at gains)

-- the code of the reason why a datagram isn't taken: its path is no path of any stream, or the engine's fault
abbrev pub arrive_code_of : EngineState → ℕ → ℕ → Option ℤ
arrive_code_of engine stream path = if nat_lt path 4 then option_map arrive_fault_code (arrive_fault_of engine stream path) else Some no_path

-- the code of the reason why a clock reading isn't taken: the buffer is shorter than a datagram, or the engine's fault
abbrev pub turn_code_of : EngineState → ℤ → ℕ → Option ℤ
turn_code_of engine now capacity =
    if nat_lt capacity (datagram_length engine.mixer.packer.spec) then Some short_room
    else option_map clock_fault_code (clock_fault_of engine.time engine.closed now)

-- 0 if a struct of this size has space for the values, or else a code
abbrev pub size_code_of : ℕ → ℕ → ℤ
size_code_of needed size = if nat_lt size needed then short_room else pos 0

-- 0 if the values of a stream can be written, or else a code
abbrev pub stream_code_of : ℕ → EngineState → ℕ → ℕ → ℤ
stream_code_of needed engine stream size =
    if nat_lt size needed then short_room else if nat_lt stream (length engine.cursors) then pos 0 else no_stream

abbrev pub path_code_in : ℕ → Option CursorState → ℤ
path_code_in path None = no_stream
path_code_in path (Some cursor) = if nat_lt path cursor.spec.paths then pos 0 else no_path

-- 0 if the values of a stream's path can be written, or else a code
abbrev pub path_code_of : ℕ → EngineState → ℕ → ℕ → ℕ → ℤ
path_code_of needed engine stream path size =
    if nat_lt size needed then short_room else path_code_in path (slice_get engine.cursors stream)
