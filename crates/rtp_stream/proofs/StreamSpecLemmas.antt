-- The consequences of a specification with no fault.
use Rattle.std.proofs.Common.{◌≡◌, ℕ, ◌+◌, ◌*◌, ◌^◌, ◌<◌, ◌≤◌, Bool, true, false, not, ◌&&◌, ◌||◌, Some, None, refl, ap, ◌∙◌, arith, if◌then◌else◌}
use Rattle.std.specs.Prelude.{nat_eq, nat_lt, nat_le}
use Rattle.std.proofs.lemmas.Bool.Decides.{nat_tests}
use Rattle.rtp_stream.specs.declared.stream_spec.SpecFault.TheVariants.{Channels, Frames, PayloadType, TooLong, Window, Latency, Paths}
use Rattle.rtp_stream.specs.MarkFacts.{payload_length}
use Rattle.rtp_stream.specs.declared.stream_spec.Stream.{Stream}
use Rattle.rtp_stream.specs.StreamSpecFacts.{IsStream, HasNoFault, first_fault, format_of, is_window, packets_fault_of, times_fault_of}
use Rattle.rtp_wire.specs.PacketTime.{is_packet_time}

-- if a chain of tests finds nothing, each test fails
none_of_four : {A : Type 0} (a b c d : Bool) (w x y z : A) → (if a then Some w else if b then Some x else if c then Some y else if d then Some z else None) ≡ None → (a ≡ false) × (b ≡ false) × (c ≡ false) × (d ≡ false)
none_of_four false false false false w x y z e = (refl, refl, refl, refl)
none_of_four true b c d w x y z e = cc
none_of_four false true c d w x y z e = cc
none_of_four false false true d w x y z e = cc
none_of_four false false false true w x y z e = cc

none_of_three : {A : Type 0} (a b c : Bool) (x y z : A) → (if a then Some x else if b then Some y else if c then Some z else None) ≡ None → (a ≡ false) × (b ≡ false) × (c ≡ false)
none_of_three false false false x y z e = (refl, refl, refl)
none_of_three true b c x y z e = cc
none_of_three false true c x y z e = cc
none_of_three false false true x y z e = cc

not_false : (b : Bool) → not b ≡ false → b ≡ true
not_false true e = refl
not_false false e = cc

both : (a b : Bool) → (a && b) ≡ true → (a ≡ true) × (b ≡ true)
both true b e = (refl, e)
both false b e = cc

neither : (a b : Bool) → (a || b) ≡ false → (a ≡ false) × (b ≡ false)
neither false b e = (refl, e)
neither true b e = cc

-- the greatest of the packet times and windows
packet_time_bounds : (f : ℕ) → is_packet_time f ≡ true → (0 < f) × (f ≤ 192)
packet_time_bounds f e = (grind (arith, nat_tests, e), grind (arith, nat_tests, e))

window_bounds : (w : ℕ) → is_window w ≡ true → (8 ≤ w) × (w ≤ 16384)
window_bounds w e = (grind (arith, nat_tests, e), grind (arith, nat_tests, e))

IsStream-of : (s : Stream) → packets_fault_of (format_of s) s.pt ≡ None → times_fault_of s.frames s.latency s.window s.paths ≡ None → s.latency < 2 ^ 32 → IsStream s
IsStream-of s packets times small =
    let p = none_of_four (not (nat_le 1 s.channels && nat_le s.channels 64)) (not (is_packet_time s.frames && (nat_le s.channels 8 || nat_eq s.frames 6))) (not (nat_le 96 s.pt && nat_le s.pt 127)) (nat_lt 1440 (payload_length (format_of s))) Channels Frames PayloadType TooLong packets in
    let t = none_of_three (not (is_window s.window)) (nat_lt s.latency 1 || nat_lt (s.window * s.frames) (s.latency + 2 * s.frames)) (not (nat_le 1 s.paths && nat_le s.paths 4)) Window Latency Paths times in
    let channels = both (nat_le 1 s.channels) (nat_le s.channels 64) (not_false (nat_le 1 s.channels && nat_le s.channels 64) p.0) in
    let frames = both (is_packet_time s.frames) (nat_le s.channels 8 || nat_eq s.frames 6) (not_false (is_packet_time s.frames && (nat_le s.channels 8 || nat_eq s.frames 6)) p.1) in
    let bounds = packet_time_bounds s.frames frames.0 in
    let window = window_bounds s.window (not_false (is_window s.window) t.0) in
    let latency = neither (nat_lt s.latency 1) (nat_lt (s.window * s.frames) (s.latency + 2 * s.frames)) t.1 in
    let paths = both (nat_le 1 s.paths) (nat_le s.paths 4) (not_false (nat_le 1 s.paths && nat_le s.paths 4) t.2) in
    record {
      some_channels = grind (arith, nat_tests, channels.0);
      few_channels = grind (arith, nat_tests, channels.1);
      packet_time = frames.0;
      some_frames = bounds.0;
      few_frames = bounds.1;
      short = grind (arith, nat_tests, p.3);
      some_latency = grind (arith, nat_tests, latency.0);
      small_latency = small;
      wide = grind (arith, nat_tests, latency.1);
      broad = window.0;
      narrow = window.1;
      few_paths = grind (arith, nat_tests, paths.1);
    }

pub HasNoFault-of : (s : Stream) → packets_fault_of (format_of s) s.pt ≡ None → times_fault_of s.frames s.latency s.window s.paths ≡ None → s.latency < 2 ^ 32 → HasNoFault s
HasNoFault-of s packets times small = record {
  bounds = IsStream-of s packets times small;
  none = ap (λ fault. first_fault fault (times_fault_of s.frames s.latency s.window s.paths)) packets ∙ times;
}
