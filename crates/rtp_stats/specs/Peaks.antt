-- The greatest magnitude of each channel's samples in a payload.
use Rattle.std.specs.Prelude.{ℕ, zero, suc, ◌%◌, max, nat_eq, List, if◌then◌else◌}
use Rattle.std.specs.Int.RustNames.{unsigned_abs}
use Rattle.rtp_wire.specs.declared.encoding.Enc.{Enc}
use Rattle.rtp_wire.specs.Sample.{sample_at, sample_count}

-- the magnitude of a sample, on the scale of 24 bits: at most 8,388,608
abbrev pub magnitude_at : Enc → List ℕ → ℕ → ℕ
magnitude_at enc octets index = unsigned_abs (sample_at enc octets index)

-- the greatest magnitude of a channel, among the first samples of a payload: frame by frame, each with all channels
abbrev pub peak_among : Enc → List ℕ → ℕ → ℕ → ℕ → ℕ
peak_among enc octets channels channel zero = 0
peak_among enc octets channels channel (suc index) =
    if nat_eq (index % channels) channel then max (peak_among enc octets channels channel index) (magnitude_at enc octets index)
    else peak_among enc octets channels channel index

-- the greatest magnitude of a channel, among all samples of a payload
abbrev pub peak_of : Enc → List ℕ → ℕ → ℕ → ℕ
peak_of enc octets channels channel = peak_among enc octets channels channel (sample_count enc octets)
