-- The header of a WAV file: RIFF WAVE (Microsoft), and RF64 if 32 bits don't hold its size (EBU Tech 3306).
use Rattle.std.specs.Prelude.{ℕ, ◌+◌, ◌-◌, ◌*◌, ◌/◌, ◌%◌, ◌^◌, Bool, List, ◌++◌, length, codes, nat_le, [], if◌then◌else◌}
use Rattle.byteorder.specs.Endian.{little_bytes}
use Rattle.rtp_wire.specs.Sample.{octets_per_sample}
use Rattle.wav_file.specs.declared.header.WavFormat.{WavFormat}

-- the octets of one sampling instant
abbrev pub frame_length : WavFormat → ℕ
frame_length format = format.channels * octets_per_sample format.enc

-- the octets behind the file's size, for `count` octets of data: 72 of the header, a further chunk, the data, and one
-- more if the data are odd
abbrev pub riff_size : ℕ → ℕ → ℕ
riff_size more count = 72 + more + count + count % 2

-- 32 bits don't hold the file's size
abbrev pub is_long : ℕ → ℕ → Bool
is_long more count = nat_le (2 ^ 32) (riff_size more count)

-- a size of 32 bits; all ones in a long file
abbrev pub size_octets : ℕ → ℕ → ℕ → List ℕ
size_octets more count size = little_bytes 4 (if is_long more count then 2 ^ 32 - 1 else size)

-- a chunk of 28 octets with the sizes of the file and of the data, and the number of sampling instants; no table
-- follows
abbrev pub reserved_chunk : List ℕ → ℕ → ℕ → ℕ → List ℕ
reserved_chunk name all count frames = name ++ (little_bytes 4 28 ++ little_bytes 8 all ++ little_bytes 8 count ++ little_bytes 8 frames ++ little_bytes 4 0)

-- the sizes of a long file; in another file space for them
abbrev pub reserved_octets : WavFormat → ℕ → ℕ → List ℕ
reserved_octets format more count =
    if is_long more count
    then reserved_chunk (codes "ds64") (riff_size more count) count (count / frame_length format)
    else reserved_chunk (codes "JUNK") 0 0 0

-- the chunk of the format: linear PCM, 48,000 sampling instants a second
abbrev pub format_octets : WavFormat → List ℕ
format_octets format =
    codes "fmt " ++ little_bytes 4 16 ++ little_bytes 2 1 ++ little_bytes 2 format.channels ++ little_bytes 4 48000
    ++ little_bytes 4 (48000 * frame_length format) ++ little_bytes 2 (frame_length format) ++ little_bytes 2 (8 * octets_per_sample format.enc)

-- the octets before `count` octets of data, with a further chunk before that of the format
abbrev pub header_with : WavFormat → List ℕ → ℕ → List ℕ
header_with format chunk count =
    (if is_long (length chunk) count then codes "RF64" else codes "RIFF") ++ size_octets (length chunk) count (riff_size (length chunk) count) ++ codes "WAVE"
    ++ reserved_octets format (length chunk) count ++ chunk ++ format_octets format ++ codes "data" ++ size_octets (length chunk) count count

-- the 80 octets before `count` octets of data, without a further chunk
abbrev pub header_octets : WavFormat → ℕ → List ℕ
header_octets format count = header_with format [] count
