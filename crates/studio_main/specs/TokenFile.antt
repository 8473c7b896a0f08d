-- The files that may hold the token of the control of gains.
use Rattle.std.specs.Prelude.{◌≡◌, ◌<◌, ◌≤◌, ℕ, ◌/◌, ◌%◌}
use Rattle.std.specs.Fs.{IsFile, file_type, metadata_len, metadata_mode}
use Rattle.std.specs.declared.fs.attrs.Metadata.{Metadata}

-- the last octal digit of the mode, the rights of others, has neither read (4) nor write (2)
abbrev pub IsClosedToOthers : ℕ → Type 0
IsClosedToOthers mode = mode % 8 < 2

-- the octal digit before it, the rights of the group, does not have write (2)
abbrev pub IsReadOnlyToGroup : ℕ → Type 0
IsReadOnlyToGroup mode = mode / 16 % 2 ≡ 0

-- a regular file of at most 257 octets that others may neither read nor write, and its group may not write
abbrev pub MayHoldToken : Metadata → Type 0
MayHoldToken file = IsFile (file_type file) × IsClosedToOthers (metadata_mode file) × IsReadOnlyToGroup (metadata_mode file) × (metadata_len file ≤ 257)
