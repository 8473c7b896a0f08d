-- The links of descriptors in `/proc/self/fd` (proc_pid_fd(5)).
use Rattle.std.specs.Prelude.{ℕ, ◌-◌, List, ◌++◌, length, take, codes, decimal}

-- the path of a descriptor's link, in 24 octets: its number replaces the last slashes; several slashes in a path have
-- the effect of one
abbrev pub link_text : ℕ → List ℕ
link_text descriptor = take (24 - length (decimal descriptor)) (codes "/proc/self/fd///////////") ++ decimal descriptor

-- the text of a socket's link
abbrev pub socket_text : ℕ → List ℕ
socket_text inode = codes "socket:[" ++ decimal inode ++ codes "]"
