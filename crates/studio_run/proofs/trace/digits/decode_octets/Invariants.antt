use Rattle.std.proofs.Common.{◌≡◌, ◌*◌, take, drop}
use Rattle.hex.specs.Hex.{decode_pairs}
use Rattle.hex.proofs.Pairs.{prepend}
use Rattle.studio_run.proofs.trace.digits.decode_octets.Given as goal

-- the octets so far, and the digits that are left
abbrev pub invariant-loop-place : goal.invariant-loop-place
invariant-loop-place l = decode_pairs 0 l.text ≡ prepend (take l.place l.buffer) (decode_pairs (2 * l.place) (drop (2 * l.place) l.text))
