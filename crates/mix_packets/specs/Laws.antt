-- Headers of packets that follow one another (RFC 3550, 5.1).
use Rattle.std.specs.Prelude.{◌≡◌, ℕ, ◌+◌, ◌%◌, ◌^◌}
use Rattle.rtp_wire.specs.Head.{Head}

-- a header follows another one of its source, whose packet has `frames` sampling instants
pub record CountsUp (frames : ℕ) (head following : Head) : Type 0 where
  pub seq : following.seq ≡ (head.seq + 1) % 2 ^ 16
  pub ts : following.ts ≡ (head.ts + frames) % 2 ^ 32
  pub pt : following.pt ≡ head.pt
  pub ssrc : following.ssrc ≡ head.ssrc
