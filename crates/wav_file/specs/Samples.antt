-- Samples of linear PCM in a WAV file: least significant octet first (Microsoft's RIFF WAVE).
use Rattle.std.specs.Prelude.{ℕ, List, [], ◌∷◌}
use Rattle.rtp_wire.specs.declared.encoding.Enc.{Enc}
use Rattle.rtp_wire.specs.declared.encoding.Enc.TheVariants.{L16, L24}

-- each pair of octets in the other order, without a last pair that is cut
abbrev pub little_16 : List ℕ → List ℕ
little_16 [] = []
little_16 (high ∷ []) = []
little_16 (high ∷ low ∷ octets) = low ∷ high ∷ little_16 octets

-- each three octets in the other order, without a last three that are cut
abbrev pub little_24 : List ℕ → List ℕ
little_24 [] = []
little_24 (high ∷ []) = []
little_24 (high ∷ middle ∷ []) = []
little_24 (high ∷ middle ∷ low ∷ octets) = low ∷ middle ∷ high ∷ little_24 octets

-- the whole samples of a payload, in order, each with its octets in the other order
abbrev pub little_samples : Enc → List ℕ → List ℕ
little_samples L16 octets = little_16 octets
little_samples L24 octets = little_24 octets
