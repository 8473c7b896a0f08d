-- Worked cases of two paths at one address and port.
use Rattle.std.specs.Prelude.{ℕ, [], ◌∷◌, Option, Some, None, slice_index, refl}
use Rattle.std.proofs.Common.{ap, arith}
use Rattle.std.specs.declared.net.ipv4_addr.Ipv4Addr.{Ipv4Addr}
use Rattle.file_commands.specs.SharedPlace.{Collide}
use Rattle.file_commands.specs.declared.shared_place.PathPlace.{PathPlace}

-- 192.0.2.1, 192.0.2.2 and the group 239.71.1.205
abbrev first : Ipv4Addr
first = record { octets = 192 ∷ 0 ∷ 2 ∷ 1 ∷ [] }

abbrev second : Ipv4Addr
second = record { octets = 192 ∷ 0 ∷ 2 ∷ 2 ∷ [] }

abbrev group : Ipv4Addr
group = record { octets = 239 ∷ 71 ∷ 1 ∷ 205 ∷ [] }

abbrev place : Ipv4Addr → ℕ → Option Ipv4Addr → PathPlace
place at port source = record { at = at; port = port; source = source }

-- at an address that is no group, sources do not tell datagrams apart
at_an_address : Collide (place first 5004 (Some first)) (place first 5004 (Some second))
at_an_address = ((refl, refl), λ share. omega (arith, share.1.0))

-- at a group they do
at_a_group : Collide (place group 5004 (Some first)) (place group 5004 (Some second)) → ⊥
at_a_group h = h.1 ((refl, refl), (omega arith, omega arith), λ same. omega (arith, ap (λ (a : Ipv4Addr). slice_index a.octets 3) same))

-- unless one of the paths has no source, or both have the same one
one_source : Collide (place group 5004 (Some first)) (place group 5004 None)
one_source = ((refl, refl), λ share. share.2)

same_source : Collide (place group 5004 (Some first)) (place group 5004 (Some first))
same_source = ((refl, refl), λ share. share.2 refl)

-- another port is another place
other_port : Collide (place first 5004 None) (place first 5006 None) → ⊥
other_port h = omega (arith, h.0.1)
