-- The results of a feed that is called several times.
use Rattle.std.specs.Prelude.{◌≡◌, ℕ, zero, suc, ◌+◌, ◌≤◌, Bool, true, false, nat_eq, List, [], ◌∷◌, if◌then◌else◌}
use Rattle.studio_io.specs.Answers.{Answer, Gives, Waits, Fails, Stops, reaches_end}

-- the results up to the one with which the feed ends, after `faults` faults in a row
unfoldable pub until_end : ℕ → List Answer → List Answer
until_end faults [] = []
until_end faults (Gives octets ∷ told) = Gives octets ∷ until_end 0 told
until_end faults (Waits ∷ told) = Waits ∷ until_end 0 told
until_end faults (Fails ∷ told) = Fails ∷ (if nat_eq faults 999 then [] else until_end (faults + 1) told)
until_end faults (Stops ∷ told) = Stops ∷ []

-- the datagrams of a feed that is called until it returns no datagram, but at most `most` times
unfoldable pub asked_datagrams : ℕ → List Answer → List (List ℕ)
asked_datagrams zero told = []
asked_datagrams (suc most) [] = []
asked_datagrams (suc most) (Gives octets ∷ told) = octets ∷ asked_datagrams most told
asked_datagrams (suc most) (Waits ∷ told) = []
asked_datagrams (suc most) (Fails ∷ told) = []
asked_datagrams (suc most) (Stops ∷ told) = []

-- the results that are left after these calls
unfoldable pub asked_left : ℕ → List Answer → List Answer
asked_left zero told = told
asked_left (suc most) [] = []
asked_left (suc most) (Gives octets ∷ told) = asked_left most told
asked_left (suc most) (Waits ∷ told) = told
asked_left (suc most) (Fails ∷ told) = told
asked_left (suc most) (Stops ∷ told) = told

-- the results that are left until the feed ends, after `faults` faults in a row; none if it has ended already
abbrev pub left_by : Bool → ℕ → List Answer → List Answer
left_by true faults told = []
left_by false faults told = until_end faults told

-- the results that are left are known up to the end of the feed, if it has not ended already
abbrev pub AreKnown : Bool → ℕ → List Answer → Type 0
AreKnown true faults told = Unit {0}
AreKnown false faults told = (faults ≤ 999) × (reaches_end faults told ≡ true)

-- the datagrams that a round takes from a feed: it calls the feed until no datagram is returned, but at most 64 times.
-- A round that does not call the feeds takes none
abbrev pub round_datagrams : Bool → List Answer → List (List ℕ)
round_datagrams true told = asked_datagrams 64 told
round_datagrams false told = []

abbrev pub round_left : Bool → List Answer → List Answer
round_left true told = asked_left 64 told
round_left false told = told
