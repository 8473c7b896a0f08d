-- The inode in a socket's link.
use Rattle.std.proofs.Common.{◌≡◌, ℕ, List, ◌++◌, Option, Some, None, IfSome, MatchOption, ap, subst, ◌∙◌}
use Rattle.std.specs.Prelude.{codes, decimal}
use Rattle.live_io.specs.Links.{socket_text}

pub found : {X : Type 0} (r : Option X) (x : X) (A : Type 0) (P : X → Type 0) → r ≡ Some x → MatchOption r A P → P x
found r x A P is match = subst (λ o. MatchOption o A P) is match

-- between the words of the link is its number
pub socket_is : (target rest digits : List ℕ) (number : Option ℕ) → target ≡ codes "socket:[" ++ rest → rest ≡ digits ++ codes "]" → IfSome number (λ n. digits ≡ decimal n)
    → IfSome number (λ n. target ≡ socket_text n)
socket_is target rest digits None front back spelled = tt
socket_is target rest digits (Some n) front back spelled = front ∙ ap (λ l. codes "socket:[" ++ l) (back ∙ ap (λ d. d ++ codes "]") spelled)
