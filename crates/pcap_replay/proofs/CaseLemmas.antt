-- A fact about a value that is there.
use Rattle.std.proofs.Common.{◌≡◌, Option, Some, None, IfSome, Result, Ok, Err, OnOk, OnErr, IfErr, refl, sym, subst}
use Rattle.std.specs.Prelude.{IsErrAnd}
use Rattle.pcap_replay.specs.declared.fault.ReplayFault.{ReplayFault}

pub some_is : {X : Type 0} (o : Option X) (x : X) (P : X → Type 0) → o ≡ Some x → IfSome o P → P x
some_is o x P is p = subst (λ o. IfSome o P) is p

pub some_when : {X : Type 0} (o : Option X) (P : X → Type 0) → ((x : X) → o ≡ Some x → P x) → IfSome o P
some_when None P f = tt
some_when (Some x) P f = f x refl

pub some_maps : {X : Type 0} (o : Option X) (P Q : X → Type 0) → ((x : X) → P x → Q x) → IfSome o P → IfSome o Q
some_maps None P Q f p = tt
some_maps (Some x) P Q f p = f x p

pub some_both : {X : Type 0} (o : Option X) (P Q R : X → Type 0) → ((x : X) → P x → Q x → R x) → IfSome o P → IfSome o Q → IfSome o R
some_both None P Q R f p q = tt
some_both (Some x) P Q R f p q = f x p q

pub ok_then : {X E : Type 0} (r : Result X E) (P Q : Type 0) → (P → Q) → OnOk r P → OnOk r Q
ok_then (Ok x) P Q f p = f p
ok_then (Err e) P Q f p = tt

pub err_then : {X E : Type 0} (r : Result X E) (P Q : E → Type 0) → ((e : E) → P e → Q e) → IfErr r P → IfErr r Q
err_then (Ok x) P Q f p = tt
err_then (Err e) P Q f p = f e p

pub ok_both : {X E : Type 0} (r : Result X E) (P Q R : Type 0) → (P → Q → R) → OnOk r P → OnOk r Q → OnOk r R
ok_both (Ok x) P Q R f p q = f p q
ok_both (Err e) P Q R f p q = tt

pub ok_all : {X E : Type 0} (r : Result X E) (P Q R S : Type 0) → (P → Q → R → S) → OnOk r P → OnOk r Q → OnOk r R → OnOk r S
ok_all (Ok x) P Q R S f p q s = f p q s
ok_all (Err e) P Q R S f p q s = tt

-- a fault is returned as it was
pub told : {T : Type 0} (P : ReplayFault → Type 0) (fault : ReplayFault) (r : Result T ReplayFault) → IsErrAnd r (λ answer. answer ≡ fault) → P fault → IfErr r P
told P fault (Ok it) is holds = absurd is
told P fault (Err answer) is holds = subst P (sym is) holds

pub err_both : {X E : Type 0} (r : Result X E) (P Q R : E → Type 0) → ((e : E) → P e → Q e → R e) → IfErr r P → IfErr r Q → IfErr r R
err_both (Ok x) P Q R f p q = tt
err_both (Err e) P Q R f p q = f e p q

-- a fault after which a place is as before
pub own_fault : {X E : Type 0} {P : E → Type 0} {K : Type 0} (r : Result X E) (Q : E → Type 0) → ((e : E) → P e × K → Q e) → IfErr r P → OnErr r K → IfErr r Q
own_fault (Ok x) Q f p k = tt
own_fault (Err e) Q f p k = f e (p, k)

pub err_all : {X E : Type 0} (r : Result X E) (P Q R S : E → Type 0) → ((e : E) → P e → Q e → R e → S e) → IfErr r P → IfErr r Q → IfErr r R → IfErr r S
err_all (Ok x) P Q R S f p q s = tt
err_all (Err e) P Q R S f p q s = f e p q s

pub ok_four : {X E : Type 0} (r : Result X E) (P Q R S T : Type 0) → (P → Q → R → S → T) → OnOk r P → OnOk r Q → OnOk r R → OnOk r S → OnOk r T
ok_four (Ok x) P Q R S T f p q s t = f p q s t
ok_four (Err e) P Q R S T f p q s t = tt
