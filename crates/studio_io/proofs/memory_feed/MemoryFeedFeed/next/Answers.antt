use Rattle.std.proofs.Common.{◌≡◌, ℕ, suc, ◌+◌, ◌<◌, ◌≤◌, Bool, true, false, List, [], ◌∷◌, ◌++◌, map, take, drop, get_or, length, min, if◌then◌else◌, Vec, Global, refl, sym, ap, subst, ◌∙◌, arith}
use Rattle.std.proofs.Math.Nat.{min-le_right}
use Rattle.std.proofs.Math.Seq.{drop-cons, take-append_seam}
use Rattle.std.proofs.lemmas.List.{length-take-le, take_min}
use Rattle.studio_io.specs.Answers.{Answer, Gives, Stops, Tells}
use Rattle.studio_io.specs.Memory.{told_of}
use Rattle.studio_io.specs.declared.feed.FeedAnswer.TheVariants.{Datagram}
use Rattle.studio_io.proofs.memory_feed.MemoryFeedFeed.next.Goals as goal

-- the octets that were copied to the start of the buffer
copied : (xs new rest : List ℕ) (count capacity : ℕ) → count ≡ min capacity (length xs) → capacity ≡ 2048 → new ≡ take count xs → take count (new ++ rest) ≡ take 2048 xs
copied xs new rest count capacity is enough front =
    let within : count ≤ length xs = subst (λ k. k ≤ length xs) (sym is) (min-le_right capacity (length xs)) in
    let size : length new ≡ count = ap length front ∙ length-take-le count xs within in
    subst (λ k. take k (new ++ rest) ≡ take 2048 xs) size
    (take-append_seam new rest ∙ (front ∙ (ap (λ k. take k xs) is ∙ (ap (λ k. take (min k (length xs)) xs) enough ∙ take_min 2048 xs))))

-- the feed returned the first of the datagrams that were left
told-next : (ended : Bool) (ds : List (Vec ℕ Global)) (n count capacity : ℕ) (x : Vec ℕ Global) (new rest : List ℕ) → n < length ds → x ≡ get_or ds n x → count ≡ min capacity (length x.items) → capacity ≡ 2048 → new ≡ take count x.items
    → Tells (if ended then [] else map (λ (octets : Vec ℕ Global). Gives (take 2048 octets.items)) (drop n ds) ++ Stops ∷ []) (new ++ rest) (Datagram count)
    (if ended then [] else map (λ (octets : Vec ℕ Global). Gives (take 2048 octets.items)) (drop (n + 1) ds) ++ Stops ∷ [])
told-next true ds n count capacity x new rest within at is enough front = tt
told-next false ds n count capacity x new rest within at is enough front =
    let more : suc n ≡ n + 1 = omega arith in
    let left : drop n ds ≡ x ∷ drop (n + 1) ds = drop-cons ds n x within ∙ (ap (λ k. get_or ds n x ∷ drop k ds) more ∙ ap (λ y. y ∷ drop (n + 1) ds) (sym at)) in
    subst (λ l. Tells (map (λ (octets : Vec ℕ Global). Gives (take 2048 octets.items)) l ++ Stops ∷ []) (new ++ rest) (Datagram count) (map (λ (octets : Vec ℕ Global). Gives (take 2048 octets.items)) (drop (n + 1) ds) ++ Stops ∷ []))
    (sym left) (ap Gives (copied x.items new rest count capacity is enough front), refl)

-- the same, if the known results of the feed are the list `told`
told-by : (told : List Answer) (ended : Bool) (ds : List (Vec ℕ Global)) (n count capacity : ℕ) (x : Vec ℕ Global) (new rest : List ℕ) → (if ended then [] else told_of (drop n ds)) ≡ told
    → n < length ds → x ≡ get_or ds n x → count ≡ min capacity (length x.items) → capacity ≡ 2048 → new ≡ take count x.items → Tells told (new ++ rest) (Datagram count) (if ended then [] else told_of (drop (n + 1) ds))
told-by told ended ds n count capacity x new rest view within at is enough front =
    subst (λ t. Tells t (new ++ rest) (Datagram count) (if ended then [] else told_of (drop (n + 1) ds))) view (told-next ended ds n count capacity x new rest within at is enough front)

pub returns-clause-tells : goal.returns-clause-tells
returns-clause-tells c = λ capacity.
    let f = c.self.inside in
    let at = c.in-Some.ensures.lookup in
    let x = c.in-Some.datagram.now in
    let size : c.len.result ≡ length x.items = let e = c.len.ensures in let k = x.ok.0 in omega (arith, e, k) in
    told-by _ f.ended f.datagrams.now f.next c.min-count.result (length c.args.buf.now) x c.copy_from_slice.new.self _ c.self.view_is
    at.3.0 (at.3.1 x) (c.min-count.ensures ∙ ap (min (length c.args.buf.now)) size) capacity (c.copy_from_slice.ensures.after ∙ ap (take c.min-count.result) c.deref.ensures.value)
