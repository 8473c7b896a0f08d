-- The keys that a table may have, key by key.
use Rattle.std.proofs.Common.{◌≡◌, ℕ, zero, suc, ◌⊎◌, inl, inr, Bool, true, false, ◌&&◌, ◌||◌, List, [], ◌∷◌, Option, Some, None, cond, ⊎_elim, slice_get, eqb, eqb-true, refl, ap, sym, ◌∙◌}
use Rattle.std.specs.List.{find, list_any, list_all}
use Rattle.std.specs.Str.{bytes_eq}
use Rattle.std.proofs.lemmas.Bool.{false≢true}
use Rattle.studio_config.specs.declared.config.fault.ConfigTable.{ConfigTable}
use Rattle.studio_config.specs.Keys.{name_of}
use Rattle.studio_config.specs.Rows.{is_known}
use Rattle.studio_config.specs.declared.config.fault.ConfigTable.TheVariants as place
use Rattle.studio_config.specs.declared.config.keys.Key.{Key}
use Rattle.studio_config.specs.declared.config.keys.Key.TheVariants as key
use Rattle.file_commands.specs.SimilarKey.{is_allowed, keys_at, packet_keys}

pub allowed_at_top-OpenAt : (k : Key) → k ≡ key.OpenAt → true ≡ is_allowed place.Top k
unfolding keys_at packet_keys
allowed_at_top-OpenAt k e = rw e refl

pub allowed_at_top-Stream : (k : Key) → k ≡ key.Stream → true ≡ is_allowed place.Top k
unfolding keys_at packet_keys
allowed_at_top-Stream k e = rw e refl

pub allowed_at_top-Output : (k : Key) → k ≡ key.Output → true ≡ is_allowed place.Top k
unfolding keys_at packet_keys
allowed_at_top-Output k e = rw e refl

pub allowed_at_top-others : (k : Key) → (k ≡ key.OpenAt → ⊥) → (k ≡ key.Stream → ⊥) → (k ≡ key.Output → ⊥) → false ≡ is_allowed place.Top k
unfolding keys_at packet_keys
allowed_at_top-others key.OpenAt h _ _ = absurd (h refl)
allowed_at_top-others key.Stream _ h _ = absurd (h refl)
allowed_at_top-others key.Output _ _ h = absurd (h refl)
allowed_at_top-others k _ _ _ = refl

pub allowed_in_stream-Channels : (k : Key) → k ≡ key.Channels → true ≡ is_allowed (place.Stream 0) k
unfolding keys_at packet_keys
allowed_in_stream-Channels k e = rw e refl

pub allowed_in_stream-Clock : (k : Key) → k ≡ key.Clock → true ≡ is_allowed (place.Stream 0) k
unfolding keys_at packet_keys
allowed_in_stream-Clock k e = rw e refl

pub allowed_in_stream-Latency : (k : Key) → k ≡ key.Latency → true ≡ is_allowed (place.Stream 0) k
unfolding keys_at packet_keys
allowed_in_stream-Latency k e = rw e refl

pub allowed_in_stream-Window : (k : Key) → k ≡ key.Window → true ≡ is_allowed (place.Stream 0) k
unfolding keys_at packet_keys
allowed_in_stream-Window k e = rw e refl

pub allowed_in_stream-Paths : (k : Key) → k ≡ key.Paths → true ≡ is_allowed (place.Stream 0) k
unfolding keys_at packet_keys
allowed_in_stream-Paths k e = rw e refl

pub allowed_in_stream-PortA : (k : Key) → ((k ≡ key.PortA) ⊎ ((k ≡ key.PortB) ⊎ ((k ≡ key.PortC) ⊎ ((k ≡ key.PortD))))) → true ≡ is_allowed (place.Stream 0) k
unfolding keys_at packet_keys
allowed_in_stream-PortA k (inl e) = rw e refl
allowed_in_stream-PortA k (inr (inl e)) = rw e refl
allowed_in_stream-PortA k (inr (inr (inl e))) = rw e refl
allowed_in_stream-PortA k (inr (inr (inr e))) = rw e refl

pub allowed_in_stream-AddressA : (k : Key) → ((k ≡ key.AddressA) ⊎ ((k ≡ key.AddressB) ⊎ ((k ≡ key.AddressC) ⊎ ((k ≡ key.AddressD))))) → true ≡ is_allowed (place.Stream 0) k
unfolding keys_at packet_keys
allowed_in_stream-AddressA k (inl e) = rw e refl
allowed_in_stream-AddressA k (inr (inl e)) = rw e refl
allowed_in_stream-AddressA k (inr (inr (inl e))) = rw e refl
allowed_in_stream-AddressA k (inr (inr (inr e))) = rw e refl

pub allowed_in_stream-SourceA : (k : Key) → ((k ≡ key.SourceA) ⊎ ((k ≡ key.SourceB) ⊎ ((k ≡ key.SourceC) ⊎ ((k ≡ key.SourceD))))) → true ≡ is_allowed (place.Stream 0) k
unfolding keys_at packet_keys
allowed_in_stream-SourceA k (inl e) = rw e refl
allowed_in_stream-SourceA k (inr (inl e)) = rw e refl
allowed_in_stream-SourceA k (inr (inr (inl e))) = rw e refl
allowed_in_stream-SourceA k (inr (inr (inr e))) = rw e refl

pub allowed_in_stream-Name : (k : Key) → k ≡ key.Name → true ≡ is_allowed (place.Stream 0) k
unfolding keys_at packet_keys
allowed_in_stream-Name k e = rw e refl

pub allowed_in_stream-others : (k : Key) → (k ≡ key.Channels → ⊥) → (k ≡ key.Clock → ⊥) → (k ≡ key.Latency → ⊥) → (k ≡ key.Window → ⊥) → (k ≡ key.Paths → ⊥) → (k ≡ key.PortA → ⊥) → (k ≡ key.PortB → ⊥) → (k ≡ key.PortC → ⊥) → (k ≡ key.PortD → ⊥) → (k ≡ key.AddressA → ⊥) → (k ≡ key.AddressB → ⊥) → (k ≡ key.AddressC → ⊥) → (k ≡ key.AddressD → ⊥) → (k ≡ key.SourceA → ⊥) → (k ≡ key.SourceB → ⊥) → (k ≡ key.SourceC → ⊥) → (k ≡ key.SourceD → ⊥) → (k ≡ key.Name → ⊥) → is_known packet_keys (name_of k) ≡ is_allowed (place.Stream 0) k
unfolding keys_at packet_keys
allowed_in_stream-others key.Channels h _ _ _ _ _ _ _ _ _ _ _ _ _ _ _ _ _ = absurd (h refl)
allowed_in_stream-others key.Clock _ h _ _ _ _ _ _ _ _ _ _ _ _ _ _ _ _ = absurd (h refl)
allowed_in_stream-others key.Latency _ _ h _ _ _ _ _ _ _ _ _ _ _ _ _ _ _ = absurd (h refl)
allowed_in_stream-others key.Window _ _ _ h _ _ _ _ _ _ _ _ _ _ _ _ _ _ = absurd (h refl)
allowed_in_stream-others key.Paths _ _ _ _ h _ _ _ _ _ _ _ _ _ _ _ _ _ = absurd (h refl)
allowed_in_stream-others key.PortA _ _ _ _ _ h _ _ _ _ _ _ _ _ _ _ _ _ = absurd (h refl)
allowed_in_stream-others key.PortB _ _ _ _ _ _ h _ _ _ _ _ _ _ _ _ _ _ = absurd (h refl)
allowed_in_stream-others key.PortC _ _ _ _ _ _ _ h _ _ _ _ _ _ _ _ _ _ = absurd (h refl)
allowed_in_stream-others key.PortD _ _ _ _ _ _ _ _ h _ _ _ _ _ _ _ _ _ = absurd (h refl)
allowed_in_stream-others key.AddressA _ _ _ _ _ _ _ _ _ h _ _ _ _ _ _ _ _ = absurd (h refl)
allowed_in_stream-others key.AddressB _ _ _ _ _ _ _ _ _ _ h _ _ _ _ _ _ _ = absurd (h refl)
allowed_in_stream-others key.AddressC _ _ _ _ _ _ _ _ _ _ _ h _ _ _ _ _ _ = absurd (h refl)
allowed_in_stream-others key.AddressD _ _ _ _ _ _ _ _ _ _ _ _ h _ _ _ _ _ = absurd (h refl)
allowed_in_stream-others key.SourceA _ _ _ _ _ _ _ _ _ _ _ _ _ h _ _ _ _ = absurd (h refl)
allowed_in_stream-others key.SourceB _ _ _ _ _ _ _ _ _ _ _ _ _ _ h _ _ _ = absurd (h refl)
allowed_in_stream-others key.SourceC _ _ _ _ _ _ _ _ _ _ _ _ _ _ _ h _ _ = absurd (h refl)
allowed_in_stream-others key.SourceD _ _ _ _ _ _ _ _ _ _ _ _ _ _ _ _ h _ = absurd (h refl)
allowed_in_stream-others key.Name _ _ _ _ _ _ _ _ _ _ _ _ _ _ _ _ _ h = absurd (h refl)
allowed_in_stream-others k _ _ _ _ _ _ _ _ _ _ _ _ _ _ _ _ _ _ = refl

pub allowed_in_output-Channels : (k : Key) → k ≡ key.Channels → true ≡ is_allowed place.Output k
unfolding keys_at packet_keys
allowed_in_output-Channels k e = rw e refl

pub allowed_in_output-Seq : (k : Key) → k ≡ key.Seq → true ≡ is_allowed place.Output k
unfolding keys_at packet_keys
allowed_in_output-Seq k e = rw e refl

pub allowed_in_output-Start : (k : Key) → k ≡ key.Start → true ≡ is_allowed place.Output k
unfolding keys_at packet_keys
allowed_in_output-Start k e = rw e refl

pub allowed_in_output-Gains : (k : Key) → k ≡ key.Gains → true ≡ is_allowed place.Output k
unfolding keys_at packet_keys
allowed_in_output-Gains k e = rw e refl

pub allowed_in_output-Change : (k : Key) → k ≡ key.Change → true ≡ is_allowed place.Output k
unfolding keys_at packet_keys
allowed_in_output-Change k e = rw e refl

pub allowed_in_output-ToA : (k : Key) → ((k ≡ key.ToA) ⊎ ((k ≡ key.ToB))) → true ≡ is_allowed place.Output k
unfolding keys_at packet_keys
allowed_in_output-ToA k (inl e) = rw e refl
allowed_in_output-ToA k (inr e) = rw e refl

pub allowed_in_output-FromA : (k : Key) → ((k ≡ key.FromA) ⊎ ((k ≡ key.FromB) ⊎ ((k ≡ key.ToAddressA) ⊎ ((k ≡ key.ToAddressB))))) → true ≡ is_allowed place.Output k
unfolding keys_at packet_keys
allowed_in_output-FromA k (inl e) = rw e refl
allowed_in_output-FromA k (inr (inl e)) = rw e refl
allowed_in_output-FromA k (inr (inr (inl e))) = rw e refl
allowed_in_output-FromA k (inr (inr (inr e))) = rw e refl

pub allowed_in_output-Ttl : (k : Key) → k ≡ key.Ttl → true ≡ is_allowed place.Output k
unfolding keys_at packet_keys
allowed_in_output-Ttl k e = rw e refl

pub allowed_in_output-Clock : (k : Key) → k ≡ key.Clock → true ≡ is_allowed place.Output k
unfolding keys_at packet_keys
allowed_in_output-Clock k e = rw e refl

pub allowed_in_output-Late : (k : Key) → k ≡ key.Late → true ≡ is_allowed place.Output k
unfolding keys_at packet_keys
allowed_in_output-Late k e = rw e refl

pub allowed_in_output-others : (k : Key) → (k ≡ key.Channels → ⊥) → (k ≡ key.Seq → ⊥) → (k ≡ key.Start → ⊥) → (k ≡ key.Gains → ⊥) → (k ≡ key.Change → ⊥) → (k ≡ key.ToA → ⊥) → (k ≡ key.ToB → ⊥) → (k ≡ key.FromA → ⊥) → (k ≡ key.FromB → ⊥) → (k ≡ key.ToAddressA → ⊥) → (k ≡ key.ToAddressB → ⊥) → (k ≡ key.Ttl → ⊥) → (k ≡ key.Clock → ⊥) → (k ≡ key.Late → ⊥) → is_known packet_keys (name_of k) ≡ is_allowed place.Output k
unfolding keys_at packet_keys
allowed_in_output-others key.Channels h _ _ _ _ _ _ _ _ _ _ _ _ _ = absurd (h refl)
allowed_in_output-others key.Seq _ h _ _ _ _ _ _ _ _ _ _ _ _ = absurd (h refl)
allowed_in_output-others key.Start _ _ h _ _ _ _ _ _ _ _ _ _ _ = absurd (h refl)
allowed_in_output-others key.Gains _ _ _ h _ _ _ _ _ _ _ _ _ _ = absurd (h refl)
allowed_in_output-others key.Change _ _ _ _ h _ _ _ _ _ _ _ _ _ = absurd (h refl)
allowed_in_output-others key.ToA _ _ _ _ _ h _ _ _ _ _ _ _ _ = absurd (h refl)
allowed_in_output-others key.ToB _ _ _ _ _ _ h _ _ _ _ _ _ _ = absurd (h refl)
allowed_in_output-others key.FromA _ _ _ _ _ _ _ h _ _ _ _ _ _ = absurd (h refl)
allowed_in_output-others key.FromB _ _ _ _ _ _ _ _ h _ _ _ _ _ = absurd (h refl)
allowed_in_output-others key.ToAddressA _ _ _ _ _ _ _ _ _ h _ _ _ _ = absurd (h refl)
allowed_in_output-others key.ToAddressB _ _ _ _ _ _ _ _ _ _ h _ _ _ = absurd (h refl)
allowed_in_output-others key.Ttl _ _ _ _ _ _ _ _ _ _ _ h _ _ = absurd (h refl)
allowed_in_output-others key.Clock _ _ _ _ _ _ _ _ _ _ _ _ h _ = absurd (h refl)
allowed_in_output-others key.Late _ _ _ _ _ _ _ _ _ _ _ _ _ h = absurd (h refl)
allowed_in_output-others k _ _ _ _ _ _ _ _ _ _ _ _ _ _ = refl

pub allowed_in_packets-Encoding : (k : Key) → k ≡ key.Encoding → true ≡ is_known packet_keys (name_of k)
unfolding keys_at packet_keys
allowed_in_packets-Encoding k e = rw e refl

pub allowed_in_packets-Frames : (k : Key) → k ≡ key.Frames → true ≡ is_known packet_keys (name_of k)
unfolding keys_at packet_keys
allowed_in_packets-Frames k e = rw e refl

pub allowed_in_packets-Pt : (k : Key) → k ≡ key.Pt → true ≡ is_known packet_keys (name_of k)
unfolding keys_at packet_keys
allowed_in_packets-Pt k e = rw e refl

pub allowed_in_packets-Ssrc : (k : Key) → ((k ≡ key.Ssrc) ⊎ ((k ≡ key.Offset))) → true ≡ is_known packet_keys (name_of k)
unfolding keys_at packet_keys
allowed_in_packets-Ssrc k (inl e) = rw e refl
allowed_in_packets-Ssrc k (inr e) = rw e refl

pub allowed_in_packets-others : (k : Key) → (k ≡ key.Encoding → ⊥) → (k ≡ key.Frames → ⊥) → (k ≡ key.Pt → ⊥) → (k ≡ key.Ssrc → ⊥) → (k ≡ key.Offset → ⊥) → false ≡ is_known packet_keys (name_of k)
unfolding keys_at packet_keys
allowed_in_packets-others key.Encoding h _ _ _ _ = absurd (h refl)
allowed_in_packets-others key.Frames _ h _ _ _ = absurd (h refl)
allowed_in_packets-others key.Pt _ _ h _ _ = absurd (h refl)
allowed_in_packets-others key.Ssrc _ _ _ h _ = absurd (h refl)
allowed_in_packets-others key.Offset _ _ _ _ h = absurd (h refl)
allowed_in_packets-others k _ _ _ _ _ = refl

pub allowed_in_change-At : (k : Key) → k ≡ key.At → true ≡ is_allowed (place.Change 0) k
unfolding keys_at packet_keys
allowed_in_change-At k e = rw e refl

pub allowed_in_change-Gains : (k : Key) → k ≡ key.Gains → true ≡ is_allowed (place.Change 0) k
unfolding keys_at packet_keys
allowed_in_change-Gains k e = rw e refl

pub allowed_in_change-others : (k : Key) → (k ≡ key.At → ⊥) → (k ≡ key.Gains → ⊥) → false ≡ is_allowed (place.Change 0) k
unfolding keys_at packet_keys
allowed_in_change-others key.At h _ = absurd (h refl)
allowed_in_change-others key.Gains _ h = absurd (h refl)
allowed_in_change-others k _ _ = refl

-- all keys, in the order of `KEYS`
abbrev pub all_keys : List Key
all_keys = key.OpenAt ∷ key.Stream ∷ key.Output ∷ key.Encoding ∷ key.Channels ∷ key.Frames ∷ key.Pt ∷ key.Ssrc ∷ key.Clock ∷ key.Offset ∷ key.Latency ∷ key.Window ∷ key.Paths ∷ key.PortA ∷ key.PortB ∷ key.PortC ∷ key.PortD ∷ key.AddressA ∷ key.AddressB ∷ key.AddressC ∷ key.AddressD ∷ key.SourceA ∷ key.SourceB ∷ key.SourceC ∷ key.SourceD ∷ key.Name ∷ key.Seq ∷ key.Start ∷ key.Gains ∷ key.Change ∷ key.ToA ∷ key.ToB ∷ key.FromA ∷ key.FromB ∷ key.ToAddressA ∷ key.ToAddressB ∷ key.Ttl ∷ key.Late ∷ key.At ∷ []

-- each key is one of them
pub key_place : (k : Key) → (n : ℕ) × (slice_get all_keys n ≡ Some k)
key_place key.OpenAt = (0, refl)
key_place key.Stream = (1, refl)
key_place key.Output = (2, refl)
key_place key.Encoding = (3, refl)
key_place key.Channels = (4, refl)
key_place key.Frames = (5, refl)
key_place key.Pt = (6, refl)
key_place key.Ssrc = (7, refl)
key_place key.Clock = (8, refl)
key_place key.Offset = (9, refl)
key_place key.Latency = (10, refl)
key_place key.Window = (11, refl)
key_place key.Paths = (12, refl)
key_place key.PortA = (13, refl)
key_place key.PortB = (14, refl)
key_place key.PortC = (15, refl)
key_place key.PortD = (16, refl)
key_place key.AddressA = (17, refl)
key_place key.AddressB = (18, refl)
key_place key.AddressC = (19, refl)
key_place key.AddressD = (20, refl)
key_place key.SourceA = (21, refl)
key_place key.SourceB = (22, refl)
key_place key.SourceC = (23, refl)
key_place key.SourceD = (24, refl)
key_place key.Name = (25, refl)
key_place key.Seq = (26, refl)
key_place key.Start = (27, refl)
key_place key.Gains = (28, refl)
key_place key.Change = (29, refl)
key_place key.ToA = (30, refl)
key_place key.ToB = (31, refl)
key_place key.FromA = (32, refl)
key_place key.FromB = (33, refl)
key_place key.ToAddressA = (34, refl)
key_place key.ToAddressB = (35, refl)
key_place key.Ttl = (36, refl)
key_place key.Late = (37, refl)
key_place key.At = (38, refl)

-- a table at a place may have the keys of its rows
all_allowed : (p : ConfigTable) → list_all (is_allowed p) (keys_at p) ≡ true
unfolding keys_at
all_allowed place.Top = refl
all_allowed (place.Stream number) = refl
all_allowed place.Output = refl
all_allowed (place.Change number) = refl

none_of : (a b : Bool) → a && b ≡ false → b ≡ true → a ≡ false
none_of false b e f = refl
none_of true b e f = absurd (false≢true (sym e ∙ f))

and_first : (a b : Bool) → a && b ≡ true → a ≡ true
and_first true b e = refl
and_first false b e = e

and_second : (a b : Bool) → a && b ≡ true → b ≡ true
and_second true b e = e
and_second false b e = absurd (false≢true e)

or_first : (a b : Bool) → a || b ≡ false → a ≡ false
or_first false b e = refl
or_first true b e = e

or_second : (a b : Bool) → a || b ≡ false → b ≡ false
or_second false b e = e
or_second true b e = absurd (false≢true (sym e))

-- a name that is that of no allowed key is that of none of these keys
none_known : (p : ConfigTable) (name : List ℕ) (keys : List Key) → list_all (is_allowed p) keys ≡ true → ((k : Key) → bytes_eq (name_of k) name && is_allowed p k ≡ false) → is_known keys name ≡ false
none_known p name [] all none = refl
none_known p name (k ∷ keys) all none =
    let here : bytes_eq (name_of k) name ≡ false = none_of (bytes_eq (name_of k) name) (is_allowed p k) (none k) (and_first (is_allowed p k) _ all) in
    ap (λ b. b || is_known keys name) here ∙ none_known p name keys (and_second (is_allowed p k) _ all) none

-- the test of one key, at the place of a list where it is
none_at : (test : Key → Bool) (keys : List Key) (n : ℕ) (k : Key) → list_any test keys ≡ false → slice_get keys n ≡ Some k → test k ≡ false
none_at test [] n k none at = cc
none_at test (x ∷ keys) zero k none at =
    let same : x ≡ k = cc in
    ap test (sym same) ∙ or_first (test x) _ none
none_at test (x ∷ keys) (suc n) k none at = none_at test keys n k (or_second (test x) _ none) at

same_bytes : (xs ys : List ℕ) → bytes_eq xs ys ≡ true → xs ≡ ys
same_bytes [] [] e = refl
same_bytes [] (y ∷ ys) e = absurd (false≢true e)
same_bytes (x ∷ xs) [] e = absurd (false≢true e)
same_bytes (x ∷ xs) (y ∷ ys) e =
    let heads : x ≡ y = eqb-true x y (and_first (eqb x y) _ e) in
    let tails : xs ≡ ys = same_bytes xs ys (and_second (eqb x y) _ e) in
    cc

-- the name of a key that is allowed is known
one_known : (p : ConfigTable) (name : List ℕ) (k : Key) → bytes_eq (name_of k) name && is_allowed p k ≡ true → is_known (keys_at p) name ≡ true
one_known p name k e =
    let same : name_of k ≡ name = same_bytes (name_of k) name (and_first (bytes_eq (name_of k) name) _ e) in
    ap (is_known (keys_at p)) (sym same) ∙ and_second (bytes_eq (name_of k) name) _ e

any_step : (p : ConfigTable) (name : List ℕ) (k : Key) (rest : Bool) → (rest ≡ true → is_known (keys_at p) name ≡ true) → (test : Bool) → bytes_eq (name_of k) name && is_allowed p k ≡ test → test || rest ≡ true → is_known (keys_at p) name ≡ true
any_step p name k rest later true here any = one_known p name k here
any_step p name k rest later false here any = later any

any_known : (p : ConfigTable) (name : List ℕ) (keys : List Key) → list_any (λ k. bytes_eq (name_of k) name && is_allowed p k) keys ≡ true → is_known (keys_at p) name ≡ true
any_known p name [] e = absurd (false≢true e)
any_known p name (k ∷ keys) e = any_step p name k _ (any_known p name keys) (bytes_eq (name_of k) name && is_allowed p k) refl e

known_step : (p : ConfigTable) (name : List ℕ) (test : Bool) → list_any (λ k. bytes_eq (name_of k) name && is_allowed p k) all_keys ≡ test → test ≡ is_known (keys_at p) name
known_step p name true any = sym (any_known p name all_keys any)
known_step p name false any = sym (none_known p name (keys_at p) (all_allowed p) (λ k. let at = key_place k in none_at (λ x. bytes_eq (name_of x) name && is_allowed p x) all_keys at.0 k any at.1))

-- a name is known at a place exactly if one of all keys has it and is allowed there
pub known_by_all : (p : ConfigTable) (name : List ℕ) → list_any (λ k. bytes_eq (name_of k) name && is_allowed p k) all_keys ≡ is_known (keys_at p) name
known_by_all p name = known_step p name (list_any (λ k. bytes_eq (name_of k) name && is_allowed p k) all_keys) refl

-- what a search found passes the test, and if it found nothing, nothing does
find_step : (b : Bool) (x k : Key) (rest : Option Key) → cond b (Some x) rest ≡ Some k → ((b ≡ true) × (x ≡ k)) ⊎ (rest ≡ Some k)
find_step true x k rest e = let same : x ≡ k = cc in inl (refl, same)
find_step false x k rest e = inr e

pub find_some : (test : Key → Bool) (keys : List Key) (k : Key) → find test keys ≡ Some k → test k ≡ true
find_some test [] k e = cc
find_some test (x ∷ keys) k e = ⊎_elim (λ (h : (test x ≡ true) × (x ≡ k)). ap test (sym h.1) ∙ h.0) (λ (h : find test keys ≡ Some k). find_some test keys k h) (find_step (test x) x k (find test keys) e)

first_none : (b : Bool) (x : Key) (rest : Option Key) → cond b (Some x) rest ≡ None → b ≡ false
first_none true x rest e = cc
first_none false x rest e = refl

rest_none : (b : Bool) (x : Key) (rest : Option Key) → cond b (Some x) rest ≡ None → rest ≡ None
rest_none true x rest e = cc
rest_none false x rest e = e

pub find_none : (test : Key → Bool) (keys : List Key) → find test keys ≡ None → (n : ℕ) (k : Key) → slice_get keys n ≡ Some k → test k ≡ false
find_none test [] e n k at = cc
find_none test (x ∷ keys) e zero k at =
    let same : x ≡ k = cc in
    ap test (sym same) ∙ first_none (test x) x (find test keys) e
find_none test (x ∷ keys) e (suc n) k at = find_none test keys (rest_none (test x) x (find test keys) e) n k at
