-- The flows of a table that have a route, and those that have none.
use Rattle.std.proofs.Common.{◌≡◌, ◌≤◌, ◌+◌, ◌-◌, ℕ, Bool, true, false, List, [], ◌∷◌, ◌++◌, length, map, filter, not, cond, ◌&&◌, refl, ap, ◌∙◌, arith, length-append}
use Rattle.std.proofs.lemmas.List.{length-map}
use Rattle.std.proofs.lemmas.List.Filters.{length-filter_both}
use Rattle.std.specs.Prelude.{nat_lt}
use Rattle.std.specs.declared.net.socket_addr.SocketAddrV4.{SocketAddrV4}
use Rattle.pcap_flows.specs.declared.packet.FlowKey.{FlowKey}
use Rattle.pcap_flows.specs.declared.streams.FlowPath.{FlowPath}
use Rattle.pcap_flows.specs.FlowTable.{TableView}
use Rattle.pcap_flows.specs.Streams.{path_for, paths_of, paths_with}
use Rattle.pcap_flows.specs.declared.routes.Route.{Route}
use Rattle.pcap_flows.specs.Routes.{chosen_paths, is_chosen, leads, left_out_of, route_of_path, routes_of, stream_count, streams_before}

-- what passes two tests passes the second one
one_within : {X : Type 0} (b c : Bool) (x : X) (us vs : List X) → length us ≤ length vs → length (cond (b && c) (x ∷ us) us) ≤ length (cond c (x ∷ vs) vs)
one_within true true x us vs le = omega (arith, le)
one_within true false x us vs le = le
one_within false true x us vs le = omega (arith, le)
one_within false false x us vs le = le

both_within : {X : Type 0} (p q : X → Bool) (xs : List X) → length (filter (λ x. p x && q x) xs) ≤ length (filter q xs)
both_within p q [] = omega arith
both_within p q (x ∷ xs) = one_within (p x) (q x) x (filter (λ y. p y && q y) xs) (filter q xs) (both_within p q xs)

-- the streams that begin before a place are some of all
pub before_within : (chosen : List FlowPath) (first : ℕ) → streams_before chosen first ≤ stream_count chosen
before_within chosen first = both_within (λ path. nat_lt path.first first) (leads chosen) chosen

-- each flow has a path
paths_grow : (t : TableView) (paths : List FlowPath) (keys : List FlowKey) → length (paths_with t paths keys) ≡ length paths + length keys
unfolding paths_with
paths_grow t paths [] = omega arith
paths_grow t paths (key ∷ keys) =
    let more = paths_grow t (paths ++ path_for t paths key (length paths) ∷ []) keys in
    omega (arith, more, length-append paths (path_for t paths key (length paths) ∷ []))

-- the flows without a route are those that are left
pub left_out_is : (t : TableView) (names : List SocketAddrV4) (routes : List Route) (flows out : ℕ) → flows ≡ length t.keys → routes ≡ routes_of t names → out ≡ flows - length routes → out ≡ left_out_of t names
left_out_is t names routes flows out all are is =
    let both = length-filter_both (is_chosen t names (paths_of t)) (λ path. not (is_chosen t names (paths_of t) path)) (λ path. refl) (paths_of t) in
    let own : length routes ≡ length (chosen_paths t names) = ap length are ∙ length-map (chosen_paths t names) (route_of_path (chosen_paths t names)) in
    omega (arith, is, both, all, own, paths_grow t [] t.keys)
