-- The paths of a table's flows with one more.
use Rattle.std.proofs.Common.{ℕ, ◌+◌, ◌≡◌, ◌<◌, ◌≤◌, List, [], ◌∷◌, ◌++◌, length, drop, slice_index_or, sym, ap, ◌∙◌}
use Rattle.std.proofs.lemmas.List.{drop_more, drop_all}
use Rattle.pcap_flows.specs.declared.packet.FlowKey.{FlowKey}
use Rattle.pcap_flows.specs.declared.streams.FlowPath.{FlowPath}
use Rattle.pcap_flows.specs.FlowTable.{TableView}
use Rattle.pcap_flows.specs.Streams.{path_for, paths_with}

pub paths_more : (t : TableView) (paths longer : List FlowPath) (keys : List FlowKey) (n : ℕ) (key : FlowKey) → n < length keys → key ≡ slice_index_or keys n key → longer ≡ paths ++ path_for t paths key (length paths) ∷ []
    → paths_with t longer (drop (n + 1) keys) ≡ paths_with t paths (drop n keys)
unfolding paths_with
paths_more t paths longer keys n key below is next =
    ap (λ p. paths_with t p (drop (n + 1) keys)) next
    ∙ sym (ap (paths_with t paths) (drop_more keys n key below ∙ ap (λ k. k ∷ drop (n + 1) keys) (sym is)))

pub paths_end : (t : TableView) (paths : List FlowPath) (keys : List FlowKey) (n : ℕ) → length keys ≤ n → paths_with t paths (drop n keys) ≡ paths
unfolding paths_with
paths_end t paths keys n end = ap (paths_with t paths) (drop_all n keys end)
