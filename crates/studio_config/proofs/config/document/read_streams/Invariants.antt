use Rattle.std.proofs.Common.{◌≡◌, drop, take, map}
use Rattle.toml.specs.View.{view}
use Rattle.studio_config.specs.Values.{members_in}
use Rattle.studio_config.specs.StreamTable.{stream_of, stream_fault}
use Rattle.studio_config.specs.OutputTable.{each_fault}
use Rattle.studio_config.specs.Config.{port_table, bind_table, sender_table}
use Rattle.studio_config.specs.declared.config.fault.ConfigTable.TheVariants as at
use Rattle.studio_config.proofs.config.document.read_streams.Given as goal

-- the streams so far were read, and the first fault is that of those that are left
abbrev pub invariant-loop-number : goal.invariant-loop-number
invariant-loop-number l = record {
  so_far : l.streams.items ≡ map stream_of (map (λ t. members_in (view t)) (take l.number l.tables));
  rows : l.ports.paths ≡ port_table (map (λ t. members_in (view t)) (take l.number l.tables));
  receive_at : l.networks.paths ≡ bind_table (map (λ t. members_in (view t)) (take l.number l.tables));
  sources : l.networks.sources ≡ sender_table (map (λ t. members_in (view t)) (take l.number l.tables));
  left : each_fault (λ n. stream_fault (at.Stream n)) 0 (map (λ t. members_in (view t)) l.tables)
      ≡ each_fault (λ n. stream_fault (at.Stream n)) l.number (map (λ t. members_in (view t)) (drop l.number l.tables));
}
