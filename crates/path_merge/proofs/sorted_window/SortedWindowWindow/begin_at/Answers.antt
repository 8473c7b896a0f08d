use Rattle.std.proofs.Common.{◌+◌, arith, sym, ap, ◌∙◌}
use Rattle.path_merge.proofs.SortedLemmas.{get_entries, none_so_empty}
use Rattle.std.specs.Ordering.{nat_cmp}
use Rattle.std.specs.FinMap.{get, from_entries}
use Rattle.path_merge.specs.SortedWindow.{SortedPackets}
use Rattle.path_merge.proofs.sorted_window.SortedWindowWindow.begin_at.Goals as goal

-- nothing is held
pub invariant_of-self : goal.invariant_of-self
invariant_of-self c =
    record {
      within = none_so_empty c.self.inside.packets.items c.args.number (c.args.number + c.self.inside.size) (λ n. sym (get_entries _ n) ∙ ap (λ (h : SortedPackets). get (from_entries {R = nat_cmp} h.packets) n) c.self.view_is ∙ c.requires.empty n);
      space = c.self.invariant.space;
      small = omega (arith, c.requires.small);
      narrow = c.self.invariant.narrow;
    }

pub returns-clause-held : goal.returns-clause-held
returns-clause-held c = rw (← c.self.view_is) at c.requires.empty
