use Rattle.std.proofs.Common.{◌+◌, sym, ◌∙◌}
use Rattle.path_merge.proofs.SortedLemmas.{get_entries, front_taken, front_absent}
use Rattle.path_merge.proofs.sorted_window.SortedWindowWindow.front.Goals as goal

pub returns-then-starts_with : goal.returns-then-starts_with
returns-then-starts_with c = rw (← c.self.view_is) (simp get_entries (sym (front_taken c.self.inside.base (c.self.inside.base + c.self.inside.size) c.index.result.now c.self.inside.packets.items c.self.invariant.within (rw c.deref.ensures.value at (sym c.starts_with.ensures ∙ c.if-starts_with.true)) c.index.ensures).0))

pub returns-else-starts_with : goal.returns-else-starts_with
returns-else-starts_with c = rw (← c.self.view_is) (simp get_entries (sym (front_absent c.self.inside.base (c.self.inside.base + c.self.inside.size) c.self.inside.packets.items c.self.invariant.within (rw c.deref.ensures.value at (sym c.starts_with.ensures ∙ c.if-starts_with.false))).0))
