use Rattle.std.proofs.Common.{ap, ◌∙◌}
use Rattle.rtp_stream.specs.Grid.{first_with}
use Rattle.path_merge.proofs.SortedLemmas.{get_entries}
use Rattle.path_merge.proofs.sorted_window.SortedWindow.new.Goals as goal

pub returns-clause-empty : goal.returns-clause-empty
returns-clause-empty c n = get_entries c.in_ok-packets.packets.items n ∙ ap (first_with n) c.in_ok-packets.ensures.items
