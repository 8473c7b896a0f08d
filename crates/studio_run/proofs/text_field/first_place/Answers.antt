use Rattle.std.proofs.Common.{◌==◌}
use Rattle.studio_run.proofs.SearchLemmas.{place_found}
use Rattle.studio_run.proofs.text_field.first_place.Goals as goal

pub returns : goal.returns
returns c = place_found (λ octet. octet == c.args.wanted) c.args.text.now c.memchr.result c.memchr.ensures
