use Rattle.std.specs.Prelude.{codes}
use Rattle.std.proofs.lemmas.Bool.Decides.{Decides-eqb}
use Rattle.std.proofs.lemmas.Slice.Eq.{strip_prefix_is, strip_suffix_is}
use Rattle.live_io.proofs.LinkLemmas.{found, socket_is}
use Rattle.live_io.proofs.sockets.socket_kind.inode_in.Goals as goal

pub returns-clause-socket : goal.returns-clause-socket
returns-clause-socket c =
    socket_is c.args.target.now c.in-Some.rest.now c.in-Some-strip_suffix.digits.now c.decimal_number.result
    (found c.strip_prefix.result c.in-Some.rest _ _ c.in-Some.is (strip_prefix_is Decides-eqb c.args.target.now (codes "socket:[") c.strip_prefix.result c.strip_prefix.ensures.cases))
    (found c.strip_suffix.result c.in-Some-strip_suffix.digits _ _ c.in-Some-strip_suffix.is (strip_suffix_is Decides-eqb c.in-Some.rest.now (codes "]") c.strip_suffix.result c.strip_suffix.ensures.cases))
    c.decimal_number.ensures.spelled
