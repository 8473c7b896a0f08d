use Rattle.std.proofs.Common.{[], refl, subst, arith, w64}
use Rattle.std.proofs.lemmas.Int.{to_z-of_z}
use Rattle.path_merge.specs.Merge.{HasHistory}
use Rattle.rtp_stream.specs.PathCounts.{path_tally_of}
use Rattle.studio_session.proofs.CountsLemmas.{counted_none, few_none}
use Rattle.studio_session.proofs.cursor.Cursor.new.Goals as goal

pub returns-clause-stands : goal.returns-clause-stands
returns-clause-stands c = λ events. record {
  spec = refl;
  stream_number = refl;
  within = omega arith;
  counted = counted_none c.args.spec c.args.number (path_tally_of c.new-2.result) c.new-2.ensures;
  stands = subst (λ t. HasHistory c.args.spec t c.in_ok-merge.merge [] 0) (to_z-of_z w64 c.args.open_at c.ranges.open_at) c.in_ok-merge.ensures.stands;
}

pub invariant_of-result : goal.invariant_of-result
invariant_of-result c = record {
  spec = (c.in_ok-merge.ensures.stands).spec;
  four = refl;
  few = few_none (path_tally_of c.new-2.result) c.new-2.ensures;
  can = tt;
}
