use Rattle.std.proofs.Common.{◌≡◌, vec_len, vec_capacity}
use Rattle.studio_rings.proofs.jobs.unset_flags.Given as goal

abbrev pub invariant-loop : goal.invariant-loop
invariant-loop l = (vec_len l.flags ≡ l.counter) × (vec_capacity l.flags ≡ vec_capacity l.initial.flags)
