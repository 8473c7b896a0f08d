-- Changes of gains that a mixer's end takes, one after another.
use Rattle.std.proofs.Common.{ℤ, List, [], ◌++◌, refl, sym, subst, ◌∙◌, append-nil}
use Rattle.studio_config.specs.Studio.{Studio}
use Rattle.studio_mix.specs.Changed.{with_changes}
use Rattle.studio_mix.proofs.TakenLemmas.{more_taken, with_changes-append}
use Rattle.studio_ends.specs.Datagrams.{HasGiven}
use Rattle.studio_ends.specs.declared.mix_end.MixEnd.{MixEnd}
use Rattle.studio_rings.specs.GainRequests.{TakesChanges}

pub takes-none : (s : MixEnd) (taken : List (ℤ × List ℤ)) → TakesChanges s s taken taken
takes-none s taken = record { changes = []; taken = sym (append-nil taken); sides = refl; given = λ studio datagrams h. h }

pub takes-more : (s t u : MixEnd) (a b c : List (ℤ × List ℤ)) → TakesChanges s t a b → TakesChanges t u b c → TakesChanges s u a c
takes-more s t u a b c h k = record {
  changes = h.changes ++ k.changes;
  taken = more_taken a b c h.changes k.changes h.taken k.taken;
  sides = k.sides ∙ h.sides;
  given = λ studio datagrams g.
      subst (λ (s : Studio). HasGiven s u datagrams) (with_changes-append studio h.changes k.changes) (k.given (with_changes studio h.changes) datagrams (h.given studio datagrams g));
}
