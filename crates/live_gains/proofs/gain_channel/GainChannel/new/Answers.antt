use Rattle.std.proofs.Common.{◌≡◌, ℤ, List, [], sym, ap, subst, ◌∙◌, rules}
use Rattle.std.specs.declared.alloc.Global.{Global}
use Rattle.std.specs.declared.vec.Vec.{Vec}
use Rattle.live_gains.specs.GainChannel.{changes_by}
use Rattle.live_gains.specs.Planned.{behind, planned_at, times_of}
use Rattle.live_gains.proofs.PlannedLemmas.{kept_first}
use Rattle.live_gains.proofs.gain_channel.GainChannel.new.Goals as goal

pub returns-clause-planned : goal.returns-clause-planned
returns-clause-planned g c = λ from t late.
    let studio = c.args.studio.now in
    let none : changes_by c.new-2.result ≡ [] = search rules in
    let times : c.new-2.result.planned.items ≡ times_of studio.schedule.later = ap (λ (v : Vec ℤ Global). v.items) c.new-2.ensures.planned ∙ c.in_ok-planned_of.ensures in
    subst (λ (changes : List (ℤ × List ℤ)). behind t c.new-2.result.planned.items ≡ planned_at studio changes t) (sym none) (ap (behind t) times ∙ kept_first studio from t late)
