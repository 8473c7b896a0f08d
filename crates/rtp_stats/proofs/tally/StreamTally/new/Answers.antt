use Rattle.std.proofs.lemmas.Grind.{elements}
use Rattle.std.proofs.Common.{refl, sym, subst, ◌∙◌, ap, replicate, arith}
use Rattle.std.specs.Prelude.{[]}
use Rattle.rtp_stats.specs.WindowCopies.{empty_entry}
use Rattle.rtp_stats.specs.Tally.{HasEntries}
use Rattle.rtp_stats.proofs.TallyLemmas.{counts_new, entries_new, seconds_new}
use Rattle.rtp_stats.proofs.tally.StreamTally.new.Goals as goal

pub returns : goal.returns
returns c =
    let window = c.args.spec.now.window in
    let places = c.in_ok-entries.ensures ∙ ap (λ n. replicate n empty_entry) c.window.ensures.value in
    record {
      fates = rw c.new.ensures (record {
        first = counts_new _ (λ p. refl);
        double = counts_new _ (λ p. refl);
        unlike = counts_new _ (λ p. refl);
        late = counts_new _ (λ p. refl);
        ahead = counts_new _ (λ p. refl);
      });
      missed = counts_new _ (λ p. refl);
      repeats = counts_new _ (λ p. refl);
      entries = subst (HasEntries c.args.spec.now.window []) (sym places) (entries_new c.args.spec.now.window);
      seconds = seconds_new c.in_ok-seconds.seconds.items c.in_ok-seconds.ensures;
    }

pub invariant_of-result : goal.invariant_of-result
invariant_of-result c = grind (arith, elements)
