use Rattle.std.proofs.Common.{◌≡◌, true, nat_lt, nat_eq, arith, sym, ap, ◌∙◌, if◌then◌else◌}
use Rattle.std.proofs.lemmas.Bool.Decides.{nat_tests}
use Rattle.rtp_stats.specs.MarginSecond.{empty_second, with_spare}
use Rattle.rtp_stats.proofs.tally.margins.MarginSecond.note.Goals as goal

pub returns-then-self-second : goal.returns-then-self-second
returns-then-self-second c =
    let less : nat_lt c.args.self.now.second c.args.second ≡ true = grind (arith, nat_tests, c.if-self-second.true) in
    c.add.ensures
    ∙ ap (with_spare c.args.spare) c.begin.ensures
    ∙ sym (ap (λ b. if b then with_spare c.args.spare (empty_second c.args.second) else if nat_eq c.args.self.now.second c.args.second then with_spare c.args.spare c.args.self.now else c.args.self.now) less)
