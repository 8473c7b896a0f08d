use Rattle.std.proofs.Common.{◌≡◌, ◌++◌, ℤ, OnOk, SFits, ap, append_assoc, ◌∙◌, rules, subst, to_z-of_z, w64}
use Rattle.std.specs.Prelude.{codes}
use Rattle.status_page.specs.GainReplies.{time_member}
use Rattle.status_page.proofs.control.reply.write_times.Goals as goal

pub returns-clause-tokens : goal.returns-clause-tokens
returns-clause-tokens c =
    let fits : SFits w64 c.args.times.at = search rules in
    let next_fits : SFits w64 c.args.times.next_block_start = search rules in
    let first = time_member (codes "at") c.args.times.at in
    let second = time_member (codes "next_block_start") c.args.times.next_block_start in
    let was = c.args.writer.now.tokens in
    let at : c.write_time.new.writer.tokens ≡ was ++ first = c.in_ok-write_time.ensures.tokens ∙ ap (λ time. was ++ time_member (codes "at") time) (to_z-of_z fits) in
    let same : c.write_time.new.writer.tokens ++ second ≡ was ++ (first ++ second) = ap (λ tokens. tokens ++ second) at ∙ append_assoc was first second in
    let Ends : ℤ → Type 0 = λ time. OnOk c.write_time-2.result (c.write_time-2.new.writer.tokens ≡ c.write_time.new.writer.tokens ++ time_member (codes "next_block_start") time) in
    let last : Ends c.args.times.next_block_start = subst Ends (to_z-of_z next_fits) c.write_time-2.ensures.tokens in
    subst (λ tokens. OnOk c.write_time-2.result (c.write_time-2.new.writer.tokens ≡ tokens)) same last
