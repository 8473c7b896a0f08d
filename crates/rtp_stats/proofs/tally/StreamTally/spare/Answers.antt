use Rattle.std.proofs.Common.{◌≡◌, sym, subst, ap, ◌∙◌, w64}
use Rattle.std.proofs.lemmas.Int.{to_z-of_z}
use Rattle.rtp_stats.specs.Margins.{second_of}
use Rattle.rtp_stats.specs.Tally.{HasTally}
use Rattle.rtp_stats.proofs.AnswerLemmas.{greatest_answer, least_answer, median_answer, none_answer, second_answer}
use Rattle.rtp_stats.proofs.tally.StreamTally.spare.Goals as goal

pub returns-clause-least : goal.returns-clause-least
returns-clause-least c stream offers has =
    let known = subst (HasTally stream offers) (sym c.self.view_is) has in
    let second : c.second_of-second.result ≡ second_of c.args.now = c.second_of-second.ensures ∙ ap second_of (to_z-of_z w64 c.args.now c.ranges.now) in
    least_answer c.args.path c.second_of-second.result c.place_of.result c.args.now offers c.self.inside.seconds.items c.index.result.now known.seconds second c.if-second-eq0.false c.place_of.ensures.value c.place_of.ensures.few c.index.ensures c.margin_in.result c.margin_in.ensures

pub returns-clause-greatest : goal.returns-clause-greatest
returns-clause-greatest c stream offers has =
    let known = subst (HasTally stream offers) (sym c.self.view_is) has in
    let second : c.second_of-second.result ≡ second_of c.args.now = c.second_of-second.ensures ∙ ap second_of (to_z-of_z w64 c.args.now c.ranges.now) in
    greatest_answer c.args.path c.second_of-second.result c.place_of.result c.args.now offers c.self.inside.seconds.items c.index.result.now known.seconds second c.if-second-eq0.false c.place_of.ensures.value c.place_of.ensures.few c.index.ensures c.margin_in.result c.margin_in.ensures

pub returns-clause-second : goal.returns-clause-second
returns-clause-second c =
    let second : c.second_of-second.result ≡ second_of c.args.now = c.second_of-second.ensures ∙ ap second_of (to_z-of_z w64 c.args.now c.ranges.now) in
    second_answer c.second_of-second.result (second_of c.args.now) c.index.result.now second c.if-second-eq0.false c.margin_in.result c.margin_in.ensures

pub returns-clause-median : goal.returns-clause-median
returns-clause-median c stream offers has short =
    let known = subst (HasTally stream offers) (sym c.self.view_is) has in
    let second : c.second_of-second.result ≡ second_of c.args.now = c.second_of-second.ensures ∙ ap second_of (to_z-of_z w64 c.args.now c.ranges.now) in
    median_answer c.args.path c.second_of-second.result c.place_of.result c.args.now offers c.self.inside.seconds.items c.index.result.now known.seconds second c.if-second-eq0.false c.place_of.ensures.value c.place_of.ensures.few c.index.ensures c.margin_in.result c.margin_in.ensures short

pub returns-clause-none : goal.returns-clause-none
returns-clause-none c stream offers has latest none =
    let known = subst (HasTally stream offers) (sym c.self.view_is) has in
    let second : c.second_of-second.result ≡ second_of c.args.now = c.second_of-second.ensures ∙ ap second_of (to_z-of_z w64 c.args.now c.ranges.now) in
    none_answer c.args.path c.second_of-second.result c.place_of.result c.args.now offers c.self.inside.seconds.items c.index.result.now known.seconds second c.if-second-eq0.false c.place_of.ensures.value c.place_of.ensures.few c.index.ensures c.margin_in.result c.margin_in.ensures latest none
