use Rattle.std.proofs.Common.{rules, ◌≡◌, [], length, refl}
use Rattle.std.proofs.lemmas.Bool.Decides.{Decides-int_eq}
use Rattle.std.proofs.lemmas.Slice.Eq.{slice_eq-Decides}
use Rattle.gain_mix.specs.Gain.{ins_of, rows_of}
use Rattle.file_commands.specs.ImportedConfig.{unit_gains}
use Rattle.file_commands.proofs.ImportedConfigLemmas.{unit_schedule}
use Rattle.file_commands.proofs.imported_config.has_unit_gains.Goals as goal

pub returns : goal.returns
returns c =
    let s = c.args.schedule.now in
    let m = c.first-gains.result.now in
    let first : m ≡ s.first = search rules in
    let by_row : rows_of (ins_of m) (length m) c.gains.result.now ≡ m = search rules in
    let outs : c.args.outputs ≡ length m = search rules in
    let ins : c.args.inputs ≡ ins_of m = search rules in
    let decides = slice_eq-Decides Decides-int_eq c.gains.result.now c.as_slice.result.now _ refl in
    let equal : c.gains.result.now ≡ c.as_slice.result.now = search (decides, rules) in
    let same : c.gains.result.now ≡ unit_gains c.args.outputs c.args.inputs = search rules in
    let later : s.later ≡ [] = search rules in
    λ _. unit_schedule s m c.gains.result.now c.args.outputs c.args.inputs first by_row outs ins same later
