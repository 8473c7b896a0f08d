use Rattle.std.proofs.Common.{◌∙◌, sym}
use Rattle.live_io.specs.Names.{path_name}
use Rattle.live_io.proofs.NameLemmas.{is_text, name_one, name_two}
use Rattle.live_io.proofs.sockets.names.is_path_name.Goals as goal

pub returns-then-stream-lt10 : goal.returns-then-stream-lt10
returns-then-stream-lt10 c =
    is_text c.args.name.now c.as_slice.result.now (path_name c.args.stream c.args.path) c.eq.result c.eq.ensures
    (name_one c.args.stream c.args.path c.if-stream-lt10.true ∙ sym c.as_slice.ensures)

pub returns-else-stream-lt10 : goal.returns-else-stream-lt10
returns-else-stream-lt10 c =
    is_text c.args.name.now c.as_slice-else-stream-lt10.result.now (path_name c.args.stream c.args.path) c.eq-else-stream-lt10.result c.eq-else-stream-lt10.ensures
    (name_two c.args.stream c.args.path c.if-stream-lt10.false c.requires.streams ∙ sym c.as_slice-else-stream-lt10.ensures)
