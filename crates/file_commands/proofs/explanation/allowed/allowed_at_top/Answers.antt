use Rattle.file_commands.proofs.AllowedLemmas as lemma
use Rattle.file_commands.proofs.explanation.allowed.allowed_at_top.Goals as goal

pub returns-in-OpenAt : goal.returns-in-OpenAt
returns-in-OpenAt c = lemma.allowed_at_top-OpenAt c.args.key c.in-OpenAt.is

pub returns-in-Stream : goal.returns-in-Stream
returns-in-Stream c = lemma.allowed_at_top-Stream c.args.key c.in-Stream.is

pub returns-in-Output : goal.returns-in-Output
returns-in-Output c = lemma.allowed_at_top-Output c.args.key c.in-Output.is

pub returns-in_default : goal.returns-in_default
returns-in_default c = lemma.allowed_at_top-others c.args.key c.in_default.not-OpenAt c.in_default.not-Stream c.in_default.not-Output
