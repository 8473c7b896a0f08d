use Rattle.file_commands.proofs.AllowedLemmas as lemma
use Rattle.file_commands.proofs.explanation.allowed.allowed_in_change.Goals as goal

pub returns-in-At : goal.returns-in-At
returns-in-At c = lemma.allowed_in_change-At c.args.key c.in-At.is

pub returns-in-Gains : goal.returns-in-Gains
returns-in-Gains c = lemma.allowed_in_change-Gains c.args.key c.in-Gains.is

pub returns-in_default : goal.returns-in_default
returns-in_default c = lemma.allowed_in_change-others c.args.key c.in_default.not-At c.in_default.not-Gains
