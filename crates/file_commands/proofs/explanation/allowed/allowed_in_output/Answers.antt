use Rattle.std.proofs.Common.{◌∙◌}
use Rattle.file_commands.proofs.AllowedLemmas as lemma
use Rattle.file_commands.proofs.explanation.allowed.allowed_in_output.Goals as goal

pub returns-in-Channels : goal.returns-in-Channels
returns-in-Channels c = lemma.allowed_in_output-Channels c.args.key c.in-Channels.is

pub returns-in-Seq : goal.returns-in-Seq
returns-in-Seq c = lemma.allowed_in_output-Seq c.args.key c.in-Seq.is

pub returns-in-Start : goal.returns-in-Start
returns-in-Start c = lemma.allowed_in_output-Start c.args.key c.in-Start.is

pub returns-in-Gains : goal.returns-in-Gains
returns-in-Gains c = lemma.allowed_in_output-Gains c.args.key c.in-Gains.is

pub returns-in-Change : goal.returns-in-Change
returns-in-Change c = lemma.allowed_in_output-Change c.args.key c.in-Change.is

pub returns-in-ToA : goal.returns-in-ToA
returns-in-ToA c = lemma.allowed_in_output-ToA c.args.key c.in-ToA.is

pub returns-in-FromA : goal.returns-in-FromA
returns-in-FromA c = lemma.allowed_in_output-FromA c.args.key c.in-FromA.is

pub returns-in-Ttl : goal.returns-in-Ttl
returns-in-Ttl c = lemma.allowed_in_output-Ttl c.args.key c.in-Ttl.is

pub returns-in-Clock : goal.returns-in-Clock
returns-in-Clock c = lemma.allowed_in_output-Clock c.args.key c.in-Clock.is

pub returns-in-Late : goal.returns-in-Late
returns-in-Late c = lemma.allowed_in_output-Late c.args.key c.in-Late.is

pub returns-in_default : goal.returns-in_default
returns-in_default c = c.allowed_in_packets.ensures ∙ lemma.allowed_in_output-others c.args.key c.in_default.not-Channels c.in_default.not-Seq c.in_default.not-Start c.in_default.not-Gains c.in_default.not-Change c.in_default.not-ToA c.in_default.not-ToB c.in_default.not-FromA c.in_default.not-FromB c.in_default.not-ToAddressA c.in_default.not-ToAddressB c.in_default.not-Ttl c.in_default.not-Clock c.in_default.not-Late
