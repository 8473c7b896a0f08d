use Rattle.std.proofs.Common.{◌∙◌}
use Rattle.file_commands.proofs.AllowedLemmas as lemma
use Rattle.file_commands.proofs.explanation.allowed.allowed_in_stream.Goals as goal

pub returns-in-Channels : goal.returns-in-Channels
returns-in-Channels c = lemma.allowed_in_stream-Channels c.args.key c.in-Channels.is

pub returns-in-Clock : goal.returns-in-Clock
returns-in-Clock c = lemma.allowed_in_stream-Clock c.args.key c.in-Clock.is

pub returns-in-Latency : goal.returns-in-Latency
returns-in-Latency c = lemma.allowed_in_stream-Latency c.args.key c.in-Latency.is

pub returns-in-Window : goal.returns-in-Window
returns-in-Window c = lemma.allowed_in_stream-Window c.args.key c.in-Window.is

pub returns-in-Paths : goal.returns-in-Paths
returns-in-Paths c = lemma.allowed_in_stream-Paths c.args.key c.in-Paths.is

pub returns-in-PortA : goal.returns-in-PortA
returns-in-PortA c = lemma.allowed_in_stream-PortA c.args.key c.in-PortA.is

pub returns-in-AddressA : goal.returns-in-AddressA
returns-in-AddressA c = lemma.allowed_in_stream-AddressA c.args.key c.in-AddressA.is

pub returns-in-SourceA : goal.returns-in-SourceA
returns-in-SourceA c = lemma.allowed_in_stream-SourceA c.args.key c.in-SourceA.is

pub returns-in-Name : goal.returns-in-Name
returns-in-Name c = lemma.allowed_in_stream-Name c.args.key c.in-Name.is

pub returns-in_default : goal.returns-in_default
returns-in_default c = c.allowed_in_packets.ensures ∙ lemma.allowed_in_stream-others c.args.key c.in_default.not-Channels c.in_default.not-Clock c.in_default.not-Latency c.in_default.not-Window c.in_default.not-Paths c.in_default.not-PortA c.in_default.not-PortB c.in_default.not-PortC c.in_default.not-PortD c.in_default.not-AddressA c.in_default.not-AddressB c.in_default.not-AddressC c.in_default.not-AddressD c.in_default.not-SourceA c.in_default.not-SourceB c.in_default.not-SourceC c.in_default.not-SourceD c.in_default.not-Name
