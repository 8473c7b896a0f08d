use Rattle.file_commands.proofs.AllowedLemmas as lemma
use Rattle.file_commands.proofs.explanation.allowed.allowed_in_packets.Goals as goal

pub returns-in-Encoding : goal.returns-in-Encoding
returns-in-Encoding c = lemma.allowed_in_packets-Encoding c.args.key c.in-Encoding.is

pub returns-in-Frames : goal.returns-in-Frames
returns-in-Frames c = lemma.allowed_in_packets-Frames c.args.key c.in-Frames.is

pub returns-in-Pt : goal.returns-in-Pt
returns-in-Pt c = lemma.allowed_in_packets-Pt c.args.key c.in-Pt.is

pub returns-in-Ssrc : goal.returns-in-Ssrc
returns-in-Ssrc c = lemma.allowed_in_packets-Ssrc c.args.key c.in-Ssrc.is

pub returns-in_default : goal.returns-in_default
returns-in_default c = lemma.allowed_in_packets-others c.args.key c.in_default.not-Encoding c.in_default.not-Frames c.in_default.not-Pt c.in_default.not-Ssrc c.in_default.not-Offset
