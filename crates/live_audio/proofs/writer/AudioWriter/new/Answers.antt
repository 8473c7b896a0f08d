use Rattle.std.proofs.Common.{◌<◌, refl, sym, subst}
use Rattle.wav_file.specs.Header.{frame_length}
use Rattle.live_audio.proofs.AudioLemmas.{behind_header, some_octets}
use Rattle.live_audio.proofs.writer.AudioWriter.new.Goals as goal

pub returns-clause-fresh : goal.returns-clause-fresh
returns-clause-fresh c = λ none. record {
  none = none;
  format = c.format_of.ensures.value;
  block = behind_header _ _ c.datagram_len.ensures.value;
  some = subst (λ f. 0 < frame_length f) (sym c.format_of.ensures.value) (some_octets c.args.output.now.enc c.args.output.now.channels c.format_of.ensures.sound.some_channels);
  parts = c.plan_of.ensures.some;
  counted = refl;
}
