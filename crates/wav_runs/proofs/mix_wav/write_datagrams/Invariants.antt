use Rattle.std.proofs.Common.{◌≡◌, length, All}
use Rattle.studio_config.specs.Studio.{Studio}
use Rattle.studio_session.specs.Cursor.{IsReadyFor}
use Rattle.studio_session.specs.Play.{HasPlayed, IsRunnableBy}
use Rattle.studio_session.specs.Run.{blocks_left}
use Rattle.wav_runs.specs.MixWav.{IsRecording}
use Rattle.wav_runs.proofs.mix_wav.write_datagrams.Given as goal

-- the blocks so far were written
abbrev pub invariant-rounds : goal.invariant-rounds
invariant-rounds g l = record {
  ready : All (IsReadyFor (g.E.EventSource.events l.source)) l.session.cursors;
  space : length l.out ≡ 1452;
  spec : l.session.mixer.packer.spec ≡ l.fn.session.mixer.packer.spec;
  stands : (studio : Studio) → IsRunnableBy studio (g.E.EventSource.events l.source) → HasPlayed studio (g.E.EventSource.events l.source) l.fn.session 0
      → IsRecording studio (g.E.EventSource.events l.source) (g.W.Write.contents l.fn.writer) l.fn.text (g.F.Write.contents l.fn.file) l.fn.wav
      l.session (g.W.Write.contents l.writer) l.text (g.F.Write.contents l.file) l.wav;
}

abbrev pub decreases-rounds : goal.decreases-rounds
decreases-rounds g l = blocks_left l.session.mixer.packer
