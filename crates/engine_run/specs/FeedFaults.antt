-- The faults of a run's feeds, in their readers.
use Rattle.std.specs.Prelude.{List}
use Rattle.std.specs.List.{AllZip}
use Rattle.std.specs.declared.vec.Vec.{Vec}
use Rattle.std.specs.declared.alloc.Global.{Global}
use Rattle.studio_io.specs.Answers.{Answer}
use Rattle.studio_io.specs.FaultCounts.{KeepsFaults}
use Rattle.engine_run.specs.declared.feed_reader.FeedReader.{FeedReader}

module _ {F : Type 0} where
  -- if a reader had the number of the faults that its feed returned, it still has it, with the faults since
  abbrev pub ReaderKeepsFaults : (F → List Answer) → FeedReader F → FeedReader F → Type 0
  ReaderKeepsFaults feed_told old new = KeepsFaults old.state (feed_told old.feed) new.state (feed_told new.feed)

  -- the same of each reader of a stream
  abbrev pub StreamKeepsFaults : (F → List Answer) → List (FeedReader F) → List (FeedReader F) → Type 0
  StreamKeepsFaults feed_told olds news = AllZip (ReaderKeepsFaults feed_told) olds news

  -- the same of each reader of all streams
  abbrev pub AllKeepFaults : (F → List Answer) → List (Vec (FeedReader F) Global) → List (Vec (FeedReader F) Global) → Type 0
  AllKeepFaults feed_told olds news = AllZip (λ (old new : Vec (FeedReader F) Global). StreamKeepsFaults feed_told old.items new.items) olds news
