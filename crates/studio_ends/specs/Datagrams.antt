-- The datagrams that a mixer's end has returned, and when these are all.
use Rattle.std.specs.Prelude.{◌≡◌, ℕ, ◌<◌, true, List, [], ◌∷◌, ◌++◌, length, map, take, Option, Some, None, IfSome}
use Rattle.rtrb.specs.Ring.{all_sent}
use Rattle.rtp_stream.specs.StreamSpecFacts.{format_of}
use Rattle.rtp_stream.specs.MarkFacts.{MarkView}
use Rattle.rtp_stream.specs.MarkList.{is_mark_list}
use Rattle.studio_config.specs.Studio.{Studio}
use Rattle.studio_mix.specs.Feed.{Feed}
use Rattle.studio_mix.specs.Blocks.{AreBlocks, AreFirstBlocks}
use Rattle.studio_ends.specs.AcceptedFeeds.{accepted_feeds}
use Rattle.studio_ends.specs.MixEnds.{MixHasFeeds}
use Rattle.studio_ends.specs.declared.rings.TokenConsumer.{TokenConsumer}
use Rattle.studio_ends.specs.declared.mix_end.MixEnd.{MixEnd}

-- the mixer was fed the accepted marks, and returned these datagrams: those of the first blocks, each of which is ready
pub record HasGiven (studio : Studio) (s : MixEnd) (datagrams : List (List ℕ)) : Type 0 where
  pub some_frames : 0 < studio.output.frames
  pub feeds : MixHasFeeds studio s (length datagrams)
  pub first : AreFirstBlocks studio (accepted_feeds studio.streams s.sides.items) datagrams

-- the datagrams, and after them the one that was written to the start of `out`, if there is one
abbrev pub given_after : List (List ℕ) → Option ℕ → List ℕ → List (List ℕ)
given_after datagrams None out = datagrams
given_after datagrams (Some len) out = datagrams ++ take len out ∷ []

-- the datagrams are those of all blocks that are ready by the accepted marks
abbrev pub AreAllGiven : Studio → MixEnd → List (List ℕ) → Type 0
AreAllGiven studio s datagrams = AreBlocks studio (accepted_feeds studio.streams s.sides.items) datagrams

-- each ring's token, if the ring has one, reports the marks of its feed; the marks of each feed are a mark list
abbrev pub AllTell : List (TokenConsumer MarkView) → List Feed → Type 0
AllTell [] [] = Unit {0}
AllTell (side ∷ sides) (feed ∷ feeds) =
    (IfSome side.done (λ done. all_sent done ≡ feed.marks) × (is_mark_list (format_of feed.stream) feed.marks ≡ true)) × AllTell sides feeds
AllTell [] (feed ∷ feeds) = ⊥
AllTell (side ∷ sides) [] = ⊥

-- the feeds are those of the studio's streams, and each ring's token reports the marks of its feed
abbrev pub AreAllTold : Studio → MixEnd → List Feed → Type 0
AreAllTold studio s feeds = (map (λ (feed : Feed). feed.stream) feeds ≡ studio.streams) × AllTell s.sides.items feeds
