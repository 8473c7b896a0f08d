-- The tokens of the streams at the mixer's end, and what follows once it is settled.
use Rattle.std.specs.Prelude.{◌≡◌, true, List, [], ◌∷◌, map, Option, Some, None, IfSome, IsSome, IsSomeAnd}
use Rattle.rtrb.specs.Ring.{all_sent, received, IsFinishedOf}
use Rattle.rtp_stream.specs.StreamSpecFacts.{format_of}
use Rattle.rtp_stream.specs.MarkFacts.{MarkView}
use Rattle.rtp_stream.specs.MarkList.{is_mark_list}
use Rattle.studio_config.specs.Studio.{Studio}
use Rattle.studio_mix.specs.Feed.{Feed}
use Rattle.studio_ends.specs.Tokens.{HasToken}
use Rattle.studio_ends.specs.declared.rings.TokenConsumer.{TokenConsumer}
use Rattle.studio_ends.specs.declared.stream_end.turns.StreamDone.{StreamDone}

-- each token, if there is one, is that of the ring at its place, and no ring's consumer has a token yet
abbrev pub AreTokensOf : List (Option StreamDone) → List (TokenConsumer MarkView) → Type 0
AreTokensOf [] [] = Unit {0}
AreTokensOf (one ∷ dones) (side ∷ sides) = (IfSome one (λ d. IsFinishedOf d.token side.ring) × (side.done ≡ None)) × AreTokensOf dones sides
AreTokensOf [] (side ∷ sides) = ⊥
AreTokensOf (one ∷ dones) [] = ⊥

-- a ring's consumer has the token, if there is one
abbrev pub HasTokenOf : Option StreamDone → TokenConsumer MarkView → TokenConsumer MarkView → Type 0
HasTokenOf None old new = new ≡ old
HasTokenOf (Some done) old new = HasToken old (all_sent done.token) new

-- the first consumers have their tokens, and the others are as they were
abbrev pub HaveTokens : List (Option StreamDone) → List (TokenConsumer MarkView) → List (TokenConsumer MarkView) → Type 0
HaveTokens [] olds news = news ≡ olds
HaveTokens (one ∷ dones) (old ∷ olds) (new ∷ news) = HasTokenOf one old new × HaveTokens dones olds news
HaveTokens (one ∷ dones) [] news = ⊥
HaveTokens (one ∷ dones) (old ∷ olds) [] = ⊥

-- each stream returned a token
abbrev pub AllGiveTokens : List (Option StreamDone) → Type 0
AllGiveTokens [] = Unit {0}
AllGiveTokens (one ∷ dones) = IsSome one × AllGiveTokens dones

-- each stream returned a token, and everything that it reports was received
abbrev pub AreAllDrained : List (Option StreamDone) → List (TokenConsumer MarkView) → Type 0
AreAllDrained [] [] = Unit {0}
AreAllDrained (one ∷ dones) (side ∷ sides) = IsSomeAnd one (λ d. received side.ring ≡ all_sent d.token) × AreAllDrained dones sides
AreAllDrained [] (side ∷ sides) = ⊥
AreAllDrained (one ∷ dones) [] = ⊥

-- each token, if there is one, reports the marks of its feed; the marks of each feed are a mark list
abbrev pub AllTellMarks : List (Option StreamDone) → List Feed → Type 0
AllTellMarks [] [] = Unit {0}
AllTellMarks (one ∷ dones) (feed ∷ feeds) =
    (IfSome one (λ d. all_sent d.token ≡ feed.marks) × (is_mark_list (format_of feed.stream) feed.marks ≡ true)) × AllTellMarks dones feeds
AllTellMarks [] (feed ∷ feeds) = ⊥
AllTellMarks (one ∷ dones) [] = ⊥

-- the feeds are those of the studio's streams, and each token reports the marks of its feed
abbrev pub AreTold : Studio → List (Option StreamDone) → List Feed → Type 0
AreTold studio dones feeds = (map (λ (feed : Feed). feed.stream) feeds ≡ studio.streams) × AllTellMarks dones feeds
