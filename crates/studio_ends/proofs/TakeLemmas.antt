-- The packets of one more path were taken.
use Rattle.std.proofs.Common.{◌≡◌, ℕ, take, drop, get_or, set, ◌+◌, ◌≤◌, ◌<◌, List, [], ◌∷◌, ◌++◌, length, Option, refl, sym, subst, ◌∙◌, arith, length-append}
use Rattle.std.proofs.lemmas.List.{length-set}
use Rattle.path_merge.specs.MergeState.{MergeState}
use Rattle.rtp_stats.specs.declared.channel.stream.StreamStatsSender.{StreamStatsSender}
use Rattle.rtp_stream.specs.declared.packet.Packet.{Packet}
use Rattle.studio_ends.specs.declared.rings.TokenConsumer.{TokenConsumer}
use Rattle.studio_ends.specs.Fitting.{fitting}
use Rattle.studio_ends.specs.Stats.{NotesAll}
use Rattle.studio_ends.specs.StreamTurns.{AllTakePackets, Joins, TakesPackets, arrivals_by, arrivals_from}
use Rattle.studio_ends.proofs.NoteLemmas.{noted-none, noted-path}
use Rattle.studio_ends.proofs.TurnLemmas.{all_took-more, counts_more, joined-none, joined-path, later_same}

-- the packets of the first `n` paths were taken
pub record TakesUpTo (olds items : List (TokenConsumer Packet)) (from : List ℕ) (m w : MergeState) (before sender : Option StreamStatsSender) (n : ℕ) : Type 0 where
  pub count : length items ≡ length olds
  pub four : length from ≡ 4
  pub later : drop n items ≡ drop n olds
  pub taken : List (List Packet)
  pub taken_of : length taken ≡ n
  pub all : AllTakePackets (take n olds) (take n items) taken
  pub counts : (i : ℕ) → get_or from i 0 ≡ length (get_or taken i [])
  pub joined : Joins m w (λ stream. arrivals_from stream 0 taken)
  pub noted : NotesAll m (λ stream. arrivals_from stream 0 taken) before sender

pub took_to-none : (olds : List (TokenConsumer Packet)) (from : List ℕ) (m : MergeState) (sender : Option StreamStatsSender) → length from ≡ 4 → ((i : ℕ) → get_or from i 0 ≡ 0) → TakesUpTo olds olds from m m sender sender 0
took_to-none olds from m sender four zeros = record {
  count = refl;
  four = four;
  later = refl;
  taken = [];
  taken_of = refl;
  all = tt;
  counts = zeros;
  joined = joined-none m;
  noted = noted-none m sender;
}

-- the packets of one path were taken
pub record TakesPath (old new : TokenConsumer Packet) (m w : MergeState) (before sender : Option StreamStatsSender) (path count : ℕ) : Type 0 where
  pub packets : List Packet
  pub of : TakesPackets old new packets
  pub count_is : length packets ≡ count
  pub joined : Joins m w (λ stream. arrivals_by path (fitting stream packets))
  pub noted : NotesAll m (λ stream. arrivals_by path (fitting stream packets)) before sender

pub took_to-more : (olds items : List (TokenConsumer Packet)) (from : List ℕ) (m w v : MergeState) (before mid sender : Option StreamStatsSender) (n place path count : ℕ) (old new : TokenConsumer Packet)
    → place ≡ n → path ≡ n → n < length olds → length olds ≤ 4 → old ≡ get_or items place old
    → TakesUpTo olds items from m w before mid n → TakesPath old new w v mid sender path count
    → TakesUpTo olds (set items place new) (set from place count) m v before sender (n + 1)
took_to-more olds items from m w v before mid sender n place path count old new at by lt few is h t =
    subst (λ p. TakesUpTo olds (set items p new) (set from p count) m v before sender (n + 1)) (sym at) (record {
      count = length-set items n new ∙ h.count;
      four = length-set from n count ∙ h.four;
      later = later_same olds items n new h.later;
      taken = h.taken ++ t.packets ∷ [];
      taken_of = (let e = h.taken_of in omega (arith, e, length-append h.taken (t.packets ∷ [])));
      all = all_took-more olds items n old new h.taken t.packets lt h.count h.later (subst (λ p. old ≡ get_or items p old) at is) h.all t.of;
      counts = counts_more from h.taken t.packets n count h.four (omega (arith, lt, few)) h.taken_of t.count_is h.counts;
      joined = joined-path m w v n h.taken t.packets h.taken_of h.joined (subst (λ p. Joins w v (λ stream. arrivals_by p (fitting stream t.packets))) by t.joined);
      noted = noted-path m w n h.taken t.packets before mid sender h.taken_of h.joined h.noted (subst (λ p. NotesAll w (λ stream. arrivals_by p (fitting stream t.packets)) mid sender) by t.noted);
    })
