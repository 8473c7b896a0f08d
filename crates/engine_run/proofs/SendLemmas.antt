-- The datagrams that were sent, one by one.
use Rattle.std.proofs.Common.{◌≡◌, ◌⊎◌, inl, inr, ℕ, ◌+◌, ◌<◌, ◌≤◌, ◌^◌, List, [], ◌∷◌, ◌++◌, length, take, ℤ, Option, sym, ap, subst, ◌∙◌, arith, append_assoc, append-nil, length-append}
use Rattle.studio_config.specs.Studio.{Studio}
use Rattle.studio_mix.proofs.FirstBlockLemmas.{written_is}
use Rattle.studio_session.specs.Event.{TraceEvent}
use Rattle.studio_engine.specs.Engine.{EngineState}
use Rattle.studio_engine.specs.Session.{Gives, HasSession, turned}
use Rattle.studio_engine.proofs.EngineLemmas.{turned_same}
use Rattle.studio_io.specs.Sinks.{Hands}
use Rattle.engine_run.specs.Output.{HasSent}
use Rattle.engine_run.proofs.TellLemmas.{adds_more, adds_none}

-- two turns to the same reading, one after the other
pub turned_twice : (now first mid last : ℤ) (events : List TraceEvent) → (mid ≡ first) ⊎ (mid ≡ now) → (last ≡ mid) ⊎ (last ≡ now) → turned mid last (turned first mid events) ≡ turned first last events
turned_twice now first mid last events (inl e) moves = ap (λ l. turned mid last l) (sym (turned_same first mid events e)) ∙ ap (λ t. turned t last events) e
turned_twice now first mid last events (inr e) moves =
    let same : last ≡ mid = elim moves [ inl f ↦ f | inr f ↦ f ∙ sym e ] in
    sym (turned_same mid last (turned first mid events) same) ∙ ap (λ t. turned first t events) (sym same)

-- the time after two turns to the same reading
pub time_twice : (now first mid last : ℤ) → (mid ≡ first) ⊎ (mid ≡ now) → (last ≡ mid) ⊎ (last ≡ now) → (last ≡ first) ⊎ (last ≡ now)
time_twice now first mid last (inl e) (inl f) = inl (f ∙ e)
time_twice now first mid last (inr e) (inl f) = inr (f ∙ e)
time_twice now first mid last (inl e) (inr f) = inr f
time_twice now first mid last (inr e) (inr f) = inr f

module _ (studio : Studio) where
  -- no datagram was sent
  pub sent_none : (engine : EngineState) (events : List TraceEvent) (datagrams : List (List ℕ)) (handed : Option (List (List ℕ))) (count : ℕ) → HasSession studio engine events datagrams
      → HasSent studio engine events datagrams handed handed count count
  sent_none engine events datagrams handed count s = record { more = []; stands = subst (λ l. HasSession studio engine events l) (sym (append-nil datagrams)) s; count = λ h. omega arith; handed = adds_none handed }

  -- one more datagram was sent
  pub sent_more : (old new : EngineState) (events later : List TraceEvent) (datagrams : List (List ℕ)) (first mid last : Option (List (List ℕ))) (none some all : ℕ) (before after : List ℕ) (len : ℕ)
      → length after ≡ length before → len ≤ length before → (sent : HasSent studio old events datagrams first mid none some) → Gives studio new later (datagrams ++ sent.more) before after len
      → Hands mid (take len after ∷ []) last → (some + 1 < 2 ^ 64 → all ≡ some + 1) → HasSent studio new later datagrams first last none all
  sent_more old new events later datagrams first mid last none some all before after len same within sent gives hands counts =
      let is : take len after ≡ gives.datagram = written_is gives.datagram before after len gives.written same within in
      let sum = length-append sent.more (gives.datagram ∷ []) in
      record {
        more = sent.more ++ gives.datagram ∷ [];
        stands = subst (λ l. HasSession studio new later l) (append_assoc datagrams sent.more (gives.datagram ∷ [])) gives.stands;
        count = λ few.
            let mid_is = sent.count (omega (arith, few, sum)) in
            let all_is = counts (omega (arith, few, sum, mid_is)) in
            omega (arith, mid_is, all_is, sum);
        handed = adds_more first mid last sent.more (gives.datagram ∷ []) sent.handed (subst (λ d. Hands mid (d ∷ []) last) is hands);
      }
