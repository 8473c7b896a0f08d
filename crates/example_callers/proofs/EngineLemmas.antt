-- The datagrams that an engine returned and that were passed to a sink, one by one.
use Rattle.std.proofs.Common.{◌≡◌, ◌⊎◌, inl, inr, ◌≤◌, ℕ, List, [], ◌∷◌, ◌++◌, length, take, ℤ, Option, Some, None, sym, ap, subst, ◌∙◌, append_assoc, append-nil}
use Rattle.path_merge.specs.Clock.{clock_fault_of}
use Rattle.studio_config.specs.Studio.{Studio}
use Rattle.studio_mix.proofs.FirstBlockLemmas.{written_is}
use Rattle.studio_session.specs.Event.{TraceEvent}
use Rattle.studio_engine.specs.Engine.{EngineState}
use Rattle.studio_engine.specs.Session.{Gives, HasSession, turned}
use Rattle.studio_engine.proofs.EngineLemmas.{turned_same}
use Rattle.studio_io.specs.Sinks.{Hands}
use Rattle.example_callers.specs.Engine.{HasSent}

-- one turn after another, to the same reading
pub turned_twice : (now first mid last : ℤ) (events : List TraceEvent) → (mid ≡ first) ⊎ (mid ≡ now) → (last ≡ mid) ⊎ (last ≡ now) → turned mid last (turned first mid events) ≡ turned first last events
turned_twice now first mid last events (inl e) moves = ap (λ l. turned mid last l) (sym (turned_same first mid events e)) ∙ ap (λ t. turned t last events) e
turned_twice now first mid last events (inr e) moves =
    let same : last ≡ mid = elim moves [ inl f ↦ f | inr f ↦ f ∙ sym e ] in
    sym (turned_same mid last (turned first mid events) same) ∙ ap (λ t. turned first t events) (sym same)

-- the time after two turns
pub time_twice : (now first mid last : ℤ) → (mid ≡ first) ⊎ (mid ≡ now) → (last ≡ mid) ⊎ (last ≡ now) → (last ≡ first) ⊎ (last ≡ now)
time_twice now first mid last (inl e) (inl f) = inl (f ∙ e)
time_twice now first mid last (inr e) (inl f) = inr (f ∙ e)
time_twice now first mid last (inl e) (inr f) = inr f
time_twice now first mid last (inr e) (inr f) = inr f

-- the first turn shows whether the reading is in order
pub fine_first : (now : ℤ) (first engine : EngineState) (P : Type 0) → ((engine ≡ first) × P) ⊎ (clock_fault_of first.time first.closed now ≡ None) → clock_fault_of engine.time engine.closed now ≡ None
    → clock_fault_of first.time first.closed now ≡ None
fine_first now first engine P (inl same) fine = ap (λ (e : EngineState). clock_fault_of e.time e.closed now) (sym same.0) ∙ fine
fine_first now first engine P (inr known) fine = known

hands_none : (o : Option (List (List ℕ))) → Hands o [] o
hands_none None = tt
hands_none (Some before) = sym (append-nil before)

hands_more : (o p q : Option (List (List ℕ))) (xs ys : List (List ℕ)) → Hands o xs p → Hands p ys q → Hands o (xs ++ ys) q
hands_more o p None xs ys h k = tt
hands_more o None (Some all) xs ys h k = absurd k
hands_more None (Some mid) (Some all) xs ys h k = absurd h
hands_more (Some before) (Some mid) (Some all) xs ys h k = k ∙ (ap (λ l. l ++ ys) h ∙ append_assoc before xs ys)

module _ (studio : Studio) where
  -- no datagram was sent yet
  pub sent_none : (engine : EngineState) (events : List TraceEvent) (datagrams : List (List ℕ)) (handed : Option (List (List ℕ))) → HasSession studio engine events datagrams → HasSent studio engine events datagrams handed handed
  sent_none engine events datagrams handed s = record { more = []; stands = subst (λ l. HasSession studio engine events l) (sym (append-nil datagrams)) s; handed = hands_none handed }

  -- one more datagram was sent
  pub sent_more : (old new : EngineState) (events later : List TraceEvent) (datagrams : List (List ℕ)) (first mid last : Option (List (List ℕ))) (before after : List ℕ) (len : ℕ)
      → length after ≡ length before → len ≤ length before → (sent : HasSent studio old events datagrams first mid) → Gives studio new later (datagrams ++ sent.more) before after len
      → Hands mid (take len after ∷ []) last → HasSent studio new later datagrams first last
  sent_more old new events later datagrams first mid last before after len same within sent gives hands =
      let is : take len after ≡ gives.datagram = written_is gives.datagram before after len gives.written same within in
      record {
        more = sent.more ++ gives.datagram ∷ [];
        stands = subst (λ l. HasSession studio new later l) (append_assoc datagrams sent.more (gives.datagram ∷ [])) gives.stands;
        handed = hands_more first mid last sent.more (gives.datagram ∷ []) sent.handed (subst (λ d. Hands mid (d ∷ []) last) is hands);
      }
