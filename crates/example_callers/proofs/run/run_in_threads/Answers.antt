use Rattle.std.proofs.Common.{◌≡◌, ℕ, List, [], ◌∷◌, ◌++◌, length, map, drop, ℤ, refl, sym, ap, subst, ◌∙◌, arith, length-append}
use Rattle.std.proofs.lemmas.List.{take_all}
use Rattle.rtp_stream.specs.declared.stream_spec.Stream.{Stream}
use Rattle.studio_ends.specs.FreshEnds.{AllFreshStreams}
use Rattle.studio_ends.specs.declared.path_end.PathEnd.{PathEnd}
use Rattle.studio_ends.specs.declared.stream_end.StreamEnd.{StreamEnd}
use Rattle.studio_io.specs.Answers.{Answer}
use Rattle.studio_rings.specs.Runs.{IsSettledRun}
use Rattle.studio_rings.proofs.JobLemmas.{map_snoc}
use Rattle.studio_io.specs.Memory.{told_of}
use Rattle.studio_io.specs.declared.memory_clock.MemoryClock.{MemoryClock}
use Rattle.example_callers.proofs.run.run_in_threads.Goals as goal

same : (xs : List (List Answer)) → map (λ x. x) xs ≡ xs
same [] = refl
same (x ∷ xs) = ap (λ l. x ∷ l) (same xs)

-- two lists of the same length, with the same value for each element
for_each : {A B C : Type 0} (z : C) (xs : List A) (ys : List B) → length xs ≡ length ys → map (λ _. z) xs ≡ map (λ _. z) ys
for_each z [] [] e = refl
for_each z [] (y ∷ ys) e = absurd (omega (arith, e))
for_each z (x ∷ xs) [] e = absurd (omega (arith, e))
for_each z (x ∷ xs) (y ∷ ys) e = ap (λ l. z ∷ l) (for_each z xs ys (omega (arith, e)))

-- one clock more, with the same readings
told-more : (readings : List ℤ) (clocks all : List MemoryClock) (clock : MemoryClock) → all ≡ clocks ++ clock ∷ [] → drop clock.next clock.readings.now ≡ readings
    → map (λ (c : MemoryClock). drop c.next c.readings.now) clocks ≡ map (λ _. readings) clocks → map (λ (c : MemoryClock). drop c.next c.readings.now) all ≡ map (λ _. readings) all
told-more readings clocks all clock is tells told =
    subst (λ (l : List MemoryClock). map (λ (c : MemoryClock). drop c.next c.readings.now) l ≡ map (λ _. readings) l) (sym is)
    (map_snoc (λ (c : MemoryClock). drop c.next c.readings.now) clocks clock
    ∙ (ap (λ (l : List (List ℤ)). l ++ drop clock.next clock.readings.now ∷ []) told ∙ (ap (λ (l : List ℤ). map (λ _. readings) clocks ++ l ∷ []) tells ∙ sym (map_snoc (λ _. readings) clocks clock))))

stream-count : (open_at : ℤ) (places : ℕ) (streams : List Stream) (paths : List PathEnd) (ends : List StreamEnd) → AllFreshStreams open_at places streams paths ends → length ends ≡ length streams
stream-count open_at places [] paths [] h = refl
stream-count open_at places [] paths (end ∷ ends) h = absurd h
stream-count open_at places (stream ∷ streams) paths [] h = absurd h
stream-count open_at places (stream ∷ streams) paths (end ∷ ends) h = let e = stream-count open_at places streams h.1 ends h.4 in omega (arith, e)

pub loop-preserved : goal.loop-preserved
loop-preserved g c =
    let items = c.in_ok-push-2.ensures.items in
    let sum = ap length items in
    let count = c.loop.invariant.count in
    record {
      told = told-more _ c.loop.clocks.items c.push-in-loop.new.self.items c.new-in-loop.result items c.new-in-loop.ensures c.loop.invariant.told;
      count = omega (arith, sum, count, length-append c.loop.clocks.items (c.new-in-loop.result ∷ []));
    }

pub returns-clause-settled : goal.returns-clause-settled
returns-clause-settled g c = λ settled.
    let o = c.in_ok-ends.ensures.opened in
    let end = c.loop-path.auto.path-index-end in
    let all : c.loop-path.path-index ≡ length c.args.datagrams.now = omega (arith, c.loop-path-test.false, end) in
    let until = c.loop.auto.counter-end in
    let count = c.loop.invariant.count in
    let streams = stream-count _ _ c.args.studio.now.streams _ _ o.streams in
    let ok = c.in_ok-ends.ends.streams.ok.0 in
    let len = c.len-end.ensures in
    let clocks : length c.loop.clocks.items ≡ length c.args.studio.now.streams = omega (arith, c.loop-test.false, until, count, len, ok, streams) in
    subst (λ told. IsSettledRun c.args.studio.now 64 told (map (λ _. c.args.readings.now) c.args.studio.now.streams) c.in_ok-run_workers.field-0.0 (g.K.Sink.handed c.args.sink) (g.K.Sink.handed c.in_ok-run_workers.field-0.1))
    (same c.loop-path.feeds.items ∙ c.loop-path.invariant.told ∙ ap (map (λ path. told_of path.items)) (take_all c.loop-path.path-index c.args.datagrams.now (omega (arith, all))))
    (subst (λ clocks. IsSettledRun c.args.studio.now 64 (map (λ x. x) c.loop-path.feeds.items) clocks c.in_ok-run_workers.field-0.0 (g.K.Sink.handed c.args.sink) (g.K.Sink.handed c.in_ok-run_workers.field-0.1))
    (c.loop.invariant.told ∙ for_each c.args.readings.now c.loop.clocks.items c.args.studio.now.streams clocks)
    (c.in_ok-run_workers.ensures.settled settled c.args.studio.now 64 (record { streams = o.streams; monitors = c.in_ok-ends.ends.monitors.items; rings = o.rings; mix = o.mix })))
