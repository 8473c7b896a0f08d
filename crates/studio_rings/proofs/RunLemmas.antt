-- The result of a settled run, by the results of its workers.
use Rattle.std.proofs.Common.{◌≡◌, ℕ, ◌-◌, ◌^◌, true, List, [], ◌∷◌, ◌++◌, length, map, ℤ, pos, ◌≤ℤ◌, Option, IfSome, refl, sym, ap, subst, ◌∙◌, arith, length-append}
use Rattle.std.specs.List.{AllZip}
use Rattle.rtrb.specs.Ends.{SameRing}
use Rattle.rtrb.specs.Ring.{all_sent, producer_capacity, sent}
use Rattle.rtp_stream.specs.declared.stream_spec.Stream.{Stream}
use Rattle.rtp_stream.specs.Marks.{marks_of}
use Rattle.rtp_stream.specs.MarkFacts.{MarkView}
use Rattle.rtp_stream.specs.declared.packet.Packet.{Packet}
use Rattle.rtp_stream.specs.declared.event.Event.{Event}
use Rattle.path_merge.proofs.CloseLemmas.{marks_of-none}
use Rattle.path_merge.proofs.MarkListLemmas.{listed}
use Rattle.studio_config.specs.Studio.{Studio}
use Rattle.studio_mix.specs.Feed.{Feed}
use Rattle.rtp_stream.specs.declared.stream_counts.StreamCounts.{StreamCounts}
use Rattle.studio_mix.specs.Blocks.{AreBlocks}
use Rattle.studio_mix.specs.Changed.{with_changes}
use Rattle.studio_ends.specs.Datagrams.{AreAllGiven}
use Rattle.studio_ends.specs.FreshEnds.{AllFreshPaths, AllFreshRings, AllFreshStreams, AreFreshRings, AreOpened, IsFreshStream}
use Rattle.studio_ends.specs.declared.ends.Ends.{Ends}
use Rattle.studio_ends.specs.declared.monitor_end.MonitorEnd.{MonitorEnd}
use Rattle.studio_ends.specs.declared.path_end.PathEnd.{PathEnd}
use Rattle.studio_ends.specs.declared.rings.TokenConsumer.{TokenConsumer}
use Rattle.studio_ends.specs.declared.stream_end.turns.StreamDone.{StreamDone}
use Rattle.studio_ends.specs.declared.stream_end.StreamEnd.{StreamEnd}
use Rattle.studio_ends.specs.declared.mix_end.MixEnd.{MixEnd}
use Rattle.studio_io.specs.Answers.{Answer}
use Rattle.studio_io.specs.FaultCounts.{AreFaultNumbers, IsFaultNumber}
use Rattle.studio_io.specs.declared.report.WorkReport.{WorkReport}
use Rattle.studio_rings.specs.MixWorker.{MixesWith}
use Rattle.studio_rings.specs.Runs.{HaveStreamHistories, IsSettledRun, IsSettledRunWith, feeds_of}
use Rattle.studio_rings.specs.StreamTokens.{AllGiveTokens, AllTellMarks, AreTold}
use Rattle.studio_rings.specs.declared.jobs.PathJob.{PathJob}
use Rattle.studio_rings.proofs.StreamTokenLemmas.{AreTokensFor}
use Rattle.studio_rings.specs.Jobs.{AreJobsOf, HaveCapacity, feeds_in}
use Rattle.studio_rings.specs.StreamResults.{AreOpenedTogether, counts_in, dones_in, faults_in}
use Rattle.studio_rings.specs.StreamWorkers.{AllReady, ArePairs, HasMarks, IsStreamResult, ends_of, told_of}
use Rattle.studio_rings.specs.declared.jobs.StreamJob.{StreamJob}
use Rattle.studio_rings.specs.declared.jobs.StreamResult.{StreamResult}
use Rattle.studio_rings.proofs.EndLemmas.{some_of}
use Rattle.studio_mix.proofs.TakenLemmas.{no_more}
use Rattle.studio_rings.proofs.JobLemmas.{cut_once, map_length}
use Rattle.studio_rings.proofs.ZipLemmas.{zip-append}

module _ {F : Type 0} where
  pairs_of : (stream : Stream) (places : ℕ) (paths : List (PathJob F)) (sides : List (TokenConsumer Packet)) → AllFreshPaths stream places (ends_of paths) sides → ArePairs paths sides
  pairs_of stream places [] [] h = tt
  pairs_of stream places [] (side ∷ sides) h = absurd h
  pairs_of stream places (p ∷ ps) [] h = absurd h
  pairs_of stream places (p ∷ ps) (side ∷ sides) h = (h.0.pair, pairs_of stream places ps sides h.1)

  told_fed : (told : F → List Answer) (paths : List (PathJob F)) → map told (feeds_in paths) ≡ told_of told paths
  told_fed told [] = refl
  told_fed told (p ∷ ps) = ap (λ l. told p.feed ∷ l) (told_fed told ps)

map_joined : {A B : Type 0} (f : A → B) (xs ys : List A) → map f (xs ++ ys) ≡ map f xs ++ map f ys
map_joined f [] ys = refl
map_joined f (x ∷ xs) ys = ap (λ l. f x ∷ l) (map_joined f xs ys)

-- each stream's ring of marks has `places` places
abbrev pub HavePlaces : ℕ → List StreamEnd → Type 0
HavePlaces places [] = Unit {0}
HavePlaces places (end ∷ ends) = (producer_capacity end.marks ≡ places) × HavePlaces places ends

fresh_places : (open_at : ℤ) (places : ℕ) (stream : Stream) (own : List PathEnd) (s : StreamEnd) (monitor : MonitorEnd) (side : TokenConsumer MarkView) → IsFreshStream open_at places stream own s → AreFreshRings places s monitor side → producer_capacity s.marks ≡ places
fresh_places open_at places stream own s monitor side fresh rings =
    let none : length (sent s.marks) ≡ 0 = fresh.stands.merge.all_given refl ∙ ap length (marks_of-none stream open_at) in
    let free : s.marks.end.limit - length s.marks.end.past ≡ places = rings.marks_free in
    let counts = s.marks.counts in
    omega (arith, none, free, counts.0, counts.1, counts.2)

pub have-places : (open_at : ℤ) (places : ℕ) (specs : List Stream) (paths : List PathEnd) (ends : List StreamEnd) (monitors : List MonitorEnd) (sides : List (TokenConsumer MarkView)) → AllFreshStreams open_at places specs paths ends → AllFreshRings places ends monitors sides → HavePlaces places ends
have-places open_at places specs paths [] monitors sides fresh rings = tt
have-places open_at places [] paths (end ∷ ends) monitors sides fresh rings = absurd fresh
have-places open_at places (stream ∷ specs) paths (end ∷ ends) [] sides fresh rings = absurd rings
have-places open_at places (stream ∷ specs) paths (end ∷ ends) (monitor ∷ monitors) [] fresh rings = absurd rings
have-places open_at places (stream ∷ specs) paths (end ∷ ends) (monitor ∷ monitors) (side ∷ sides) fresh rings =
    (fresh_places open_at places stream fresh.0 end monitor side fresh.3 rings.0, have-places open_at places specs fresh.1 ends monitors sides fresh.4 rings.1)

-- all streams have whole histories, and the tokens report their marks
pub record HaveAll (open_at : ℤ) (places : ℕ) (specs : List Stream) (told : List (List Answer)) (clocks : List (List ℤ)) (results : List StreamResult) : Type 0 where
  pub histories : List (List Event)
  pub streams : HaveStreamHistories open_at places specs told clocks (counts_in results) histories
  pub tells : AllTellMarks (dones_in results) (feeds_of open_at specs histories)
  pub of_these : map (λ (feed : Feed). feed.stream) (feeds_of open_at specs histories) ≡ specs

module _ {F : Type 0} where
  -- the feeds' results are those of the first job's paths, and then those of the other feeds
  told_split : (told : F → List Answer) (paths : List (PathJob F)) (feeds others : List F) → feeds ≡ feeds_in paths ++ others → map told feeds ≡ told_of told paths ++ map told others
  told_split told paths feeds others is = ap (map told) is ∙ (map_joined told (feeds_in paths) others ∙ ap (λ l. l ++ map told others) (told_fed told paths))

module _ {F C : Type 0} where
  -- each stream's job has the ends of that stream
  abbrev AreFreshJobs : ℤ → ℕ → List Stream → List (StreamJob F C) → Type 0
  AreFreshJobs open_at places [] [] = Unit {0}
  AreFreshJobs open_at places (stream ∷ specs) (job ∷ jobs) = IsFreshStream open_at places stream (ends_of job.paths.items) job.end × AreFreshJobs open_at places specs jobs
  AreFreshJobs open_at places [] (job ∷ jobs) = ⊥
  AreFreshJobs open_at places (stream ∷ specs) [] = ⊥

  fresh_jobs : (open_at : ℤ) (places : ℕ) (specs : List Stream) (paths : List PathEnd) (feeds : List F) (clocks : List C) (ends : List StreamEnd) (jobs : List (StreamJob F C)) → AllFreshStreams open_at places specs paths ends → AreJobsOf paths feeds clocks ends jobs → AreFreshJobs open_at places specs jobs
  fresh_jobs open_at places [] paths feeds clocks [] [] fresh h = tt
  fresh_jobs open_at places [] paths feeds clocks [] (job ∷ jobs) fresh h = absurd h
  fresh_jobs open_at places [] paths feeds clocks (end ∷ ends) jobs fresh h = absurd fresh
  fresh_jobs open_at places (stream ∷ specs) paths feeds clocks [] jobs fresh h = absurd fresh
  fresh_jobs open_at places (stream ∷ specs) paths feeds clocks (end ∷ ends) [] fresh h = absurd h
  fresh_jobs open_at places (stream ∷ specs) paths feeds clocks (end ∷ ends) (job ∷ jobs) fresh h =
      let count : length fresh.0 ≡ end.spec.paths = fresh.3.count ∙ ap (λ (s : Stream). s.paths) (sym fresh.3.spec) in
      let same : length fresh.0 ≡ length (ends_of job.paths.items) = count ∙ (sym h.7 ∙ sym (map_length (λ (p : PathJob F). p.end) job.paths.items)) in
      let cut = cut_once fresh.0 (ends_of job.paths.items) fresh.1 h.0 (sym fresh.2 ∙ h.3) same in
      let here : IsFreshStream open_at places stream (ends_of job.paths.items) job.end =
      subst (λ (e : StreamEnd). IsFreshStream open_at places stream (ends_of job.paths.items) e) (sym h.6) (subst (λ (l : List PathEnd). IsFreshStream open_at places stream l end) cut.0 fresh.3) in
      (here, fresh_jobs open_at places specs h.0 h.1 h.2 ends jobs (subst (λ (l : List PathEnd). AllFreshStreams open_at places specs l ends) cut.1 fresh.4) h.8)

  ready_jobs : (open_at : ℤ) (places : ℕ) (specs : List Stream) (jobs : List (StreamJob F C)) → open_at ≤ℤ pos (2 ^ 60) → AreFreshJobs open_at places specs jobs → HaveCapacity jobs → AllReady jobs
  ready_jobs open_at places specs [] le fresh space = tt
  ready_jobs open_at places [] (job ∷ jobs) le fresh space = absurd fresh
  ready_jobs open_at places (stream ∷ specs) (job ∷ jobs) le fresh space = (
    record {
      open_yet = fresh.0.open_yet;
      in_time = subst (λ t. t ≤ℤ pos (2 ^ 60)) (sym fresh.0.time) le;
      pairs = pairs_of stream places job.paths.items job.end.sides.items fresh.0.paths;
      ended = space.0.ended;
      no_results = space.0.no_results;
      results = space.0.results;
      no_counts = space.0.no_counts;
      counts = space.0.counts;
      no_faults = space.0.no_faults;
      faults = space.0.faults;
    },
    ready_jobs open_at places specs jobs le fresh.1 space.1,
  )

  -- the jobs are ready
  pub jobs-ready : (open_at : ℤ) (places : ℕ) (specs : List Stream) (paths : List PathEnd) (feeds : List F) (clocks : List C) (ends : List StreamEnd) (jobs : List (StreamJob F C)) → open_at ≤ℤ pos (2 ^ 60) → AllFreshStreams open_at places specs paths ends → AreJobsOf paths feeds clocks ends jobs → HaveCapacity jobs → AllReady jobs
  jobs-ready open_at places specs paths feeds clocks ends jobs le fresh h space = ready_jobs open_at places specs jobs le (fresh_jobs open_at places specs paths feeds clocks ends jobs fresh h) space

  -- each token is that of its stream's ring of marks
  pub tokens-for : (told : F → List Answer) (clock_told : C → List ℤ) (paths : List PathEnd) (feeds : List F) (clocks : List C) (ends : List StreamEnd) (jobs : List (StreamJob F C)) (results : List StreamResult) → AreJobsOf paths feeds clocks ends jobs → AllZip (IsStreamResult told clock_told) jobs results → AreTokensFor ends (dones_in results)
  tokens-for told clock_told paths feeds clocks [] [] [] h zip = tt
  tokens-for told clock_told paths feeds clocks [] [] (r ∷ rs) h zip = absurd zip
  tokens-for told clock_told paths feeds clocks [] (job ∷ jobs) results h zip = absurd h
  tokens-for told clock_told paths feeds clocks (end ∷ ends) [] results h zip = absurd h
  tokens-for told clock_told paths feeds clocks (end ∷ ends) (job ∷ jobs) [] h zip = absurd zip
  tokens-for told clock_told paths feeds clocks (end ∷ ends) (job ∷ jobs) (r ∷ rs) h zip =
      (subst (λ (e : StreamEnd). IfSome r.done (λ (d : StreamDone). SameRing e.marks.end d.token.end)) h.6 zip.0.token, tokens-for told clock_told h.0 h.1 h.2 ends jobs rs h.8 zip.1)

  -- there is a number of faults for each feed
  pub faults-of-feeds : (told : F → List Answer) (clock_told : C → List ℤ) (paths : List PathEnd) (feeds : List F) (clocks : List C) (ends : List StreamEnd) (jobs : List (StreamJob F C)) (results : List StreamResult) → AreJobsOf paths feeds clocks ends jobs → AllZip (IsStreamResult told clock_told) jobs results → length (faults_in results) ≡ length feeds
  faults-of-feeds told clock_told paths feeds clocks [] [] [] h zip = sym (ap length h.1)
  faults-of-feeds told clock_told paths feeds clocks [] [] (r ∷ rs) h zip = absurd zip
  faults-of-feeds told clock_told paths feeds clocks [] (job ∷ jobs) results h zip = absurd h
  faults-of-feeds told clock_told paths feeds clocks (end ∷ ends) [] results h zip = absurd h
  faults-of-feeds told clock_told paths feeds clocks (end ∷ ends) (job ∷ jobs) [] h zip = absurd zip
  faults-of-feeds told clock_told paths feeds clocks (end ∷ ends) (job ∷ jobs) (r ∷ rs) h zip =
      let own = zip.0.faults in
      let rest = faults-of-feeds told clock_told h.0 h.1 h.2 ends jobs rs h.8 zip.1 in
      let ok = r.faults.ok.0 in
      let all = ap length h.4 in
      omega (arith, own, ok, rest, all, length-append r.faults.items (faults_in rs), length-append (feeds_in job.paths.items) h.1, map_length (λ (p : PathJob F). p.feed) job.paths.items)

  -- if each stream returned its token, each number is that of the feed at its place
  pub faults-told : (told : F → List Answer) (clock_told : C → List ℤ) (paths : List PathEnd) (feeds : List F) (clocks : List C) (ends : List StreamEnd) (jobs : List (StreamJob F C)) (results : List StreamResult) → AreJobsOf paths feeds clocks ends jobs → AllZip (IsStreamResult told clock_told) jobs results → AllGiveTokens (dones_in results) → AreFaultNumbers (map told feeds) (faults_in results)
  faults-told told clock_told paths feeds clocks [] [] [] h zip given = subst (λ (l : List F). AreFaultNumbers (map told l) []) (sym h.1) tt
  faults-told told clock_told paths feeds clocks [] [] (r ∷ rs) h zip given = absurd zip
  faults-told told clock_told paths feeds clocks [] (job ∷ jobs) results h zip given = absurd h
  faults-told told clock_told paths feeds clocks (end ∷ ends) [] results h zip given = absurd h
  faults-told told clock_told paths feeds clocks (end ∷ ends) (job ∷ jobs) [] h zip given = absurd zip
  faults-told told clock_told paths feeds clocks (end ∷ ends) (job ∷ jobs) (r ∷ rs) h zip given =
      let own = (some_of _ r.done given.0 zip.0.numbers).2 in
      let rest = faults-told told clock_told h.0 h.1 h.2 ends jobs rs h.8 zip.1 given.1 in
      subst (λ (l : List (List Answer)). AreFaultNumbers l (r.faults.items ++ faults_in rs)) (sym (told_split told job.paths.items feeds h.1 h.4)) (zip-append IsFaultNumber (told_of told job.paths.items) (map told h.1) r.faults.items (faults_in rs) own rest)

  have_all : (told : F → List Answer) (clock_told : C → List ℤ) (open_at : ℤ) (places : ℕ) (specs : List Stream) (paths : List PathEnd) (feeds : List F) (clocks : List C) (ends : List StreamEnd) (jobs : List (StreamJob F C)) (results : List StreamResult)
      → AreFreshJobs open_at places specs jobs → HavePlaces places ends → AreJobsOf paths feeds clocks ends jobs → AllZip (IsStreamResult told clock_told) jobs results → AllGiveTokens (dones_in results) → HaveAll open_at places specs (map told feeds) (map clock_told clocks) results
  have_all told clock_told open_at places [] paths feeds clocks [] [] [] fresh space h zip given = record { histories = []; streams = (ap (map told) h.1, ap (map clock_told) h.2); tells = tt; of_these = refl }
  have_all told clock_told open_at places [] paths feeds clocks (end ∷ ends) [] results fresh space h zip given = absurd h
  have_all told clock_told open_at places [] paths feeds clocks [] [] (r ∷ rs) fresh space h zip given = absurd zip
  have_all told clock_told open_at places [] paths feeds clocks ends (job ∷ jobs) results fresh space h zip given = absurd fresh
  have_all told clock_told open_at places (stream ∷ specs) paths feeds clocks ends [] results fresh space h zip given = absurd fresh
  have_all told clock_told open_at places (stream ∷ specs) paths feeds clocks [] (job ∷ jobs) results fresh space h zip given = absurd h
  have_all told clock_told open_at places (stream ∷ specs) paths feeds clocks (end ∷ ends) (job ∷ jobs) [] fresh space h zip given = absurd zip
  have_all told clock_told open_at places (stream ∷ specs) paths feeds clocks (end ∷ ends) (job ∷ jobs) (r ∷ rs) fresh space h zip given =
      let rest = have_all told clock_told open_at places specs h.0 h.1 h.2 ends jobs rs fresh.1 space.1 h.8 zip.1 given.1 in
      let one = some_of _ r.done given.0 zip.0.history in
      let own : producer_capacity job.end.marks ≡ places = ap (λ (e : StreamEnd). producer_capacity e.marks) h.6 ∙ space.0 in
      let m : HasMarks open_at places stream (told_of told job.paths.items) (clock_told job.clock) r (all_sent (one.0).token) =
      subst (λ n. HasMarks open_at n stream (told_of told job.paths.items) (clock_told job.clock) r (all_sent (one.0).token)) own (one.2 stream open_at places fresh.0) in
      let split = told_split told job.paths.items feeds h.1 h.4 in
      let count : length (told_of told job.paths.items) ≡ stream.paths =
      map_length (λ (p : PathJob F). told p.feed) job.paths.items ∙ (h.7 ∙ (ap (λ (e : StreamEnd). e.spec.paths) (sym h.6) ∙ ap (λ (s : Stream). s.paths) fresh.0.spec)) in
      let tells : IfSome r.done (λ (d : StreamDone). all_sent d.token ≡ marks_of stream open_at m.events) = subst (λ (o : Option StreamDone). IfSome o (λ (d : StreamDone). all_sent d.token ≡ marks_of stream open_at m.events)) (sym one.1) m.marks_are in
      record {
        histories = m.events ∷ rest.histories;
        streams = (told_of told job.paths.items, map told h.1, clock_told job.clock, map clock_told h.2, split, count, ap (map clock_told) h.5, m.history, rest.streams);
        tells = ((tells, listed stream open_at m.events fresh.0.stands.some_frames m.history.well_timed), rest.tells);
        of_these = ap (λ (l : List Stream). stream ∷ l) rest.of_these;
      }

  -- a settled run
  pub settled-run : {K : Type 0} (told : F → List Answer) (clock_told : C → List ℤ) (handed : K → Option (List (List ℕ))) (studio : Studio) (places : ℕ) (ends : Ends) (feeds : List F) (clocks : List C) (jobs : List (StreamJob F C)) (results : List StreamResult) (end : MixEnd) (sink new_sink : K) (report : WorkReport) (first last : List (ℤ × List ℤ))
      → AreOpenedTogether studio places ends → AreJobsOf ends.paths.items feeds clocks ends.streams.items jobs → AllZip (IsStreamResult told clock_told) jobs results
      → report.streams.items ≡ counts_in results → report.feed_faults.items ≡ faults_in results → MixesWith handed ends.mix sink 0 true end new_sink report.blocks first last → AllGiveTokens (dones_in results)
      → ((studio : Studio) (feeds : List Feed) (datagrams : List (List ℕ)) → AreTold studio (dones_in results) feeds → AreAllGiven studio end datagrams → AreBlocks studio feeds datagrams)
      → IsSettledRunWith studio places (map told feeds) (map clock_told clocks) report (handed sink) (handed new_sink) first last
  settled-run told clock_told handed studio places ends feeds clocks jobs results end sink new_sink report first last opened h zip streams faults mixes tokens settles =
      let paths = ends.paths.items in
      let own = ends.streams.items in
      let fresh = fresh_jobs studio.open_at places studio.streams paths feeds clocks own jobs opened.streams h in
      let space = have-places studio.open_at places studio.streams paths own opened.monitors ends.mix.sides.items opened.streams opened.rings in
      let all = have_all told clock_told studio.open_at places studio.streams paths feeds clocks own jobs results fresh space h zip tokens in
      record {
        changes = mixes.changes;
        taken = mixes.taken;
        run = record {
          histories = all.histories;
          streams = subst (λ (l : List StreamCounts). HaveStreamHistories studio.open_at places studio.streams (map told feeds) (map clock_told clocks) l all.histories) (sym streams) all.streams;
          faults = subst (λ (l : List ℕ). AreFaultNumbers (map told feeds) l) (sym faults) (faults-told told clock_told paths feeds clocks own jobs results h zip tokens);
          datagrams = mixes.datagrams;
          blocks = settles (with_changes studio mixes.changes) (feeds_of studio.open_at studio.streams all.histories) mixes.datagrams (all.of_these, all.tells) (mixes.all refl studio [] opened.mix);
          count = λ few. let n = mixes.count (omega (arith, few)) in omega (arith, n);
          handed = mixes.hands;
        };
      }

-- a settled run that took no change of gains is a settled run of its studio
pub settled-unchanged : (studio : Studio) (places : ℕ) (told : List (List Answer)) (clocks : List (List ℤ)) (report : WorkReport) (before after : Option (List (List ℕ))) (taken : List (ℤ × List ℤ))
    → IsSettledRunWith studio places told clocks report before after taken taken → IsSettledRun studio places told clocks report before after
settled-unchanged studio places told clocks report before after taken h =
    subst (λ changes. IsSettledRun (with_changes studio changes) places told clocks report before after) (no_more taken h.changes h.taken) h.run

-- what holds of the new results holds of all, if there were none before
pub zip_after : {A B : Type 0} (R : A → B → Type 0) (xs : List A) (before own all : List B) → before ≡ [] → all ≡ before ++ own → AllZip R xs own → AllZip R xs all
zip_after R xs before own all none is zip = subst (λ l. AllZip R xs l) (sym (is ∙ ap (λ l. l ++ own) none)) zip

-- ends that one call of `open` returned, with their monitors
pub opened-together : (studio : Studio) (places : ℕ) (ends : Ends) → AreOpened studio places ends → AreOpenedTogether studio places ends
opened-together studio places ends h = record { streams = h.streams; monitors = ends.monitors.items; rings = h.rings; mix = h.mix }
