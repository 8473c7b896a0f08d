-- The responses of the page of a run whose gains can be changed.
use Rattle.std.specs.Prelude.{◌≡◌, ◌⊎◌, ℕ, ◌*◌, List, [], length, take, drop, codes, bytes_eq, ℤ, Option, Some, None, Result, Ok, Err, if◌then◌else◌}
use Rattle.std.specs.declared.time.Duration.{Duration}
use Rattle.http.specs.declared.request.Request.{Request}
use Rattle.http.specs.Request.{body_of, head_of}
use Rattle.http_uri.specs.Uri.{uri_query}
use Rattle.http_server.specs.declared.response.Response.{Response}
use Rattle.http_server.specs.Response.{IsResponse}
use Rattle.json.specs.Json.{Json}
use Rattle.studio_io.specs.declared.gain_source.GainAction.TheVariants.{Show as ShowAction}
use Rattle.studio_io.specs.declared.gain_source.GainRequest.{GainRequest}
use Rattle.status_page.specs.declared.control.Control.{Control}
use Rattle.status_page.specs.declared.control.RequestOutcome.{RequestOutcome}
use Rattle.status_page.specs.declared.control.fault.ControlFault.{ControlFault}
use Rattle.status_page.specs.declared.control.fault.ControlFault.TheVariants.{Query, Rate}
use Rattle.status_page.specs.declared.control.reply.ShownTimes.{ShownTimes}
use Rattle.status_page.specs.declared.control.verdict.IsFree.{IsFree}
use Rattle.status_page.specs.declared.control.verdict.Verdict.{Verdict}
use Rattle.status_page.specs.declared.control.verdict.Verdict.TheVariants.{OtherHost, Refused, NoResource, WrongMethod, WrongGainsMethod, WithoutToken, TooManyReads, Show, ShowGains, ShowGainsCounted, ChangeGains}
use Rattle.status_page.specs.declared.control_page.ControlPage.{ControlPage}
use Rattle.status_page.specs.declared.control.rate.RequestRate.{RequestRate}
use Rattle.status_page.specs.declared.server.served.GainsAnswer.TheVariants as Gains
use Rattle.status_page.specs.RequestRate.{allows, counted}
use Rattle.status_page.specs.ControlPages.{control_content_of}
use Rattle.status_page.specs.ControlFaults.{IsFault, IsWithoutToken, IsWrongMethod}
use Rattle.status_page.specs.GainBodies.{IsBuffer, change_of, value_of}
use Rattle.status_page.specs.GainReplies.{IsShownReply, IsTakenReply, shown_in, taken_in}
use Rattle.status_page.specs.Integers.{integer_in}
use Rattle.status_page.specs.Responses.{guard_fields, misdirected_fields, misdirected_text, refused_fields, shown_fields}
use Rattle.status_page.specs.Verdicts.{verdict_of}

-- the relation of a requester's call: its state, the request, the gains in the buffer, the outcome, the gains in the buffer
-- after it, and the requester's state then
abbrev pub Asks : Type 0 → Type 1
Asks D = D → GainRequest → List ℤ → RequestOutcome → List ℤ → D → Type 0

-- the times of the planned changes that a requester has
abbrev pub Plans : Type 0 → Type 0
Plans D = D → List ℤ

-- the time in a query: `at=` and an integer
abbrev pub time_at : List ℕ → Option ℤ
time_at query = if bytes_eq (take 3 query) (codes "at=") then integer_in (drop 3 query) else None

abbrev pub time_found : Option ℤ → Result (Option ℤ) ControlFault
time_found None = Err Query
time_found (Some at) = Ok (Some at)

-- the time in a query; without a query it is that of the next block
abbrev pub time_in_query : Option (List ℕ) → Result (Option ℤ) ControlFault
time_in_query None = Ok None
time_in_query (Some query) = time_found (time_at query)

-- the token and the shape are the same
pub record HasSameLock {D : Type 0} (old new : Control D) : Type 0 where
  pub token : new.token ≡ old.token
  pub shape : new.shape ≡ old.shape

-- the run was sent a request for the gains at a time, and the reply is its answer
pub record AsksToShow {D : Type 0} (asks : Asks D) (old : Control D) (at : Option ℤ) (new : Control D) (reply : Result ShownTimes ControlFault) : Type 0 where
  pub sent : List ℤ
  pub places : length sent ≡ old.shape.outs * old.shape.ins
  pub outcome : RequestOutcome
  pub asked : asks old.requester (record { at = at; action = ShowAction }) sent outcome new.gains.items new.requester
  pub is_reply : reply ≡ shown_in outcome

-- a query with a fault is refused and nothing is sent to the run; other queries are sent
abbrev pub ShowsBy : {D : Type 0} → Asks D → Control D → Result (Option ℤ) ControlFault → Control D → Result ShownTimes ControlFault → Type 0
ShowsBy asks old (Err fault) new reply = (new.requester ≡ old.requester) × (reply ≡ Err fault)
ShowsBy asks old (Ok at) new reply = AsksToShow asks old at new reply

-- the run was sent exactly this change, and the reply is its answer
pub record AsksToChange {D : Type 0} (asks : Asks D) (old : Control D) (value : Option Json) (request : GainRequest) (new : Control D) (reply : Result ℤ ControlFault) : Type 0 where
  pub sent : List ℤ
  pub buffer : IsBuffer old.shape.outs old.shape.ins value request.action sent
  pub outcome : RequestOutcome
  pub asked : asks old.requester request sent outcome new.gains.items new.requester
  pub is_reply : reply ≡ taken_in outcome

-- a body with a fault is refused and nothing is sent to the run; other changes are sent
abbrev pub ChangesTo : {D : Type 0} → Asks D → Control D → Option Json → Result GainRequest ControlFault → Control D → Result ℤ ControlFault → Type 0
ChangesTo asks old value (Err fault) new reply = (new.requester ≡ old.requester) × (reply ≡ Err fault)
ChangesTo asks old value (Ok request) new reply = AsksToChange asks old value request new reply

abbrev pub ChangesBy : {D : Type 0} → Asks D → Control D → Option Json → Control D → Result ℤ ControlFault → Type 0
ChangesBy asks old value new reply = ChangesTo asks old value (change_of old.shape.outs old.shape.ins value) new reply

-- an allocation failed
abbrev pub IsFailed : Response → Type 0
IsFailed response = IsResponse 500 [] [] response

-- this is the response, unless an allocation failed
abbrev pub IsWrittenOrFailed : (Response → Type 0) → Response → Type 0
IsWrittenOrFailed Is response = Is response ⊎ IsFailed response

-- the gains at the time of the query were requested, and the response has the reply; or an allocation failed before
-- that
abbrev pub Shows : {D : Type 0} → Asks D → Plans D → Control D → Option (List ℕ) → Control D → Response → Type 0
Shows asks plans old query new response =
    ((reply : Result ShownTimes ControlFault) × ShowsBy asks old (time_in_query query) new reply
    × IsWrittenOrFailed (IsShownReply old.shape.outs old.shape.ins reply (plans new.requester) new.gains.items) response)
    ⊎ ((new.requester ≡ old.requester) × IsFailed response)

-- the change in the body was requested, and the response has the reply; or an allocation failed before that
abbrev pub Changes : {D : Type 0} → Asks D → Control D → Option Json → Control D → Response → Type 0
Changes asks old value new response =
    ((reply : Result ℤ ControlFault) × ChangesBy asks old value new reply × IsWrittenOrFailed (IsTakenReply reply) response)
    ⊎ ((new.requester ≡ old.requester) × IsFailed response)

-- the page before it answers at this time
abbrev pub at_time : {D : Type 0} → ControlPage D → Duration → ControlPage D
at_time page time = record page { time = time; answered = Gains.Neither }

-- a further change is one of at most 200 in a second, and a further read without the token one of at most 20
abbrev pub is_free : {D : Type 0} → ControlPage D → IsFree
is_free page = record { changes = allows 200 page.change_rate page.time; reads = allows 20 page.read_rate page.time }

-- the verdict on a request
abbrev pub verdict_on : {D : Type 0} → ControlPage D → Request (List ℕ) → Verdict
verdict_on page request = verdict_of page.control.token (is_free page) (head_of request)

-- the gains were shown, and this is the count of reads after it; apart from that, only the requester and the buffer of
-- gains may have changed
pub record ShowsGains {D : Type 0} (asks : Asks D) (plans : Plans D) (old : ControlPage D) (after : RequestRate) (request : Request (List ℕ)) (response : Response) (new : ControlPage D) : Type 0 where
  pub shows : Shows asks plans old.control (uri_query (head_of request).uri) new.control response
  pub lock : HasSameLock old.control new.control
  pub page : new.page ≡ old.page
  pub change_rate : new.change_rate ≡ old.change_rate
  pub read_rate : new.read_rate ≡ after
  pub time : new.time ≡ old.time
  pub answered : new.answered ≡ Gains.Read

-- a change was requested and counted; only the requester, the buffer of gains and the count may have changed
pub record ChangesGains {D : Type 0} (asks : Asks D) (old : ControlPage D) (request : Request (List ℕ)) (response : Response) (new : ControlPage D) : Type 0 where
  pub changes : Changes asks old.control (value_of (body_of request)) new.control response
  pub lock : HasSameLock old.control new.control
  pub page : new.page ≡ old.page
  pub change_rate : new.change_rate ≡ counted 200 old.change_rate old.time
  pub read_rate : new.read_rate ≡ old.read_rate
  pub time : new.time ≡ old.time
  pub answered : new.answered ≡ Gains.Change

-- the response to a request with this verdict, and what changes
abbrev pub responds : {D : Type 0} → Asks D → Plans D → Verdict → ControlPage D → Request (List ℕ) → Response → ControlPage D → Type 0
responds asks plans OtherHost old request response new = IsResponse 421 misdirected_fields misdirected_text response × (new ≡ old)
responds asks plans (Refused fault) old request response new = IsFault fault response × (new ≡ old)
responds asks plans NoResource old request response new = IsResponse 404 guard_fields [] response × (new ≡ old)
responds asks plans WrongMethod old request response new = IsResponse 405 refused_fields [] response × (new ≡ old)
responds asks plans WrongGainsMethod old request response new = IsWrongMethod response × (new ≡ old)
responds asks plans WithoutToken old request response new = IsWithoutToken response × (new ≡ old)
responds asks plans (Show resource) old request response new = IsResponse 200 (shown_fields resource) (control_content_of old.page resource) response × (new ≡ old)
responds asks plans TooManyReads old request response new = IsFault Rate response × (new ≡ record old { answered = Gains.RefusedRead })
responds asks plans ShowGains old request response new = ShowsGains asks plans old old.read_rate request response new
responds asks plans ShowGainsCounted old request response new = ShowsGains asks plans old (counted 20 old.read_rate old.time) request response new
responds asks plans ChangeGains old request response new = ChangesGains asks old request response new

-- the response to a request, by the verdict on it
abbrev pub control_answers : {D : Type 0} → Asks D → Plans D → ControlPage D → Request (List ℕ) → Response → ControlPage D → Type 0
control_answers asks plans old request response new = responds asks plans (verdict_on old request) old request response new
