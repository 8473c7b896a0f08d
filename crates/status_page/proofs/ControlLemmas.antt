-- The page of a run whose gains can be changed, after requests that it answered.
use Rattle.std.proofs.Common.{◌≡◌, ℕ, List, [], ◌∷◌, ◌∙◌, ap}
use Rattle.http.specs.declared.request.Request.{Request}
use Rattle.http_server.specs.Exchange.{Call, Chain}
use Rattle.http_server.specs.declared.response.Response.{Response}
use Rattle.status_page.specs.Controls.{Asks, Plans, control_answers, responds, verdict_on}
use Rattle.status_page.specs.declared.control.verdict.Verdict.{Verdict}
use Rattle.status_page.specs.declared.control.verdict.Verdict.TheVariants.{OtherHost, Refused, NoResource, WrongMethod, WrongGainsMethod, WithoutToken, TooManyReads, Show, ShowGains, ShowGainsCounted, ChangeGains}
use Rattle.status_page.specs.declared.control_page.ControlPage.{ControlPage}

module _ {D : Type 0} (asks : Asks D) (plans : Plans D) where
  -- no response changes the snapshot
  keeps_page : (verdict : Verdict) (old : ControlPage D) (request : Request (List ℕ)) (response : Response) (new : ControlPage D) → responds asks plans verdict old request response new → new.page ≡ old.page
  keeps_page OtherHost old request response new h = ap (λ (page : ControlPage D). page.page) h.1
  keeps_page (Refused fault) old request response new h = ap (λ (page : ControlPage D). page.page) h.1
  keeps_page NoResource old request response new h = ap (λ (page : ControlPage D). page.page) h.1
  keeps_page WrongMethod old request response new h = ap (λ (page : ControlPage D). page.page) h.1
  keeps_page WrongGainsMethod old request response new h = ap (λ (page : ControlPage D). page.page) h.1
  keeps_page WithoutToken old request response new h = ap (λ (page : ControlPage D). page.page) h.1
  keeps_page (Show resource) old request response new h = ap (λ (page : ControlPage D). page.page) h.1
  keeps_page TooManyReads old request response new h = ap (λ (page : ControlPage D). page.page) h.1
  keeps_page ShowGains old request response new h = h.page
  keeps_page ShowGainsCounted old request response new h = h.page
  keeps_page ChangeGains old request response new h = h.page

  -- nor do many
  pub chain_keeps_page : (old new : ControlPage D) (calls : List Call) → Chain (control_answers asks plans) old calls new → new.page ≡ old.page
  chain_keeps_page old new [] same = ap (λ (page : ControlPage D). page.page) same
  chain_keeps_page old new (call ∷ calls) chain =
      chain_keeps_page chain.0 new calls chain.2 ∙ keeps_page (verdict_on old call.0) old call.0 call.1 chain.0 chain.1
