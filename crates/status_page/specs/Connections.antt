-- The responses that were sent to a client.
use Rattle.std.specs.Prelude.{◌≡◌, ℕ, List, ◌++◌, All}
use Rattle.http.specs.declared.request.Request.{Request}
use Rattle.http.specs.Request.{head_of}
use Rattle.http_uri.specs.Uri.{uri_path}
use Rattle.http_server.specs.declared.response.Response.{Response}
use Rattle.http_server.specs.Exchange.{Call}
use Rattle.http_server.specs.History.{History}
use Rattle.status_page.specs.declared.run_facts.ShownRun.{ShownRun}
use Rattle.status_page.specs.Host.{host_of}
use Rattle.status_page.specs.Responses.{IsAnswer}

-- the response to a request, by its host, its method and its path
abbrev pub IsAnswered : ShownRun → Request (List ℕ) → Response → Type 0
IsAnswered run request response = IsAnswer run (host_of (head_of request)) (head_of request).method (uri_path (head_of request).uri) response

-- the response to a request, which leaves the page as it was
abbrev pub page_answers : ShownRun → Request (List ℕ) → Response → ShownRun → Type 0
page_answers old request response new = IsAnswered old request response × (new ≡ old)

-- further requests were answered, each by the page of this run
pub record AnswersMore (run : ShownRun) (old new : History) : Type 0 where
  pub more : List Call
  pub follow : new.calls ≡ old.calls ++ more
  pub answered : All (λ call. IsAnswered run call.0 call.1) more
