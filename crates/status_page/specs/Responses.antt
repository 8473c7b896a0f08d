-- The response to a request.
use Rattle.std.specs.Prelude.{◌≡◌, ℕ, ◌≤◌, List, [], ◌∷◌, Bool, true, false, ◌||◌, Option, Some, None, codes, if◌then◌else◌}
use Rattle.std.specs.Str.{bytes_eq}
use Rattle.json.specs.Print.{print}
use Rattle.http1.specs.Fields.{Header}
use Rattle.http_server.specs.declared.state.Config.{Config}
use Rattle.http_server.specs.declared.response.Response.{Response}
use Rattle.http_server.specs.Response.{IsResponse}
use Rattle.status_page.specs.declared.page.html.TheConstants.{HTML}
use Rattle.status_page.specs.declared.page.resource.Resource.{Resource}
use Rattle.status_page.specs.declared.page.resource.Resource.TheVariants.{Page, State, Metrics}
use Rattle.status_page.specs.declared.run_facts.ShownRun.{ShownRun}
use Rattle.status_page.specs.Host.{is_here}
use Rattle.status_page.specs.RunFacts.{run_metrics}
use Rattle.status_page.specs.State.{state_tokens}

-- the resource at a path
abbrev pub resource_of : List ℕ → Option Resource
resource_of path =
    if bytes_eq path (codes "/") then Some Page
    else (if bytes_eq path (codes "/state") then Some State
    else (if bytes_eq path (codes "/metrics") then Some Metrics else None))

-- the method only reads
abbrev pub is_read : List ℕ → Bool
is_read method = bytes_eq method (codes "GET") || bytes_eq method (codes "HEAD")

-- the media type of a resource
abbrev pub media_type : Resource → List ℕ
media_type Page = codes "text/html; charset=utf-8"
media_type State = codes "application/json"
media_type Metrics = codes "text/plain; version=0.0.4; charset=utf-8"

-- the page itself
unfoldable pub page_text : List ℕ
page_text = HTML.now

-- the content of a resource of this run's page
abbrev pub content_of : ShownRun → Resource → List ℕ
content_of run Page = page_text
content_of run State = print (state_tokens run.snapshot)
content_of run Metrics = run_metrics run

-- what a browser may do with a response (Content Security Policy Level 3): it uses the style, the script and the icon that
-- are in it, sends requests to its own origin alone, and shows it in no frame
unfoldable pub policy_text : List ℕ
policy_text = codes "default-src 'none'; style-src 'unsafe-inline'; script-src 'unsafe-inline'; connect-src 'self'; img-src data:; frame-ancestors 'none'"

-- the header fields of every response: no cache keeps it, no browser takes it for another type than the one it has or shows
-- it in a frame, and its policy
abbrev pub guard_fields : List Header
guard_fields =
    (codes "cache-control", codes "no-store") ∷ (codes "x-content-type-options", codes "nosniff")
    ∷ (codes "x-frame-options", codes "DENY") ∷ (codes "content-security-policy", policy_text) ∷ []

-- the header fields of a resource
abbrev pub shown_fields : Resource → List Header
shown_fields resource = (codes "content-type", media_type resource) ∷ guard_fields

-- the header fields of the response to a method that does not only read
abbrev pub refused_fields : List Header
refused_fields = (codes "allow", codes "GET, HEAD") ∷ guard_fields

-- the header fields of the response to a request that is addressed to another host
abbrev pub misdirected_fields : List Header
misdirected_fields = (codes "content-type", codes "text/plain; charset=utf-8") ∷ guard_fields

-- the body of the response to a request that is addressed to another host
abbrev pub misdirected_text : List ℕ
misdirected_text = codes "The page answers only to the hosts 127.0.0.1, localhost and [::1].\n"

-- 421 for another host; else 404 without a resource, 405 for a method that does not only read, and else the resource
abbrev pub answers : ShownRun → Bool → Bool → Option Resource → Response → Type 0
answers run false read found response = IsResponse 421 misdirected_fields misdirected_text response
answers run true read None response = IsResponse 404 guard_fields [] response
answers run true false (Some resource) response = IsResponse 405 refused_fields [] response
answers run true true (Some resource) response = IsResponse 200 (shown_fields resource) (content_of run resource) response

-- the response to a request, by its host, its method and its path
abbrev pub IsAnswer : ShownRun → Option (List ℕ) → List ℕ → List ℕ → Response → Type 0
IsAnswer run host method path response = answers run (is_here host) (is_read method) (resource_of path) response

-- the limits of a connection: at most 8,192 octets of a head and of trailers, at most `most` of a body, and no further
-- request before the response
pub record IsGuardedUpTo (most : ℕ) (config : Config) : Type 0 where
  pub head : config.limits.max_head_len ≤ 8192
  pub trailers : config.limits.max_trailers_len ≤ 8192
  pub body : config.max_body_len ≤ most
  pub pending : config.max_pending ≡ 0

-- the limits of a connection, with a body of at most 8,192 octets
abbrev pub IsGuarded : Config → Type 0
IsGuarded = IsGuardedUpTo 8192
