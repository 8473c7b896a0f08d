-- The verdict on a request to the page of a run whose gains can be changed: its tests, in their order.
use Rattle.std.specs.Prelude.{ℕ, Bool, true, false, ◌&&◌, List, take, drop, Option, Some, None, option_map, codes, bytes_eq, if◌then◌else◌}
use Rattle.http.specs.declared.request.Parts.{Parts}
use Rattle.http1.specs.Text.{eq_ignore_case}
use Rattle.http_header.specs.FieldValue.{FieldValue}
use Rattle.http_header.specs.HeaderMap.{Entries, get}
use Rattle.http_uri.specs.Uri.{uri_path}
use Rattle.status_page.specs.declared.control.fault.ControlFault.TheVariants.{Origin, Rate}
use Rattle.status_page.specs.declared.control.verdict.IsFree.{IsFree}
use Rattle.status_page.specs.declared.control.verdict.Verdict.{Verdict}
use Rattle.status_page.specs.declared.control.verdict.Verdict.TheVariants.{OtherHost, Refused, NoResource, WrongMethod, WrongGainsMethod, WithoutToken, TooManyReads, Show, ShowGains, ShowGainsCounted, ChangeGains}
use Rattle.status_page.specs.declared.page.resource.Resource.{Resource}
use Rattle.status_page.specs.Host.{host_of, is_here}
use Rattle.status_page.specs.Responses.{is_read, resource_of}

-- the value of the first field with this name
abbrev pub field_of : List ℕ → Entries FieldValue → Option (List ℕ)
field_of name headers = option_map (λ value. value.bytes) (get headers name)

-- the origin of the pages at a host and port (RFC 6454, 6.2)
abbrev pub is_origin_of : List ℕ → List ℕ → Bool
is_origin_of host origin = eq_ignore_case (take 7 origin) (codes "http://") && eq_ignore_case (drop 7 origin) host

-- there is no origin, or it is that of the host and port to which the request is addressed
abbrev pub is_own_origin : Option (List ℕ) → Option (List ℕ) → Bool
is_own_origin None host = true
is_own_origin (Some origin) None = false
is_own_origin (Some origin) (Some host) = is_origin_of host origin

-- the token with its scheme (RFC 6750, 2.1)
abbrev pub is_bearer : List ℕ → List ℕ → Bool
is_bearer token value = eq_ignore_case (take 7 value) (codes "bearer ") && bytes_eq (drop 7 value) token

abbrev pub has_token : List ℕ → Option (List ℕ) → Bool
has_token token None = false
has_token token (Some value) = is_bearer token value

-- the tests of a read of the gains: its token, and without one whether a further such read is allowed now
abbrev pub verdict_on_read : Bool → Bool → Verdict
verdict_on_read allowed free = if allowed then ShowGains else (if free then ShowGainsCounted else TooManyReads)

-- the tests of a change of the gains: its token, and whether a further change is allowed now
abbrev pub verdict_on_change : Bool → Bool → Verdict
verdict_on_change allowed free = if allowed then if free then ChangeGains else Refused Rate else WithoutToken

-- the tests of a request to the gains, by its method
abbrev pub verdict_on_gains : List ℕ → Bool → IsFree → Verdict
verdict_on_gains method allowed free =
    if is_read method then verdict_on_read allowed free.reads
    else (if bytes_eq method (codes "PUT") then verdict_on_change allowed free.changes else WrongGainsMethod)

-- the tests of a request to another resource: whether it exists, and the method
abbrev pub verdict_on_page : Option Resource → Bool → Verdict
verdict_on_page None read = NoResource
verdict_on_page (Some resource) true = Show resource
verdict_on_page (Some resource) false = WrongMethod

abbrev pub verdict_on_path : List ℕ → IsFree → Parts → Verdict
verdict_on_path token free head =
    if bytes_eq (uri_path head.uri) (codes "/gains") then verdict_on_gains head.method (has_token token (field_of (codes "authorization") head.headers)) free
    else verdict_on_page (resource_of (uri_path head.uri)) (is_read head.method)

-- first the host, then the origin, and then the resource
abbrev pub verdict_of : List ℕ → IsFree → Parts → Verdict
verdict_of token free head =
    if is_here (host_of head) then if is_own_origin (field_of (codes "origin") head.headers) (field_of (codes "host") head.headers) then verdict_on_path token free head else Refused Origin else OtherHost
