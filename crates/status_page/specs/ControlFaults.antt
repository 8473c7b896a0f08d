-- The responses to requests about the gains that are refused.
use Rattle.std.specs.Prelude.{ℕ, List, [], ◌∷◌, ◌++◌, codes}
use Rattle.http1.specs.Fields.{Header}
use Rattle.http_server.specs.declared.response.Response.{Response}
use Rattle.http_server.specs.Response.{IsResponse}
use Rattle.gain_mix.specs.declared.live_schedule.ChangeFault.{ChangeFault}
use Rattle.gain_mix.specs.declared.live_schedule.ChangeFault.TheVariants as Change
use Rattle.status_page.specs.declared.control.fault.ControlFault.{ControlFault}
use Rattle.status_page.specs.declared.control.fault.ControlFault.TheVariants.{Origin, Rate, Query, Body, Shape, Range, Time, TooMany, NoAnswer}
use Rattle.status_page.specs.Responses.{guard_fields}

-- the fault of a request, by the reason why the run refuses its change
abbrev pub fault_of : ChangeFault → ControlFault
fault_of Change.Shape = Shape
fault_of Change.Range = Range
fault_of Change.Time = Time
fault_of Change.TooMany = TooMany

-- the status of a fault's response
abbrev pub fault_status : ControlFault → ℕ
fault_status Origin = 403
fault_status Rate = 429
fault_status Query = 400
fault_status Body = 400
fault_status Shape = 400
fault_status Range = 400
fault_status Time = 409
fault_status TooMany = 409
fault_status NoAnswer = 503

-- the body of a fault's response
abbrev pub fault_text : ControlFault → List ℕ
fault_text Origin = codes "{\"fault\":\"origin\"}"
fault_text Rate = codes "{\"fault\":\"rate\"}"
fault_text Query = codes "{\"fault\":\"query\"}"
fault_text Body = codes "{\"fault\":\"body\"}"
fault_text Shape = codes "{\"fault\":\"shape\"}"
fault_text Range = codes "{\"fault\":\"range\"}"
fault_text Time = codes "{\"fault\":\"time\"}"
fault_text TooMany = codes "{\"fault\":\"too many\"}"
fault_text NoAnswer = codes "{\"fault\":\"no answer\"}"

-- the header fields of JSON
abbrev pub json_fields : List Header
json_fields = (codes "content-type", codes "application/json") ∷ guard_fields

-- the response to a request that is refused
abbrev pub IsFault : ControlFault → Response → Type 0
IsFault fault response = IsResponse (fault_status fault) json_fields (fault_text fault) response

-- the body of the response to a request without the token
abbrev pub without_token_text : List ℕ
without_token_text = codes "{\"fault\":\"token\"}"

-- the response to a request without the token: 401, with the scheme by which a token is sent (RFC 6750, 3)
abbrev pub IsWithoutToken : Response → Type 0
IsWithoutToken response = IsResponse 401 (json_fields ++ (codes "www-authenticate", codes "Bearer") ∷ []) without_token_text response

-- the response to a method that the gains do not have
abbrev pub IsWrongMethod : Response → Type 0
IsWrongMethod response = IsResponse 405 ((codes "allow", codes "GET, HEAD, PUT") ∷ guard_fields) [] response
