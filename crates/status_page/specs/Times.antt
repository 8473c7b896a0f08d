-- The limits on the times of a client's requests.
use Rattle.std.specs.Prelude.{◌-◌, Bool, false, ◌||◌, nat_lt, Option, Some, None}
use Rattle.std.specs.Duration.{as_nanos}
use Rattle.std.specs.declared.time.Duration.{Duration}
use Rattle.status_page.specs.declared.server.times.RequestTimes.{RequestTimes}

-- there are more than ten seconds between two times
abbrev pub is_over : Duration → Duration → Bool
is_over since now = nat_lt 10000000000 (as_nanos now - as_nanos since)

-- more than ten seconds have passed since a time, if there is one
abbrev pub is_over_since : Option Duration → Duration → Bool
is_over_since None now = false
is_over_since (Some since) now = is_over since now

-- a request has to be complete ten seconds after its first octet, and a client has to read or write each ten seconds
abbrev pub is_overdue : RequestTimes → Duration → Bool
is_overdue times now = is_over times.moved_at now || is_over_since times.began_at now
