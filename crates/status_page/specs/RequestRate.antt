-- The limits on the numbers of requests in a second.
use Rattle.std.specs.Prelude.{ℕ, ◌+◌, ◌-◌, Bool, ◌||◌, nat_le, nat_lt, if◌then◌else◌}
use Rattle.std.specs.Duration.{as_nanos}
use Rattle.std.specs.declared.time.Duration.{Duration}
use Rattle.status_page.specs.declared.control.rate.RequestRate.{RequestRate}

-- there is a second or more between two times
abbrev pub has_passed : Duration → Duration → Bool
has_passed since now = nat_le 1000000000 (as_nanos now - as_nanos since)

-- of at most so many requests in a second, one more is allowed: the second has passed, or fewer were counted in it
abbrev pub allows : ℕ → RequestRate → Duration → Bool
allows most rate now = has_passed rate.began_at now || nat_lt rate.requests most

-- the count with a request at this time, if it is allowed: the first of a new second, or one more in this second
abbrev pub counted : ℕ → RequestRate → Duration → RequestRate
counted most rate now =
    if has_passed rate.began_at now then record { began_at = now; requests = 1 }
    else (if nat_lt rate.requests most then record rate { requests = rate.requests + 1 } else rate)
