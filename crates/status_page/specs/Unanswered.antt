-- The reads of the gains that may be among a client's requests without an answer.
use Rattle.std.specs.Prelude.{ℕ, ◌+◌, ◌-◌, ◌^◌, ◌==◌, ◌&&◌, Bool, not, min, nat_lt, List, length, slice_index, codes, if◌then◌else◌}
use Rattle.status_page.specs.declared.server.unanswered.UnansweredReads.{UnansweredReads}

-- how many of the first octets of a word are the last ones that came, if there were so many before this octet
abbrev pub ends_with : List ℕ → ℕ → ℕ → ℕ
ends_with word before octet =
    if nat_lt before (length word) && slice_index word before == octet then before + 1
    else (if nat_lt 0 (length word) && slice_index word 0 == octet then 1 else 0)

-- the path of the gains came, and not in a change
abbrev pub has_come : ℕ → ℕ → Bool
has_come path change = path == 6 && not (change == 10)

-- the count with one more octet
abbrev pub count_with : ℕ → Bool → ℕ
count_with count come = if come then min (count + 1) (2 ^ 64 - 1) else count

-- the reads behind one more octet
abbrev pub after_octet : UnansweredReads → ℕ → UnansweredReads
after_octet reads octet =
    let path = ends_with (codes "/gains") reads.path octet in
    let change = ends_with (codes "PUT /gains") reads.change octet in
    record { path = path; change = change; count = count_with reads.count (has_come path change) }

-- there may be a read among the requests without an answer
abbrev pub may_read : UnansweredReads → Bool
may_read reads = nat_lt 0 reads.count
