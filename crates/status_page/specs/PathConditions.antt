-- The conditions of paths: their names, and how many paths of a stream bring its audio.
use Rattle.std.specs.Prelude.{ℕ, ◌+◌, List, [], ◌∷◌, Option, Some, codes}
use Rattle.status_page.specs.declared.snapshot.PathCondition.{PathCondition}
use Rattle.status_page.specs.declared.snapshot.PathCondition.TheVariants.{GivenUp, NotJoined, NoDatagrams, Refused, Late, TooEarly, Losing, InTime}
use Rattle.status_page.specs.declared.snapshot.PathState.{PathState}

-- the name of a condition
abbrev pub path_condition_text : PathCondition → List ℕ
path_condition_text GivenUp = codes "given_up"
path_condition_text NotJoined = codes "not_joined"
path_condition_text NoDatagrams = codes "no_datagrams"
path_condition_text Refused = codes "refused"
path_condition_text Late = codes "late"
path_condition_text TooEarly = codes "too_early"
path_condition_text Losing = codes "losing"
path_condition_text InTime = codes "in_time"

-- 1 if a path has this condition, and 0 if not
abbrev pub has_path_condition : PathCondition → PathCondition → ℕ
has_path_condition GivenUp GivenUp = 1
has_path_condition NotJoined NotJoined = 1
has_path_condition NoDatagrams NoDatagrams = 1
has_path_condition Refused Refused = 1
has_path_condition Late Late = 1
has_path_condition TooEarly TooEarly = 1
has_path_condition Losing Losing = 1
has_path_condition InTime InTime = 1
has_path_condition _ _ = 0

-- 1 for a path by which alone the audio would go on, with gaps if it is losing, and 0 for any other
abbrev pub counts_as : Option PathCondition → ℕ
counts_as (Some Losing) = 1
counts_as (Some InTime) = 1
counts_as _ = 0

-- how many of these paths bring the audio
unfoldable pub redundancy : List PathState → ℕ
redundancy [] = 0
redundancy (path ∷ paths) = counts_as path.condition + redundancy paths
