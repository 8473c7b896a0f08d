-- The page of a run whose gains can be changed.
use Rattle.std.specs.Prelude.{ℕ, ◌-◌, List, ◌++◌, length, take, codes}
use Rattle.status_page.specs.declared.page.controls_html.TheConstants.{CONTROLS}
use Rattle.status_page.specs.declared.page.resource.Resource.{Resource}
use Rattle.status_page.specs.declared.page.resource.Resource.TheVariants.{Page, State, Metrics}
use Rattle.status_page.specs.declared.run_facts.ShownRun.{ShownRun}
use Rattle.status_page.specs.Responses.{content_of, page_text}

-- the part of the page with the gains
unfoldable pub controls_text : List ℕ
controls_text = CONTROLS.now

-- the end of the page
abbrev pub page_end : List ℕ
page_end = codes "</body>\n</html>\n"

-- the page, with the gains before its end
abbrev pub control_page_text : List ℕ
control_page_text = take (length page_text - length page_end) page_text ++ controls_text ++ page_end

-- the content of a resource of this run's page
abbrev pub control_content_of : ShownRun → Resource → List ℕ
control_content_of run Page = control_page_text
control_content_of run State = content_of run State
control_content_of run Metrics = content_of run Metrics
