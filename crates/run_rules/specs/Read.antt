-- What is asked of a search, or the answer of its refusal, as the code has it.
use Rattle.std.specs.Prelude.{◌≡◌, Option, None, Some, Result, Ok, Err}
use Rattle.topology_text.specs.Value.{NamedTopologyValue}
use Rattle.report_form.specs.Reports.{WordsValue}
use Rattle.frontier_audit.specs.Searches.{IsAsked}
use Rattle.run_rules.specs.{declared.{answer.Answer.Answer, search_text.SearchText.SearchText}, Answers.Says, Refusals.{Refusal, refusal_line}}
use Rattle.run_rules.specs.declared.search_text.SearchText.TheVariants as search

-- this is refused, and the answer says so
pub record IsRefused {A : Type 0} (asked : Result A Refusal) (answer : Answer) : Type 0 where
  pub refusal : Refusal
  pub is : asked ≡ Err refusal
  pub says : Says refusal.status (refusal_line refusal) answer.status answer.text.items

-- nothing refuses it, or this is the answer of its refusal
abbrev pub IsSearchableAs : Result (Unit {0}) Refusal → Option Answer → Type 0
IsSearchableAs can None = can ≡ Ok tt
IsSearchableAs can (Some answer) = IsRefused can answer

-- the search that is to be done, or the answer of its refusal
abbrev pub IsSearchAs : Result (WordsValue × NamedTopologyValue) Refusal → SearchText → Type 0
IsSearchAs asked (search.Asked s) = (asked ≡ Ok (s.words, s.topology)) × IsAsked s.words s.topology
IsSearchAs asked (search.Refused answer) = IsRefused asked answer
