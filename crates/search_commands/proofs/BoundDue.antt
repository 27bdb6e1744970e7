-- What is due for the words of a search that tells its cuts.
use Rattle.std.proofs.Common.{◌≡◌, ℕ, Bool, List, Ok, ap}
use Rattle.text_lines.specs.Check.{◌>>=◌}
use Rattle.topology_text.specs.Value.{NamedTopologyValue}
use Rattle.report_form.specs.Reports.{WordsValue}
use Rattle.command_words.specs.declared.command.SearchWords.{SearchWords}
use Rattle.run_rules.specs.{Tasks.{Bound, given_sets, search_asked}, Steps.bound_asked}

pub bound_due : (asked : SearchWords) (all_sets : Bool) (bytes : List ℕ) (w : WordsValue) (t : NamedTopologyValue) → search_asked asked bytes ≡ Ok (w, t) → bound_asked asked all_sets bytes ≡ Ok (Bound w t (given_sets all_sets))
bound_due asked all_sets bytes w t e = ap (λ x. x >>= (λ s. Ok (Bound s.0 s.1 (given_sets all_sets)))) e
