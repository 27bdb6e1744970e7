-- What is owed for a search in which chunks that are alike come in order. This project's own.
use Rattle.std.specs.Prelude.{ℕ, List, [], ◌∷◌, ◌++◌, codes}
use Rattle.outer_ports.specs.declared.part.Part.TheVariants.{Whole}
use Rattle.text_lines.specs.Text.{text_of}
use Rattle.candidate_order.specs.Frontiers.{QuestionValue, FrontierValue}
use Rattle.topology_text.specs.Value.{NamedTopologyValue}
use Rattle.report_form.specs.{Reports.{WordsValue, question_of}, Spelling.{frontier_lines, synth_words}}
use Rattle.candidate_formula.specs.{Formulas.{OrderedFor, ordered_formula_for}, Searched.searched_question}
use Rattle.engine_search.specs.Found.{IsFoundBy}
use Rattle.run_rules.specs.{declared.status.Status.{Status, TheVariants.Done}, Said.{FilesValue, Says, Stay}}

unfoldable pub ordered_text : WordsValue → NamedTopologyValue → FrontierValue → List ℕ
ordered_text w t f = text_of ((codes "ordered" ∷ codes "1" ∷ []) ∷ synth_words t.names w ∷ (frontier_lines t.names (Whole, f) ++ (codes "end" ∷ []) ∷ []))

-- what a search finds by the formulas with the clauses of the order; each schedule is ordered, or of a reduction its inverse is
abbrev pub IsFoundInOrder : QuestionValue → FrontierValue → Type 0
IsFoundInOrder q = IsFoundBy q (ordered_formula_for (searched_question q)) (OrderedFor (searched_question q))

-- the frontier is what a search finds by the formulas with the clauses of the order, and each schedule is ordered, or of a reduction its inverse; the text has it, and no file changed
pub record IsOrderedAnswer (w : WordsValue) (t : NamedTopologyValue) (files : FilesValue) (status : Status) (text : List ℕ) : Type 0 where
  pub frontier : FrontierValue
  pub found : let q : QuestionValue = question_of w t Whole in IsFoundBy q (ordered_formula_for (searched_question q)) (OrderedFor (searched_question q)) frontier
  pub says : Says Done (ordered_text w t frontier) status text
  pub stay : Stay files
