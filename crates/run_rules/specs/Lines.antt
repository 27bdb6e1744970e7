-- Lines of the answers, as contracts of the code that prints them have them.
use Rattle.std.specs.Prelude.{ℕ, List, ◌∷◌, ◌++◌, codes}
use Rattle.candidate_order.specs.declared.candidate.Candidate.{Candidate}
use Rattle.report_form.specs.Spelling.{candidate_words}
use Rattle.node_cuts.specs.Cuts.{CutValue}
use Rattle.run_rules.specs.Bounds.{names_of_set}

-- a candidate, and the nodes of its first cut
abbrev pub cut_words : List (List ℕ) → Candidate × CutValue → List (List ℕ)
cut_words names x = codes "cut" ∷ candidate_words x.0 ++ names_of_set names x.1.nodes

-- a candidate that a refuted one of the old report carries
abbrev pub carried_words : Candidate → List (List ℕ)
carried_words x = codes "carried" ∷ candidate_words x
