-- The text of a search for ordered schedules, piece by piece.
use Rattle.std.proofs.Common.{◌≡◌, [], ◌∷◌, ◌++◌, sym, ap, codes}
use Rattle.outer_ports.specs.declared.part.Part.TheVariants.{Whole}
use Rattle.text_lines.specs.Text.{line}
use Rattle.candidate_order.specs.Frontiers.{FrontierValue}
use Rattle.topology_text.specs.Value.{NamedTopologyValue}
use Rattle.report_form.specs.{Reports.WordsValue, Spelling.{frontier_lines, synth_words}}
use Rattle.report_printing.{specs.Printed.frontier_text, proofs.Pieces.text_append}
use Rattle.run_rules.specs.Orders.{ordered_text}

pub ordered_is : (w : WordsValue) (t : NamedTopologyValue) (f : FrontierValue) → codes "ordered 1\n" ++ (line (synth_words t.names w) ++ (frontier_text t.names (Whole, f) ++ codes "end\n")) ≡ ordered_text w t f
unfolding ordered_text
ordered_is w t f = ap (λ rest. codes "ordered 1\n" ++ (line (synth_words t.names w) ++ rest)) (sym (text_append (frontier_lines t.names (Whole, f)) ((codes "end" ∷ []) ∷ [])))
