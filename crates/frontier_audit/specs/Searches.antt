-- What is asked of a search.
use Rattle.std.specs.Prelude.{◌≡◌, ◌≤◌, true, length}
use Rattle.outer_ports.specs.declared.part.Part.TheVariants.{Whole}
use Rattle.collective_spec.specs.Collectives.{fits_kind}
use Rattle.round_encoding.specs.Candidates.{size_limit}
use Rattle.candidate_formula.specs.Sizes.{size_of}
use Rattle.topology_text.specs.Value.{NamedTopologyValue, IsNamed}
use Rattle.report_form.specs.Reports.{WordsValue, IsWords, question_of}

-- the words and the topology are valid, they fit each other, and the search is small enough
pub record IsAsked (w : WordsValue) (t : NamedTopologyValue) : Type 0 where
  pub topology : IsNamed t
  pub words : IsWords (length t.names) w
  pub fits : fits_kind w.collective.kind t.custom ≡ true
  pub small : size_of (question_of w t Whole) ≤ size_limit
