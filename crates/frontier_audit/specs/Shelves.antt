-- What the files have to be beside a report (this project's own).
use Rattle.std.specs.Prelude.{◌≡◌, false, All}
use Rattle.outer_ports.specs.{declared.part.Part.Part, Files.Files}
use Rattle.candidate_order.specs.Frontiers.{QuestionValue, FrontierValue}
use Rattle.candidate_formula.specs.{Files.{HasRefutation, HasLog}, Pruned.is_cut_away}
use Rattle.report_form.specs.Reports.{ReportValue, question_of}

-- the files prove what a frontier says of a part; nothing is owed of a refuted candidate that is cut away
pub record PartRight (part : Part) (q : QuestionValue) (f : FrontierValue) (files : Files) : Type 0 where
  pub refuted : All (λ x. is_cut_away q x ≡ false → HasRefutation part q files x) f.refuted
  pub unknown : All (HasLog part q files) f.unknown

-- the files prove what the report says of each of its parts
abbrev pub ShelfRight : ReportValue → Files → Type 0
ShelfRight r files = All (λ x. PartRight x.0 (question_of r.words r.topology x.0) x.1 files) r.frontiers
