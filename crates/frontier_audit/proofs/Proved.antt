-- The files that a search leaves are what an audit looks for.
use Rattle.std.proofs.{Common.arith, lemmas.List.Elements.All-weaker}
use Rattle.outer_ports.specs.{Files.Files}
use Rattle.candidate_formula.specs.Files.{FrontierFiles}
use Rattle.report_form.specs.Reports.{ReportValue, question_of}
use Rattle.frontier_audit.specs.{OwedFiles.Proves, Shelves.{PartRight, ShelfRight}}

pub proves_right : (r : ReportValue) (before after : Files) → Proves r before after → ShelfRight r after
proves_right r before after proves =
    All-weaker (λ x. FrontierFiles x.0 (question_of r.words r.topology x.0) after x.1) (λ x. PartRight x.0 (question_of r.words r.topology x.0) x.1 after) (λ x has. (grind (arith, All-weaker))) r.frontiers proves.files
