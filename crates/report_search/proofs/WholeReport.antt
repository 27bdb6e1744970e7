-- The report of a search in one part: it is valid and right, and its files prove it.
use Rattle.std.proofs.{Common.{◌≡◌, ◌≢◌, [], refl, sym, subst, arith}, lemmas.List.Elements.{All-cons, All-nil}}
use Rattle.outer_ports.specs.{declared.{part.Part.{Part, TheVariants.{Whole, Joined}}, proof_name.ProofName.ProofName}, Files.Files}
use Rattle.collective_spec.specs.declared.kind.Kind.TheVariants as kind
use Rattle.candidate_order.specs.Frontiers.{FrontierValue}
use Rattle.candidate_formula.specs.{Files.{candidate_of, FrontierFiles}, Pruned.HasOwnFiles}
use Rattle.topology_text.specs.Value.{NamedTopologyValue}
use Rattle.report_form.specs.Reports.{WordsValue, ReportValue, IsFrontier, IsReport, IsJoinedPoint, question_of, whole_report}
use Rattle.frontier_audit.specs.{Rights.{IsRight, IsSearched}, OwedFiles.{Proves, TakesUpProofs}, Searches.IsAsked, Parts.{IsExhaustedPart, IsRightPart, IsSearchedPart, IsSuitedPart, IsUncutPart, IsOf, TakesUpPart}}
use Rattle.engine_search.specs.Found.{IsFound}
use Rattle.report_search.{specs.Shelved.{IsShelved, IsUncut}, proofs.{PartQuestions.one_part, Valid.valid_frontier}}

module _ (w : WordsValue) (t : NamedTopologyValue) (f : FrontierValue) where
  abbrev report : ReportValue
  report = whole_report w t f

  abbrev OfFrontier : Part × FrontierValue → Type 0
  OfFrontier x = IsFrontier (question_of w t x.0) x.1

  pub whole_valid : IsAsked w t → w.collective.kind ≢ kind.Allreduce → IsFound (question_of w t Whole) f → IsReport report
  whole_valid asked single found = record {
    topology = asked.topology;
    pattern = asked.fits;
    words = asked.words;
    parts = sym (one_part w.collective.kind single);
    frontiers = All-cons OfFrontier (Whole, f) [] (valid_frontier (question_of w t Whole) f found) (All-nil OfFrontier);
    joined = All-nil (IsJoinedPoint (question_of w t Joined));
    only_allreduce = λ _. refl;
  }

  pub whole_right : (r : ReportValue) → r ≡ report → IsAsked w t → w.collective.kind ≢ kind.Allreduce → IsFound (question_of w t Whole) f → IsRight r
  whole_right r is asked single found = subst IsRight (sym is) (record {
    valid = whole_valid asked single found;
    parts = All-cons (IsRightPart report) (Whole, f) [] found.right (All-nil (IsRightPart report));
    joined = refl;
  })

  pub whole_searched : (r : ReportValue) → r ≡ report → IsFound (question_of w t Whole) f → IsUncut (question_of w t Whole) f → IsSearched r
  whole_searched r is found uncut = subst IsSearched (sym is) (record {
    parts = All-cons (IsSearchedPart report) (Whole, f) [] found.searched (All-nil (IsSearchedPart report));
    exhausted = All-cons (IsExhaustedPart report) (Whole, f) [] found.exhausted (All-nil (IsExhaustedPart report));
    uncut = All-cons (IsUncutPart report) (Whole, f) [] uncut (All-nil (IsUncutPart report));
    suited = All-cons (IsSuitedPart report) (Whole, f) [] found.suited (All-nil (IsSuitedPart report));
  })

  -- ---- its files

  of_report : (name : ProofName) → (name.part ≡ Whole) × HasOwnFiles (question_of w t Whole) f (candidate_of name) → IsOf report name
  of_report name mine = (0, (Whole, f), omega arith, refl, (sym mine.0, mine.1))

  pub whole_proves : (r : ReportValue) (before after : Files) → r ≡ report → IsShelved Whole (question_of w t Whole) f before after → Proves r before after
  whole_proves r before after is shelved = subst (λ x. Proves x before after) (sym is) (record {
    files = All-cons HasFiles (Whole, f) [] shelved.files (All-nil HasFiles);
    others = λ name other. shelved.others name (λ mine. other (of_report name mine));
  })
    where
      HasFiles : Part × FrontierValue → Type 0
      HasFiles x = FrontierFiles x.0 (question_of w t x.0) after x.1

  pub whole_takes : (r : ReportValue) (before : Files) → r ≡ report → TakesUpPart Whole (question_of w t Whole) f before → TakesUpProofs r before
  whole_takes r before is takes = subst (λ x. TakesUpProofs x before) (sym is) (All-cons Takes (Whole, f) [] takes (All-nil Takes))
    where
      Takes : Part × FrontierValue → Type 0
      Takes x = TakesUpPart x.0 (question_of w t x.0) x.1 before
