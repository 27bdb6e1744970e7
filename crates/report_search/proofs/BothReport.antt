-- The report of an allreduce: it is valid and right, and the files of its two parts prove it.
use Rattle.std.proofs.{Common.{◌≡◌, List, [], ◌∷◌, All, refl, sym, ap, subst, ◌∙◌, arith}, lemmas.List.Elements.{All-cons, All-nil}}
use Rattle.outer_ports.specs.{declared.{part.Part.{Part, TheVariants.{Reduce, Gather}}, proof_name.{FileKind.TheVariants.{Cnf, Lrat}, ProofName.ProofName}}, Files.Files}
use Rattle.collective_spec.specs.declared.kind.Kind.TheVariants as kind
use Rattle.candidate_order.specs.Frontiers.{FrontierValue, PointValue}
use Rattle.candidate_formula.specs.{Files.{candidate_of, file_of, FrontierFiles}, Pruned.HasOwnFiles}
use Rattle.proof_audit.{specs.Kept.BothStay, proofs.Keeping.{keeps_trans, still_refuted}}
use Rattle.topology_text.specs.Value.{NamedTopologyValue}
use Rattle.report_form.specs.Reports.{WordsValue, ReportValue, IsFrontier, IsReport, question_of}
use Rattle.frontier_audit.specs.{Rights.{IsRight, IsSearched}, OwedFiles.{KeepsProofs, Proves, TakesUpProofs}, Searches.IsAsked, Parts.{IsExhaustedPart, IsRightPart, IsSearchedPart, IsSuitedPart, IsUncutPart, IsOf, TakesUpPart}}
use Rattle.engine_search.specs.Found.{IsFound}
use Rattle.report_search.{specs.{Shelved.{IsShelved, IsUncut}, inner.Reporting.{both_report, joins_of}}, proofs.{PartQuestions.two_parts, Valid.valid_frontier, JoinedPoints.{joined_points, joins_are}, Staying.files_stay}}

module _ (w : WordsValue) (t : NamedTopologyValue) (f g : FrontierValue) where
  abbrev report : ReportValue
  report = both_report w t f g

  -- what holds of each of the two
  two : (P : Part × FrontierValue → Type 0) → P (Reduce, f) → P (Gather, g) → All P ((Reduce, f) ∷ (Gather, g) ∷ [])
  two P first second = All-cons P (Reduce, f) ((Gather, g) ∷ []) first (All-cons P (Gather, g) [] second (All-nil P))

  module _ (asked : IsAsked w t) (is : w.collective.kind ≡ kind.Allreduce) (found : IsFound (question_of w t Reduce) f) (found_too : IsFound (question_of w t Gather) g) where
    both_valid : IsReport report
    both_valid = record {
      topology = asked.topology;
      pattern = asked.fits;
      words = asked.words;
      parts = sym (two_parts w.collective.kind is);
      frontiers = two (λ x. IsFrontier (question_of w t x.0) x.1) (valid_frontier (question_of w t Reduce) f found) (valid_frontier (question_of w t Gather) g found_too);
      joined = joined_points w t asked is f g found found_too;
      only_allreduce = λ other. absurd (other is);
    }

    -- as the code has it: of the lists that it made
    pub both_valid_for : (frontiers : List (Part × FrontierValue)) (joined points more : List PointValue) → frontiers ≡ (Reduce, f) ∷ (Gather, g) ∷ [] → joined ≡ joins_of points more → points ≡ f.points → more ≡ g.points
        → IsReport (record { words = w; topology = t; frontiers = frontiers; joined = joined })
    both_valid_for frontiers joined points more parts joins first second =
        let all : joined ≡ joins_of f.points g.points = joins ∙ ap (λ xs. joins_of xs more) first ∙ ap (joins_of f.points) second in
        subst (λ xs. IsReport (record { words = w; topology = t; frontiers = frontiers; joined = xs })) (sym all)
        (subst (λ xs. IsReport (record { words = w; topology = t; frontiers = xs; joined = joins_of f.points g.points })) (sym parts) both_valid)

    pub both_right : (r : ReportValue) → r ≡ report → IsRight r
    both_right r same = subst IsRight (sym same) (record {
      valid = both_valid;
      parts = two (IsRightPart report) found.right found_too.right;
      joined = joins_are w t asked is f g found found_too;
    })

    pub both_searched : (r : ReportValue) → r ≡ report → IsUncut (question_of w t Reduce) f → IsUncut (question_of w t Gather) g → IsSearched r
    both_searched r same uncut uncut_too = subst IsSearched (sym same) (record {
      parts = two (IsSearchedPart report) found.searched found_too.searched;
      exhausted = two (IsExhaustedPart report) found.exhausted found_too.exhausted;
      uncut = two (IsUncutPart report) uncut uncut_too;
      suited = two (IsSuitedPart report) found.suited found_too.suited;
    })

  -- ---- its files

  of_first : (name : ProofName) → (name.part ≡ Reduce) × HasOwnFiles (question_of w t Reduce) f (candidate_of name) → IsOf report name
  of_first name mine = (0, (Reduce, f), omega arith, refl, (sym mine.0, mine.1))

  of_second : (name : ProofName) → (name.part ≡ Gather) × HasOwnFiles (question_of w t Gather) g (candidate_of name) → IsOf report name
  of_second name mine = (1, (Gather, g), omega arith, refl, (sym mine.0, mine.1))

  pub both_prove : (r : ReportValue) (before middle after : Files) → r ≡ report → IsShelved Reduce (question_of w t Reduce) f before middle → IsShelved Gather (question_of w t Gather) g middle after → Proves r before after
  both_prove r before middle after same first second = subst (λ x. Proves x before after) (sym same) (record {
    files = two (λ x. FrontierFiles x.0 (question_of w t x.0) after x.1) (files_stay Reduce (question_of w t Reduce) middle after stay f first.files) second.files;
    others = λ name other. second.others name (λ mine. other (of_second name mine)) ∙ first.others name (λ mine. other (of_first name mine));
  })
    where
      stay : (name : ProofName) → name.part ≡ Reduce → after name ≡ middle name
      stay name reduces = second.others name (λ mine. let both : Gather ≡ Reduce = sym mine.0 ∙ reduces in absurd cc)

  -- the first search leaves what refuted candidates of the second part
  pub both_take : (r : ReportValue) (before middle : Files) → r ≡ report → IsShelved Reduce (question_of w t Reduce) f before middle
      → TakesUpPart Reduce (question_of w t Reduce) f before → TakesUpPart Gather (question_of w t Gather) g middle → TakesUpProofs r before
  both_take r before middle same first takes takes_too = subst (λ x. TakesUpProofs x before) (sym same) (two (λ x. TakesUpPart x.0 (question_of w t x.0) x.1 before) takes gathered)
    where
      sooner : (name : ProofName) → name.part ≡ Gather → middle name ≡ before name
      sooner name gathers = first.others name (λ mine. let both : Reduce ≡ Gather = sym mine.0 ∙ gathers in absurd cc)

      gathered : TakesUpPart Gather (question_of w t Gather) g before
      gathered x mine has =
          let stay : BothStay Gather x before middle = record { formula = sooner (file_of Cnf Gather x) refl; proof = sooner (file_of Lrat Gather x) refl } in
          takes_too x mine (still_refuted Gather (question_of w t Gather) before middle x stay has)

-- what two searches keep in turn
pub both_keep : (w : WordsValue) (t : NamedTopologyValue) (before middle after : Files) → KeepsProofs w t before middle → KeepsProofs w t middle after → KeepsProofs w t before after
both_keep w t before middle after first second part among = keeps_trans part (question_of w t part) before middle after (first part among) (second part among)
