-- Where the search of a part breaks off, so does that of the report.
use Rattle.std.proofs.Common.{◌≡◌, false, Contains, Result, IfOk, refl, sym, ap, subst, ⊎_elim}
use Rattle.outer_ports.specs.{declared.{part.Part.Part, proof_name.FileKind.{FileKind, TheVariants.{Cnf, Lrat}}}, Files.Files}
use Rattle.schedule.specs.Links.{TopologyValue}
use Rattle.collective_spec.specs.declared.spec.Spec.{Spec}
use Rattle.candidate_order.specs.{Ranges.LimitsValue, Frontiers.{FrontierValue, IsWithin, QuestionValue}}
use Rattle.candidate_formula.{specs.{Formulas.formula_for, Files.{candidate_of, file_of}, Pruned.is_cut_away}, proofs.BegunFiles.begun_weaker}
use Rattle.proof_audit.specs.Kept.{BothStay, KeepsEach}
use Rattle.topology_text.specs.Value.{NamedTopologyValue}
use Rattle.report_form.specs.Reports.{WordsValue, parts_of, question_of}
use Rattle.engine_rules.specs.declared.fault.EngineFault.{EngineFault}
use Rattle.frontier_audit.specs.{OwedFiles.{BreaksOff, KeepsProofs}, Parts.TakesUpPart}
use Rattle.report_search.specs.Shelved.{MayHaveBegun}

module _ (w : WordsValue) (t : NamedTopologyValue) where
  breaks_off : (part : Part) (before after : Files) → Contains (parts_of w.collective.kind) part → MayHaveBegun part (question_of w t part) before after → BreaksOff w t before after
  breaks_off part before after among may =
      begun_weaker (λ name of. (
        (
          subst (Contains (parts_of w.collective.kind)) (sym of.0) among,
          (
            subst (λ p. IsWithin (question_of w t p) (candidate_of name)) (sym of.0) of.1.0,
            subst (λ p. is_cut_away (question_of w t p) (candidate_of name) ≡ false) (sym of.0) of.1.1,
          ),
        ),
        ap (λ p. formula_for (question_of w t p) (candidate_of name)) (sym of.0),
      )) may

  -- as the code has it: of what it asks for in the part
  pub breaks_off_for : (part : Part) (links : TopologyValue) (spec : Spec) (limits : LimitsValue) (before after : Files) → links ≡ t.topology → spec ≡ (question_of w t part).spec → limits ≡ w.limits → Contains (parts_of w.collective.kind) part
      → MayHaveBegun part (record { topology = links; spec = spec; limits = limits }) before after → BreaksOff w t before after
  breaks_off_for part links spec limits before after over is within among may =
      let asked : QuestionValue = record { topology = links; spec = spec; limits = limits } in
      let same : asked ≡ question_of w t part = rw (over, is, within) refl in
      breaks_off part before after among (subst (λ q. MayHaveBegun part q before after) same may)

  pub takes_for : (part : Part) (links : TopologyValue) (spec : Spec) (limits : LimitsValue) (before : Files) (r : Result FrontierValue EngineFault) → links ≡ t.topology → spec ≡ (question_of w t part).spec → limits ≡ w.limits
      → IfOk r (λ f. TakesUpPart part (record { topology = links; spec = spec; limits = limits }) f before) → IfOk r (λ f. TakesUpPart part (question_of w t part) f before)
  takes_for part links spec limits before r over is within takes =
      let asked : QuestionValue = record { topology = links; spec = spec; limits = limits } in
      let same : asked ≡ question_of w t part = rw (over, is, within) refl in
      subst (λ q. IfOk r (λ f. TakesUpPart part q f before)) same takes

  -- the files of the other parts stay, so what is kept of the part that was searched is kept of each
  keeps_parts : (part : Part) (before after : Files) → MayHaveBegun part (question_of w t part) before after → KeepsEach part (question_of w t part) before after → KeepsProofs w t before after
  keeps_parts part before after may keeps other among x has = record { formula = stays Cnf (λ both. both.formula); proof = stays Lrat (λ both. both.proof) }
    where
      searched : other ≡ part → BothStay other x before after
      searched is = subst (λ p. KeepsEach p (question_of w t p) before after) (sym is) keeps x has

      stays : (kind : FileKind) → (BothStay other x before after → after (file_of kind other x) ≡ before (file_of kind other x)) → after (file_of kind other x) ≡ before (file_of kind other x)
      stays kind file = ⊎_elim (λ same. same) (λ begun. file (searched begun.0.0)) (may.each (file_of kind other x))

  pub keeps_parts_for : (part : Part) (links : TopologyValue) (spec : Spec) (limits : LimitsValue) (before after : Files) → links ≡ t.topology → spec ≡ (question_of w t part).spec → limits ≡ w.limits
      → MayHaveBegun part (record { topology = links; spec = spec; limits = limits }) before after → KeepsEach part (record { topology = links; spec = spec; limits = limits }) before after → KeepsProofs w t before after
  keeps_parts_for part links spec limits before after over is within may keeps =
      let asked : QuestionValue = record { topology = links; spec = spec; limits = limits } in
      let same : asked ≡ question_of w t part = rw (over, is, within) refl in
      keeps_parts part before after (subst (λ q. MayHaveBegun part q before after) same may) (subst (λ q. KeepsEach part q before after) same keeps)
