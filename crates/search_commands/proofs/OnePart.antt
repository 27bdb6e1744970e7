-- What a search in the one part leaves, as its words and its topology ask for it.
use Rattle.std.proofs.{Common.{◌≡◌, ◌≢◌, [], Contains, Result, IfOk, refl, sym, subst}, lemmas.{List.Elements.Contains-push, Result.IfOk-weaker}}
use Rattle.outer_ports.specs.{declared.part.Part.TheVariants.Whole, Files.Files}
use Rattle.schedule.specs.Links.{TopologyValue}
use Rattle.collective_spec.specs.declared.kind.Kind.TheVariants as kind
use Rattle.collective_spec.specs.declared.spec.Spec.{Spec}
use Rattle.candidate_order.specs.{Ranges.LimitsValue, Frontiers.QuestionValue}
use Rattle.topology_text.specs.Value.{NamedTopologyValue}
use Rattle.report_form.specs.Reports.{WordsValue, parts_of, question_of, whole_report}
use Rattle.engine_rules.specs.declared.fault.EngineFault.{EngineFault}
use Rattle.candidate_formula.specs.Searched.{searched_question}
use Rattle.frontier_audit.specs.OwedFiles.{Proves}
use Rattle.report_search.{specs.Shelved.IsShelved, proofs.{PartQuestions.one_part, WholeReport.whole_proves}}
use Rattle.node_cuts.specs.declared.sets.Sets.{Sets}
use Rattle.cut_bounds.specs.Parting.{without_cuts}
use Rattle.search_commands.specs.declared.bounds.Bounds.{Bounds}

module _ (w : WordsValue) (t : NamedTopologyValue) (sets : Sets) where
  pub is_a_part : w.collective.kind ≢ kind.Allreduce → Contains (parts_of w.collective.kind) Whole
  is_a_part single = subst (λ parts. Contains parts Whole) (sym (one_part w.collective.kind single)) (Contains-push [] Whole)

  abbrev AreShelved : Files → Files → QuestionValue → Bounds → Type 0
  AreShelved before after q b = IsShelved Whole q (without_cuts sets (searched_question q) b.frontier) before after

  abbrev AreProved : Files → Files → Bounds → Type 0
  AreProved before after b = Proves (whole_report w t (without_cuts sets (searched_question (question_of w t Whole)) b.frontier)) before after

  -- as the code has it: of what it asks for in the part
  pub proved_for : (r : Result Bounds EngineFault) (before after : Files) (links : TopologyValue) (spec : Spec) (limits : LimitsValue) → links ≡ t.topology → spec ≡ (question_of w t Whole).spec → limits ≡ w.limits
      → IfOk r (AreShelved before after (record { topology = links; spec = spec; limits = limits })) → IfOk r (AreProved before after)
  proved_for r before after links spec limits over is within shelved =
      let asked : QuestionValue = record { topology = links; spec = spec; limits = limits } in
      let same : asked ≡ question_of w t Whole = rw (over, is, within) refl in
      IfOk-weaker r (AreShelved before after asked) (AreProved before after)
      (λ b has. whole_proves w t (without_cuts sets (searched_question (question_of w t Whole)) b.frontier) _ before after refl (subst (λ q. AreShelved before after q b) same has)) shelved
