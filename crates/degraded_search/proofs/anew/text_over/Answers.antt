use Rattle.std.proofs.{Common.{◌≡◌, refl, ap, subst, sym, ◌∙◌, All}, lemmas.Result.IfOk-weaker}
use Rattle.outer_ports.specs.declared.part.Part.TheVariants.{Whole}
use Rattle.schedule.specs.Links.{TopologyValue}
use Rattle.collective_spec.specs.declared.spec.Spec.{Spec}
use Rattle.topology_text.specs.Value.{NamedTopologyValue}
use Rattle.candidate_order.specs.{Ranges.LimitsValue, Frontiers.QuestionValue}
use Rattle.report_form.specs.Reports.{WordsValue, ReportValue, question_of}
use Rattle.frontier_audit.proofs.Asking.{made_of}
use Rattle.link_faults.specs.Carrying.{IsOldRefuted, narrowed_question}
use Rattle.run_rules.specs.{declared.status.Status.TheVariants.Done, Degraded.{IsNewSearch, degraded_text, old_refuted}}
use Rattle.degraded_search.{specs.inner.After.IsFoundAfter, proofs.OldRight.old_right}
use Rattle.degraded_search.proofs.anew.text_over.Goals as goal

-- what is asked for, as the code has it: by the parts of the report
asked_is : (r : ReportValue) (words : WordsValue) (named : NamedTopologyValue) (t : TopologyValue) (s : Spec) (l : LimitsValue) → words ≡ r.words → named ≡ r.topology → t ≡ named.topology → s ≡ (question_of words named Whole).spec → l ≡ words.limits
    → record { topology = t; spec = s; limits = l } ≡ question_of r.words r.topology Whole
asked_is r words named t s l said on links spec limits =
    made_of t s l (question_of r.words r.topology Whole) (links ∙ ap (λ (x : NamedTopologyValue). x.topology) on)
    (spec ∙ ap (λ (w : WordsValue). (question_of w named Whole).spec) said ∙ ap (λ (x : NamedTopologyValue). (question_of r.words x Whole).spec) on) (limits ∙ ap (λ (w : WordsValue). w.limits) said)

pub search_left-requires-clause-old : goal.search_left-requires-clause-old
search_left-requires-clause-old c =
    let r = c.args.report.now in
    let made = asked_is r _ _ _ c.in_ok-spec.spec c.limits-limits.result c.words-words.ensures.words c.topology-topology.ensures.topology c.topology-given.ensures.topology c.in_ok-spec.ensures c.limits-limits.ensures in
    subst (λ (q : QuestionValue). All (IsOldRefuted q) c.in_ok-old.old.items) (sym made) (subst (All (IsOldRefuted (question_of r.words r.topology Whole))) (sym c.in_ok-old.ensures) (old_right r c.requires.right c.requires.fault.single))

pub returns : goal.returns
returns c =
    let r = c.args.report.now in
    let group = c.args.fault.group in
    let width = c.args.fault.width in
    let old = old_refuted r in
    let f = c.in_ok-found.found.frontier in
    let made = asked_is r _ _ _ c.in_ok-spec.spec c.limits-limits.result c.words-words.ensures.words c.topology-topology.ensures.topology c.topology-given.ensures.topology c.in_ok-spec.ensures c.limits-limits.ensures in
    let asked : QuestionValue = record { topology = c.topology-given.result.now; spec = c.in_ok-spec.spec; limits = c.limits-limits.result } in
    let after = subst (λ (q : QuestionValue). IsFoundAfter (narrowed_question q group width) old c.in_ok-found.found) made (subst (λ xs. IsFoundAfter (narrowed_question asked group width) xs c.in_ok-found.found) c.in_ok-old.ensures c.in_ok-found.ensures) in
    IfOk-weaker c.print_found.result _ (λ text. IsNewSearch r group width Done text.items)
    (λ text says. let printed = says old after.parted ∙ ap (λ w. degraded_text w c.args.left.now old f) c.words-words.ensures.words ∙ ap (λ t. degraded_text r.words t old f) c.requires.left in
    record { frontier = f; found = after.found; points = after.points; unknown = after.unknown; uncut = after.uncut; says = record { status = refl; text = printed } }) c.print_found.ensures
