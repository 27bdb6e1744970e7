use Rattle.std.proofs.{Common.{◌<◌, sym, ap, ◌∙◌, subst}, lemmas.Option.none-some}
use Rattle.schedule.specs.Links.{TopologyValue}
use Rattle.collective_spec.specs.declared.spec.Spec.{Spec}
use Rattle.candidate_order.specs.{Copied.copied_spec, Frontiers.QuestionValue}
use Rattle.node_cuts.specs.Tables.{IsTableOf}
use Rattle.cut_bounds.{specs.Cutting.uncut_entries, proofs.{Noting.nothing_holds, Turned.table_same}}
use Rattle.cut_bounds.proofs.engine.CutEngine.new.Goals as goal

pub invariant_of-result : goal.invariant_of-result
invariant_of-result g c =
    let view = g.E.EngineView in
    let q : QuestionValue = view.question c.args.inner in
    let t = c.args.topology.now in
    let s = c.args.spec.now in
    let table = c.in_ok-table.table in
    let entries = c.new-2.result.entries in
    let none = c.new-2.ensures.entries in
    record {
      tabled =
          subst (λ (v : Spec). IsTableOf c.args.sets q.topology v table) (sym c.requires.copied)
          (subst (λ (v : TopologyValue). IsTableOf c.args.sets v (copied_spec s) table) (sym c.requires.topology)
          (table_same c.args.sets t s table c.in_ok-table.ensures.table));
      some = subst (λ (v : TopologyValue). 0 < v.nodes) (sym c.requires.topology) c.in_ok-table.ensures.limits.some;
      within = λ x kind at. nothing_holds entries (x, kind) none at;
      kept = c.requires.empty ∙ ap (uncut_entries c.args.sets q) (sym none);
      stops = λ x at. absurd (none-some x (sym c.requires.running ∙ at));
      uncut = λ x at. absurd (none-some x (sym c.requires.running ∙ at));
      refutes = λ x kind at cut. nothing_holds entries (x, kind) none at;
    }
