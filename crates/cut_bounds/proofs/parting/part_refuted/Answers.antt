use Rattle.std.proofs.{Common.{ℕ, List, ◌++◌, get_or, sym, ap, ◌∙◌, All}, lemmas.List.{at_drop_more, Elements.{All-contains, Contains-get_or}}}
use Rattle.candidate_order.specs.{declared.candidate.Candidate.Candidate, Frontiers.IsWithin}
use Rattle.cut_bounds.{specs.Parting.{cuts_among, uncut_among}, proofs.Parted.{cuts_on, others_on}}
use Rattle.cut_bounds.proofs.parting.part_refuted.Goals as goal

pub first_cut-requires : goal.first_cut-requires
first_cut-requires g c =
    let q = g.E.EngineView.question c.args.engine.now.inner in
    let xs : List Candidate = c.refuted-candidate-items.result.now in
    let i : ℕ = c.loop-candidate.candidate-index in
    let d : Candidate = record { s = 0; r = 0; c = 0 } in
    let within : All (IsWithin q) xs = rw c.refuted-candidate-items.ensures c.cuts_are_refuted.ensures.within in
    All-contains (IsWithin q) xs (get_or xs i d) within (Contains-get_or xs i d c.loop-candidate-test.true)

pub loop-candidate-preserved : goal.loop-candidate-preserved
loop-candidate-preserved g c =
    let sets = c.args.engine.now.sets in
    let q = g.E.EngineView.question c.args.engine.now.inner in
    let xs : List Candidate = c.refuted-candidate-items.result.now in
    let i : ℕ = c.loop-candidate.candidate-index in
    let d : Candidate = record { s = 0; r = 0; c = 0 } in
    let before = c.loop-candidate.parts in
    let now = c.add.new.self in
    let below = c.loop-candidate-test.true in
    record {
      cuts = cuts_on sets q (get_or xs i d) _ c.in_ok-cut.cut before.cuts.items now.cuts.items c.in_ok-cut.ensures c.in_ok-add.ensures.cuts
          ∙ ap (λ cs. before.cuts.items ++ cs) (sym (at_drop_more (cuts_among sets q) xs i d below)) ∙ c.loop-candidate.invariant.cuts;
      others = others_on sets q (get_or xs i d) _ c.in_ok-cut.cut before.others.items now.others.items c.in_ok-cut.ensures c.in_ok-add.ensures.others
          ∙ ap (λ ys. before.others.items ++ ys) (sym (at_drop_more (uncut_among sets q) xs i d below)) ∙ c.loop-candidate.invariant.others;
    }
