use Rattle.std.proofs.Common.{◌≡◌, ◌++◌, drop}
use Rattle.cut_bounds.specs.Parting.{cuts_among, uncut_among}
use Rattle.cut_bounds.proofs.parting.part_refuted.Given as goal

-- the parts so far and those of what is left are those of all
abbrev pub invariant-loop-candidate : goal.invariant-loop-candidate
invariant-loop-candidate g l =
    let q = g.E.EngineView.question l.engine.inner in
    let left = drop l.candidate-index l.candidate-items in
    record {
      cuts : l.parts.cuts.items ++ cuts_among l.engine.sets q left ≡ cuts_among l.engine.sets q l.candidate-items;
      others : l.parts.others.items ++ uncut_among l.engine.sets q left ≡ uncut_among l.engine.sets q l.candidate-items;
    }
