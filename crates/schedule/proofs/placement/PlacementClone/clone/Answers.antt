use Rattle.std.proofs.{Common.{◌≡◌, ap, ◌∙◌}, lemmas.List.Elements.same_from_all_zip}
use Rattle.schedule.{specs.Cells.marked, proofs.Marked.placement_marked}
use Rattle.schedule.proofs.placement.PlacementClone.clone.Goals as goal

pub returns : goal.returns
returns c =
    let p = c.self.inside in
    let same : c.in_ok-cells.cells.items ≡ p.cells.items = same_from_all_zip _ _ _ c.in_ok-cells.ensures.cases.0 (λ x y e. e) in
    record { cases = (ap (marked p.chunks p.nodes) same ∙ c.self.view_is, placement_marked _ p.chunks p.nodes p.cells.items c.self.view_is) }
