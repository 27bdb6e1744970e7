use Rattle.std.proofs.Common.{◌≡◌, ◌*◌, sym, ap, ◌∙◌, nat_lt}
use Rattle.node_cuts.{specs.{Floors.floor_of, Tables.TableValue}, proofs.Deciding.{floor_decides, is_above}}
use Rattle.node_cuts.proofs.table.CutTable.refutes.Goals as goal

pub returns : goal.returns
returns c sets t spec is some allowed =
    let floor : c.self.inside.floor ≡ floor_of sets t spec = ap (λ (v : TableValue). v.floor) (c.self.view_is ∙ is) in
    (λ i. nat_lt (c.from-3.ensures i * c.from-4.ensures i) (c.from.ensures i * c.from-2.ensures i)) ∙ ap (is_above c.args.c c.args.r) floor ∙ sym (floor_decides sets t spec c.args.c c.args.r some allowed)
