use Rattle.std.proofs.{Common.{◌≡◌, ◌/◌, ◌<◌, ℕ, Bool, true, false, List, Some, below_more, get_or, length, sym, ap, ◌∙◌, arith}, lemmas.List.get_or_default}
use Rattle.node_cuts.{specs.{declared.measure.Measure.Measure, Tables.{TableValue, cut_at, no_measure}}, proofs.Tabled.{first_in, is_over, none_in}}
use Rattle.node_cuts.proofs.table.CutTable.first_cut.Goals as goal

-- what is told of a measure that was read is told of the one at its place
read_over : (v w : List Measure) (place times r : ℕ) (measure : Measure) (told : Bool) → v ≡ w → place < length v → measure ≡ get_or v place measure → told ≡ is_over times r measure → is_over times r (get_or w place no_measure) ≡ told
read_over v w place times r measure told same inside read is =
    ap (λ ms. is_over times r (get_or ms place no_measure)) (sym same) ∙ ap (is_over times r) (get_or_default v place no_measure measure inside ∙ sym read) ∙ sym is

pub loop-place-preserved : goal.loop-place-preserved
loop-place-preserved c =
    let times : ℕ = c.args.c / c.self.inside.least in
    below_more (λ k. is_over times c.args.r (get_or c.args.self.now.measures k no_measure) ≡ false) c.loop-place.place c.loop-place.invariant
    (read_over c.self.inside.measures.items c.args.self.now.measures c.loop-place.place times c.args.r c.index.result.now c.refutes.result (ap (λ (v : TableValue). v.measures) c.self.view_is) (omega (arith, c.loop-place-test.true, c.len-place-end.ensures, c.self.inside.measures.ok)) c.index.ensures c.refutes.ensures
    ∙ c.if-refutes.false)

pub returns-then-refutes : goal.returns-then-refutes
returns-then-refutes c sets t spec is some allowed =
    let v : TableValue = c.args.self.now in
    let times : ℕ = c.args.c / c.self.inside.least in
    let place : ℕ = c.loop-place.place in
    let same : times ≡ c.args.c / v.least = ap (λ (w : TableValue). c.args.c / w.least) c.self.view_is in
    let long : length c.self.inside.measures.items ≡ length v.measures = ap (λ (w : TableValue). length w.measures) c.self.view_is in
    let inside : place < length c.self.inside.measures.items = omega (arith, c.loop-place-test.true, c.len-place-end.ensures, c.self.inside.measures.ok) in
    let passes : is_over times c.args.r (get_or v.measures place no_measure) ≡ true =
    read_over c.self.inside.measures.items v.measures place times c.args.r c.index.result.now c.refutes.result (ap (λ (w : TableValue). w.measures) c.self.view_is) inside c.index.ensures c.refutes.ensures ∙ c.if-refutes.true in
    ap Some (c.in_ok-cut_at.ensures ∙ ap (cut_at v place) same)
    ∙ first_in sets t spec c.args.c c.args.r some allowed v is place (omega (arith, inside, long))
    (λ k below. ap (λ n. is_over n c.args.r (get_or v.measures k no_measure)) (sym same) ∙ c.loop-place.invariant k below)
    (ap (λ n. is_over n c.args.r (get_or v.measures place no_measure)) (sym same) ∙ passes)

pub returns : goal.returns
returns c sets t spec is some allowed =
    let v : TableValue = c.args.self.now in
    let times : ℕ = c.args.c / c.self.inside.least in
    let same : times ≡ c.args.c / v.least = ap (λ (w : TableValue). c.args.c / w.least) c.self.view_is in
    let long : length c.self.inside.measures.items ≡ length v.measures = ap (λ (w : TableValue). length w.measures) c.self.view_is in
    none_in sets t spec c.args.c c.args.r some allowed v is
    (λ k below. ap (λ n. is_over n c.args.r (get_or v.measures k no_measure)) (sym same) ∙ c.loop-place.invariant k (omega (arith, below, long, c.loop-place-test.false, c.len-place-end.ensures, c.self.inside.measures.ok)))
