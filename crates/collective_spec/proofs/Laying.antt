-- A placement by its cells, numbered by chunk and then by node.
use Rattle.std.{proofs.{Common.{◌≡◌, ℕ, ◌+◌, ◌*◌, ◌/◌, ◌%◌, Bool, false, List, map, sym, ap, ◌∙◌, arith}, lemmas.{Nat.{div-mul-add, mod-mul-add, mul-add-lt}, List.FromFn.get_or-map-range_with_len}}, specs.List.range_with_len}
use Rattle.schedule.{specs.{Placed.{placed, empty_placement}, Cells.marked}, proofs.Placing.{placed-alike, placed-none}}

-- what a test says of each place
abbrev pub tested : (ℕ × ℕ → Bool) → ℕ → ℕ → List Bool
tested test nodes count = map (λ place. test (place / nodes, place % nodes)) (range_with_len 0 count)

pub placed_by_cells : (test : ℕ × ℕ → Bool) (chunks nodes : ℕ) (cells : List Bool) → cells ≡ tested test nodes (chunks * nodes) → marked chunks nodes cells ≡ placed chunks nodes test
placed_by_cells test chunks nodes cells is = ap (marked chunks nodes) is ∙ placed-alike chunks nodes _ test (λ (a, b) c n.
    get_or-map-range_with_len (λ place. test (place / nodes, place % nodes)) 0 (chunks * nodes) (a * nodes + b) (a * nodes + b) false (omega (arith, mul-add-lt a nodes b chunks c n)) (omega arith)
    ∙ ap (λ chunk. test (chunk, (a * nodes + b) % nodes)) (div-mul-add a nodes b n) ∙ ap (λ node. test (a, node)) (mod-mul-add a nodes b n))

-- at no node nothing stands
pub placed_nowhere : (test : ℕ × ℕ → Bool) (chunks nodes : ℕ) → nodes ≡ 0 → empty_placement chunks nodes ≡ placed chunks nodes test
placed_nowhere test chunks nodes none = sym (placed-none chunks nodes test (λ pair c n. absurd (omega (arith, none, n))))
