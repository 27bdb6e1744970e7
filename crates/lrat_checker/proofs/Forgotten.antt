-- A table of what is held and of the first clauses, place by place.
use Rattle.std.proofs.Common.{◌≡◌, ℕ, ◌+◌, ◌<◌, ◌≤◌, Bool, false, List, [], ◌∷◌, ◌++◌, length, take, get_or, sym, ap, ◌∙◌, arith, if◌then◌else◌}
use Rattle.std.proofs.lemmas.List.{take_more, take_all, take-append-le, length-take-le, length_push, append-nil}
use Rattle.cnf_formula.specs.Literals.{LitValue}
use Rattle.lrat_checker.{specs.Stored.{TableValue, HasForgotten, held_of, last_of, Rises}, proofs.Placed.held_push}

-- a table has what is held before a place, and the first so many clauses
pub record IsPart (count first k : ℕ) (ids : List ℕ) (live : List Bool) (clauses : List (List LitValue)) (table : TableValue) : Type 0 where
  pub vars : table.vars ≡ count
  pub held : table.held ≡ held_of (take k ids) (take k live) (take k clauses)
  pub long : k ≤ first → length table.clauses ≡ k
  pub many : first ≤ k → first ≤ length table.clauses
  pub front : (n : ℕ) → n ≤ first → n ≤ k → take n table.clauses ≡ take n clauses
  pub below : (j : ℕ) → k ≤ j → j < length ids → table.last < get_or ids j 0
  pub last : table.last ≤ last_of ids

module _ (vars first k : ℕ) (ids : List ℕ) (live : List Bool) (clauses : List (List LitValue)) (table : TableValue) (rises : Rises ids) (l : length live ≡ length ids) (m : length clauses ≡ length ids) (w : k < length ids) (p : IsPart vars first k ids live clauses table) where
  abbrev pub number : ℕ
  number = get_or ids k 0

  abbrev pub clause : List LitValue
  clause = get_or clauses k []

  -- what is held before the next place
  more_held : (b : Bool) → get_or live k false ≡ b → held_of (take (k + 1) ids) (take (k + 1) live) (take (k + 1) clauses) ≡ table.held ++ (if b then (number, clause) ∷ [] else [])
  more_held b e =
      let a = take k ids in
      let c = take k live in
      let d = take k clauses in
      let wl : k < length live = omega (arith, w, l) in
      let wm : k < length clauses = omega (arith, w, m) in
      let n = length-take-le k ids (omega (arith, w)) in
      let n' = length-take-le k live (omega (arith, wl)) in
      let n'' = length-take-le k clauses (omega (arith, wm)) in
      ap (λ xs. held_of xs (take (k + 1) live) (take (k + 1) clauses)) (take_more ids k 0 w)
      ∙ ap (λ bs. held_of (a ++ number ∷ []) bs (take (k + 1) clauses)) (take_more live k false wl ∙ ap (λ x. c ++ x ∷ []) e)
      ∙ ap (λ cs. held_of (a ++ number ∷ []) (c ++ b ∷ []) cs) (take_more clauses k [] wm)
      ∙ held_push a c d number clause b (n' ∙ sym n) (n'' ∙ sym n)
      ∙ ap (λ h. h ++ (if b then (number, clause) ∷ [] else [])) (sym p.held)

  -- how many clauses there are, at least
  room : (n : ℕ) → n ≤ first → n ≤ k → n ≤ length table.clauses
  room n a b = grind (arith, p.long, p.many)

  pub part_push : (b : Bool) → get_or live k false ≡ b → IsPart vars first (k + 1) ids live clauses (record { vars = table.vars; clauses = table.clauses ++ clause ∷ []; held = table.held ++ (if b then (number, clause) ∷ [] else []); last = number })
  part_push b e =
      grind (arith, more_held b e, take-append-le, length_push table.clauses clause, take_all (k + 1) (table.clauses ++ clause ∷ []), take_all k table.clauses, take_more clauses k [])

  pub part_skip : get_or live k false ≡ false → first ≤ k → IsPart vars first (k + 1) ids live clauses table
  part_skip e u = grind (arith, more_held false e, append-nil table.held)

pub part_all : (vars first k : ℕ) (ids : List ℕ) (live : List Bool) (clauses : List (List LitValue)) (table : TableValue) → length live ≡ length ids → length clauses ≡ length ids → first ≤ length clauses → length ids ≤ k → IsPart vars first k ids live clauses table
    → HasForgotten first (record { vars = vars; clauses = clauses; held = held_of ids live clauses; last = last_of ids }) table
part_all vars first k ids live clauses table l m w u p = grind (arith, take_all k ids u, take_all k live, take_all k clauses)
