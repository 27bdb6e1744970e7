-- Lines that lie one after another in two lists, as these grow.
use Rattle.std.proofs.Common.{◌≡◌, ℕ, ◌+◌, ◌-◌, List, [], ◌∷◌, ◌++◌, map, length, take, drop, refl, sym, ap, ◌∙◌, arith, pos, All, slice_range}
use Rattle.std.proofs.lemmas.List.{drop_all, take_all, map_push, Elements.{All-head, All-tail}}
use Rattle.cnf_formula.{specs.{Literals.LitValue, Lines.ProofLineValue}, proofs.Lying.{range_longer, range_new}}
use Rattle.ledger_rules.specs.{Logs.learned, declared.line_list.LineRow.LineRow, inner.Stored.{line_in, Lies}}

module _ (lits xs : List LitValue) (hints ns : List ℕ) where
  -- a line that lies there is the same in longer lists
  line_longer : (row : LineRow) → Lies lits hints row → line_in (lits ++ xs) (hints ++ ns) row ≡ line_in lits hints row
  line_longer row lies =
      let make : List LitValue → List ℕ → ProofLineValue = λ ls hs. record { id = row.id; lits = ls; hints = map pos hs } in
      ap (λ ls. make ls (slice_range (hints ++ ns) row.hints_start row.hints_end)) (range_longer lits xs row.lits_start row.lits_end lies.lits_run lies.lits_in)
      ∙ ap (make (slice_range lits row.lits_start row.lits_end)) (range_longer hints ns row.hints_start row.hints_end lies.hints_run lies.hints_in)

  pub lines_longer : (rows : List LineRow) → All (Lies lits hints) rows → map (line_in (lits ++ xs) (hints ++ ns)) rows ≡ map (line_in lits hints) rows
  lines_longer [] a = refl
  lines_longer (row ∷ rows) a =
      ap (λ line. line ∷ map (line_in (lits ++ xs) (hints ++ ns)) rows) (line_longer row (All-head (Lies lits hints) row rows a))
      ∙ ap (λ lines. line_in lits hints row ∷ lines) (lines_longer rows (All-tail (Lies lits hints) row rows a))

  -- the parts of a row lie behind the others
  pub record IsNext (row : LineRow) : Type 0 where
    pub lits_start : row.lits_start ≡ length lits
    pub lits_end : row.lits_end ≡ length lits + length xs
    pub hints_start : row.hints_start ≡ length hints
    pub hints_end : row.hints_end ≡ length hints + length ns

  next_line : (row : LineRow) → IsNext row → line_in (lits ++ xs) (hints ++ ns) row ≡ record { id = row.id; lits = xs; hints = map pos ns }
  next_line row next =
      let make : List LitValue → List ℕ → ProofLineValue = λ ls hs. record { id = row.id; lits = ls; hints = map pos hs } in
      ap (λ ls. make ls (slice_range (hints ++ ns) row.hints_start row.hints_end)) (range_new lits xs row.lits_start row.lits_end next.lits_start next.lits_end)
      ∙ ap (make xs) (range_new hints ns row.hints_start row.hints_end next.hints_start next.hints_end)

  -- the lines with one more
  pub lines_push : (rows : List LineRow) (row : LineRow) → All (Lies lits hints) rows → IsNext row → map (line_in (lits ++ xs) (hints ++ ns)) (rows ++ row ∷ []) ≡ map (line_in lits hints) rows ++ record { id = row.id; lits = xs; hints = map pos ns } ∷ []
  lines_push rows row a next =
      map_push (line_in (lits ++ xs) (hints ++ ns)) rows row
      ∙ ap (λ lines. lines ++ line_in (lits ++ xs) (hints ++ ns) row ∷ []) (lines_longer rows a)
      ∙ ap (λ line. map (line_in lits hints) rows ++ line ∷ []) (next_line row next)

range_none : (start end : ℕ) → slice_range {X = LitValue} [] start end ≡ []
range_none start end = ap (take (end - start)) (drop_all {X = LitValue} start [] (omega arith)) ∙ take_all (end - start) [] (omega arith)

-- where no line has a literal none was learned
pub none_learned : (hints : List ℕ) (rows : List LineRow) → learned (map (line_in [] hints) rows) ≡ []
none_learned hints [] = refl
none_learned hints (row ∷ rows) = rw (range_none row.lits_start row.lits_end) (none_learned hints rows)
