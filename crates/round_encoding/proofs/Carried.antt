-- A group's counter, in the order in which it is made.
use Rattle.std.proofs.{Common.{◌≡◌, ℕ, ◌+◌, ◌*◌, ◌<◌, ◌≤◌, List, map, length, ap, ◌∙◌, arith, All}, lemmas.List.length-map}
use Rattle.schedule.specs.{Links.{GroupValue, IsGroup}, Sends.IsStep}
use Rattle.cnf_formula.specs.{Literals.LitValue, Formulas.{FormulaValue, IsClause, with_clauses}}
use Rattle.cardinality.{specs.{Counting.{CounterValue, with_counter}, Totalizers.totalizer_of}, proofs.Wider.clause_more}
use Rattle.round_encoding.{specs.{Frames.{Frame, own_variables}, Rounding.{count_of_group, output_at, with_count}, inner.Counts.said_of_group}, proofs.Counted.group_counted}
use Rattle.send_encoding.{specs.Variables.{sent, link_number}, proofs.Grid.rows_length}

module _ (f : Frame) (s : ℕ) (group : GroupValue) where
  abbrev inputs : List LitValue
  inputs = (count_of_group f s group).inputs

  pub inputs_length : length inputs ≡ f.map.chunks * length group.links
  inputs_length = rows_length (λ c. map (λ link. sent f.map c (link_number f.map link) s) group.links) (length group.links) 0 f.map.chunks (λ c. length-map group.links (λ link. sent f.map c (link_number f.map link) s))

  -- the variables that the counter may take
  pub same_room : (before bound : ℕ) (ys : List LitValue) → ys ≡ inputs → bound ≡ group.width * (1 + f.extra) → before + length ys * (bound + 1) ≡ before + f.map.chunks * length group.links * (group.width * (1 + f.extra) + 1)
  same_room before bound ys same is = grind (arith, inputs_length)

  pub inputs_about : (v : ℕ) → own_variables f ≤ v → IsStep f.map.steps s → 0 < f.map.chunks → IsGroup group → All (λ link. link_number f.map link < length f.map.links) group.links → IsClause v inputs
  inputs_about v le step chunks ok places =
      clause_more (own_variables f) v inputs le (group_counted f s group (omega (arith, step.from), omega (arith, step.to)) chunks ok.some places).about

  pub counts_grow : (f0 f1 f2 : FormulaValue) (ys outs : List LitValue) (width bound : ℕ) → ys ≡ inputs → width ≡ group.width → bound ≡ width * (1 + f.extra) → f1 ≡ with_counter f0 (totalizer_of f0.vars ys bound) → outs ≡ (totalizer_of f0.vars ys bound).outputs
      → f2 ≡ with_clauses f1 (said_of_group f s width (output_at outs)) → f2 ≡ with_count f0 (count_of_group f s group)
  counts_grow f0 f1 f2 ys outs width bound ey ew eb e1 eo e2 =
      let counter : List LitValue → ℕ → CounterValue = λ x b. totalizer_of f0.vars x b in
      let at : CounterValue → ℕ → FormulaValue = λ k w. with_clauses (with_counter f0 k) (said_of_group f s w (output_at k.outputs)) in
      e2 ∙ ap (λ x. with_clauses x (said_of_group f s width (output_at outs))) e1
      ∙ ap (λ o. with_clauses (with_counter f0 (counter ys bound)) (said_of_group f s width (output_at o))) eo
      ∙ ap (λ y. at (counter y bound) width) ey ∙ ap (λ b. at (counter inputs b) width) eb ∙ ap (λ w. at (counter inputs (w * (1 + f.extra))) w) ew
