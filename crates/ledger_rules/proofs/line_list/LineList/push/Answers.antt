use Rattle.std.proofs.{Common.{◌≡◌, ℕ, List, [], ◌∷◌, ◌++◌, map, pos, length, ap, ◌∙◌, arith}, lemmas.List.length-append}
use Rattle.cnf_formula.specs.{Literals.LitValue, Lines.ProofLineValue}
use Rattle.ledger_rules.{specs.{declared.line_list.LineRow.LineRow, inner.Stored.line_in}, proofs.Storing.{IsNext, lines_push}}
use Rattle.ledger_rules.proofs.line_list.LineList.push.Goals as goal

pub returns-clause-added : goal.returns-clause-added
returns-clause-added c =
    let i = c.self.inside in
    let line = c.args.line.now in
    let ns : List ℕ = c.in_ok-hints.hints.items in
    let row : LineRow = record { id = c.in-Ok.id; lits_start = c.len-lits_start.result; lits_end = c.len-3.result; hints_start = c.len-hints_start.result; hints_end = c.len-4.result } in
    let same_id : c.in-Ok.id ≡ line.id = c.in-Ok.ensures.1 ∙ ap (λ l. l.id) c.line.view_is in
    let lits : c.extend_from_slice-2.new.self.items ≡ i.lits.items ++ line.lits = c.in_ok-extend_from_slice-2.ensures.items ∙ ap (λ ls. ls ++ c.deref-3.result.now) c.in_ok-reserve-2.ensures.items ∙ ap (λ xs. i.lits.items ++ xs) (c.deref-3.ensures.value ∙ ap (λ l. l.lits) c.line.view_is) in
    let hints : c.extend_from_slice.new.self.items ≡ i.hints.items ++ ns = c.in_ok-extend_from_slice.ensures.items ∙ ap (λ xs. i.hints.items ++ xs) c.deref-2.ensures.value in
    let rows : c.push_reserved.new.self.items ≡ i.rows.items ++ row ∷ [] = c.push_reserved.ensures.items ∙ ap (λ rs. rs ++ row ∷ []) c.in_ok-reserve.ensures.items in
    let given : map pos ns ≡ line.hints = c.in_ok-hints.ensures ∙ c.deref.ensures.value ∙ ap (λ l. l.hints) c.line.view_is in
    let next : IsNext i.lits.items line.lits i.hints.items ns row = record {
      lits_start = omega (arith, c.len-lits_start.ensures);
      lits_end = omega (arith, c.len-3.ensures, ap length lits, length-append i.lits.items line.lits);
      hints_start = omega (arith, c.len-hints_start.ensures);
      hints_end = omega (arith, c.len-4.ensures, ap length hints, length-append i.hints.items ns);
    } in
    let make : ℕ → List LitValue → _ → ProofLineValue = λ id ls hs. record { id = id; lits = ls; hints = hs } in
    ap (λ ls. map (line_in ls c.extend_from_slice.new.self.items) c.push_reserved.new.self.items) lits
    ∙ ap (λ hs. map (line_in (i.lits.items ++ line.lits) hs) c.push_reserved.new.self.items) hints
    ∙ ap (map (line_in (i.lits.items ++ line.lits) (i.hints.items ++ ns))) rows
    ∙ lines_push i.lits.items line.lits i.hints.items ns i.rows.items row c.self.invariant.inside next
    ∙ ap (λ lines. lines ++ make row.id line.lits (map pos ns) ∷ []) c.self.view_is
    ∙ ap (λ id. c.args.self.now ++ make id line.lits (map pos ns) ∷ []) same_id
    ∙ ap (λ hs. c.args.self.now ++ make line.id line.lits hs ∷ []) given
