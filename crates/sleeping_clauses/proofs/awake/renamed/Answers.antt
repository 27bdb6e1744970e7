use Rattle.std.proofs.{Common.{arith, ◌≡◌, ◌∷◌, ◌++◌, [], map, get_or, take, sym, ap, ◌∙◌, rules, w64, pos, of_z, to_z}, lemmas.{List.{take_more, map_push}, Int.to_z-of_z}}
use Rattle.sleeping_clauses.specs.Naming.{name}
use Rattle.sleeping_clauses.proofs.awake.renamed.Goals as goal

pub name_at-requires : goal.name_at-requires
name_at-requires c = grind (arith, c.args.hints.now, c.loop-hint.hint-index, c.requires c.loop-hint.hint-index (pos 0) c.loop-hint-test.true, to_z-of_z w64 (get_or c.args.hints.now c.loop-hint.hint-index (pos 0)) (search rules))

pub loop-hint-preserved : goal.loop-hint-preserved
loop-hint-preserved c =
    let hints = c.args.hints.now in
    let k = c.loop-hint.hint-index in
    let names = c.args.names.now in
    let same : to_z w64 (of_z w64 (get_or hints k (pos 0))) ≡ get_or hints k (pos 0) = to_z-of_z w64 (get_or hints k (pos 0)) (search rules) in
    let back : to_z w64 (of_z w64 c.name_at.result) ≡ c.name_at.result = to_z-of_z w64 c.name_at.result (search rules) in
    c.in_ok-push.ensures.items
    ∙ ap (λ x. c.loop-hint.named.items ++ x ∷ []) (back ∙ c.name_at.ensures ∙ ap (name names) same)
    ∙ ap (λ xs. xs ++ name names (get_or hints k (pos 0)) ∷ []) c.loop-hint.invariant
    ∙ sym (ap (map (name names)) (take_more hints k (pos 0) c.loop-hint-test.true) ∙ map_push (name names) (take k hints) (get_or hints k (pos 0)))
