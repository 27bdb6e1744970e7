use Rattle.std.proofs.{Common.{◌≡◌, [], ◌∷◌, ◌++◌, length, map, sym, ap, ◌∙◌, subst, arith, Contains}, lemmas.List.{length_push, map_push}}
use Rattle.sleeping_clauses.{specs.Sleeping.list_at, proofs.Found.longer}
use Rattle.sleeping_clauses.proofs.sleepers.reach.Goals as goal

pub loop-alloc-preserved : goal.loop-alloc-preserved
loop-alloc-preserved c =
    let i = c.loop-alloc.invariant in
    let items = c.loop-alloc.leads.items in
    let new = c.new.result in
    let ls = map (λ v. v.items) items in
    let more = c.push_reserved.ensures.items in
    let eq : map (λ v. v.items) c.push_reserved.new.self.items ≡ ls ++ [] ∷ [] = ap (map (λ v. v.items)) more ∙ map_push (λ v. v.items) items new ∙ ap (λ xs. ls ++ xs ∷ []) c.new.ensures.items in
    record {
      room = omega (arith, i.room, c.push_reserved.ensures.capacity);
      long = omega (arith, i.long, ap length more, length_push items new);
      kept = λ other x h. subst (λ m. Contains (list_at m other) x) (sym eq) (longer ls [] other x (i.kept other x h));
    }
