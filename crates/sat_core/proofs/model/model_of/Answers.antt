use Rattle.std.proofs.{Common.{◌≡◌, ◌∷◌, ◌++◌, [], Bool, false, List, arith}, lemmas.List.{length_push, get_or_append_left, get_or_push}}
use Rattle.sat_core.proofs.model.model_of.Goals as goal

pub loop-index-preserved : goal.loop-index-preserved
loop-index-preserved c =
    let old : List Bool = c.loop-index.values.items in
    let b : Bool = c.value_at.result in
    let new : c.push.new.self.items ≡ old ++ b ∷ [] = c.in_ok-push.ensures.items in
    record {
      len = grind (arith, new, length_push);
      stands = λ v w s e. grind (arith, new, get_or_append_left old (b ∷ []) false v, get_or_push old b false v);
      lacks = λ v w s e c'. grind (arith, new, get_or_append_left old (b ∷ []) false v, get_or_push old b false v);
    }
