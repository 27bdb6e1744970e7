use Rattle.std.proofs.{Common.{◌≡◌, true, false, [], ◌∷◌, get_or, sym, ◌∙◌, subst, below_more}, lemmas.Bool.false≢true}
use Rattle.trail_core.specs.Meaning.{trues, IsClosed}
use Rattle.sat_core.proofs.waking.due.Goals as goal
use Rattle.sat_core.proofs.waking.due.Goals.{else-is_asleep-via-then-is_asleep+else-not-rests, else-is_asleep-via-else-is_asleep}

pub loop-place-preserved : goal.loop-place-preserved
loop-place-preserved c =
    let place = c.loop-place.place in
    let s = c.args.sleepers.now in
    below_more (λ k. get_or s.asleep k false ≡ true → IsClosed (trues c.args.core.now) (get_or s.clauses k [] ∷ [])) place c.loop-place.invariant (λ a.
    elim c.else-is_asleep.branch [
      | else-is_asleep-via-then-is_asleep+else-not-rests b ↦ subst (λ x. IsClosed (trues c.args.core.now) (x ∷ [])) b.clause.ensures.value (b.rests.ensures b.if-not-rests.false)
      | else-is_asleep-via-else-is_asleep b ↦ absurd (false≢true (sym b.if-is_asleep.false ∙ c.is_asleep.ensures ∙ a))
    ])
