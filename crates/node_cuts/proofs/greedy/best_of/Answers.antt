use Rattle.std.{proofs.Common.{◌≡◌, ◌+◌, ◌<◌, ℕ, suc, List, ◌∷◌, drop, drop-cons, get_or, length, sym, ap, ◌∙◌, ⊎_elim, subst, arith, Option, Some}, specs.Option.unwrap_or}
use Rattle.node_cuts.specs.{declared.greedy.Choice.Choice, Cuts.{best_of, better}}
use Rattle.node_cuts.proofs.greedy.best_of.Goals as goal

pub loop-number-preserved : goal.loop-number-preserved
loop-number-preserved c =
    let t = c.args.topology.now in
    let numbers : List ℕ = c.args.numbers.now in
    let i : ℕ = c.loop-number.number-index in
    let n : ℕ = get_or numbers i 0 in
    let inside : i < length numbers = c.loop-number-test.true in
    let one : suc i ≡ i + 1 = omega arith in
    let split : drop i numbers ≡ n ∷ drop (i + 1) numbers =
    drop-cons numbers i 0 inside ∙ ap (λ k. n ∷ drop k numbers) one in
    record {
      best = λ u taken marks.
          let prior = c.loop-number.invariant.best u taken marks in
          let first : Option ℕ = prior.0 in (
            better u t taken first n,
            c.better-best.ensures.better u t taken first n prior.1 (c.choice_of.ensures.choice u taken marks),
            ap (best_of u t taken first) (sym split) ∙ prior.2,
          );
      within = λ choice is.
          ⊎_elim
          (λ (same : c.better-best.result ≡ c.loop-number.best). c.loop-number.invariant.within choice (sym same ∙ is))
          (λ (next : c.better-best.result ≡ Some c.choice_of.result).
          let one : c.choice_of.result ≡ choice = ap (λ (o : Option Choice). unwrap_or o c.choice_of.result) (sym next ∙ is) in
          subst (λ (k : Choice). k.group < length t.groups) one (subst (λ g. g < length t.groups) (sym c.choice_of.ensures.group) (c.requires i 0 inside)))
          c.better-best.ensures.either;
    }
