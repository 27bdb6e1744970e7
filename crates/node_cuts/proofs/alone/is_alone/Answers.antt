use Rattle.std.{proofs.{Common.{◌&&◌, ◌||◌, ℕ, Bool, false, [], ◌∷◌, length, sym, ap, ◌∙◌, arith, ◌==◌, not}, lemmas.List.Folds.list_any-append}, specs.List.{list_any, range_with_len}}
use Rattle.list_laws.proofs.Ranges.{any_at}
use Rattle.schedule.specs.{Links.has_link, Judging.group_at}
use Rattle.node_cuts.proofs.Masks.{range_more}
use Rattle.node_cuts.proofs.alone.is_alone.Goals as goal

pub shares-requires-clause-links : goal.shares-requires-clause-links
shares-requires-clause-links c = grind arith

pub returns-then-shares : goal.returns-then-shares
returns-then-shares c =
    let t = c.args.topology.now in
    let p : ℕ → Bool = λ other. not (other == c.args.group) && list_any (has_link (group_at t c.args.group)) (group_at t other).links in
    ap not (sym (any_at p 0 (length t.groups) c.loop-other.other (omega arith) (omega (arith, c.loop-other-test.true, ap length c.groups.ensures.groups)) (sym c.shares.ensures ∙ c.if-shares.true)))

pub loop-other-preserved : goal.loop-other-preserved
loop-other-preserved c =
    let t = c.args.topology.now in
    let p : ℕ → Bool = λ other. not (other == c.args.group) && list_any (has_link (group_at t c.args.group)) (group_at t other).links in
    let other : ℕ = c.loop-other.other in
    ap (list_any p) (range_more 0 other other (omega arith)) ∙ list_any-append p (range_with_len 0 other) (other ∷ []) ∙ ap (λ b. b || (p other || false)) c.loop-other.invariant ∙ ap (λ b. b || false) (sym c.shares.ensures ∙ c.if-shares.false)
