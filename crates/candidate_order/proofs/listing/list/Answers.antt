use Rattle.std.proofs.{Common.rules, lemmas.List.Sorted.answers_always}
use Rattle.candidate_order.proofs.Ranks.{comes, comes_is_order, members-made, Before-made}
use Rattle.candidate_order.proofs.listing.list.Goals as goal

pub returns-clause-members : goal.returns-clause-members
returns-clause-members c =
    members-made c.args.step c.args.limits.now.k c.args.allowed.now _ (rw (c.in_ok-candidates.ensures, c.k.ensures.k) at c.sort_unstable_by.ensures.permutation)

pub returns-clause-order : goal.returns-clause-order
returns-clause-order c =
    let sorted = c.sort_unstable_by.ensures.sorted comes comes_is_order (answers_always _ _ _ (λ f a r q k. search rules)) in
    Before-made c.args.step c.args.limits.now.k c.args.limits.now.max_c c.args.allowed.now _ c.requires.ascending c.requires.counts (rw (c.in_ok-candidates.ensures, c.k.ensures.k) at c.sort_unstable_by.ensures.permutation) sorted
