use Rattle.std.proofs.Common.{◌≤◌, ◌<◌, ◌*◌, ℕ, length, ap, arith}
use Rattle.candidate_formula.proofs.Sizes.{few_counted, few_in_group}
use Rattle.candidate_formula.proofs.size.group_size.Goals as goal

-- a product of the first two factors is no greater than that of all three at the greatest third
few_links : (l c : ℕ) → l ≤ 256 → c < 65536 → l * c * 1 ≤ 134217728
few_links l c links chunks = few_counted l c 1 links chunks (omega arith)

pub overflow_mul-counted : goal.overflow_mul-counted
overflow_mul-counted c = grind (arith, few_links)

pub overflow_mul-counted-2 : goal.overflow_mul-counted-2
overflow_mul-counted-2 c = grind (arith, few_counted)

pub overflow_mul-result-2 : goal.overflow_mul-result-2
overflow_mul-result-2 c =
    let links : length c.links.result.now ≤ 256 = omega (arith, ap length c.links.ensures.links) in
    let counted = few_counted (length c.links.result.now) c.from.result c.from-2.result links (omega arith) (omega arith) in
    let narrow = c.width.ensures.limits.narrow in
    omega (arith, few_in_group (length c.links.result.now * c.from.result * c.from-2.result) c.from-3.result c.from-4.result counted (omega arith) (omega arith))
