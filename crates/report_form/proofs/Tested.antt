-- Each test of limits and of candidates is true exactly where what it tests holds.
use Rattle.std.proofs.{Common.{arith, ℕ, ◌+◌, ◌*◌, ◌≤◌, ◌&&◌, Bool, nat_le, nat_lt, Decides}, lemmas.Bool.{leb-true, le-leb, Decides.{Decides-and, Decides-or, Decides-eqb, Decides-ltb, Decides-like}}}
use Rattle.collective_spec.specs.{Kinds.allows, Collectives.kind_in}
use Rattle.candidate_order.specs.{declared.candidate.Candidate.Candidate, Ranges.{LimitsValue, IsLimits}, Costs.{NoWorse, Better, Before}, Frontiers.{QuestionValue, IsWithin}}
use Rattle.report_form.specs.Tests.{are_limits, is_within, is_no_worse, is_better, is_before}

pub leb_decides : (a b : ℕ) → Decides (nat_le a b) (a ≤ b)
leb_decides a b = (leb-true a b, le-leb a b)

pub decides_no_worse : (a b : Candidate) → Decides (is_no_worse a b) (NoWorse a b)
decides_no_worse a b = Decides-and (nat_le a.s b.s) (nat_le (a.r * b.c) (b.r * a.c)) (leb_decides _ _) (leb_decides _ _)

pub decides_better : (a b : Candidate) → Decides (is_better a b) (Better a b)
decides_better a b = grind (arith, decides_no_worse)

pub decides_before : (a b : Candidate) → Decides (is_before a b) (Before a b)
decides_before a b = grind (arith, Decides-and, nat_lt, Decides-eqb, Decides-ltb, Decides-or)

-- six tests in a row
pub six : {P Q R S T U : Type 0} (p q r s t u : Bool) → Decides p P → Decides q Q → Decides r R → Decides s S → Decides t T → Decides u U
    → Decides (p && q && r && s && t && u) (((((P × Q) × R) × S) × T) × U)
six p q r s t u dp dq dr ds dt du = grind (arith, Decides-and)

pub decides_within : (q : QuestionValue) (x : Candidate) → Decides (is_within q x) (IsWithin q x)
decides_within q x =
    Decides-like (is_within q x)
    (λ h. record { some_steps = h.0.0.0.0.0; steps = h.0.0.0.0.1; all_rounds = h.0.0.0.1; rounds = h.0.0.1; chunks = h.0.1; allowed = h.1 })
    (λ h. (((((h.some_steps, h.steps), h.all_rounds), h.rounds), h.chunks), h.allowed))
    (six (nat_le 1 x.s) (nat_le x.s q.limits.max_s) (nat_le x.s x.r) (nat_le x.r (x.s + q.limits.k)) (nat_le x.c q.limits.max_c) (allows (kind_in q.spec) q.topology.nodes x.c)
    (leb_decides _ _) (leb_decides _ _) (leb_decides _ _) (leb_decides _ _) (leb_decides _ _) ((λ e. e, λ e. e)))

pub decides_limits : (l : LimitsValue) → Decides (are_limits l) (IsLimits l)
decides_limits l = grind (arith, Decides-like, Decides-and, nat_le, six, leb_decides)
