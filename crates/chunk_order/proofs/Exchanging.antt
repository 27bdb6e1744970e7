-- Two chunks that are alike change places.
use Rattle.std.proofs.{Common.{◌≡◌, ℕ, ◌<◌, true, cond, eqb, arith}, lemmas.Bool.Decides.nat_tests}
use Rattle.schedule.specs.Placed.{PlacementValue}
use Rattle.chunk_order.{specs.Alike.is_alike, proofs.{Alikeness.{alike_itself, alike_back}, Renaming.IsExchange}}

-- two numbers change places, and the others stay
abbrev pub exchanged : ℕ → ℕ → ℕ → ℕ
exchanged a b c = cond (eqb c a) b (cond (eqb c b) a c)

pub exchanges : (pre post : PlacementValue) (a b : ℕ) → a < pre.chunks → b < pre.chunks → is_alike pre post a b ≡ true → IsExchange pre post (exchanged a b)
exchanges pre post a b al bl alike = record {
  back = λ c. grind (arith, nat_tests);
  keeps = λ c cl. grind (arith, nat_tests, al, bl, cl);
  alike = λ c. grind (arith, nat_tests, alike, alike_back pre post a b alike, alike_itself pre post c);
}
