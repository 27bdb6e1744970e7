-- Sends and candidates in their order: one behind the last is behind each.
use Rattle.std.proofs.Common.{◌≡◌, ℕ, zero, suc, ◌<◌, true, List, [], ◌∷◌, ◌++◌, length, get_or, Option, None, Some, refl, sym, ap, ◌∙◌, arith, All}
use Rattle.std.{specs.List.{AllPairs, last_or}, proofs.lemmas.{Bool.cases_lt, List.Quantifiers.all_pairs_push}}
use Rattle.schedule.{specs.{declared.hop.Hop.Hop, Sends.hop_before}, proofs.HopOrder.before_all}
use Rattle.candidate_order.{specs.{declared.candidate.Candidate.Candidate, Costs.Before}, proofs.Orders.{Before-trans, HasChunk}}
use Rattle.report_form.{specs.{Tests.comes_next, Points.follows}, proofs.Tested.decides_before}

-- ---- the last of a list

pub last_is : {A : Type 0} (xs : List A) (o : Option A) (k : ℕ) (d : A) → length xs ≡ suc k → last_or o xs ≡ Some (get_or xs k d)
last_is [] o k d e = absurd (omega arith)
last_is (x ∷ []) o zero d e = refl
last_is (x ∷ []) o (suc k) d e = absurd (omega arith)
last_is (x ∷ next ∷ xs) o zero d e = absurd (omega arith)
last_is (x ∷ next ∷ xs) o (suc k) d e = last_is (next ∷ xs) (Some x) k d (omega arith)

-- where a relation leads on among elements of a kind, one behind the last is behind each
module _ {A : Type 0} (R : A → A → Type 0) (P : A → Type 0) (trans : (a b c : A) → P a → P b → P c → R a b → R b c → R a c) where
  behind_each : (xs : List A) (x : A) → All P xs → P x → AllPairs R xs → ((l : A) → last_or None xs ≡ Some l → R l x) → (k : ℕ) (d : A) → k < length xs → R (get_or xs k d) x
  behind_each xs x ps px ascending behind k d within = grind (arith, last_is, cases_lt)

  pub push_behind : (xs : List A) (x : A) → All P xs → P x → AllPairs R xs → ((l : A) → last_or None xs ≡ Some l → R l x) → AllPairs R (xs ++ x ∷ [])
  push_behind xs x ps px ascending behind = all_pairs_push R xs x ascending (behind_each xs x ps px ascending behind)

-- ---- sends and candidates

abbrev pub HopBefore : Hop → Hop → Type 0
HopBefore a b = hop_before a b ≡ true

pub push_hop : (before : List Hop) (h : Hop) → AllPairs HopBefore before → follows (last_or None before) h ≡ true → AllPairs HopBefore (before ++ h ∷ [])
push_hop before h ascending next =
    push_behind HopBefore (λ x. Unit {0}) (λ a b c p q r. before_all a b c) before h (λ k d w. tt) tt ascending
    (λ l last. ap (λ o. follows o h) (sym last) ∙ next)

pub push_candidate : (before : List Candidate) (x : Candidate) → All HasChunk before → HasChunk x → AllPairs Before before → comes_next (last_or None before) x ≡ true → AllPairs Before (before ++ x ∷ [])
push_candidate before x some one ascending next =
    push_behind Before HasChunk Before-trans before x some one ascending
    (λ l last. (decides_before l x).0 (ap (λ o. comes_next o x) (sym last) ∙ next))
