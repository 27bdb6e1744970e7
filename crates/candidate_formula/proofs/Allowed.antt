-- The chunk counts that are allowed.
use Rattle.std.proofs.{Common.{◌≡◌, ℕ, ◌≤◌, Bool, true, List, [], ◌∷◌, refl, sym, ap, ◌∙◌, subst, arith, ◌↔◌, IsTrue, filter, nat_le}, lemmas.{Bool.{and_parts, leb-true}, List.Kept.IsStrictlyIncreasing-filter}}
use Rattle.std.{proofs.lemmas.List.{Elements.{All-filter, All-contains, filter_passes}, FromFn.{length-range_with_len, get_or-range_with_len}}, specs.List.{range_with_len, Sorted.IsStrictlyIncreasing}}
use Rattle.schedule.proofs.First.{Among-from_Contains, Contains-from_Among, among_kept}
use Rattle.collective_spec.specs.{declared.kind.Kind.Kind, Kinds.allows}
use Rattle.candidate_order.{specs.{Ranges.LimitsValue, Listed.AreAllowed}, proofs.Rows.Contains-range}
use Rattle.send_encoding.proofs.Everywhere.{From, in_range}
use Rattle.candidate_formula.specs.Counts.{allowed_up_to}

-- ---- all of them

range_increases : (a n : ℕ) → IsStrictlyIncreasing (range_with_len a n)
range_increases a n k low = grind (arith, get_or-range_with_len, length-range_with_len)

allowed_increases : (greatest : ℕ) (kind : Kind) (nodes : ℕ) → IsStrictlyIncreasing (allowed_up_to greatest kind nodes)
allowed_increases greatest kind nodes = IsStrictlyIncreasing-filter (allows kind nodes) (range_with_len 1 greatest) (range_increases 1 greatest)

allowed_all : (limits : LimitsValue) (kind : Kind) (nodes : ℕ) → AreAllowed limits kind nodes (allowed_up_to limits.max_c kind nodes)
allowed_all limits kind nodes = λ c.
    let p : ℕ → Bool = allows kind nodes in
    let range = range_with_len 1 limits.max_c in (
      λ at.
          let within = All-contains (From 1 limits.max_c) (filter p range) c (All-filter p (From 1 limits.max_c) range (in_range 1 limits.max_c)) at in
          (omega (arith, within.1), All-contains (λ x. p x ≡ true) (filter p range) c (filter_passes p range) at),
      λ ok.
          let some = leb-true 1 c (and_parts (nat_le 1 c) _ ok.1).0 in
          Contains-from_Among c (filter p range) (among_kept p c range (Among-from_Contains c range (Contains-range 1 limits.max_c c some (let most = ok.0 in omega (arith, most)))) ok.1),
    )

-- ---- the counts that are given

pub are_increasing : (kind : Kind) (nodes greatest : ℕ) (counts : List ℕ) → counts ≡ allowed_up_to greatest kind nodes → IsStrictlyIncreasing counts
are_increasing kind nodes greatest counts is = subst IsStrictlyIncreasing (sym is) (allowed_increases greatest kind nodes)

pub are_allowed : (limits : LimitsValue) (kind : Kind) (nodes greatest : ℕ) (counts : List ℕ) → greatest ≡ limits.max_c → counts ≡ allowed_up_to greatest kind nodes → AreAllowed limits kind nodes counts
are_allowed limits kind nodes greatest counts most is = subst (AreAllowed limits kind nodes) (sym (is ∙ ap (λ n. allowed_up_to n kind nodes) most)) (allowed_all limits kind nodes)

-- there is none where no count is allowed
pub none_allowed : (limits : LimitsValue) (kind : Kind) (nodes : ℕ) (counts : List ℕ) → AreAllowed limits kind nodes counts → (counts ≡ []) ↔ ((c : ℕ) → c ≤ limits.max_c → IsTrue (allows kind nodes c) → ⊥)
none_allowed limits kind nodes [] allowed = (λ e c most ok. let at = (allowed c).1 (most, ok) in omega (arith, at.1), λ none. refl)
none_allowed limits kind nodes (c ∷ counts) allowed = (
  λ e. absurd (cc),
  λ none. let ok = (allowed c).0 (0, omega arith, refl) in absurd (none c ok.0 ok.1),
)
