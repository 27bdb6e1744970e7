-- A search over links that are turned round is as large.
use Rattle.std.proofs.{lemmas.{Bool.Decides.nat_tests, Grind.common_steps, List.length-map}, Common.{◌≡◌, ℕ, ◌+◌, Bool, true, false, cond, List, [], ◌∷◌, ◌++◌, length, map, refl, sym, ap, ◌∙◌, arith, length-append, filter, sum_by}}
use Rattle.std.{proofs.lemmas.List.{Elements.filter-append, Sums.sum_by-cons}, specs.List.{flat_map, range_with_len}}
use Rattle.schedule.{specs.Links.{GroupValue, TopologyValue, is_usable, usable_links, turned, reversed_group, reversed_of}, proofs.Turning.{turned_usable, one_if}}
use Rattle.collective_spec.specs.declared.spec.Spec.{Spec}
use Rattle.candidate_order.specs.{Ranges.LimitsValue, Frontiers.QuestionValue, Copied.copied_question}
use Rattle.round_encoding.specs.Candidates.{group_size}
use Rattle.candidate_formula.{specs.Sizes.{most_chunks, size_of}, proofs.CopyingQuestions.same_size}

-- ---- how many pairs of a grid pass a test

abbrev kept : {X : Type 0} → (X → Bool) → List X → ℕ
kept p xs = length (filter p xs)

kept_first : {X : Type 0} (p : X → Bool) (x : X) (xs : List X) → kept p (x ∷ xs) ≡ one_if (p x) + kept p xs
kept_first p x xs = elim (p x) as (λ b. length (cond b (x ∷ filter p xs) (filter p xs)) ≡ one_if b + kept p xs) [ true ↦ omega arith | false ↦ omega arith ]

kept_append : {X : Type 0} (p : X → Bool) (xs ys : List X) → kept p (xs ++ ys) ≡ kept p xs + kept p ys
kept_append p xs ys = ap length (filter-append p xs ys) ∙ length-append (filter p xs) (filter p ys)

-- the pairs of one, and those of many, with so many others
abbrev row : ℕ → List ℕ → List (ℕ × ℕ)
row a bs = map (λ b. (a, b)) bs

abbrev grid : List ℕ → List ℕ → List (ℕ × ℕ)
grid xs ys = flat_map (λ x. row x ys) xs

kept_row : (p : ℕ × ℕ → Bool) (a : ℕ) (bs : List ℕ) → kept p (row a bs) ≡ kept (λ b. p (a, b)) bs
kept_row p a [] = refl
kept_row p a (b ∷ bs) = omega (arith, kept_first p (a, b) (row a bs), kept_first (λ c. p (a, c)) b bs, kept_row p a bs)

kept_none : (p : ℕ × ℕ → Bool) (xs : List ℕ) → kept p (grid xs []) ≡ 0
kept_none p [] = refl
kept_none p (x ∷ xs) = kept_none p xs

-- one column more
kept_column : (p : ℕ × ℕ → Bool) (xs : List ℕ) (y : ℕ) (ys : List ℕ) → kept p (grid xs (y ∷ ys)) ≡ kept (λ x. p (x, y)) xs + kept p (grid xs ys)
kept_column p [] y ys = omega arith
kept_column p (x ∷ xs) y ys = grind (arith, kept_append, kept_first, kept_column p xs y ys)

kept_turned : (p : ℕ × ℕ → Bool) (xs ys : List ℕ) → kept p (grid xs ys) ≡ kept (λ l. p (turned l)) (grid ys xs)
kept_turned p xs [] = kept_none p xs
kept_turned p xs (y ∷ ys) = grind (arith, kept_append, kept_column, kept_row, kept_turned p xs ys)

-- ---- links and groups

as_many_links : (t : TopologyValue) → length (usable_links (reversed_of t)) ≡ length (usable_links t)
as_many_links t =
    let range = range_with_len 0 t.nodes in
    (λ i. kept (λ l. turned_usable t.groups l i) (grid range range)) ∙ sym (kept_turned (is_usable t) range range)

same_groups : (chunks steps extra : ℕ) (groups : List GroupValue) → sum_by (group_size chunks steps extra) (map reversed_group groups) ≡ sum_by (group_size chunks steps extra) groups
same_groups chunks steps extra [] = refl
same_groups chunks steps extra (g ∷ groups) = grind (arith, nat_tests, common_steps, length-map, sum_by-cons, same_groups chunks steps extra groups)

pub copied_size : (q : QuestionValue) → size_of (copied_question q) ≡ size_of q
copied_size q = grind (arith, same_size (reversed_of q.topology) q.spec q.limits, as_many_links q.topology, same_groups (most_chunks q) q.limits.max_s q.limits.k q.topology.groups)

pub turned_size : (t turned : TopologyValue) (spec : Spec) (limits : LimitsValue) → turned ≡ reversed_of t → size_of (record { topology = turned; spec = spec; limits = limits }) ≡ size_of (record { topology = t; spec = spec; limits = limits })
turned_size t turned spec limits is = grind (arith, same_size (reversed_of t) spec limits, copied_size (record { topology = t; spec = spec; limits = limits }))
