-- The points of a list of lists, by their numbers.
use Rattle.std.proofs.Common.{◌≡◌, ℕ, ◌+◌, ◌-◌, ◌<◌, ◌≤◌, zero, suc, List, [], ◌∷◌, ◌++◌, length, map, drop, Option, Some, get_or, slice_get, refl, sym, ap, ◌∙◌, arith, append_assoc}
use Rattle.std.{specs.{List.flat_map, Option.option_map}, proofs.lemmas.{List.{drop_all, at_drop_more}, Option.slice_get-map}}
use Rattle.outer_ports.specs.declared.part.Part.{Part, TheVariants.Joined}
use Rattle.candidate_order.specs.Frontiers.{PointValue, FrontierValue}
use Rattle.report_form.specs.{Reports.ReportValue, Numbered.point_at}

module _ {A B : Type 0} (g : A → B) where
  -- a point of the first list
  pub number_here : (points : List A) (rest : List B) (left : ℕ) (d : A) → left < length points → slice_get (map g points ++ rest) left ≡ Some (g (get_or points left d))
  number_here [] rest left d lt = absurd (omega (arith, lt))
  number_here (p ∷ ps) rest zero d lt = refl
  number_here (p ∷ ps) rest (suc i) d lt = number_here ps rest i d (omega (arith, lt))

  -- a point behind the first list
  pub number_later : (points : List A) (rest : List B) (left more : ℕ) → left ≡ length points + more → slice_get (map g points ++ rest) left ≡ slice_get rest more
  number_later [] rest left more e = let same : left ≡ more = omega (arith, e) in ap (slice_get rest) same
  number_later (p ∷ ps) rest zero more e = absurd (omega (arith, e))
  number_later (p ∷ ps) rest (suc i) more e = number_later ps rest i more (omega (arith, e))

-- the points of a part
abbrev pub of_part : Part × FrontierValue → List (Part × PointValue)
of_part x = map (λ p. (x.0, p)) x.1.points

abbrev pub joined_points : List PointValue → List (Part × PointValue)
joined_points ps = map (λ p. (Joined, p)) ps

-- the list from a place on, as the element there and the rest
pub from_here : {A : Type 0} (xs : List A) (i : ℕ) (x : A) → i < length xs → x ≡ get_or xs i x → drop i xs ≡ x ∷ drop (i + 1) xs
from_here xs i x lt e = at_drop_more (λ ys. ys) xs i x lt ∙ ap (λ z. z ∷ drop (i + 1) xs) (sym e)

pub number_first : (r : ReportValue) (items : List (Part × FrontierValue)) (number : ℕ) → items ≡ r.frontiers → (number ≡ 0 → ⊥) → slice_get (flat_map of_part (drop 0 items) ++ joined_points r.joined) (number - 1) ≡ point_at r number
number_first r items number same some = grind arith

module _ (items : List (Part × FrontierValue)) (i : ℕ) (x : Part × FrontierValue) (rest : List (Part × PointValue)) (left : ℕ) where
  -- the points of the part at the place stand in front
  in_front : i < length items → x ≡ get_or items i x → flat_map of_part (drop i items) ++ rest ≡ of_part x ++ (flat_map of_part (drop (i + 1) items) ++ rest)
  in_front lt e = ap (λ xs. flat_map of_part xs ++ rest) (from_here items i x lt e) ∙ append_assoc (of_part x) (flat_map of_part (drop (i + 1) items)) rest

  pub number_in : (points : List PointValue) (p : PointValue) (all : Option (Part × PointValue)) → i < length items → x ≡ get_or items i x → points ≡ x.1.points → left < length points → p ≡ get_or points left p → slice_get (flat_map of_part (drop i items) ++ rest) left ≡ all → all ≡ Some (x.0, p)
  number_in points p all lt e same here is g = grind (arith, number_here, in_front)

  pub number_behind : (points : List PointValue) (all : Option (Part × PointValue)) → i < length items → x ≡ get_or items i x → points ≡ x.1.points → length points ≤ left → slice_get (flat_map of_part (drop i items) ++ rest) left ≡ all → slice_get (flat_map of_part (drop (i + 1) items) ++ rest) (left - length points) ≡ all
  number_behind points all lt e same past g = grind (arith, number_later, slice_get, in_front)

-- behind the frontiers stand the joined points
pub number_joined : (items : List (Part × FrontierValue)) (i left : ℕ) (joined points : List PointValue) (all : Option (Part × PointValue)) → length items ≤ i → points ≡ joined → slice_get (flat_map of_part (drop i items) ++ joined_points joined) left ≡ all → all ≡ option_map (λ p. (Joined, p)) (slice_get points left)
number_joined items i left joined points all past same g = grind (arith, drop_all, slice_get-map)
