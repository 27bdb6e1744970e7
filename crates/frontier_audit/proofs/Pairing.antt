-- The joined points of an allreduce, pair by pair.
use Rattle.std.proofs.Common.{arith, ◌≡◌, ℕ, zero, suc, ◌+◌, ◌<◌, ◌≤◌, Bool, true, false, List, [], ◌∷◌, ◌++◌, length, map, take, drop, get_or, Option, None, Some, add-one, append_assoc, append-nil, refl, sym, ap, ◌∙◌, subst, ◌==◌, ◌&&◌, if◌then◌else◌, filter, slice_get}
use Rattle.std.proofs.lemmas.{Bool.{Decides.nat_tests, eq-eqb}, Grind.common_steps, List.{map-append, take-append-drop, take_more, take_all, Elements.filter-append}, Option.slice_get-get_or}
use Rattle.schedule.specs.Links.{TopologyValue}
use Rattle.collective_spec.specs.declared.kind.Kind.TheVariants as kind
use Rattle.collective_spec.specs.Collectives.{chunks_of}
use Rattle.candidate_order.specs.{declared.candidate.Candidate.Candidate, Frontiers.PointValue}
use Rattle.allreduce_join.specs.{Joins.{join_of, pairs_of}, Judging.joined_verdict_of}
use Rattle.inversion.specs.Saying.{says_sums}
use Rattle.frontier_audit.specs.{declared.verdict.Reason.TheVariants.JoinWrong, Denials.Denial, Joining.{joins_checked, same_point}, Beside.denial_of, inner.Steps.{JoinsSay, join_checked, pairs_with, is_join}}
use Rattle.frontier_audit.proofs.{Joined.point_is, Walking.{failing_denies, first_decides, passing_denies_none, rest_decides}}

abbrev Pairs : Type 0
Pairs = List (PointValue × PointValue)

-- ---- one pair

-- a printed point that is the one that is due sums where its join does
due_alike : (t : TopologyValue) (a b p : PointValue) → (same_point (join_of a b) p && says_sums (joined_verdict_of t (chunks_of kind.Allreduce t.nodes p.candidate.c) p.schedule a.candidate.s)) ≡ (is_join t (a, b) && same_point (join_of a b) p)
due_alike t a b p = go (same_point (join_of a b) p) refl
  where
    sums : PointValue → Bool
    sums z = says_sums (joined_verdict_of t (chunks_of kind.Allreduce t.nodes z.candidate.c) z.schedule a.candidate.s)

    go : (s : Bool) → same_point (join_of a b) p ≡ s → (s && sums p) ≡ (is_join t (a, b) && s)
    go true e = ap sums (sym (point_is (join_of a b) p e)) ∙ (grind arith)
    go false e = grind arith

module _ (t : TopologyValue) (a b : PointValue) (due : PointValue) (made : due ≡ join_of a b) (printed : Option PointValue) where
  pub lacks : printed ≡ None → Some (JoinWrong, due.candidate) ≡ denial_of (join_checked t (a, b) printed)
  lacks none = ap (λ (z : PointValue). Some (JoinWrong, z.candidate)) made ∙ sym (ap (λ o. denial_of (join_checked t (a, b) o)) none)

  module _ (p : PointValue) (there : printed ≡ Some p) (said : Bool) (x : Candidate) (first : x ≡ a.candidate) (is : said ≡ (same_point due p && says_sums (joined_verdict_of t (chunks_of kind.Allreduce t.nodes p.candidate.c) p.schedule x.s))) where
    says : said ≡ (is_join t (a, b) && same_point (join_of a b) p)
    says = is ∙ ap (λ (z : Candidate). same_point due p && says_sums (joined_verdict_of t (chunks_of kind.Allreduce t.nodes p.candidate.c) p.schedule z.s)) first
        ∙ (ap (λ z. same_point z p && says_sums (joined_verdict_of t (chunks_of kind.Allreduce t.nodes p.candidate.c) p.schedule a.candidate.s)) made ∙ due_alike t a b p)

    pub differs : said ≡ false → Some (JoinWrong, due.candidate) ≡ denial_of (join_checked t (a, b) printed)
    differs e = grind (arith, failing_denies, says)

    pub agrees : said ≡ true → None ≡ denial_of (join_checked t (a, b) printed)
    agrees e = sym (ap (λ o. denial_of (join_checked t (a, b) o)) there ∙ passing_denies_none (is_join t (a, b) && same_point (join_of a b) p) (JoinWrong, (join_of a b).candidate) (sym says ∙ e))

-- ---- the printed point at a place

join_stops : (t : TopologyValue) (pair : PointValue × PointValue) (pairs : Pairs) (joined : List PointValue) (place : ℕ) (d : Denial) → denial_of (join_checked t pair (slice_get joined place)) ≡ Some d → denial_of (joins_checked t (pair ∷ pairs) (drop place joined)) ≡ Some d
join_stops t pair pairs [] zero d e = e
join_stops t pair pairs [] (suc n) d e = e
join_stops t pair pairs (p ∷ ps) zero d e = first_decides (join_checked t pair (Some p)) (joins_checked t pairs ps) d e
join_stops t pair pairs (p ∷ ps) (suc n) d e = join_stops t pair pairs ps n d e

join_goes : (t : TopologyValue) (pair : PointValue × PointValue) (pairs : Pairs) (joined : List PointValue) (place : ℕ) → denial_of (join_checked t pair (slice_get joined place)) ≡ None → joins_checked t (pair ∷ pairs) (drop place joined) ≡ joins_checked t pairs (drop (suc place) joined)
join_goes t pair pairs [] zero e = absurd (cc)
join_goes t pair pairs [] (suc n) e = absurd (cc)
join_goes t pair pairs (p ∷ ps) zero e = rest_decides (join_checked t pair (Some p)) (joins_checked t pairs ps) e
join_goes t pair pairs (p ∷ ps) (suc n) e = join_goes t pair pairs ps n e

-- ---- what is said of pairs, and then of more

module _ (t : TopologyValue) (joined : List PointValue) where
  pub none_say : (place : ℕ) → JoinsSay t [] joined place place None
  none_say place more = refl

  pub one_stops : (pair : PointValue × PointValue) (before now : ℕ) (d : Denial) → Some d ≡ denial_of (join_checked t pair (slice_get joined before)) → JoinsSay t (pair ∷ []) joined before now (Some d)
  one_stops pair before now d e more = join_stops t pair more joined before d (sym e)

  pub one_goes : (pair : PointValue × PointValue) (before : ℕ) → None ≡ denial_of (join_checked t pair (slice_get joined before)) → JoinsSay t (pair ∷ []) joined before (before + 1) None
  one_goes pair before e more = join_goes t pair more joined before (sym e) ∙ ap (λ n. joins_checked t more (drop n joined)) (sym (add-one before))

  pub say_then : (first second : Pairs) (before middle now : ℕ) (d : Option Denial) → JoinsSay t first joined before middle None → JoinsSay t second joined middle now d → JoinsSay t (first ++ second) joined before now d
  say_then first second before middle now d a b = grind (arith, joins_checked, drop, append_assoc, denial_of)

-- ---- pairs of two lists

pub with_append : (p : PointValue) (xs ys : List PointValue) → pairs_with p (xs ++ ys) ≡ pairs_with p xs ++ pairs_with p ys
with_append p xs ys = ap (map (λ q. (p, q))) (filter-append (λ q. q.candidate.c == p.candidate.c) xs ys) ∙ map-append (λ q. (p, q)) (filter (λ q. q.candidate.c == p.candidate.c) xs) (filter (λ q. q.candidate.c == p.candidate.c) ys)

pub with_same : (p q : PointValue) → q.candidate.c ≡ p.candidate.c → pairs_with p (q ∷ []) ≡ (p, q) ∷ []
with_same p q e = ap (λ b. map (λ z. (p, z)) (if b then q ∷ [] else [])) (eq-eqb q.candidate.c p.candidate.c e)

pub pairs_one : (x : PointValue) (gather : List PointValue) → pairs_of (x ∷ []) gather ≡ pairs_with x gather
pairs_one x gather = append-nil (pairs_with x gather)

-- ---- pairs of a list, item by item

module _ (t : TopologyValue) (joined : List PointValue) (f : List PointValue → Pairs) (adds : (xs ys : List PointValue) → f (xs ++ ys) ≡ f xs ++ f ys) (xs : List PointValue) (i : ℕ) where
  module _ (x : PointValue) (low : i < length xs) (is : x ≡ get_or xs i x) (before middle now : ℕ) (so_far : JoinsSay t (f (take i xs)) joined before middle None) where
    up_to : take (i + 1) xs ≡ take i xs ++ x ∷ []
    up_to = take_more xs i x low ∙ ap (λ y. take i xs ++ y ∷ []) (sym is)

    pub walk_goes : JoinsSay t (f (x ∷ [])) joined middle now None → JoinsSay t (f (take (i + 1) xs)) joined before now None
    walk_goes a = subst (λ ps. JoinsSay t ps joined before now None) (sym (adds (take i xs) (x ∷ [])) ∙ ap f (sym up_to)) (say_then t joined (f (take i xs)) (f (x ∷ [])) before middle now None so_far a)

    pub walk_stops : (d : Denial) → JoinsSay t (f (x ∷ [])) joined middle now (Some d) → JoinsSay t (f xs) joined before now (Some d)
    walk_stops d a = grind (arith, nat_tests, common_steps, say_then, sym (ap (λ ys. ys ++ drop (i + 1) xs) (sym up_to) ∙ take-append-drop (i + 1) xs))

  pub walk_ends : (before now : ℕ) → length xs ≤ i → JoinsSay t (f (take i xs)) joined before now None → JoinsSay t (f xs) joined before now None
  walk_ends before now past a = subst (λ ys. JoinsSay t (f ys) joined before now None) (take_all i xs past) a

pub pairs_add : (gather xs ys : List PointValue) → pairs_of (xs ++ ys) gather ≡ pairs_of xs gather ++ pairs_of ys gather
pairs_add gather [] ys = refl
pairs_add gather (x ∷ xs) ys = ap (λ ps. pairs_with x gather ++ ps) (pairs_add gather xs ys) ∙ sym (append_assoc (pairs_with x gather) (pairs_of xs gather) (pairs_of ys gather))

-- ---- behind all pairs

pub surplus : (t : TopologyValue) (pairs : Pairs) (joined : List PointValue) (place : ℕ) (p : PointValue) → JoinsSay t pairs joined 0 place None → slice_get joined place ≡ Some p → Some (JoinWrong, p.candidate) ≡ denial_of (joins_checked t pairs joined)
surplus t pairs joined place p a there = sym (ap (λ ps. denial_of (joins_checked t ps joined)) (sym (append-nil pairs)) ∙ (ap denial_of (a []) ∙ left joined place there))
  where
    left : (ps : List PointValue) (n : ℕ) → slice_get ps n ≡ Some p → denial_of (joins_checked t [] (drop n ps)) ≡ Some (JoinWrong, p.candidate)
    left [] zero e = absurd (cc)
    left [] (suc n) e = absurd (cc)
    left (q ∷ qs) zero e = let same : q ≡ p = cc in ap (λ (z : PointValue). Some (JoinWrong, z.candidate)) same
    left (q ∷ qs) (suc n) e = left qs n e

pub no_surplus : (t : TopologyValue) (pairs : Pairs) (joined : List PointValue) (place : ℕ) → JoinsSay t pairs joined 0 place None → slice_get joined place ≡ None → None ≡ denial_of (joins_checked t pairs joined)
no_surplus t pairs joined place a none = sym (ap (λ ps. denial_of (joins_checked t ps joined)) (sym (append-nil pairs)) ∙ (ap denial_of (a []) ∙ nothing joined place none))
  where
    nothing : (ps : List PointValue) (n : ℕ) → slice_get ps n ≡ None → denial_of (joins_checked t [] (drop n ps)) ≡ None
    nothing [] zero e = refl
    nothing [] (suc n) e = refl
    nothing (q ∷ qs) zero e = absurd (cc)
    nothing (q ∷ qs) (suc n) e = nothing qs n e

-- a denial in the pairs is one of the whole
pub stopped : (t : TopologyValue) (pairs : Pairs) (joined : List PointValue) (now : ℕ) (d : Denial) → JoinsSay t pairs joined 0 now (Some d) → Some d ≡ denial_of (joins_checked t pairs joined)
stopped t pairs joined now d a = sym (ap (λ ps. denial_of (joins_checked t ps joined)) (sym (append-nil pairs)) ∙ a [])

-- what is read at a place
pub got_at : (xs : List PointValue) (n : ℕ) (p : PointValue) → n < length xs → p ≡ get_or xs n p → slice_get xs n ≡ Some p
got_at xs n p low is = slice_get-get_or xs n p low ∙ ap (λ z. Some z) (sym is)
