-- The two parts of an allreduce, and what their points are joined by.
use Rattle.std.proofs.Common.{◌≡◌, ℕ, ◌<◌, List, [], ◌∷◌, length, map, get_or, ap, ◌∙◌, arith, All, append-nil}
use Rattle.outer_ports.specs.declared.part.Part.{Part}
use Rattle.outer_ports.specs.declared.part.Part.TheVariants as part
use Rattle.collective_spec.specs.declared.kind.Kind.{Kind}
use Rattle.collective_spec.specs.declared.kind.Kind.TheVariants as kind
use Rattle.candidate_order.specs.Frontiers.{FrontierValue}
use Rattle.allreduce_join.specs.Joins.{IsJoinable}
use Rattle.report_form.specs.Reports.{ReportValue, IsReport, parts_of}
use Rattle.frontier_audit.{specs.{Denials.in_part, Joining.joined_checked, inner.Steps.joins_of}, proofs.Parting.at_part}

pub record TwoParts (xs : List (Part × FrontierValue)) : Type 0 where
  pub reduce : FrontierValue
  pub gather : FrontierValue
  pub are : xs ≡ (part.Reduce, reduce) ∷ (part.Gather, gather) ∷ []

two_parts : (xs : List (Part × FrontierValue)) → map (λ x. x.0) xs ≡ part.Reduce ∷ part.Gather ∷ [] → TwoParts xs
two_parts ((p, f) ∷ (q, h) ∷ []) e = grind arith
two_parts _ e = absurd (cc)

pub parts_are : (r : ReportValue) → IsReport r → r.words.collective.kind ≡ kind.Allreduce → TwoParts r.frontiers
parts_are r ok e = two_parts r.frontiers (ok.parts ∙ ap parts_of e)

pub one_part : (xs : List (Part × FrontierValue)) → map (λ x. x.0) xs ≡ part.Whole ∷ [] → (f : FrontierValue) × (xs ≡ (part.Whole, f) ∷ [])
one_part ((p, f) ∷ []) e = let is : p ≡ part.Whole = cc in (f, λ i. (is i, f) ∷ [])
one_part _ e = absurd (cc)

-- ---- their points

pub part_joinable : (r : ReportValue) → IsReport r → (xs : List (Part × FrontierValue)) (i : ℕ) (x : Part × FrontierValue) → xs ≡ r.frontiers → i < length xs → x ≡ get_or xs i x → All IsJoinable x.1.points
part_joinable r ok xs i x same low is k d h = grind (arith, at_part)

-- only an allreduce joins, the points of the one part with those of the other
pub joined_by_kind : (k : Kind) (r : ReportValue) → r.words.collective.kind ≡ k → IsReport r → in_part part.Joined (joins_of k r) ≡ joined_checked r r.frontiers
joined_by_kind k r e ok = grind (arith, parts_are, one_part, append-nil, parts_of, joined_checked)
