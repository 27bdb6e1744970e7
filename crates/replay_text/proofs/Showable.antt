-- What a report keeps of each of its points, and the instance that its part asks for.
use Rattle.std.proofs.Common.{◌≡◌, ◌≢◌, arith, ◌≤◌, ◌<◌, ◌⊎◌, inl, inr, ⊎_elim, ℕ, zero, suc, true, false, List, [], ◌∷◌, map, length, All, Option, None, Some, IfSome, IsTrue, refl, sym, subst, ap, nat_le, Contains}
use Rattle.std.proofs.lemmas.{Bool.{and_parts, leb-true, not-true}, List.Elements.{All-contains, Contains-get_or, All-from_recursion, recursion_from_All}, Option.{get_or_from_slice_get, slice_get_within}}
use Rattle.std.specs.List.{AllByRecursion, flat_map}
use Rattle.outer_ports.specs.declared.part.Part.{Part}
use Rattle.outer_ports.specs.declared.part.Part.TheVariants as part
use Rattle.collective_spec.specs.{declared.{kind.Kind.Kind, collective.Collective.Collective, spec.Spec.Spec}, Kinds.{allows, is_custom}, Layouts.laid_out, Patterns.{PatternValue, IsPattern}}
use Rattle.collective_spec.specs.Collectives.{IsSpec, layout_after, chunks_in, chunks_of, fits_kind, spec_demand, spec_of}
use Rattle.collective_spec.specs.declared.kind.Kind.TheVariants as kind
use Rattle.collective_spec.specs.declared.layout.Layout.TheVariants as layout
use Rattle.collective_spec.specs.declared.spec.Spec.TheVariants as spec
use Rattle.candidate_order.specs.{declared.mark.Mark.Mark, Frontiers.{PointValue, FrontierValue}}
use Rattle.candidate_order.specs.declared.mark.Mark.TheVariants as mark
use Rattle.report_form.specs.{Reports.{ReportValue, IsReport, IsPrintedPoint, IsJoinedPoint, question_of, kind_of, parts_of}, Numbered.{point_at, points_of}}
use Rattle.schedule.proofs.First.{each_append}
use Rattle.replay_text.specs.{Showing.{is_joined, shown_in, steps_that_add}, Points.IsShowable}

-- the point of a number is one of the report's
pub numbered : (r : ReportValue) (n : ℕ) (x : Part × PointValue) → point_at r n ≡ Some x → Contains (points_of r) x
numbered r zero x e = absurd (cc)
numbered r (suc n) x e = subst (Contains (points_of r)) (get_or_from_slice_get (points_of r) n x x e) (Contains-get_or (points_of r) n x (slice_get_within (points_of r) n x e))

-- ---- what its part asks for

not_custom : (whole : Kind) (part : Part) → is_custom whole ≡ false → is_custom (kind_of whole part) ≡ false
not_custom whole part.Whole e = e
not_custom whole part.Reduce e = refl
not_custom whole part.Gather e = refl
not_custom whole part.Joined e = e

spec_is : (whole : Collective) (part : Part) (nodes : ℕ) (custom : Option PatternValue) → fits_kind whole.kind custom ≡ true → whole.root < nodes → IfSome custom (IsPattern nodes)
    → IsSpec nodes (spec_of (record { kind = kind_of whole.kind part; root = whole.root }) custom)
spec_is whole part nodes None fits root given = (not_custom whole.kind part (not-true (is_custom whole.kind) fits), root)
spec_is whole part nodes (Some p) fits root given = given

-- the spec of a part is one for the nodes
spec_valid : (r : ReportValue) (part : Part) → IsReport r → IsSpec r.topology.topology.nodes (question_of r.words r.topology part).spec
spec_valid r part valid =
    spec_is r.words.collective part r.topology.topology.nodes r.topology.custom valid.pattern (subst (λ n. r.words.collective.root < n) valid.topology.as_many valid.words.root) valid.topology.custom

-- an allreduce demands every chunk at every node
all_demanded : (whole : Collective) (nodes c : ℕ) (custom : Option PatternValue) → whole.kind ≡ kind.Allreduce → fits_kind whole.kind custom ≡ true → spec_demand (spec_of whole custom) nodes c ≡ laid_out layout.All (chunks_in (spec_of whole custom) nodes c) nodes
all_demanded whole nodes c None is fits = ap (λ k. laid_out (layout_after k whole.root) (chunks_of whole.kind nodes c) nodes) is
all_demanded whole nodes c (Some p) is fits = let custom = ap is_custom is in absurd (cc)

-- whether a kind is an allreduce, and that no part with a frontier joins others
by_kind : (k : Kind) → ((k ≡ kind.Allreduce) ⊎ (k ≢ kind.Allreduce)) × AllByRecursion (λ part. is_joined part ≡ false) (parts_of k)
by_kind kind.Broadcast = (inr (λ e. absurd (cc)), (refl, tt))
by_kind kind.Gather = (inr (λ e. absurd (cc)), (refl, tt))
by_kind kind.Allgather = (inr (λ e. absurd (cc)), (refl, tt))
by_kind kind.Scatter = (inr (λ e. absurd (cc)), (refl, tt))
by_kind kind.Alltoall = (inr (λ e. absurd (cc)), (refl, tt))
by_kind kind.Reduce = (inr (λ e. absurd (cc)), (refl, tt))
by_kind kind.Reducescatter = (inr (λ e. absurd (cc)), (refl, tt))
by_kind kind.Custom = (inr (λ e. absurd (cc)), (refl, tt))
by_kind kind.Allreduce = (inl refl, (refl, (refl, tt)))

-- ---- each point of a report can be shown

some_count : (k : Kind) (nodes c : ℕ) → IsTrue (allows k nodes c) → 1 ≤ c
some_count k nodes c e = leb-true 1 c (and_parts (nat_le 1 c) _ e).0

-- the mark of a point that joins no others says nothing of its steps
every_step : (m : Mark) (steps : ℕ) → (m ≡ mark.Optimal) ⊎ (m ≡ mark.Open) → steps_that_add m steps ≡ steps
every_step m steps is = ⊎_elim (λ (e : m ≡ mark.Optimal). ap (λ k. steps_that_add k steps) e) (λ (e : m ≡ mark.Open). ap (λ k. steps_that_add k steps) e) is

module _ (r : ReportValue) (valid : IsReport r) where
  of_point : (part : Part) (p : PointValue) → is_joined part ≡ false → IsPrintedPoint (question_of r.words r.topology part) p → IsShowable (shown_in r (part, p))
  of_point part p single point = record {
    spec = spec_valid r part valid;
    schedule = point.has.schedule;
    in_range = point.has.in_range;
    allowed = λ _. point.within.allowed;
    some = some_count _ _ _ point.within.allowed;
    few = omega (arith, point.within.chunks, valid.words.limits.chunks);
    all_add = λ _. every_step p.mark (length p.schedule.rounds) point.mark;
    everywhere = λ e. absurd (cc);
  }

  of_joined : (p : PointValue) → r.words.collective.kind ≡ kind.Allreduce → IsJoinedPoint (question_of r.words r.topology part.Joined) p → IsShowable (shown_in r (part.Joined, p))
  of_joined p is point = record {
    spec = spec_valid r part.Joined valid;
    schedule = point.has.schedule;
    in_range = point.has.in_range;
    allowed = λ e. absurd (cc);
    some = point.some_chunks;
    few = omega (arith, point.chunks, valid.words.limits.chunks);
    all_add = λ e. absurd (cc);
    everywhere = λ _. all_demanded r.words.collective r.topology.topology.nodes p.candidate.c r.topology.custom is valid.pattern;
  }

  abbrev Shows : Part × PointValue → Type 0
  Shows x = IsShowable (shown_in r x)

  part_shows : (part : Part) (points : List PointValue) → is_joined part ≡ false → AllByRecursion (IsPrintedPoint (question_of r.words r.topology part)) points → AllByRecursion Shows (map (λ p. (part, p)) points)
  part_shows part [] single all = tt
  part_shows part (p ∷ points) single all = (of_point part p single all.0, part_shows part points single all.1)

  frontiers_show : (xs : List (Part × FrontierValue)) → AllByRecursion (λ part. is_joined part ≡ false) (map (λ x. x.0) xs) → AllByRecursion (λ x. All (IsPrintedPoint (question_of r.words r.topology x.0)) x.1.points) xs → AllByRecursion Shows (flat_map (λ x. map (λ p. (x.0, p)) x.1.points) xs)
  frontiers_show [] single all = tt
  frontiers_show (x ∷ xs) single all = each_append Shows _ _ (part_shows x.0 x.1.points single.0 (recursion_from_All _ x.1.points all.0)) (frontiers_show xs single.1 all.1)

  joined_show : (points : List PointValue) → r.words.collective.kind ≡ kind.Allreduce → AllByRecursion (IsJoinedPoint (question_of r.words r.topology part.Joined)) points → AllByRecursion Shows (map (λ p. (part.Joined, p)) points)
  joined_show [] is all = tt
  joined_show (p ∷ points) is all = (of_joined p is all.0, joined_show points is all.1)

  all_show : AllByRecursion Shows (points_of r)
  all_show =
      let known = by_kind r.words.collective.kind in
      let single : AllByRecursion (λ part. is_joined part ≡ false) (map (λ x. x.0) r.frontiers) = subst (AllByRecursion (λ part. is_joined part ≡ false)) (sym valid.parts) known.1 in
      let joined : AllByRecursion Shows (map (λ p. (part.Joined, p)) r.joined) =
      ⊎_elim
      (λ (is : r.words.collective.kind ≡ kind.Allreduce). joined_show r.joined is (recursion_from_All _ r.joined valid.joined))
      (λ (other : r.words.collective.kind ≢ kind.Allreduce). subst (λ ps. AllByRecursion Shows (map (λ p. (part.Joined, p)) ps)) (sym (valid.only_allreduce other)) tt)
      known.0 in
      let frontiers : AllByRecursion (λ y. All (IsPrintedPoint (question_of r.words r.topology y.0)) y.1.points) r.frontiers = recursion_from_All _ r.frontiers (λ k d at. (valid.frontiers k d at).points) in
      each_append Shows _ _ (frontiers_show r.frontiers single frontiers) joined

  -- each point that stands among those of the report
  pub listed_shows : (x : Part × PointValue) → Contains (points_of r) x → IsShowable (shown_in r x)
  listed_shows x at = All-contains Shows (points_of r) x (All-from_recursion Shows (points_of r) all_show) at

-- ---- its instance, and its demand

pub demand_chunks : (x : Spec) (nodes c : ℕ) → (spec_demand x nodes c).chunks ≡ chunks_in x nodes c
demand_chunks (spec.Standard collective) nodes c = refl
demand_chunks (spec.Custom p) nodes c = refl
