-- A right report is verified beside files that prove it.
use Rattle.std.proofs.{Common.{◌≡◌, List, [], ◌∷◌, ◌++◌, map, append-nil, sym, ap, ◌∙◌, subst}, lemmas.List.Elements.All-contains}
use Rattle.outer_ports.specs.{Files.Files, declared.part.Part.{Part, TheVariants.{Reduce, Gather}}}
use Rattle.allreduce_join.specs.Joins.{Joins}
use Rattle.candidate_order.specs.Frontiers.{FrontierValue, PointValue}
use Rattle.report_form.specs.Reports.{ReportValue, parts_of}
use Rattle.frontier_audit.{specs.{declared.verdict.AuditVerdict.TheVariants.Verified, Auditing.audit_of, Rights.{AreJoined, IsRight}, Shelves.ShelfRight, Parts.{IsRightPart, is_gather, is_reduce, points_of}}, proofs.Right.right_verified}
use Rattle.run_rules.{specs.Claims.IsVerdict, proofs.OneVerdict.verdict_exactly}

-- the joins of the two parts are those of the points that the audit picks
parts_joined : (r : ReportValue) (xs : List (Part × FrontierValue)) → map (λ x. x.0) xs ≡ Reduce ∷ Gather ∷ [] → AreJoined r xs → Joins r.topology.topology (points_of is_reduce xs) (points_of is_gather xs) r.joined
parts_joined r ((Reduce, f) ∷ (Gather, g) ∷ []) e joined =
    let P : List PointValue → List PointValue → Type 0 = λ a b. Joins r.topology.topology a b r.joined in
    subst (λ a. P a (g.points ++ [])) (sym (append-nil f.points)) (subst (P f.points) (sym (append-nil g.points)) joined)
parts_joined r _ e joined = absurd (cc)

pub own_verified : (r : ReportValue) (files : Files) → IsRight r → ShelfRight r files → audit_of r files ≡ Verified
own_verified r files right shelf =
    right_verified r files right.valid shelf (λ part f at. All-contains (IsRightPart r) r.frontiers (part, f) right.parts at)
    (λ kind. parts_joined r r.frontiers (right.valid.parts ∙ ap parts_of kind) right.joined)

pub verified_by : (r : ReportValue) (files : Files) → IsRight r → ShelfRight r files → IsVerdict r files Verified
verified_by r files right shelf = (verdict_exactly r files Verified right.valid).1 (own_verified r files right shelf)
