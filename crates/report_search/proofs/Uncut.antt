-- What an engine settles that is not handed what sets of nodes refute, and what is owed of that.
use Rattle.std.proofs.Common.{◌≡◌, ◌⊎◌, inl, inr, Bool, true, false, List, All, Contains, Option, None, Some, refl, sym, ap, subst, ◌∙◌, not, filter}
use Rattle.std.{proofs.lemmas.List.Elements.{All-contains, All-contains_itself, All-filter, All-map, All-weaker, filter_passes}, specs.Option.is_some}
use Rattle.list_laws.proofs.{Each.all_contained, Members.Contains-filter}
use Rattle.outer_ports.specs.{declared.part.Part.Part, Files.Files}
use Rattle.collective_spec.specs.{declared.instance.Instance.Instance, Collectives.spec_instance}
use Rattle.candidate_order.specs.{declared.candidate.Candidate.Candidate, Frontiers.{QuestionValue, FrontierValue, PointValue, UnknownValue, IsTried, IsWithin, solved, given_up}}
use Rattle.node_cuts.specs.{declared.sets.Sets.Sets, Cuts.first_cut_of, Cutting.{is_cut, sets_for}}
use Rattle.cut_bounds.specs.{Cutting.uncut_entries, Parting.without_cuts}
use Rattle.candidate_formula.{specs.{Files.{candidate_of, RefutedFiles}, Formulas.searched_on, Pruned.{HasOwnFiles, is_cut_away}, Searched.searched_question}, proofs.{Copying.same_instance, CutAway.never_cut_away}}
use Rattle.engine_rules.specs.{declared.settled.Settled.Settled, Outcomes.RecordValue}
use Rattle.pareto_search.specs.Recorded.{IsStoppedWithin, StaysWithin}
use Rattle.report_search.{specs.Shelved.{IsShelved, IsUncut}, proofs.Recorded.IsFiled}

-- ---- lists without what fails a test

-- what a part of a list contains is in the list, and passes
pub from_filter : {X : Type 0} (p : X → Bool) (xs : List X) (x : X) → Contains (filter p xs) x → Contains xs x × (p x ≡ true)
from_filter p xs x at = (
  All-contains (Contains xs) (filter p xs) x (All-filter p (Contains xs) xs (All-contains_itself xs)) at,
  All-contains (λ y. p y ≡ true) (filter p xs) x (filter_passes p xs) at,
)

failed : (b : Bool) → not b ≡ true → b ≡ false
failed true e = sym e
failed false e = refl

passed : (b : Bool) → b ≡ false → not b ≡ true
passed b e = ap not e

-- ---- cuts of what is searched

-- the sets of nodes refute of what is searched what is cut away of what was asked
pub cut_in_place : (q own : QuestionValue) (sets : Sets) → own ≡ searched_question q → sets ≡ sets_for q.limits.pruning → (x : Candidate) → is_cut sets own x ≡ is_cut_away q x
cut_in_place q own sets in_place asked x =
    ap (λ p. is_cut sets p x) in_place
    ∙ (ap (λ (i : Instance). is_some (first_cut_of sets (searched_on q) i.pre i.post x.r)) (same_instance q.spec (searched_on q).nodes x.c)
    ∙ ap (λ s. is_some (first_cut_of s (searched_on q) (spec_instance q.spec (searched_on q).nodes x.c).pre (spec_instance q.spec (searched_on q).nodes x.c).post x.r)) asked)

-- ---- the engine below

-- what it settled, and where it failed, is within the limits
pub stays_below : (sets : Sets) {q now : QuestionValue} {entries inner : RecordValue} {stopped below : Option Candidate} → StaysWithin q entries stopped → now ≡ q → inner ≡ uncut_entries sets now entries
    → ((x : Candidate) → below ≡ Some x → stopped ≡ Some x) → StaysWithin q inner below
stays_below sets {q} {now} {entries} {inner} {stopped} {below} stays same kept stops = record {
  settled = subst (All InLimits) (sym kept) (All-filter (λ (e : Candidate × Settled). not (is_cut sets now e.0)) InLimits entries stays.settled);
  failed = stopped_in below refl;
}
  where
    InLimits : Candidate × Settled → Type 0
    InLimits e = IsWithin q e.0

    stopped_in : (o : Option Candidate) → below ≡ o → IsStoppedWithin q o
    stopped_in None is = tt
    stopped_in (Some x) is = subst (IsStoppedWithin q) (stops x is) stays.failed

-- where nothing failed, nothing failed below
pub runs_below : {stopped below : Option Candidate} → ((x : Candidate) → below ≡ Some x → stopped ≡ Some x) → stopped ≡ None → below ≡ None
runs_below {below = None} stops runs = refl
runs_below {below = Some x} stops runs = let never : Some x ≡ None = sym (stops x refl) ∙ runs in absurd (cc)

-- what it settled is not cut
pub settled_uncut : (sets : Sets) (now : QuestionValue) (entries : RecordValue) {inner : RecordValue} → inner ≡ uncut_entries sets now entries → (x : Candidate) (kind : Settled) → Contains inner (x, kind) → is_cut sets now x ≡ false
settled_uncut sets now entries {inner} kept x kind at = failed (is_cut sets now x) (from_filter (λ (e : Candidate × Settled). not (is_cut sets now e.0)) entries (x, kind) (subst (λ r. Contains r (x, kind)) kept at)).1

-- ---- what it leaves on the shelf

module _ (q own : QuestionValue) (sets : Sets) (same : (x : Candidate) → is_cut sets own x ≡ is_cut_away q x) (f : FrontierValue) where
  abbrev left : FrontierValue
  left = without_cuts sets own f

  -- of what is not cut away it tried what was tried
  pub tried_below : (x : Candidate) → HasOwnFiles q f x → IsTried left x
  tried_below x own_files = elim own_files.tried [
    | inl point ↦ inl point
    | inr (inl refuted) ↦ inr (inl (Contains-filter (λ y. not (is_cut sets own y)) f.refuted x (passed (is_cut sets own x) (same x ∙ own_files.uncut)) refuted))
    | inr (inr unknown) ↦ inr (inr unknown)
  ]

  module _ (points : All (λ (p : PointValue). is_cut sets own p.candidate ≡ false) f.points) (unknown : All (λ (u : UnknownValue). is_cut sets own u.candidate ≡ false) f.unknown) where
    pub unknown_uncut : IsUncut q f
    unknown_uncut = All-weaker (λ (u : UnknownValue). is_cut sets own u.candidate ≡ false) (λ (u : UnknownValue). is_cut_away q u.candidate ≡ false) (λ u e. sym (same u.candidate) ∙ e) f.unknown unknown

    -- and tried nothing else
    tried_above : (x : Candidate) → IsTried left x → HasOwnFiles q f x
    tried_above x tried = elim tried [
      | inl point ↦ record { tried = inl point; uncut = sym (same x) ∙ All-contains (λ y. is_cut sets own y ≡ false) (solved f) x (All-map (λ y. is_cut sets own y ≡ false) (λ (p : PointValue). p.candidate) f.points points) point }
      | inr (inl refuted) ↦ let from = from_filter (λ y. not (is_cut sets own y)) f.refuted x refuted in record { tried = inr (inl from.0); uncut = sym (same x) ∙ failed (is_cut sets own x) from.1 }
      | inr (inr given) ↦ record { tried = inr (inr given); uncut = sym (same x) ∙ All-contains (λ y. is_cut sets own y ≡ false) (given_up f) x (All-map (λ y. is_cut sets own y ≡ false) (λ (u : UnknownValue). u.candidate) f.unknown unknown) given }
    ]

    pub shelved_uncut : {part : Part} {before after : Files} → IsFiled part q left before after → IsShelved part q f before after
    shelved_uncut {part} {before} {after} filed = record {
      files = record {
        solved = filed.solved;
        refuted = all_contained (λ x. is_cut_away q x ≡ false → RefutedFiles part q after x) f.refuted
            (λ x at uncut. All-contains (RefutedFiles part q after) left.refuted x filed.refuted (Contains-filter (λ y. not (is_cut sets own y)) f.refuted x (passed (is_cut sets own x) (same x ∙ uncut)) at));
        unknown = filed.unknown;
      };
      others = λ name other. filed.others name (λ mine. other (mine.0, tried_above (candidate_of name) mine.1));
    }

-- where nothing is cut away, all that was tried has its files
pub shelved_plain : {q : QuestionValue} {f : FrontierValue} {part : Part} {before after : Files} → q.limits.pruning.cuts ≡ false → IsFiled part q f before after → IsShelved part q f before after
shelved_plain {q} {f} {part} {before} {after} plain filed = record {
  files = record {
    solved = filed.solved;
    refuted = All-weaker (RefutedFiles part q after) (λ x. is_cut_away q x ≡ false → RefutedFiles part q after x) (λ x has _. has) f.refuted filed.refuted;
    unknown = filed.unknown;
  };
  others = λ name other. filed.others name (λ mine. other (mine.0, record { tried = mine.1; uncut = never_cut_away q (candidate_of name) plain }));
}

-- what the engine below reached is not cut away
pub reached_uncut : (q now : QuestionValue) (sets : Sets) (entries : RecordValue) {inner : RecordValue} {below : Option Candidate} → inner ≡ uncut_entries sets now entries → ((x : Candidate) → below ≡ Some x → is_cut sets now x ≡ false) → ((x : Candidate) → is_cut sets now x ≡ is_cut_away q x)
    → (x : Candidate) → ((kind : Settled) × Contains inner (x, kind)) ⊎ (below ≡ Some x) → is_cut_away q x ≡ false
reached_uncut q now sets entries kept uncut same x (inl settled) = sym (same x) ∙ settled_uncut sets now entries kept x settled.0 settled.1
reached_uncut q now sets entries kept uncut same x (inr stopped) = sym (same x) ∙ uncut x stopped
