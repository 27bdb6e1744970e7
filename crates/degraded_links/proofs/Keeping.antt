-- What is kept when a candidate is added to the record, and when an engine is new.
use Rattle.std.proofs.{Common.{◌≡◌, ℕ, ◌<◌, true, false, List, [], ◌∷◌, ◌++◌, Some, None, refl, sym, ap, ◌∙◌, subst, arith, All, Option}, lemmas.{Bool.false≢true, List.Elements.recursion_from_All}}
use Rattle.schedule.specs.{Links.TopologyValue, Judging.group_at}
use Rattle.candidate_order.specs.{declared.candidate.Candidate.Candidate, Frontiers.QuestionValue}
use Rattle.engine_rules.specs.{declared.settled.Settled.Settled, Outcomes.RecordValue}
use Rattle.engine_rules.specs.declared.settled.Settled.TheVariants as settled
use Rattle.link_faults.{specs.{Narrowed.narrowed, Carrying.{IsOldRefuted, is_carried, not_carried}}, proofs.Recorded.{alone_more, more_carried, more_kept, none_carried}}
use Rattle.degraded_links.specs.Keeping.{HasNoneCarried, RefutesCarried, StopsAlike, question_over}

-- the engine within is one for what a fault left
pub none_at_first : (q : QuestionValue) (given : TopologyValue) (g w : ℕ) (old : List Candidate) → w < (group_at given g).width → q.topology ≡ narrowed given g w → All (IsOldRefuted (question_over given q)) old → HasNoneCarried old q
none_at_first q given g w old less is refuted =
    let before : QuestionValue = question_over given q in
    let none : HasNoneCarried old (question_over (narrowed given g w) q) = none_carried before g w (omega (arith, less)) old (recursion_from_All (IsOldRefuted before) old refuted) in
    subst (λ t. HasNoneCarried old (question_over t q)) (sym is) none

pub alone_with : (old : List Candidate) (entries now : RecordValue) (x : Candidate) (kind : Settled) → now ≡ entries ++ (x, kind) ∷ [] → RefutesCarried old entries → (is_carried old x ≡ true → kind ≡ settled.Refuted) → RefutesCarried old now
alone_with old entries now x kind is alone new =
    subst (RefutesCarried old) (sym is) (alone_more old (λ y k. is_carried old y ≡ true → k ≡ settled.Refuted) entries x kind alone new)

pub kept_without : (old : List Candidate) (entries now inner : RecordValue) (x : Candidate) (kind : Settled) → now ≡ entries ++ (x, kind) ∷ [] → is_carried old x ≡ true → inner ≡ not_carried old entries → inner ≡ not_carried old now
kept_without old entries now inner x kind is carried kept = kept ∙ sym (more_carried old entries x kind carried) ∙ ap (not_carried old) (sym is)

pub kept_with : (old : List Candidate) (entries now inner after : RecordValue) (x : Candidate) (kind : Settled) → now ≡ entries ++ (x, kind) ∷ [] → after ≡ inner ++ (x, kind) ∷ [] → is_carried old x ≡ false → inner ≡ not_carried old entries → after ≡ not_carried old now
kept_with old entries now inner after x kind is more other kept =
    more ∙ ap (λ es. es ++ (x, kind) ∷ []) kept ∙ sym (more_kept old entries x kind other) ∙ ap (not_carried old) (sym is)

pub not_both : {A : Type 0} (old : List Candidate) (x : Candidate) → is_carried old x ≡ false → is_carried old x ≡ true → A
not_both old x other is = absurd (false≢true (sym other ∙ is))

pub stops_nowhere : (within own : Option Candidate) → within ≡ None → StopsAlike within own
stops_nowhere within own none x at = let impossible : None ≡ Some x = sym none ∙ at in absurd cc

pub none_alone : (old : List Candidate) (entries : RecordValue) → entries ≡ [] → RefutesCarried old entries
none_alone old entries is = subst (RefutesCarried old) (sym is) (λ x kind found. absurd (omega (arith, found.1)))

pub none_kept : (old : List Candidate) (entries inner : RecordValue) → inner ≡ [] → entries ≡ [] → inner ≡ not_carried old entries
none_kept old entries inner within is = within ∙ ap (not_carried old) (sym is)

-- where this one has not stopped, the one within has not
pub is_running : (within own : Option Candidate) → StopsAlike within own → own ≡ None → within ≡ None
is_running None own alike none = refl
is_running (Some x) own alike none = let impossible : None ≡ Some x = sym none ∙ alike x refl in absurd cc

-- an entry behind a record that was made larger
pub joined : {entries roomy now : RecordValue} (x : Candidate) (kind : Settled) → now ≡ roomy ++ (x, kind) ∷ [] → roomy ≡ entries → now ≡ entries ++ (x, kind) ∷ []
joined x kind pushed is = pushed ∙ ap (λ (es : RecordValue). es ++ (x, kind) ∷ []) is
