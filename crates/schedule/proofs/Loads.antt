-- The load of a group in a step, counted over the sends of the step with a table of the group's links.
use Rattle.std.proofs.{Common.{◌≡◌, ℕ, ◌<◌, ◌^◌, Bool, true, false, ◌&&◌, eqb, cond, List, [], ◌∷◌, length, refl, sym, ap, ◌∙◌, arith}, lemmas.List.Sums.{length-filter, count_by-le-length}}
use Rattle.std.{proofs.lemmas.List.Elements.{All-filter, All-same, recursion_from_All}, specs.List.{filter, count_by, All, AllByRecursion}}
use Rattle.schedule.{specs.{declared.hop.Hop.Hop, Links.{GroupValue, has_link}, Sends.{ScheduleValue, link_of}, Fitting.load, Tables.{marked_at, Marks, IsTabled}}, proofs.Few.IsNarrow}

abbrev HasTabledLink : Hop → Type 0
HasTabledLink h = IsTabled (link_of h)

pub step_tabled : (s : ScheduleValue) (step : ℕ) (sends : List Hop) → IsNarrow s → sends ≡ filter (λ h. eqb h.step step) s.sends → All (λ h. IsTabled (link_of h)) sends
step_tabled s step sends narrow is =
    All-same HasTabledLink sends _ is (All-filter (λ h. eqb h.step step) HasTabledLink s.sends narrow.links)

pub step_few : (s : ScheduleValue) (step : ℕ) (sends : List Hop) → IsNarrow s → sends ≡ filter (λ h. eqb h.step step) s.sends → length sends < 2 ^ 32
step_few s step sends narrow is =
    omega (arith, ap length is, length-filter (λ (h : Hop). eqb h.step step) s.sends, count_by-le-length (λ (h : Hop). eqb h.step step) s.sends, narrow.few)

twice : (first then both : Hop → Bool) → ((h : Hop) → HasTabledLink h → both h ≡ (first h && then h)) → (sends : List Hop) → AllByRecursion HasTabledLink sends → filter then (filter first sends) ≡ filter both sends
twice first then both is [] tabled = refl
twice first then both is (h ∷ hs) tabled =
    rw (is h tabled.0) (elim (first h) as (λ b. filter then (cond b (h ∷ filter first hs) (filter first hs)) ≡ cond (b && then h) (h ∷ filter both hs) (filter both hs))
    [ true ↦ ap (λ rest. cond (then h) (h ∷ rest) rest) (twice first then both is hs tabled.1) | false ↦ twice first then both is hs tabled.1 ])

pub load_counted : (group : GroupValue) (s : ScheduleValue) (step : ℕ) (sends : List Hop) (cells : List Bool) (count : ℕ) → IsNarrow s → Marks cells (has_link group) → sends ≡ filter (λ h. eqb h.step step) s.sends → count ≡ count_by (λ h. marked_at cells (link_of h)) sends → count ≡ load group step s.sends
load_counted group s step sends cells count narrow marks is counted =
    let first : Hop → Bool = λ h. eqb h.step step in
    let then : Hop → Bool = λ h. marked_at cells (link_of h) in
    let both : Hop → Bool = λ h. eqb h.step step && has_link group (link_of h) in
    let same : (h : Hop) → HasTabledLink h → both h ≡ (first h && then h) = λ h tabled. ap (λ b. first h && b) (sym (marks (link_of h) tabled.0 tabled.1)) in
    let kept : filter then (filter first s.sends) ≡ filter both s.sends = twice first then both same s.sends (recursion_from_All HasTabledLink s.sends narrow.links) in
    counted ∙ (ap (count_by then) is ∙ (sym (length-filter then (filter first s.sends)) ∙ (ap length kept ∙ length-filter both s.sends)))
