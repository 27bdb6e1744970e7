-- The candidates of a search in its order (Cai et al., PPoPP 2021, Pareto-optimal schedules).
use Rattle.std.specs.{Prelude.{◌+◌, ◌==◌, ◌&&◌, Bool, if◌then◌else◌, List, [], ◌∷◌, map}, List.{list_any, flat_map, range_with_len}}
use Rattle.candidate_order.specs.{declared.candidate.Candidate.Candidate, Listed.candidate_at, Frontiers.QuestionValue}
use Rattle.candidate_formula.specs.Counts.{chunk_counts}
use Rattle.report_form.specs.Tests.{is_before}

abbrev pub same_candidate : Candidate → Candidate → Bool
same_candidate a b = a.s == b.s && a.r == b.r && a.c == b.c

-- the candidate stands in the list
abbrev pub is_listed : List Candidate → Candidate → Bool
is_listed xs x = list_any (same_candidate x) xs

-- a candidate is put in front of the first that it comes before
abbrev pub put_in_order : Candidate → List Candidate → List Candidate
put_in_order x [] = x ∷ []
put_in_order x (y ∷ ys) = if is_before x y then x ∷ y ∷ ys else y ∷ put_in_order x ys

abbrev pub in_search_order : List Candidate → List Candidate
in_search_order [] = []
in_search_order (x ∷ xs) = put_in_order x (in_search_order xs)

-- the candidates within the limits, in the order in which a search tries them: by steps, and then by their costs
abbrev pub candidates_within : QuestionValue → List Candidate
candidates_within q = flat_map (λ s. in_search_order (flat_map (λ r. map (λ c. candidate_at s (r, c)) (chunk_counts q)) (range_with_len s (q.limits.k + 1)))) (range_with_len 1 q.limits.max_s)
