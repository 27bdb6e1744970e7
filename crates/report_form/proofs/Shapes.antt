-- What the checks of a line's shape took stands there.
use Rattle.std.proofs.{Common.{arith, ◌≡◌, ℕ, ◌<◌, List, [], ◌∷◌, ◌++◌, map, length, Some, Ok, ◌⊎◌, ap, ◌∙◌, codes, decimal}, lemmas.Slice.Eq.bytes_eq-Decides}
use Rattle.text_lines.{specs.Check.◌>>=◌, proofs.{Checks.{bind_ok, need_ok, ok_is}, Numbers.up_to_found}}
use Rattle.schedule.specs.declared.hop.Hop.{Hop}
use Rattle.candidate_order.specs.{declared.{candidate.Candidate.Candidate, mark.Mark.Mark}, Frontiers.UnknownValue}
use Rattle.candidate_order.specs.declared.mark.Mark.TheVariants as mark
use Rattle.report_form.specs.{declared.fault.ReportCode.{ReportCode, TheVariants.BadLine}, Fields.{any_number, small_number}, Spelling.{candidate_words, mark_words, rounds_words, send_words, refuted_words}}
use Rattle.report_form.specs.{Reading.{refuted_from, unknown_from}, Points.{HeadValue, candidate_from, head_from, joined_head_from, numbers_from, rounds_from, send_from}}
use Rattle.report_form.proofs.Tokens.{pass_then, pass_done, word_take, fixed_take, no_more_take, number_take, node_take}

-- ---- a candidate

abbrev pub candidate : ℕ → ℕ → ℕ → Candidate
candidate s r c = record { s = s; r = r; c = c }

pub candidate_take : (words : List (List ℕ)) (x : Candidate × List (List ℕ)) → candidate_from words ≡ Ok x → words ≡ decimal x.0.s ∷ decimal x.0.r ∷ decimal x.0.c ∷ x.1
candidate_take words = pass_then _ _ _ _ (number_take words) (λ s e1. pass_then _ _ _ _ (number_take s.1) (λ r e2. pass_then _ _ _ _ (number_take r.1) (λ c e3. pass_done _ _ (cc))))

-- ---- refuted and unknown candidates

pub refuted_take : (words : List (List ℕ)) (x : Candidate) → refuted_from words ≡ Ok x → words ≡ refuted_words x
refuted_take words = pass_then _ _ _ _ (fixed_take (codes "refuted") words) (λ a e1. pass_then _ _ _ _ (candidate_take a) (λ y e2. pass_then _ _ _ _ (no_more_take y.1) (λ u e3. pass_done _ _ (cc))))

abbrev pub unknown : Candidate → ℕ → UnknownValue
unknown x n = record { candidate = x; conflicts = n }

-- the token of the conflicts stands there, whatever its size
pub record UnknownTaken (words : List (List ℕ)) (u : UnknownValue) : Type 0 where
  pub token : List ℕ
  pub stands : words ≡ codes "unknown" ∷ decimal u.candidate.s ∷ decimal u.candidate.r ∷ decimal u.candidate.c ∷ token ∷ []
  pub number : any_number token ≡ Some u.conflicts

pub unknown_take : (words : List (List ℕ)) (u : UnknownValue) → unknown_from words ≡ Ok u → UnknownTaken words u
unknown_take words =
    pass_then _ _ _ _ (fixed_take (codes "unknown") words) (λ a e1. pass_then _ _ _ _ (candidate_take a) (λ y e2. pass_then _ _ _ _ (word_take any_number y.1)
    (λ n t. pass_then _ _ _ _ (no_more_take n.1) (λ v e4. pass_done _ _ (record { token = t.word; stands = (let e3 = t.stands in cc); number = t.read_as })))))

-- ---- heads of points

abbrev pub head : Candidate → Mark → HeadValue
head x m = record { candidate = x; mark = m }

pub record HeadTaken (words : List (List ℕ)) (h : HeadValue) : Type 0 where
  pub stands : words ≡ codes "point" ∷ candidate_words h.candidate ++ mark_words h.mark
  pub mark : (h.mark ≡ mark.Optimal) ⊎ (h.mark ≡ mark.Open)

pub head_take : (words : List (List ℕ)) (h : HeadValue) → head_from words ≡ Ok h → HeadTaken words h
head_take words = grind (arith, pass_then, fixed_take, candidate_take, word_take, no_more_take, pass_done, bytes_eq-Decides)

pub joined_head_take : (words : List (List ℕ)) (x : Candidate × ℕ) → joined_head_from words ≡ Ok x → words ≡ codes "point" ∷ candidate_words x.0 ++ mark_words (mark.Joined x.1)
joined_head_take words = grind (arith, pass_then, fixed_take, candidate_take, number_take, no_more_take, pass_done)

-- ---- rounds and sends

pub numbers_take : (words : List (List ℕ)) (ns : List ℕ) → numbers_from words ≡ Ok ns → words ≡ map decimal ns
numbers_take [] ns e = let same : [] ≡ ns = ok_is {C = ReportCode} [] ns e in ap (map decimal) same
numbers_take (w ∷ ws) ns e =
    let (n, r1, e1) = need_ok (small_number w) BadLine (λ m. numbers_from ws >>= (λ ms. Ok (m ∷ ms))) ns e in
    let (ms, r2, e2) = bind_ok (numbers_from ws) (λ ks. Ok (n ∷ ks)) ns e1 in
    ap (λ v. v ∷ ws) (up_to_found 65535 n w r1).0 ∙ (ap (λ vs. decimal n ∷ vs) (numbers_take ws ms r2) ∙ ap (map decimal) (ok_is {C = ReportCode} (n ∷ ms) ns e2))

pub rounds_take : (words : List (List ℕ)) (rounds : List ℕ) → rounds_from words ≡ Ok rounds → words ≡ rounds_words rounds
rounds_take words rounds e = grind (arith, bind_ok, fixed_take, numbers_take)

abbrev pub hop : ℕ → ℕ → ℕ → ℕ → Hop
hop c u v s = record { chunk = c; from = u; to = v; step = s }

pub record SendTaken (names words : List (List ℕ)) (h : Hop) : Type 0 where
  pub stands : words ≡ send_words names h
  pub from : h.from < length names
  pub to : h.to < length names

pub send_take : (names words : List (List ℕ)) (h : Hop) → send_from names words ≡ Ok h → SendTaken names words h
send_take names words = grind (arith, pass_then, fixed_take, number_take, node_take, no_more_take, pass_done)
