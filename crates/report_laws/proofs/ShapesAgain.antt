-- The tokens of a line that is spelled are those of its shape, and the shape is read from them.
use Rattle.std.proofs.{Common.{◌≡◌, ℕ, ◌<◌, ◌≤◌, ◌^◌, List, [], ◌∷◌, ◌++◌, map, length, Some, Ok, ◌⊎◌, inl, inr, refl, ap, arith, codes, decimal, All}, lemmas.List.Elements.{All-head, All-tail, All-get_or}}
use Rattle.text_lines.{specs.Check.need, proofs.{Distinct.AreDistinct, Words.{AreWords, literal, decimal_word}}}
use Rattle.schedule.specs.declared.hop.Hop.{Hop}
use Rattle.candidate_order.specs.{declared.{candidate.Candidate.Candidate, mark.Mark.Mark}, Frontiers.UnknownValue}
use Rattle.candidate_order.specs.declared.mark.Mark.TheVariants as mark
use Rattle.topology_text.{specs.Names.AreNames, proofs.Front.name_word}
use Rattle.report_form.specs.{declared.fault.ReportCode.TheVariants.BadLine, Fields.any_number, Reading.{refuted_from, unknown_from}, Spelling.{candidate_words, mark_words, rounds_words, send_words, refuted_words, unknown_words}}
use Rattle.report_form.{specs.Points.{candidate_from, mark_named, head_from, joined_head_from, numbers_from, rounds_from, send_from}, proofs.Shapes.head}
use Rattle.report_laws.proofs.TokensAgain.{ok_then, word_again, small_again, number_again, next_node_again, any_number_again}

-- ---- a candidate

-- each of its numbers may stand in a text
pub record IsSmall (x : Candidate) : Type 0 where
  pub steps : x.s ≤ 65535
  pub rounds : x.r ≤ 65535
  pub chunks : x.c ≤ 65535

pub candidate_again : (x : Candidate) (rest : List (List ℕ)) → IsSmall x → candidate_from (decimal x.s ∷ decimal x.r ∷ decimal x.c ∷ rest) ≡ Ok (x, rest)
candidate_again x rest small = ok_then _ _ (number_again x.s _ small.steps) (ok_then _ _ (number_again x.r _ small.rounds) (ok_then _ _ (number_again x.c rest small.chunks) refl))

pub candidate_are_words : (x : Candidate) (rest : List (List ℕ)) → IsSmall x → AreWords rest → AreWords (decimal x.s ∷ decimal x.r ∷ decimal x.c ∷ rest)
candidate_are_words x rest small words = grind (arith, decimal_word)

-- ---- refuted and unknown candidates

pub refuted_again : (x : Candidate) → IsSmall x → refuted_from (refuted_words x) ≡ Ok x
refuted_again x small = ok_then _ _ (candidate_again x [] small) refl

pub refuted_are_words : (x : Candidate) → IsSmall x → AreWords (refuted_words x)
refuted_are_words x small = (literal (codes "refuted") refl, candidate_are_words x [] small tt)

pub unknown_again : (u : UnknownValue) → IsSmall u.candidate → u.conflicts < 2 ^ 64 → unknown_from (unknown_words u) ≡ Ok u
unknown_again u small few = ok_then _ _ (candidate_again u.candidate (decimal u.conflicts ∷ []) small) (ok_then _ _ (word_again any_number (decimal u.conflicts) [] u.conflicts (any_number_again u.conflicts few)) refl)

pub unknown_are_words : (u : UnknownValue) → IsSmall u.candidate → u.conflicts < 2 ^ 64 → AreWords (unknown_words u)
unknown_are_words u small few = (literal (codes "unknown") refl, candidate_are_words u.candidate (decimal u.conflicts ∷ []) small (decimal_word u.conflicts few, tt))

-- ---- heads of points

abbrev pub head_words : Candidate → Mark → List (List ℕ)
head_words x m = codes "point" ∷ candidate_words x ++ mark_words m

head_with : (x : Candidate) (w : List ℕ) (m : Mark) → IsSmall x → mark_named w ≡ Some m → head_from (codes "point" ∷ candidate_words x ++ w ∷ []) ≡ Ok (head x m)
head_with x w m small named = ok_then _ _ (candidate_again x (w ∷ []) small) (ok_then _ _ (word_again mark_named w [] m named) refl)

pub head_again : (x : Candidate) (m : Mark) → IsSmall x → (m ≡ mark.Optimal) ⊎ (m ≡ mark.Open) → head_from (head_words x m) ≡ Ok (record { candidate = x; mark = m })
head_again x mark.Optimal small which = head_with x (codes "optimal") mark.Optimal small refl
head_again x mark.Open small which = head_with x (codes "open") mark.Open small refl
head_again x (mark.Joined n) small (inl e) = absurd (cc)
head_again x (mark.Joined n) small (inr e) = absurd (cc)

pub joined_head_again : (x : Candidate) (adding : ℕ) → IsSmall x → adding ≤ 65535 → joined_head_from (head_words x (mark.Joined adding)) ≡ Ok (x, adding)
joined_head_again x adding small few = grind (arith, ok_then, candidate_again, number_again)

-- a mark's number may stand in a text
abbrev pub MarkIsSmall : Mark → Type 0
MarkIsSmall (mark.Joined adding) = adding ≤ 65535
MarkIsSmall m = Unit {0}

pub head_are_words : (x : Candidate) (m : Mark) → IsSmall x → MarkIsSmall m → AreWords (head_words x m)
head_are_words x m small few = grind (arith, literal, candidate_are_words, decimal_word)

-- ---- rounds and sends

abbrev pub Small : ℕ → Type 0
Small n = n ≤ 65535

numbers_again : (ns : List ℕ) → All Small ns → numbers_from (map decimal ns) ≡ Ok ns
numbers_again [] small = refl
numbers_again (n ∷ ns) small = ok_then _ _ (ap (λ o. need o BadLine) (small_again n (All-head Small n ns small))) (ok_then _ _ (numbers_again ns (All-tail Small n ns small)) refl)

pub rounds_again : (rounds : List ℕ) → All Small rounds → rounds_from (rounds_words rounds) ≡ Ok rounds
rounds_again rounds small = numbers_again rounds small

numbers_are_words : (ns : List ℕ) → All Small ns → AreWords (map decimal ns)
numbers_are_words [] small = tt
numbers_are_words (n ∷ ns) small = let low = All-head Small n ns small in (decimal_word n (omega (arith, low)), numbers_are_words ns (All-tail Small n ns small))

pub rounds_are_words : (rounds : List ℕ) → All Small rounds → AreWords (rounds_words rounds)
rounds_are_words rounds small = (literal (codes "rounds") refl, numbers_are_words rounds small)

-- the numbers of a send may stand in a text, and its nodes have names
pub record IsSpelled (names : List (List ℕ)) (h : Hop) : Type 0 where
  pub chunk : h.chunk ≤ 65535
  pub step : h.step ≤ 65535
  pub from : h.from < length names
  pub to : h.to < length names

pub send_again : (names : List (List ℕ)) (h : Hop) → AreDistinct names → IsSpelled names h → send_from names (send_words names h) ≡ Ok h
send_again names h distinct ok =
    ok_then _ _ (number_again h.chunk _ ok.chunk) (ok_then _ _ (next_node_again names h.from _ distinct ok.from) (ok_then _ _ (next_node_again names h.to _ distinct ok.to) (ok_then _ _ (number_again h.step [] ok.step) refl)))

pub send_are_words : (names : List (List ℕ)) (h : Hop) → AreNames names → IsSpelled names h → AreWords (send_words names h)
send_are_words names h named ok = grind (arith, All-get_or, literal, decimal_word, name_word)
