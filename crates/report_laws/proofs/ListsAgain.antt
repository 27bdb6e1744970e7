-- The lines of refuted and unknown candidates that are spelled are read.
use Rattle.std.proofs.Common.{◌≡◌, ℕ, suc, ◌≤◌, ◌^◌, Bool, true, false, ◌&&◌, not, List, [], ◌∷◌, ◌++◌, map, length, get_or, Option, None, Some, IfSome, Result, Ok, refl, sym, ap, subst, arith, ◌==◌, codes, All, AllPairs}
use Rattle.std.{proofs.lemmas.{Bool.{and_from, eq-eqb}, List.{length-append, map-append, get_or_append_left, get_or_at, Elements.{All-head, All-tail}}}, specs.List.{last_or, AllByRecursion}}
use Rattle.text_lines.{specs.{Text.Row, Check.{◌>>=◌, refuse, line_part}, Repeated.begins}, proofs.{Distinct.next_has, ReadBack.{Reads, Ends, ReadsLine}, Repeated.place, Rows.{AreTokens, row_of}, Words.tokens_from}}
use Rattle.candidate_order.specs.{declared.candidate.Candidate.Candidate, Ranges.IsLimits, Costs.Before, Frontiers.{QuestionValue, UnknownValue, IsWithin, IsUnknown}}
use Rattle.report_form.specs.{declared.fault.ReportCode.ReportCode, Spelling.{refuted_words, unknown_words}, Tests.{is_within, comes_next}, Reading.{refuted_from, refuted_line, unknown_from, unknown_line}}
use Rattle.report_form.proofs.{Tested.{decides_within, decides_before}, Ascending.last_is, LineTaken.{on_words, ruled_by}, ListsTaken.{AreListed, AreUnknown}}
use Rattle.report_form.specs.declared.fault.ReportCode.TheVariants as code
use Rattle.report_laws.proofs.{TokensAgain.ok_then, LinesAgain.{on_words_again, words_part_again}, ShapesAgain.{IsSmall, refuted_again, refuted_are_words, unknown_again, unknown_are_words}}

-- a shape that is read, and a rule that is kept
pub ruled_again : {A B : Type 0} (shape : List (List ℕ) → Result A ReportCode) (rule : A → Bool) (made : A → B) (words : List (List ℕ)) (x : A) → shape words ≡ Ok x → rule x ≡ true → ruled_by shape rule made words ≡ Ok (made x)
ruled_again shape rule made words x read kept = ok_then _ _ read (ap (λ t. refuse (not t) code.Limits >>= (λ u. Ok (made x))) kept)

module _ {A B : Type 0} (shape : List (List ℕ) → Result A ReportCode) (rule : A → Bool) (made : A → B) (words : List (List ℕ)) (x : A) (tokens : AreTokens words) (read : shape words ≡ Ok x) (kept : rule x ≡ true) where
  pub ruled_line : on_words (ruled_by shape rule made) (Some (row_of words)) ≡ Ok (made x)
  ruled_line = on_words_again (ruled_by shape rule made) words (made x) tokens (ruled_again shape rule made words x read kept)

  pub ruled_part : (n : ℕ) (rows : List Row) → Reads (line_part (on_words (ruled_by shape rule made)) (place n (row_of words ∷ rows))) (made x) rows
  ruled_part n rows = words_part_again (ruled_by shape rule made) words (made x) n rows tokens (ruled_again shape rule made words x read kept)

-- ---- the element before the next

-- in an ascending list, each element is behind the one before it
pub next_follows : {A : Type 0} (R : A → A → Type 0) (before : List A) (x : A) (more : List A) → AllPairs R (before ++ x ∷ more) → IfSome (last_or None before) (λ l. R l x)
next_follows R [] x more pairs = tt
next_follows {A} R (y ∷ ys) x more pairs =
    let before : List A = y ∷ ys in
    let end : ℕ = length ys in
    let pair : R (get_or (before ++ x ∷ more) end x) (get_or (before ++ x ∷ more) (suc end) x) = pairs end (suc end) x (omega arith) (omega (arith, length-append before (x ∷ more))) in
    let left : R (get_or before end x) (get_or (before ++ x ∷ more) (suc end) x) = subst (λ (a : A). R a (get_or (before ++ x ∷ more) (suc end) x)) (get_or_append_left before (x ∷ more) x end (omega arith)) pair in
    subst (λ (o : Option A). IfSome o (λ l. R l x)) (sym (last_is before None end x refl)) (subst (λ (a : A). R (get_or before end x) a) (get_or_at before x more x (suc end) refl) left)

comes_from : (o : Option Candidate) (x : Candidate) → IfSome o (λ l. Before l x) → comes_next o x ≡ true
comes_from o x h = grind (arith, decides_before)

pub comes_again : (before : List Candidate) (x : Candidate) (more : List Candidate) → AllPairs Before (before ++ x ∷ more) → comes_next (last_or None before) x ≡ true
comes_again before x more pairs = comes_from (last_or None before) x (next_follows Before before x more pairs)

-- the same by a part of each element
pub part_comes_again : {A : Type 0} (part : A → Candidate) (before : List A) (x : A) (more : List A) → AllPairs Before (map part (before ++ x ∷ more)) → comes_next (last_or None (map part before)) (part x) ≡ true
part_comes_again part before x more pairs = comes_again (map part before) (part x) (map part more) (subst (AllPairs Before) (map-append part before (x ∷ more)) pairs)

-- ---- what follows lines

-- lines that do not begin with a word, before others that do not
pub behind_lines : {A : Type 0} (word : List ℕ) (spell : A → List (List ℕ)) (xs : List A) (rest : List Row) → ((x : A) → begins word (row_of (spell x)).bytes ≡ false) → Ends word rest → Ends word (map row_of (map spell xs) ++ rest)
behind_lines word spell [] rest each last = last
behind_lines word spell (x ∷ xs) rest each last = each x

-- the lines of valid values are made of tokens
pub lines_are_tokens : {A : Type 0} (P : A → Type 0) (spell : A → List (List ℕ)) → ((x : A) → P x → AreTokens (spell x)) → (xs : List A) → All P xs → AllByRecursion AreTokens (map spell xs)
lines_are_tokens P spell each [] valid = tt
lines_are_tokens P spell each (x ∷ xs) valid = (each x (All-head P x xs valid), lines_are_tokens P spell each xs (All-tail P x xs valid))

-- ---- candidates

module _ (q : QuestionValue) (ok : IsLimits q.limits) where
  pub within_small : (x : Candidate) → IsWithin q x → IsSmall x
  within_small x w = grind arith

  pub refuted_tokens : (x : Candidate) → IsWithin q x → AreTokens (refuted_words x)
  refuted_tokens x w = tokens_from (refuted_words x) (omega arith) (refuted_are_words x (within_small x w))

  pub refuted_reads : ReadsLine (codes "refuted ") (refuted_line q) refuted_words (AreListed q)
  refuted_reads = record {
    line = λ before x more are.
        let w = next_has (IsWithin q) before x more are.within in
        let kept = and_from (is_within q x) (comes_next (last_or None before) x) ((decides_within q x).1 w) (comes_again before x more are.ascending) in
        ruled_line refuted_from (λ y. is_within q y && comes_next (last_or None before) y) (λ y. y) (refuted_words x) x (refuted_tokens x w) (refuted_again x (within_small x w)) kept;
    starts = λ x. refl;
  }

  unknown_few : (u : UnknownValue) → IsUnknown q u → suc u.conflicts ≤ 2 ^ 64
  unknown_few u is = grind arith

  pub unknown_tokens : (u : UnknownValue) → IsUnknown q u → AreTokens (unknown_words u)
  unknown_tokens u is = let few = unknown_few u is in tokens_from (unknown_words u) (omega arith) (unknown_are_words u (within_small u.candidate is.within) (omega (arith, few)))

  pub unknown_reads : ReadsLine (codes "unknown ") (unknown_line q) unknown_words (AreUnknown q)
  unknown_reads = record {
    line = λ before u more are.
        let is = next_has (IsUnknown q) before u more are.each in
        let few = unknown_few u is in
        let next : List UnknownValue → UnknownValue → Bool = λ vs v. is_within q v.candidate && comes_next (last_or None (map (λ y. y.candidate) vs)) v.candidate in
        let front = and_from (is_within q u.candidate) (comes_next (last_or None (map (λ v. v.candidate) before)) u.candidate) ((decides_within q u.candidate).1 is.within) (part_comes_again (λ v. v.candidate) before u more are.listed.ascending) in
        let kept = and_from (next before u) (u.conflicts == q.limits.conflicts) front (eq-eqb u.conflicts q.limits.conflicts is.conflicts) in
        ruled_line unknown_from (λ v. next before v && v.conflicts == q.limits.conflicts) (λ v. v) (unknown_words u) u (unknown_tokens u is) (unknown_again u (within_small u.candidate is.within) (omega (arith, few))) kept;
    starts = λ u. refl;
  }
