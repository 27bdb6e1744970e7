-- A line that a check blames has the code of its form, where the lines before it say which forms may stand there.
use Rattle.std.proofs.Common.{◌≡◌, ℕ, zero, suc, ◌+◌, ◌-◌, ◌<◌, ◌≤◌, Bool, true, false, ◌||◌, not, eqb, List, [], ◌∷◌, ◌++◌, map, length, take, Option, None, Some, Result, Ok, Err, refl, sym, ap, ◌∙◌, subst, append_assoc, arith, codes, bytes_eq, if◌then◌else◌, slice_get, slice_index_or, nat_eq}
use Rattle.std.proofs.{Math.{Bool.or-false, Seq.take-append_seam}, lemmas.{Bool.{and_parts, Decides.Decides-eqb}, List.{length-append, Splits.join_with_byte-slice_split}, Slice.Eq.{bytes_eq-Decides, starts_is}}}
use Rattle.std.specs.List.{list_any, list_all, last_or, starts_with, join_with_byte}
use Rattle.text_lines.specs.{Text.{Row, Place, words_of, behind}, Check.{◌>>=◌, at_line, first, line_part}, Repeated.{begins, row_begins, lines_at, parts_from}}
use Rattle.text_lines.proofs.{Checks.first_is, Gives.{Gives, gives_done, gives_fail, gives_like, gives_then}, Repeated.{line_by, lines_are_parts, one_less}, Words.begins_is}
use Rattle.topology_text.specs.declared.fault.TopologyCode.{TopologyCode}
use Rattle.report_form.{specs.{declared.fault.ReportCode.ReportCode, Lines.{whole_line, fixed_line, blamed, among}}, proofs.LineTaken.{on_words, ruled_by}}
use Rattle.report_form.specs.declared.fault.ReportCode.TheVariants as code
use Rattle.report_laws.{specs.Shapes.{Token, Word, Any, has_shape, forms_after, first_word, is_patterned, names_in, forms_behind, code_of}, proofs.ShapesTold.Told}

-- a test of a line
abbrev pub Form : Type 0
Form = Row → Bool

abbrev pub is_joined : List (List ℕ) → Bool
is_joined firsts = list_any (λ w. bytes_eq w (codes "joined")) firsts

-- the line has a form that may stand behind these lines
abbrev pub fits : List Row → Form
fits before row = list_any (λ form. form row) (forms_behind before (last_or None (map first_word before)))

-- ---- results

-- one step, and then the rest
pub goes_on : {A B C : Type 0} {E : C → Type 0} {N : A → Type 0} {M : B → Type 0} (r : Result A C) (f : A → Result B C) → Gives E N r → ((x : A) → r ≡ Ok x → N x → Gives E M (f x)) → Gives E M (r >>= f)
goes_on r f one later = gives_then r f one (λ e holds. holds) later

pub choose_gives : {A C : Type 0} {E : C → Type 0} {N : A → Type 0} (b : Bool) (r : Result A C) (x : A) → (b ≡ true → Gives E N r) → (b ≡ false → N x) → Gives E N (if b then r else Ok x)
choose_gives {A} {C} {E} {N} b r x goes stays = grind (arith, gives_done)

pub at_line_goes : {A C : Type 0} {N : A → Type 0} (E : C × ℕ → Type 0) (n : ℕ) (r : Result A C) → Gives (λ (c : C). E (c, n)) N r → Gives E N (at_line n r)
at_line_goes {A} {C} {N} E n r g = grind (arith, gives_done, gives_fail)

-- a check of the line at a place
pub part_goes : {A C : Type 0} (E : C × ℕ → Type 0) (N : A × Place → Type 0) (check : Option Row → Result A C) (p : Place) → Gives (λ (c : C). E (c, p.number)) (λ (x : A). N (x, behind p)) (check (first p.rows)) → Gives E N (line_part check p)
part_goes E N check p g = goes_on _ _ (at_line_goes E p.number (check (first p.rows)) g) (λ x read holds. gives_done (x, behind p) holds)

-- ---- one line

-- the code of a line that is there, by whether it has a form
abbrev pub told_code : Bool → Row → ReportCode
told_code fit row = if row.whole then (if fit then code.Limits else code.BadLine) else code.Truncated

-- a shape, and then a rule
module _ {A B : Type 0} (test : List (List ℕ) → Bool) (shape : List (List ℕ) → Result A ReportCode) (rule : A → Bool) (made : A → B) (told : (words : List (List ℕ)) → Told (test words) (shape words)) where
  pub ruled_goes : (row : Row) → Gives (λ (why : ReportCode). why ≡ told_code (test (words_of row.bytes)) row) (λ (y : B). test (words_of row.bytes) ≡ true) (on_words (ruled_by shape rule made) (Some row))
  ruled_goes row = grind (arith, gives_done, gives_fail, ruled_by)

-- a line that is written out
pub fixed_goes : (bytes : List ℕ) (row : Row) → Gives (λ (why : ReportCode). why ≡ told_code false row) (λ (u : Unit {0}). row.bytes ≡ bytes) (fixed_line bytes (Some row))
fixed_goes bytes row = grind (arith, bytes_eq, gives_done, bytes_eq-Decides, gives_fail)

-- ---- the first word of a line

pub first_of_shape : (word : List ℕ) (shape : List Token) (row : Row) → has_shape (Word word ∷ shape) (words_of row.bytes) ≡ true → first_word row ≡ word
first_of_shape word shape row e = grind (arith, slice_index_or, bytes_eq-Decides, and_parts, bytes_eq)

abbrev pub IsOneWord : List ℕ → Type 0
IsOneWord word = list_all (λ b. not (eqb b 32)) word ≡ true

pub first_of_front : (word : List ℕ) (row : Row) → IsOneWord word → begins (word ++ 32 ∷ []) row.bytes ≡ true → first_word row ≡ word
first_of_front word row free e = ap (λ ws. slice_index_or ws 0 []) (begins_is word row.bytes free e)

-- a line of more than one word begins with the first and a space
pub unbegun : (word : List ℕ) (passes : List ℕ → Bool) (shape : List Token) (row : Row) → begins (word ++ 32 ∷ []) row.bytes ≡ false → has_shape (Word word ∷ Any passes ∷ shape) (words_of row.bytes) ≡ false
unbegun word passes shape row other = by_words (words_of row.bytes) refl
  where
    clash : (w x : List ℕ) (ws : List (List ℕ)) → words_of row.bytes ≡ w ∷ x ∷ ws → w ≡ word → ⊥
    clash w x ws is same =
        let rest : List ℕ = join_with_byte 32 (x ∷ ws) in
        let text : row.bytes ≡ (word ++ 32 ∷ []) ++ rest = sym (join_with_byte-slice_split 32 row.bytes) ∙ (ap (join_with_byte 32) is ∙ (ap (λ v. v ++ 32 ∷ rest) same ∙ sym (append_assoc word (32 ∷ []) rest))) in
        let e : false ≡ true = sym other ∙ ((starts_is Decides-eqb row.bytes (word ++ 32 ∷ []) (starts_with nat_eq row.bytes (word ++ 32 ∷ [])) refl).1 rest text) in
        absurd (cc)

    by_words : (ws : List (List ℕ)) → words_of row.bytes ≡ ws → has_shape (Word word ∷ Any passes ∷ shape) ws ≡ false
    by_words ws is = grind (arith, clash, bytes_eq-Decides)

-- ---- what the lines before say

pub last_is : (rows : List Row) (row : Row) (o : Option (List ℕ)) → last_or o (map first_word (rows ++ row ∷ [])) ≡ Some (first_word row)
last_is [] row o = refl
last_is (r ∷ rs) row o = last_is rs row (Some (first_word r))

joined_on : (rows : List Row) (row : Row) → is_joined (map first_word (rows ++ row ∷ [])) ≡ (is_joined (map first_word rows) || bytes_eq (first_word row) (codes "joined"))
joined_on [] row = or-false (bytes_eq (first_word row) (codes "joined"))
joined_on (r ∷ rs) row = grind (arith, bytes_eq, joined_on rs row)

get_behind : {A : Type 0} (xs ys : List A) → slice_get (xs ++ ys) (length xs) ≡ slice_get ys 0
get_behind [] ys = refl
get_behind (x ∷ xs) ys = get_behind xs ys

-- ---- places in a text of these lines

module _ (rows : List Row) where
  -- a place behind these lines
  pub record On (before : List Row) (p : Place) : Type 0 where
    pub is : rows ≡ before ++ p.rows
    pub number : p.number ≡ length before + 1

  abbrev pub code_at : ℕ → ReportCode
  code_at n = code_of (take (n - 1) rows) (slice_get rows (n - 1))

  abbrev pub Coded : ReportCode × ℕ → Type 0
  Coded e = e.0 ≡ code_at e.1

  -- the topology's refusal at this line
  abbrev pub Unfit : TopologyCode × ℕ → Type 0
  Unfit e = blamed (whole_line (slice_get rows (e.1 - 1))) ≡ code_at e.1

  line_on : (before : List Row) (p : Place) (n : ℕ) → On before p → n ≡ p.number → slice_get rows (n - 1) ≡ first p.rows
  line_on before p n on at = grind (arith, slice_get, get_behind)

  pub code_on : (before : List Row) (p : Place) (n : ℕ) → On before p → n ≡ p.number → code_at n ≡ code_of before (first p.rows)
  code_on before p n on at =
      ap (λ b. code_of b (slice_get rows (n - 1))) (ap (λ k. take k rows) (omega (arith, at, on.number)) ∙ (ap (take (length before)) on.is ∙ take-append_seam before p.rows)) ∙ ap (code_of before) (line_on before p n on at)

  pub unfit_on : (before : List Row) (p : Place) (e : TopologyCode × ℕ) → On before p → e.1 ≡ p.number → ((row : Row) → first p.rows ≡ Some row → fits before row ≡ false) → Unfit e
  unfit_on before p e on at none = ap (λ o. blamed (whole_line o)) (line_on before p e.1 on at) ∙ (by_line (first p.rows) none ∙ sym (code_on before p e.1 on at))
    where
      by_line : (o : Option Row) → ((row : Row) → o ≡ Some row → fits before row ≡ false) → blamed (whole_line o) ≡ code_of before o
      by_line o each = grind arith

  pub among_goes : {A : Type 0} (N : A → Type 0) (r : Result A (TopologyCode × ℕ)) → Gives Unfit N r → Gives Coded N (among rows r)
  among_goes {A} N r g = grind (arith, gives_done, gives_fail)

  next_on : (before : List Row) (p : Place) (row : Row) → On before p → first p.rows ≡ Some row → On (before ++ row ∷ []) (behind p)
  next_on before p row on here = grind (arith, first_is, append_assoc, length-append)

  -- a line that stands behind these, and was read
  pub record Stands {A C : Type 0} (check : Option Row → Result A C) (before : List Row) (p : Place) (x : A × Place) : Type 0 where
    pub row : Row
    pub here : first p.rows ≡ Some row
    pub read : check (Some row) ≡ Ok x.0
    pub on : On (before ++ row ∷ []) x.1

  pub stands_goes : {A C : Type 0} (E : C × ℕ → Type 0) (check : Option Row → Result A C) (before : List Row) (p : Place) → On before p → ((x : A) → check None ≡ Ok x → ⊥) → ((c : C) → check (first p.rows) ≡ Err c → E (c, p.number)) → Gives E (Stands check before p) (line_part check p)
  stands_goes {A} E check before p on lacking blames = part_goes E (Stands check before p) check p (record { ok = λ x e. by_line (first p.rows) refl x e; err = blames })
    where
      by_line : (o : Option Row) → first p.rows ≡ o → (x : A) → check o ≡ Ok x → Stands check before p (x, behind p)
      by_line None here x e = absurd (lacking x e)
      by_line (Some row) here x e = record { row = row; here = here; read = e; on = next_on before p row on here }

  -- the code of a line that was blamed there
  pub told_on : (before : List Row) (p : Place) (row : Row) (why : ReportCode) → On before p → first p.rows ≡ Some row → why ≡ told_code (fits before row) row → Coded (why, p.number)
  told_on before p row why on here e = e ∙ (ap (code_of before) (sym here) ∙ sym (code_on before p p.number on refl))

  -- ---- places behind the names

  -- a place at which a line with rules can only have one of these forms
  pub record At (names : List (List ℕ)) (joined : Bool) (forms : List Form) (p : Place) : Type 0 where
    pub before : List Row
    pub on : On before p
    pub named : (more : List Row) → names_in (before ++ more) ≡ names
    pub section : is_joined (map first_word before) ≡ joined
    pub awaits : (row : Row) → first p.rows ≡ Some row → fits before row ≡ list_any (λ form. form row) forms

  module _ (names : List (List ℕ)) (joined : Bool) (forms : List Form) where
    pub coded_at : (p : Place) (row : Row) (why : ReportCode) → At names joined forms p → first p.rows ≡ Some row → why ≡ told_code (list_any (λ form. form row) forms) row → Coded (why, p.number)
    coded_at p row why at here is = is ∙ (ap (λ b. told_code b row) (sym (at.awaits row here)) ∙ (ap (code_of at.before) (sym here) ∙ sym (code_on at.before p p.number at.on refl)))

    pub lacking_at : (p : Place) → At names joined forms p → first p.rows ≡ None → Coded (code.Truncated, p.number)
    lacking_at p at here = ap (code_of at.before) (sym here) ∙ sym (code_on at.before p p.number at.on refl)

    -- behind a line with this first word
    pub onward : (w : List ℕ) (now : Bool) (later : List Form) → (joined || bytes_eq w (codes "joined")) ≡ now → ((patterned : Bool) → forms_after patterned names now w ≡ later)
        → (p : Place) (row : Row) → At names joined forms p → first p.rows ≡ Some row → first_word row ≡ w → At names now later (behind p)
    onward w now later section next p row at here is =
        let all : List Row = at.before ++ row ∷ [] in
        let joined_now : is_joined (map first_word all) ≡ now = joined_on at.before row ∙ (ap (λ b. b || bytes_eq (first_word row) (codes "joined")) at.section ∙ (ap (λ v. joined || bytes_eq v (codes "joined")) is ∙ section)) in
        record {
          before = all;
          on = next_on at.before p row at.on here;
          named = λ more. ap names_in (append_assoc at.before (row ∷ []) more) ∙ at.named (row ∷ more);
          section = joined_now;
          awaits = λ r h. ap (λ fs. list_any (λ form. form r) fs) (ap (forms_behind all) (last_is at.before row None)
              ∙ (ap (λ n. forms_after (is_patterned all) n (is_joined (map first_word all)) (first_word row)) (at.named (row ∷ []))
              ∙ (ap (λ j. forms_after (is_patterned all) names j (first_word row)) joined_now ∙ (ap (forms_after (is_patterned all) names now) is ∙ next (is_patterned all)))));
        }

    pub line_goes : {A : Type 0} (w : List ℕ) (now : Bool) (later : List Form) → (joined || bytes_eq w (codes "joined")) ≡ now → ((patterned : Bool) → forms_after patterned names now w ≡ later)
        → (check : Option Row → Result A ReportCode) (p : Place) → At names joined forms p → check None ≡ Err code.Truncated
        → ((row : Row) → first p.rows ≡ Some row → Gives (λ (why : ReportCode). why ≡ told_code (list_any (λ form. form row) forms) row) (λ (x : A). first_word row ≡ w) (check (Some row)))
        → Gives Coded (λ (x : A × Place). At names now later x.1) (line_part check p)
    line_goes {A} w now later section next check p at lacks goes = grind (arith, part_goes, gives_fail, lacking_at, gives_like, coded_at, onward)

    -- no line begins with the word
    abbrev pub Behind : {A : Type 0} → List ℕ → A × Place → Type 0
    Behind word x = At names joined forms x.1 × ((row : Row) → first x.1.rows ≡ Some row → begins word row.bytes ≡ false)

    none_left : (rs : List Row) (row : Row) → length rs ≤ 0 → first rs ≡ Some row → ⊥
    none_left [] row few h = absurd (cc)
    none_left (r ∷ rs) row few h = absurd (omega (arith, few))

    module _ {A C : Type 0} (E : C × ℕ → Type 0) (word : List ℕ) (check : List A → Place → Result (A × Place) (C × ℕ))
        (each : (before : List A) (p : Place) → At names joined forms p → row_begins word (first p.rows) ≡ true → Gives E (λ x. At names joined forms x.1 × (length x.1.rows < length p.rows)) (check before p)) where
      pub parts_go : (fuel : ℕ) (before : List A) (p : Place) → length p.rows ≤ fuel → At names joined forms p → Gives E (Behind word) (parts_from word check fuel before p)
      parts_go zero before p few at = gives_done (before, p) (at, λ row h. absurd (none_left p.rows row few h))
      parts_go (suc fuel) before p few at =
          choose_gives (row_begins word (first p.rows)) _ (before, p)
          (λ begun. goes_on _ _ (each before p at begun) (λ x read gone. let shorter = gone.1 in parts_go fuel (before ++ x.0 ∷ []) x.1 (omega (arith, shorter, few)) gone.0))
          (λ other. (at, λ row h. ap (row_begins word) (sym h) ∙ other))

    module _ {A C : Type 0} (E : C × ℕ → Type 0) (word : List ℕ) (free : IsOneWord word) (section : (joined || bytes_eq word (codes "joined")) ≡ joined) (next : (patterned : Bool) → forms_after patterned names joined word ≡ forms) (check : List A → Option Row → Result A C)
        (blames : (before : List A) (p : Place) (row : Row) (why : C) → At names joined forms p → first p.rows ≡ Some row → begins (word ++ 32 ∷ []) row.bytes ≡ true → check before (Some row) ≡ Err why → E (why, p.number)) where
      line_goes_on : (before : List A) (p : Place) → At names joined forms p → row_begins (word ++ 32 ∷ []) (first p.rows) ≡ true → Gives E (λ x. At names joined forms x.1 × (length x.1.rows < length p.rows)) (line_part (check before) p)
      line_goes_on before p at begun = grind (arith, part_goes, onward, first_of_front, one_less)

      pub lines_go : (p : Place) → At names joined forms p → Gives E (Behind (word ++ 32 ∷ [])) (lines_at (word ++ 32 ∷ []) check p)
      lines_go p at = subst (λ (r : Result (List A × Place) (C × ℕ)). Gives E (Behind (word ++ 32 ∷ [])) r) (sym (lines_are_parts (word ++ 32 ∷ []) check p))
          (parts_go E (word ++ 32 ∷ []) (line_by check) line_goes_on (length p.rows) [] p (omega arith) at)

  -- the line there has not the first of these forms
  pub less : (names : List (List ℕ)) (joined : Bool) (form : Form) (forms : List Form) (p : Place) → At names joined (form ∷ forms) p → ((row : Row) → first p.rows ≡ Some row → form row ≡ false) → At names joined forms p
  less names joined form forms p at none = grind arith
