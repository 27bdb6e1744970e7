-- Lines that are passed over, one after the other.
use Rattle.std.proofs.{Common.{◌≡◌, ℕ, ◌+◌, ◌-◌, ◌<◌, ◌≤◌, Bool, true, false, List, length, get_or, drop, slice_range, refl, ap, ◌∙◌, ⊎_elim, arith}, lemmas.{Bool.cases_lt, List.{drop-drop, drop_all, get_or-drop, length-take, length-drop}}}
use Rattle.text_lines.{specs.Text.rows_of, proofs.Rows.{rows_step, rows_end_at}}
use Rattle.lrat_text.specs.{declared.holding.HeldLine.HeldLine, Reading.{Said, nothing_said, said_by}, inner.Holding.{IsClear, IsFirstFrom, IsHolding}}

-- ---- the first line

abbrev held : ℕ → ℕ → Bool → HeldLine
held end behind whole = record { end = end; behind = behind; whole = whole }

part_size : (bytes : List ℕ) (from end : ℕ) → from ≤ end → end ≤ length bytes → length (slice_range bytes from end) ≡ end - from
part_size bytes from end ordered within = omega (arith, length-take (end - from) (drop from bytes), length-drop from bytes)

pub clear_through : (bytes : List ℕ) (from searched end : ℕ) → IsClear bytes from searched → IsClear bytes searched end → IsClear bytes from end
clear_through bytes from searched end before after = λ k low high. ⊎_elim (λ early. before k low early) (λ late. after k late high) (cases_lt k searched)

pub whole_line : (bytes : List ℕ) (finished : Bool) (from searched end : ℕ) → from ≤ searched → searched ≤ end → end < length bytes → IsClear bytes from searched → IsClear bytes searched end → get_or bytes end 0 ≡ 10 → IsFirstFrom bytes finished from (held end (end + 1) true)
whole_line bytes finished from searched end ordered on low before after here = grind (arith, part_size, rows_step, clear_through)

pub last_line : (bytes : List ℕ) (finished : Bool) (from searched end : ℕ) → finished ≡ true → from ≤ searched → searched ≤ end → end ≤ length bytes → length bytes ≤ end → from < end → IsClear bytes from searched → IsClear bytes searched end → IsFirstFrom bytes finished from (held end end false)
last_line bytes finished from searched end last ordered on within all some before after = grind (arith, part_size, rows_end_at, clear_through)

pub nothing_left : (bytes : List ℕ) (finished : Bool) (from place : ℕ) → length bytes ≤ from → said_by finished place (rows_of (drop from bytes)) ≡ nothing_said
nothing_left bytes finished from place all = ap (λ bs. said_by finished place (rows_of bs)) (drop_all from bytes all)

pub no_line : (bytes : List ℕ) (finished : Bool) (from searched end place : ℕ) → finished ≡ false → from < end → from ≤ searched → searched ≤ end → end ≤ length bytes → length bytes ≤ end → IsClear bytes from searched → IsClear bytes searched end
    → said_by finished place (rows_of (drop from bytes)) ≡ nothing_said
no_line bytes finished from searched end place more some ordered on within all before after =
    ap (said_by finished place) (rows_end_at bytes from end within all (omega arith) (λ e. absurd (omega arith)) (clear_through bytes from searched end before after)) ∙ rw more refl

-- ---- lines that say nothing

-- what is said behind so many bytes
abbrev behind_bytes : ℕ → Said → Said
behind_bytes taken said = record { answer = said.answer; taken = taken + said.taken }

-- the lines in front say nothing, so that what the text says is said behind them
pub record IsPassed (finished : Bool) (place : ℕ) (bytes : List ℕ) (taken : ℕ) : Type 0 where
  pub same : said_by finished place (rows_of bytes) ≡ behind_bytes taken (said_by finished (place + taken) (rows_of (drop taken bytes)))

-- ---- a reader behind what was taken

pub taken_off : (bytes rest : List ℕ) (start before place taken searched : ℕ) → IsHolding bytes start before place → rest ≡ drop start bytes → taken ≤ searched → searched ≤ length rest → IsClear rest taken searched → IsHolding bytes (start + taken) (searched - taken) (place + taken)
taken_off bytes rest start before place taken searched held same ordered within clear =
    grind (arith, drop-drop taken start bytes, length-drop start bytes, length-drop (start + taken) bytes, get_or-drop taken rest)
