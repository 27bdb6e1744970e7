-- No part of the topology leaves more lines and numbers than there were.
use Rattle.std.proofs.Common.{◌≡◌, ℕ, ◌+◌, ◌^◌, ◌<◌, ◌≤◌, suc, Bool, true, false, List, [], ◌∷◌, map, length, drop, Option, None, Result, Ok, Err, refl, sym, ap, ◌∙◌, arith, length-drop, ◌==◌, if◌then◌else◌}
use Rattle.text_lines.{specs.{Text.{Row, Place, rows_of, start, onto_row}, Check.{first, line_part}}, proofs.{Checks.part_ok, Gives.as_many}}
use Rattle.schedule.specs.Links.{GroupValue}
use Rattle.collective_spec.specs.Patterns.{PatternValue}
use Rattle.topology_text.{specs.{Spelling.{group_words, custom_lines}, Reading.{groups_at, nodes_line, pattern_at}}, proofs.{Groups.groups_give, Patterns.pattern_gives}}
use Rattle.report_form.specs.{SynthLine.{AskedValue, asked_line}, Reading.version_line}
use Rattle.report_lines.specs.Room.{HasRoom, Onward}
use Rattle.frontier_report.specs.inner.Header.{HasMuchRoom}

-- a line that was there was taken
part_onward : {A C : Type 0} (check : Option Row → Result A C) (p : Place) (x : A × Place) (code : C) → check None ≡ Err code → line_part check p ≡ Ok x → Onward p x.1
part_onward {A} {C} check p x code lacking e = by_rows p.rows refl
  where
    by_rows : (rows : List Row) → p.rows ≡ rows → Onward p x.1
    by_rows [] none =
        let (passed, place_is) = part_ok check p x e in
        let missing : check None ≡ Ok x.0 = ap (λ (rs : List Row). check (first rs)) (sym none) ∙ passed in
        absurd (cc)
    by_rows (r ∷ rs) some =
        let (passed, place_is) = part_ok check p x e in
        let many : length x.1.rows ≡ length (drop 1 p.rows) = ap (λ (q : Place). length q.rows) place_is in
        let some_rows : length p.rows ≡ suc (length rs) = ap length some in
        omega (arith, ap (λ (q : Place). q.number) place_is, many, some_rows, length-drop 1 p.rows)

-- a line that was taken is counted
pub part_number : {A C : Type 0} (check : Option Row → Result A C) (p : Place) (x : A × Place) → line_part check p ≡ Ok x → x.1.number ≡ p.number + 1
part_number check p x e =
    let (passed, place_is) = part_ok check p x e in
    ap (λ (q : Place). q.number) place_is

pub nodes_onward : (p : Place) (x : List (List ℕ) × Place) → line_part nodes_line p ≡ Ok x → Onward p x.1
nodes_onward p x e = part_onward nodes_line p x _ refl e

pub groups_onward : (names : List (List ℕ)) (p : Place) (x : List GroupValue × Place) → groups_at names p ≡ Ok x → Onward p x.1
groups_onward names p x e = let t = (groups_give names p).ok x e in omega (arith, as_many (map (group_words names) x.0) p x.1 t.lines)

pub pattern_onward : (patterned : Bool) (names : List (List ℕ)) (p : Place) (x : Option PatternValue × Place) → pattern_at patterned names p ≡ Ok x → Onward p x.1
pattern_onward patterned names p x e = let t = (pattern_gives patterned names p).ok x e in omega (arith, as_many (custom_lines names x.0) p x.1 t.lines)

-- ---- how many lines a text has

onto_few : (b : ℕ) (rows : List Row) → length (onto_row b rows) ≤ length rows + 1
onto_few b [] = omega arith
onto_few b (r ∷ rs) = omega arith

-- each line has a byte of its own, its line feed or its first
pub rows_few : (text : List ℕ) → length (rows_of text) ≤ length text
rows_few [] = omega arith
rows_few (b ∷ bs) =
    let rest = rows_few bs in
    let onto = onto_few b (rows_of bs) in
    elim (b == 10) as (λ t. length (if t then record { bytes = []; whole = true } ∷ rows_of bs else onto_row b (rows_of bs)) ≤ length (b ∷ bs)) [ true ↦ omega arith | false ↦ omega arith ]

-- so a text of less than 2 GiB has lines that can be numbered
pub lines_of_short : (text : List ℕ) → length text < 2 ^ 31 → length (rows_of text) + 2 < 2 ^ 32
lines_of_short text short = omega (arith, rows_few text, short)

-- a text of not too many lines has room for their numbers
pub room_at_first : (text : List ℕ) (p : Place) → length (rows_of text) + 2 < 2 ^ 32 → p ≡ start text → HasRoom p
room_at_first text p few first =
    let number : p.number ≡ 1 = ap (λ (x : Place). x.number) first in
    let rows : length p.rows ≡ length (rows_of text) = ap (λ (x : Place). length x.rows) first in
    omega (arith, number, rows, few)

-- and so has what follows
pub room_kept : (p q : Place) → HasRoom p → Onward p q → HasRoom q
room_kept p q room onward = omega arith

-- behind the line of the version and that of what was asked stands the third line
pub third_line : (text : List ℕ) (patterned : Bool) (asked : AskedValue) (p p1 p2 : Place) → p ≡ start text → line_part version_line p ≡ Ok (patterned, p1) → line_part (asked_line patterned) p1 ≡ Ok (asked, p2) → p2.number ≡ 3
third_line text patterned asked p p1 p2 at_first version words =
    let number : p.number ≡ 1 = ap (λ (x : Place). x.number) at_first in
    omega (arith, number, part_number version_line p (patterned, p1) version, part_number (asked_line patterned) p1 (asked, p2) words)

-- from there on there is room for a topology's lines
pub header_room : (p : Place) → p.number ≡ 3 → HasMuchRoom p
header_room p third = omega arith

pub names_room : (p q : Place) → p.number ≡ 3 → q.number ≤ p.number + 1 → HasMuchRoom q
names_room p q third header = omega arith

pub groups_room : (p q r : Place) → p.number ≡ 3 → q.number ≤ p.number + 1 → r.number ≤ q.number + 1 → HasMuchRoom r
groups_room p q r third header names = omega arith

pub pattern_room : (p q r s : Place) → p.number ≡ 3 → q.number ≤ p.number + 1 → r.number ≤ q.number + 1 → s.number ≤ r.number + 256 → HasMuchRoom s
pattern_room p q r s third header names groups = omega arith
