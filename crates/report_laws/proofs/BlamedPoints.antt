-- A line of a point or of a list that is blamed has the code of its form.
use Rattle.std.proofs.Common.{◌≡◌, ℕ, ◌<◌, Bool, true, false, ◌&&◌, ◌||◌, List, [], ◌∷◌, ◌++◌, map, length, None, Result, refl, sym, ap, ◌∙◌, arith, ◌==◌, codes, bytes_eq, slice_index_or, drop, is_some}
use Rattle.std.{proofs.Math.Bool.or-false, specs.List.{list_any, last_or}}
use Rattle.text_lines.specs.{Text.{Row, Place, words_of}, Check.{◌>>=◌, first, line_part}, Number.number_up_to, Repeated.{begins, row_begins, parts_at}}
use Rattle.text_lines.proofs.{Gives.{Gives, gives_done, gives_like}, Steady.piece_shortens, Words.begins_is}
use Rattle.collective_spec.specs.Collectives.{chunks_in}
use Rattle.outer_ports.specs.declared.part.Part.{Part}
use Rattle.candidate_order.specs.declared.mark.Mark.TheVariants as mark
use Rattle.candidate_order.specs.Frontiers.{QuestionValue, PointValue, FrontierValue}
use Rattle.report_form.specs.{Points.{HeadValue, head_from, joined_head_from, may_join, rounds_from, are_rounds, rounds_line, send_from, send_line, may_be_sent, follows, schedule_at, frontier_point_at, joined_point_at}, Lines.fixed_line}
use Rattle.report_form.{specs.{Reading.{part_bytes, refuted_from, refuted_line, unknown_from, unknown_line, frontier_at}, declared.fault.ReportCode.ReportCode, Tests.{is_within, comes_next}}, proofs.LineTaken.{on_words, ruled_by}}
use Rattle.report_laws.specs.Shapes.{Token, Word, Any, has_shape, small, is_decimal, candidate_shape, send_shape, formed, rounds, unknown, refuted, results, forms_after}
use Rattle.report_laws.proofs.{LocalParts.steady_schedule, ShapesTold.{Told, mark_shape, rounds_shape, refuted_told, unknown_told, head_told, joined_head_told, rounds_told, send_told}}
use Rattle.report_laws.proofs.Blaming.{Form, goes_on, told_code, ruled_goes, fixed_goes, first_of_shape, first_of_front, unbegun, Coded, At, coded_at, line_goes, lines_go, parts_go, less}

-- ---- the one form that a line with this first word can have

abbrev tail_of : (word : List ℕ) → Row → List (List ℕ)
tail_of word row = words_of (drop (length (word ++ 32 ∷ [])) row.bytes)

abbrev point_shape : Bool → List Token
point_shape joined = candidate_shape (codes "point") (mark_shape joined)

abbrev refuted_shape : List Token
refuted_shape = candidate_shape (codes "refuted") []

abbrev unknown_shape : List Token
unknown_shape = candidate_shape (codes "unknown") (Any is_decimal ∷ [])

-- where the first of the forms is the only one that fits these words
alone : (F test : List (List ℕ) → Bool) (row : Row) (ws : List (List ℕ)) → words_of row.bytes ≡ ws → F ws ≡ (test ws || false) → F (words_of row.bytes) ≡ test (words_of row.bytes)
alone F test row ws is same = ap F is ∙ (same ∙ (or-false (test ws) ∙ ap test (sym is)))

point_alone : (joined : Bool) (row : Row) (rest : List (List ℕ)) → words_of row.bytes ≡ codes "point" ∷ rest → list_any (λ form. form row) (results joined) ≡ has_shape (point_shape joined) (words_of row.bytes)
point_alone joined row rest is = grind (arith, or-false, alone)

refuted_alone : (row : Row) (rest : List (List ℕ)) → words_of row.bytes ≡ codes "refuted" ∷ rest → list_any (λ form. form row) (refuted ∷ unknown ∷ []) ≡ has_shape refuted_shape (words_of row.bytes)
refuted_alone row rest is = alone (λ ws. has_shape refuted_shape ws || (has_shape unknown_shape ws || false)) (has_shape refuted_shape) row (codes "refuted" ∷ rest) is refl

send_alone : (names : List (List ℕ)) (joined : Bool) (row : Row) (rest : List (List ℕ)) → words_of row.bytes ≡ codes "send" ∷ rest → list_any (λ form. form row) (formed (send_shape names) ∷ results joined) ≡ has_shape (send_shape names) (words_of row.bytes)
send_alone names joined row rest is = grind (arith, alone)

-- the code by that form
alone_code : {b c : Bool} (row : Row) (why : ReportCode) → c ≡ b → why ≡ told_code b row → why ≡ told_code c row
alone_code row why same e = e ∙ ap (λ t. told_code t row) (sym same)

-- a line with a word and a number begins with the word and a space
no_form : (word : List ℕ) (shape : List Token) (row : Row) → begins (word ++ 32 ∷ []) row.bytes ≡ false → has_shape (Word word ∷ small ∷ shape) (words_of row.bytes) ≡ false
no_form word shape row other = unbegun word (λ w. is_some (number_up_to 65535 w)) shape row other

-- the line that begins the part of a frontier
abbrev pub IsTitle : Part → Type 0
IsTitle part = slice_index_or (words_of (part_bytes part)) 0 [] ≡ codes "frontier"

module _ (rows : List Row) (names : List (List ℕ)) where
  -- ---- points

  module _ (q : QuestionValue) (joined : Bool) where
    schedule_goes : (head : HeadValue) (p : Place) → At rows names joined (rounds ∷ []) p → Gives (Coded rows) (λ (x : PointValue × Place). At rows names joined (results joined) x.1) (schedule_at names q head p)
    unfolding schedule_at
    schedule_goes head p at =
        goes_on _ _
        (line_goes rows names joined (rounds ∷ []) (codes "rounds") joined (formed (send_shape names) ∷ results joined) (or-false joined) (λ b. refl) (rounds_line head.candidate) p at refl
        (λ row here. gives_like (λ why is. alone_code row why (or-false (rounds row)) is) (λ rs has. first_of_shape (codes "rounds") (map (λ w. small) (drop 1 (words_of row.bytes))) row has) (ruled_goes (λ words. has_shape (rounds_shape words) words) rounds_from (are_rounds head.candidate) (λ rs. rs) (λ ws. (rounds_told ws).told) row)))
        (λ rs read at_rounds. goes_on _ _
        (lines_go rows names joined (formed (send_shape names) ∷ results joined) (Coded rows) (codes "send") refl (or-false joined) (λ b. refl) (send_line names (chunks_in q.spec q.topology.nodes head.candidate.c) head.candidate.s)
        (λ before p row why at is begun e. coded_at rows names joined (formed (send_shape names) ∷ results joined) p row why at is (alone_code row why (send_alone names joined row (tail_of (codes "send") row) (begins_is (codes "send") row.bytes refl begun))
        ((ruled_goes (has_shape (send_shape names)) (send_from names) (λ h. may_be_sent (chunks_in q.spec q.topology.nodes head.candidate.c) head.candidate.s h && follows (last_or None before) h) (λ h. h) (λ ws. (send_told names ws).told) row).err why e))) rs.1 at_rounds)
        (λ s sent left. gives_done _ (less rows names joined (formed (send_shape names)) (results joined) s.1 left.0 (λ row h. no_form (codes "send") (drop 2 (send_shape names)) row (left.1 row h)))))

    -- a point, whose line a check of its shape and a rule reads
    module _ {A : Type 0} (shape : List (List ℕ) → Result A ReportCode) (rule : A → Bool) (made : A → HeadValue) (told : (words : List (List ℕ)) → Told (has_shape (point_shape joined) words) (shape words)) where
      pub point_goes : (p : Place) → At rows names joined (results joined) p → row_begins (codes "point ") (first p.rows) ≡ true
          → Gives (Coded rows) (λ (x : PointValue × Place). At rows names joined (results joined) x.1 × (length x.1.rows < length p.rows)) (line_part (on_words (ruled_by shape rule made)) p >>= (λ h. schedule_at names q h.0 h.1))
      point_goes p at begun =
          let g = goes_on _ (λ h. schedule_at names q h.0 h.1)
          (line_goes rows names joined (results joined) (codes "point") joined (rounds ∷ []) (or-false joined) (λ b. refl) (on_words (ruled_by shape rule made)) p at refl
          (λ row here. let front = ap (row_begins (codes "point ")) (sym here) ∙ begun in
          gives_like (λ why is. alone_code row why (point_alone joined row (tail_of (codes "point") row) (begins_is (codes "point") row.bytes refl front)) is) (λ h is. first_of_front (codes "point") row refl front) (ruled_goes (has_shape (point_shape joined)) shape rule made told row)))
          (λ h read at_head. schedule_goes h.0 h.1 at_head) in
          record { ok = λ x read. (g.ok x read, piece_shortens (codes "point ") (λ before. on_words (ruled_by shape rule made)) (λ h. schedule_at names q h.0 h.1) (steady_schedule names q) [] p x begun read); err = g.err }

  frontier_point_goes : (q : QuestionValue) (before : List PointValue) (p : Place) → At rows names false (results false) p → row_begins (codes "point ") (first p.rows) ≡ true
      → Gives (Coded rows) (λ (x : PointValue × Place). At rows names false (results false) x.1 × (length x.1.rows < length p.rows)) (frontier_point_at names q before p)
  unfolding frontier_point_at
  frontier_point_goes q before p at begun = point_goes q false head_from (λ h. is_within q h.candidate && comes_next (last_or None (map (λ x. x.candidate) before)) h.candidate) (λ h. h) (λ ws. (head_told ws).told) p at begun

  joined_point_goes : (q : QuestionValue) (before : List PointValue) (p : Place) → At rows names true (results true) p → row_begins (codes "point ") (first p.rows) ≡ true
      → Gives (Coded rows) (λ (x : PointValue × Place). At rows names true (results true) x.1 × (length x.1.rows < length p.rows)) (joined_point_at names q before p)
  unfolding joined_point_at
  joined_point_goes q before p at begun = point_goes q true joined_head_from (λ h. may_join q h.0 h.1) (λ h. record { candidate = h.0; mark = mark.Joined h.1 }) (λ ws. (joined_head_told ws).told) p at begun

  abbrev pub Settled : {A : Type 0} → Bool → A × Place → Type 0
  Settled joined x = At rows names joined [] x.1

  -- the points that join two others
  pub joined_points_go : (q : QuestionValue) (p : Place) → At rows names true (results true) p → Gives (Coded rows) (Settled {A = List PointValue} true) (parts_at (codes "point ") (joined_point_at names q) p)
  joined_points_go q p at = gives_like (λ e coded. coded) (λ x left. less rows names true (formed (point_shape true)) [] x.1 left.0 (λ row h. no_form (codes "point") (small ∷ small ∷ mark_shape true) row (left.1 row h)))
      (parts_go rows names true (results true) (Coded rows) (codes "point ") (joined_point_at names q) (joined_point_goes q) (length p.rows) [] p (omega arith) at)

  -- ---- a frontier

  -- a line that is written out, behind which these forms may stand
  pub title_goes : (joined now : Bool) (bytes w : List ℕ) (later : List Form) → slice_index_or (words_of bytes) 0 [] ≡ w → (joined || bytes_eq w (codes "joined")) ≡ now → ((patterned : Bool) → forms_after patterned names now w ≡ later)
      → (p : Place) → At rows names joined [] p → Gives (Coded rows) (λ (x : Unit {0} × Place). At rows names now later x.1) (line_part (fixed_line bytes) p)
  title_goes joined now bytes w later is section next p at = line_goes rows names joined [] w now later section next (fixed_line bytes) p at refl
      (λ row here. gives_like (λ why told. told) (λ u same. ap (λ bs. slice_index_or (words_of bs) 0 []) same ∙ is) (fixed_goes bytes row))

  pub frontier_goes : (q : QuestionValue) (part : Part) → IsTitle part → (p : Place) → At rows names false [] p → Gives (Coded rows) (Settled {A = FrontierValue} false) (frontier_at names q part p)
  unfolding frontier_at
  frontier_goes q part titled p at =
      goes_on _ _ (title_goes false false (part_bytes part) (codes "frontier") (results false) titled refl (λ b. refl) p at)
      (λ h read at_title. goes_on _ _ (parts_go rows names false (results false) (Coded rows) (codes "point ") (frontier_point_at names q) (frontier_point_goes q) (length h.1.rows) [] h.1 (omega arith) at_title)
      (λ x points left. goes_on _ _ (lines_go rows names false (refuted ∷ unknown ∷ []) (Coded rows) (codes "refuted") refl refl (λ b. refl) (refuted_line q)
      (λ before p row why at is begun e. coded_at rows names false (refuted ∷ unknown ∷ []) p row why at is (alone_code row why (refuted_alone row (tail_of (codes "refuted") row) (begins_is (codes "refuted") row.bytes refl begun))
      ((ruled_goes (has_shape refuted_shape) refuted_from (λ y. is_within q y && comes_next (last_or None before) y) (λ y. y) (λ ws. (refuted_told ws).told) row).err why e)))
      x.1 (less rows names false (formed (point_shape false)) (refuted ∷ unknown ∷ []) x.1 left.0 (λ row h. no_form (codes "point") (small ∷ small ∷ mark_shape false) row (left.1 row h))))
      (λ r refused gone. goes_on _ _ (lines_go rows names false (unknown ∷ []) (Coded rows) (codes "unknown") refl refl (λ b. refl) (unknown_line q)
      (λ before p row why at is begun e. coded_at rows names false (unknown ∷ []) p row why at is (alone_code row why (or-false (unknown row))
      ((ruled_goes (has_shape unknown_shape) unknown_from (λ u. is_within q u.candidate && comes_next (last_or None (map (λ y. y.candidate) before)) u.candidate && u.conflicts == q.limits.conflicts) (λ u. u) (λ ws. (unknown_told ws).told) row).err why e)))
      r.1 (less rows names false refuted (unknown ∷ []) r.1 gone.0 (λ row h. no_form (codes "refuted") (small ∷ small ∷ []) row (gone.1 row h))))
      (λ u given last. gives_done _ (less rows names false unknown [] u.1 last.0 (λ row h. no_form (codes "unknown") (small ∷ small ∷ Any is_decimal ∷ []) row (last.1 row h)))))))
