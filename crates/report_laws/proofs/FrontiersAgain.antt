-- The lines of a report's parts that are spelled are read.
use Rattle.std.proofs.{Common.{◌≡◌, ℕ, ◌≤◌, List, [], ◌∷◌, ◌++◌, map, length, refl, sym, ap, ◌∙◌, subst, arith, ◌≢◌, codes, flat_map, All, IfSome}, lemmas.List.{length-append, length-map, Elements.{All-head, All-tail, All-map, All-weaker}}}
use Rattle.text_lines.{specs.{Text.Row, Repeated.parts_at}, proofs.{Gives.rows_split, ReadBack.{Reads, reads_here, reads_as, reads_then, Ends, lines_again, parts_again}, Repeated.place, Rows.row_of}}
use Rattle.outer_ports.specs.declared.part.Part.{Part}
use Rattle.outer_ports.specs.declared.part.Part.TheVariants as part
use Rattle.collective_spec.{specs.{declared.kind.Kind.Kind, Patterns.IsPattern}, proofs.Chunks.FewBase}
use Rattle.collective_spec.specs.declared.kind.Kind.TheVariants as kind
use Rattle.candidate_order.specs.{Ranges.IsLimits, Frontiers.{QuestionValue, PointValue, FrontierValue, IsWithin, IsUnknown}}
use Rattle.topology_text.specs.{Value.NamedTopologyValue, Names.AreNames}
use Rattle.report_form.specs.{Reports.{WordsValue, IsPrintedPoint, IsFrontier, IsJoinedPoint, question_of}}
use Rattle.report_form.specs.{Spelling.{point_lines, refuted_words, unknown_words, part_words, frontier_lines, joined_lines}, Points.{frontier_point_at, joined_point_at}}
use Rattle.report_form.{specs.Reading.{refuted_line, unknown_line, part_bytes, frontier_at, frontiers_from, joined_at}, proofs.{ListsTaken.{AreListed, AreUnknown}, PointsTaken.ArePoints, FrontiersTaken.IsFrontierOf}}
use Rattle.report_laws.proofs.{LinesAgain.fixed_part_again, JoinedAgain.joined_reads, ListsAgain.{behind_lines, refuted_reads, unknown_reads}, PointsAgain.{base_of, point_reads}}

-- ---- what follows a part

-- the next line goes on with nothing that a part or a topology has
pub record EndsPart (rows : List Row) : Type 0 where
  pub group : Ends (codes "group ") rows
  pub point : Ends (codes "point ") rows
  pub send : Ends (codes "send ") rows
  pub refuted : Ends (codes "refuted ") rows
  pub unknown : Ends (codes "unknown ") rows

pub end_ends : (rows : List Row) → EndsPart (row_of (codes "end" ∷ []) ∷ rows)
end_ends rows = record { group = refl; point = refl; send = refl; refuted = refl; unknown = refl }

pub part_ends : (x : Part) (rows : List Row) → EndsPart (row_of (part_words x) ∷ rows)
part_ends x rows = grind arith

-- there are no more parts than lines
parts_fit : {A : Type 0} (spell : A → List (List (List ℕ))) → ((x : A) → 1 ≤ length (spell x)) → (xs : List A) (rest : List Row) → length xs ≤ length (map row_of (flat_map spell xs) ++ rest)
parts_fit spell some [] rest = omega arith
parts_fit spell some (x ∷ xs) rest = grind (arith, length-map, row_of, length-append, parts_fit spell some xs rest)

points_fit : (names : List (List ℕ)) (ps : List PointValue) (rest : List Row) → length ps ≤ length (map row_of (flat_map (point_lines names) ps) ++ rest)
points_fit names ps rest = parts_fit (point_lines names) (λ p. omega arith) ps rest

-- ---- one frontier

module _ (names : List (List ℕ)) (q : QuestionValue) (as_many : length names ≡ q.topology.nodes) (named : AreNames names) (ok : IsLimits q.limits) (base : FewBase q.spec) where
  points_are : (f : FrontierValue) → IsFrontier q f → ArePoints names q as_many f.points
  points_are f is = record { each = is.points; listed = record { within = All-map (IsWithin q) (λ p. p.candidate) f.points (All-weaker (IsPrintedPoint q) (λ p. IsWithin q p.candidate) (λ p i. i.within) f.points is.points); ascending = is.points_ascend } }

  pub frontier_again : (x : Part) (f : FrontierValue) (n : ℕ) (rest : List Row) → IsFrontier q f → EndsPart rest → Reads (frontier_at names q x (place n (map row_of (frontier_lines names (x, f)) ++ rest))) f rest
  unfolding frontier_at
  frontier_again x f n rest is ends =
      let points : List (List (List ℕ)) = flat_map (point_lines names) f.points in
      let refuted : List (List (List ℕ)) = map refuted_words f.refuted in
      let unknown : List (List (List ℕ)) = map unknown_words f.unknown in
      let third : List Row = map row_of unknown ++ rest in
      let second : List Row = map row_of refuted ++ third in
      let rows : List Row = map row_of points ++ second in
      let split : map row_of (points ++ (refuted ++ unknown)) ++ rest ≡ rows = rows_split points (refuted ++ unknown) rest ∙ ap (λ rs. map row_of points ++ rs) (rows_split refuted unknown rest) in
      subst (λ (rs : List Row). Reads (frontier_at names q x (place n (row_of (part_words x) ∷ rs))) f rest) (sym split)
      (reads_then _ _ (fixed_part_again (part_bytes x) (part_words x) n rows (grind arith))
      (λ k. reads_then _ _ (parts_again (codes "point ") (frontier_point_at names q) (point_lines names) (ArePoints names q as_many) (Ends (codes "send ")) (point_reads names q as_many named ok base) (length rows) [] f.points k second (points_fit names f.points second) (points_are f is)
      (behind_lines (codes "point ") refuted_words f.refuted third (λ y. refl) (behind_lines (codes "point ") unknown_words f.unknown rest (λ y. refl) ends.point))
      (behind_lines (codes "send ") refuted_words f.refuted third (λ y. refl) (behind_lines (codes "send ") unknown_words f.unknown rest (λ y. refl) ends.send)))
      (λ k2. reads_then _ _ (lines_again (codes "refuted ") (refuted_line q) refuted_words (AreListed q) (refuted_reads q ok) [] f.refuted k2 third (record { within = is.refuted; ascending = is.refuted_ascend })
      (behind_lines (codes "refuted ") unknown_words f.unknown rest (λ y. refl) ends.refuted))
      (λ k3. reads_then _ _ (lines_again (codes "unknown ") (unknown_line q) unknown_words (AreUnknown q) (unknown_reads q ok) [] f.unknown k3 rest
      (record { each = is.unknown; listed = record { within = All-map (IsWithin q) (λ u. u.candidate) f.unknown (All-weaker (IsUnknown q) (λ u. IsWithin q u.candidate) (λ u i. i.within) f.unknown is.unknown); ascending = is.unknown_ascend } }) ends.unknown)
      (λ m. reads_here f m rest)))))

-- ---- all frontiers

-- what follows a frontier: the next one, or what follows them all
pub frontiers_end : (names : List (List ℕ)) (fs : List (Part × FrontierValue)) (rest : List Row) → EndsPart rest → EndsPart (map row_of (flat_map (frontier_lines names) fs) ++ rest)
frontiers_end names [] rest ends = ends
frontiers_end names (x ∷ fs) rest ends = grind (arith, part_ends, row_of)

module _ (words : WordsValue) (t : NamedTopologyValue) (as_many : length t.names ≡ t.topology.nodes) (named : AreNames t.names) (ok : IsLimits words.limits) (pattern : IfSome t.custom (IsPattern t.topology.nodes)) where
  pub frontiers_again : (fs : List (Part × FrontierValue)) (n : ℕ) (rest : List Row) → All (λ x. IsFrontier (question_of words t x.0) x.1) fs → EndsPart rest
      → Reads (frontiers_from words t (map (λ x. x.0) fs) (place n (map row_of (flat_map (frontier_lines t.names) fs) ++ rest))) fs rest
  frontiers_again [] n rest all ends = reads_here [] n rest
  frontiers_again (x ∷ fs) n rest all ends =
      let behind : List Row = map row_of (flat_map (frontier_lines t.names) fs) ++ rest in
      subst (λ (rs : List Row). Reads (frontiers_from words t (map (λ y. y.0) (x ∷ fs)) (place n rs)) (x ∷ fs) rest) (sym (rows_split (frontier_lines t.names x) (flat_map (frontier_lines t.names) fs) rest))
      (reads_then _ _ (frontier_again t.names (question_of words t x.0) as_many named ok (base_of words t x.0 pattern) x.0 x.1 n behind (All-head (IsFrontierOf words t) x fs all) (frontiers_end t.names fs rest ends))
      (λ k. reads_then _ _ (frontiers_again fs k rest (All-tail (IsFrontierOf words t) x fs all) ends) (λ m. reads_here (x ∷ fs) m rest)))

  -- ---- joined points

  pub joined_again : (k : Kind) (js : List PointValue) (n : ℕ) (rest : List Row) → All (IsJoinedPoint (question_of words t part.Joined)) js → (k ≢ kind.Allreduce → js ≡ []) → EndsPart rest
      → Reads (joined_at k words t (place n (map row_of (joined_lines t.names k js) ++ rest))) js rest
  joined_again kind.Allreduce js n rest all only ends =
      let q = question_of words t part.Joined in
      let rows : List Row = map row_of (flat_map (point_lines t.names) js) ++ rest in
      reads_then _ (λ h. parts_at (codes "point ") (joined_point_at t.names q) h.1) (fixed_part_again (part_bytes part.Joined) (part_words part.Joined) n rows refl)
      (λ k. parts_again (codes "point ") (joined_point_at t.names q) (point_lines t.names) (λ ps. All (IsJoinedPoint q) ps) (Ends (codes "send ")) (joined_reads t.names q as_many named ok (base_of words t part.Joined pattern)) (length rows) [] js k rest (points_fit t.names js rest) all ends.point ends.send)
  joined_again k js n rest all only ends = reads_as _ (sym (only (λ e. cc))) (reads_here [] n rest)

  -- what follows the frontiers: the line of the joined points, or what follows them
  pub joined_end : (k : Kind) (js : List PointValue) (rest : List Row) → EndsPart rest → EndsPart (map row_of (joined_lines t.names k js) ++ rest)
  joined_end k js rest ends = grind (arith, part_ends, row_of)
