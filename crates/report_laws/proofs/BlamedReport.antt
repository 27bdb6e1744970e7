-- The line that the checks of a report blame has the code of its form.
use Rattle.std.proofs.Common.{◌≡◌, ℕ, zero, suc, ◌+◌, Bool, true, false, ◌||◌, not, List, [], ◌∷◌, ◌++◌, map, length, drop, Option, None, Some, Result, Ok, Err, refl, sym, ap, ◌∙◌, arith, ◌==◌, codes, bytes_eq, if◌then◌else◌, slice_index_or, is_ok}
use Rattle.std.{proofs.{Math.Bool.or-false, lemmas.{Bool.{and_parts, not-false, or_parts}, Option.same_Some, Slice.Eq.bytes_eq-Decides}}, specs.List.list_any}
use Rattle.text_lines.specs.{Text.{Row, Place, words_of, rows_of, start, behind}, Check.{refuse, first, line_part}, Repeated.{begins, parts_at}}
use Rattle.text_lines.proofs.{Checks.refuse_ok, Gives.{Gives, gives_done, gives_fail, gives_like}, Rows.{row_of, words_again}, Words.tokens_from}
use Rattle.schedule.specs.Links.{GroupValue}
use Rattle.outer_ports.specs.declared.part.Part.{Part, TheVariants.Joined}
use Rattle.collective_spec.specs.{declared.kind.Kind.Kind, Patterns.PatternValue}
use Rattle.collective_spec.specs.declared.kind.Kind.TheVariants as kind
use Rattle.candidate_order.specs.Frontiers.{PointValue, FrontierValue}
use Rattle.topology_text.specs.{declared.fault.TopologyCode.{TopologyCode, TheVariants.BadLine}, Value.{NamedTopologyValue, named_with}, Names.AreNames, Spelling.{nodes_words, head_words}}
use Rattle.topology_text.{specs.Reading.{header_line, nodes_line, groups_at, base_of, custom_line, holders_line, holders_at, Pairs, pattern_at}, proofs.{Front.{header_takes, nodes_line_take, nodes_are_words}, Groups.next_group}}
use Rattle.report_form.specs.{declared.fault.ReportCode.ReportCode, Reports.{WordsValue, ReportValue, parts_of, question_of}, Lines.no_line, Points.joined_point_at}
use Rattle.report_form.specs.{SynthLine.{AskedValue, kinds_of, asked_from, may_be_asked, asked_line, root_of, words_from}, Reading.{part_bytes, frontiers_from, joined_at, body_of, version_line, is_same, report_of}}
use Rattle.report_form.proofs.ReportTaken.{after_root, after_names, after_same, after_asked, after_head, report_at, report_is}
use Rattle.report_form.specs.declared.fault.ReportCode.TheVariants as code
use Rattle.report_laws.proofs.Blaming.{Form, is_joined, fits, last_is, goes_on, at_line_goes, part_goes, told_code, ruled_goes, first_of_shape, first_of_front, On, Coded, Unfit, code_on, unfit_on, among_goes, Stands, stands_goes, told_on, At, coded_at, onward, lines_go}
use Rattle.report_laws.{specs.Shapes.{has_shape, asked_shape, results, forms_after, first_word, is_patterned, names_in, code_of}, proofs.{BlamedPoints.{joined_points_go, IsTitle, title_goes, frontier_goes}, ShapesTold.asked_told}}

-- ---- the body

-- each part has a title
abbrev Titles : List Part → Type 0
Titles [] = Unit {0}
Titles (part ∷ parts) = IsTitle part × Titles parts

module _ (rows : List Row) (words : WordsValue) (t : NamedTopologyValue) where
  frontiers_go : (parts : List Part) → Titles parts → (p : Place) → At rows t.names false [] p → Gives (Coded rows) (λ (x : List (Part × FrontierValue) × Place). At rows t.names false [] x.1) (frontiers_from words t parts p)
  frontiers_go [] titles p at = gives_done _ at
  frontiers_go (part ∷ parts) titles p at = goes_on _ _ (frontier_goes rows t.names (question_of words t part) part titles.0 p at) (λ f read here. goes_on _ _ (frontiers_go parts titles.1 f.1 here) (λ rest more last. gives_done _ last))

  -- in one of the two sections
  abbrev InSection : List PointValue × Place → Type 0
  InSection x = (joined : Bool) × At rows t.names joined [] x.1

  joined_goes : (k : Kind) (p : Place) → At rows t.names false [] p → Gives (Coded rows) InSection (joined_at k words t p)
  joined_goes kind.Allreduce p at =
      goes_on _ (λ h. parts_at (codes "point ") (joined_point_at t.names (question_of words t Joined)) h.1) (title_goes rows t.names false true (part_bytes Joined) (codes "joined") (results true) refl refl (λ b. refl) p at)
      (λ h read here. gives_like (λ e coded. coded) (λ x last. (true, last)) (joined_points_go rows t.names (question_of words t Joined) h.1 here))
  joined_goes k p at = gives_done _ (false, at)

  nothing_goes : (joined : Bool) (p : Place) → At rows t.names joined [] p → Gives (Coded rows) (λ (x : Unit {0} × Place). Unit {0}) (line_part no_line p)
  nothing_goes joined p at = part_goes (Coded rows) (λ (x : Unit {0} × Place). Unit {0}) no_line p (by_line (first p.rows) refl)
    where
      by_line : (o : Option Row) → first p.rows ≡ o → Gives (λ (why : ReportCode). Coded rows (why, p.number)) (λ (u : Unit {0}). Unit {0}) (no_line o)
      by_line None here = gives_done tt tt
      by_line (Some row) here = gives_like (λ why is. coded_at rows t.names joined [] p row why at here is) (λ u v. v) (grind (arith, gives_fail))

  body_goes : (p : Place) → At rows t.names false [] p → Gives (Coded rows) (λ (x : ReportValue). Unit {0}) (body_of words t p)
  unfolding body_of
  body_goes p at =
      goes_on _ _ (frontiers_go (parts_of words.collective.kind) (grind arith) p at)
      (λ f read here. goes_on _ _ (joined_goes words.collective.kind f.1 here)
      (λ j more there. goes_on _ _ (title_goes rows t.names there.0 there.0 (codes "end") (codes "end") [] refl (or-false there.0) (λ b. refl) j.1 there.1)
      (λ e ended last. goes_on _ _ (nothing_goes there.0 e.1 last) (λ u none v. gives_done _ tt))))

-- ---- the topology behind its names

module _ (rows : List Row) (names : List (List ℕ)) where
  abbrev InTopology : {A : Type 0} → A × Place → Type 0
  InTopology x = At rows names false [] x.1

  -- a line after which none with rules may stand
  topology_line_goes : {A : Type 0} (w : List ℕ) → bytes_eq w (codes "joined") ≡ false → ((b : Bool) → forms_after b names false w ≡ []) → (check : Option Row → Result A TopologyCode) (p : Place) → At rows names false [] p → ((x : A) → check None ≡ Ok x → ⊥) → ((row : Row) (x : A) → check (Some row) ≡ Ok x → first_word row ≡ w)
      → Gives (Unfit rows) (InTopology {A = A}) (line_part check p)
  topology_line_goes {A} w apart none check p at lacking reads =
      part_goes (Unfit rows) (InTopology {A = A}) check p (record { ok = λ x e. by_line (first p.rows) refl x e; err = λ c e. unfit_on rows at.before p (c, p.number) at.on refl at.awaits })
    where
      by_line : (o : Option Row) → first p.rows ≡ o → (x : A) → check o ≡ Ok x → At rows names false [] (behind p)
      by_line None here x e = absurd (lacking x e)
      by_line (Some row) here x e = onward rows names false [] w false [] apart none p row at here (reads row x e)

  groups_go : (p : Place) → At rows names false [] p → Gives (Unfit rows) (InTopology {A = List GroupValue}) (groups_at names p)
  groups_go p at = gives_like (λ e unfit. unfit) (λ x gone. gone.0)
      (lines_go rows names false [] (Unfit rows) (codes "group") refl refl (λ b. refl) (next_group names) (λ before q row why here is begun e. unfit_on rows here.before q (why, q.number) here.on refl here.awaits) p at)

  custom_first : (row : Row) (base : ℕ) → custom_line (Some row) ≡ Ok base → first_word row ≡ codes "custom"
  custom_first row base e =
      let front : Bool = begins (codes "custom ") row.bytes in
      let two : Bool = length (words_of row.bytes) == 2 in
      let (shape, e1) = refuse_ok (not row.whole || not front || not two) BadLine (λ u. base_of (slice_index_or (words_of row.bytes) 1 [])) base e in
      let (early, pair) = or_parts (not row.whole || not front) (not two) shape in
      let (whole, begun) = or_parts (not row.whole) (not front) early in
      first_of_front (codes "custom") row refl (not-false front begun)

  holders_first : (word : List ℕ) (g : ℕ) (row : Row) (found : List ℕ) → holders_line names word g (Some row) ≡ Ok found → first_word row ≡ word
  holders_first word g row found e = grind (arith, refuse_ok, or_parts, not-false, slice_index_or, bytes_eq-Decides, and_parts, bytes_eq)

  holders_go : (left g : ℕ) (found : Pairs) (p : Place) → At rows names false [] p → Gives (Unfit rows) (InTopology {A = Pairs}) (holders_at names left g found p)
  holders_go zero g found p at = gives_done _ at
  holders_go (suc left) g found p at =
      goes_on _ _ (topology_line_goes (codes "before") refl (λ b. refl) (holders_line names (codes "before") g) p at (λ x e. absurd (cc)) (holders_first (codes "before") g))
      (λ x read here. goes_on _ _ (topology_line_goes (codes "after") refl (λ b. refl) (holders_line names (codes "after") g) x.1 here (λ y e. absurd (cc)) (holders_first (codes "after") g))
      (λ y more there. holders_go left (g + 1) _ y.1 there))

  pub pattern_goes : (patterned : Bool) (p : Place) → At rows names false [] p → Gives (Unfit rows) (InTopology {A = Option PatternValue}) (pattern_at patterned names p)
  unfolding pattern_at
  pattern_goes false p at = gives_done _ at
  pattern_goes true p at =
      goes_on _ _ (topology_line_goes (codes "custom") refl (λ b. refl) custom_line p at (λ x e. absurd (cc)) custom_first)
      (λ base read here. goes_on _ _ (holders_go base.0 0 (record { before = []; after = [] }) base.1 here) (λ found more there. gives_done _ there))

-- ---- the first lines

module _ (text : List ℕ) where
  abbrev all : List Row
  all = rows_of text

  abbrev Passed : ReportValue → Type 0
  Passed r = Unit {0}

  -- the forms that may stand behind these lines, by the first word of the last
  fits_after : (before : List Row) (r row : Row) (w : List ℕ) → first_word r ≡ w → (forms : List Form) → forms_after (is_patterned (before ++ r ∷ [])) (names_in (before ++ r ∷ [])) (is_joined (map first_word (before ++ r ∷ []))) w ≡ forms → fits (before ++ r ∷ []) row ≡ list_any (λ form. form row) forms
  fits_after before r row w is forms e = grind (arith, last_is, is_joined)

  module _ (head : Bool × Place) (r1 : Row) (on1 : On all (r1 ∷ []) head.1) (w1 : first_word r1 ≡ codes "sccl") (v1 : is_patterned (r1 ∷ []) ≡ head.0) where
    module _ (a : AskedValue × Place) (r2 : Row) (on2 : On all (r1 ∷ r2 ∷ []) a.1) (w2 : first_word r2 ≡ codes "synth") where
      module _ (d : Bool × Place) (r3 : Row) (on3 : On all (r1 ∷ r2 ∷ r3 ∷ []) d.1) (w3 : first_word r3 ≡ codes "topology") where
        -- behind the names
        module _ (n : List (List ℕ) × Place) (r4 : Row) (on4 : On all (r1 ∷ r2 ∷ r3 ∷ r4 ∷ []) n.1) (is4 : r4 ≡ row_of (nodes_words n.0)) (named : AreNames n.0) where
          root_goes : (root : ℕ) → Gives (Coded all) Passed (after_root all head.0 a.0 n root)
          root_goes root =
              goes_on _ _ (among_goes all (λ (x : List GroupValue × Place). At all n.0 false [] x.1) (groups_at n.0 n.1) (groups_go all n.0 n.1 (grind (arith, is_joined, fits_after, words_again, tokens_from, nodes_are_words))))
              (λ g read here. goes_on _ _ (among_goes all (λ (x : Option PatternValue × Place). At all n.0 false [] x.1) (pattern_at head.0 n.0 g.1) (pattern_goes all n.0 head.0 g.1 here))
              (λ c more there. body_goes all (words_from a.0 root) (named_with n.0 g.0 c.0) c.1 there))

        nodes_fit : (row : Row) → fits (r1 ∷ r2 ∷ r3 ∷ []) row ≡ is_ok (nodes_line (Some row))
        nodes_fit row = fits_after (r1 ∷ r2 ∷ []) r3 row (codes "topology") w3 ((λ r. is_ok (nodes_line (Some r))) ∷ []) refl ∙ or-false (is_ok (nodes_line (Some row)))

        behind_names : (n : List (List ℕ) × Place) → Stands all nodes_line (r1 ∷ r2 ∷ r3 ∷ []) d.1 n → Gives (Coded all) Passed (after_names all head.0 a.0 d.1.number n)
        behind_names n i =
            let (spelled, named) = nodes_line_take (Some i.row) n.0 i.read in
            let is : i.row ≡ row_of (nodes_words n.0) = same_Some i.row (row_of (nodes_words n.0)) spelled in
            let coded : (c : ReportCode) → root_of n.0 a.0.root ≡ Err c → Coded all (c, d.1.number) = λ c e. told_on all (r1 ∷ r2 ∷ r3 ∷ []) d.1 i.row c on3 i.here
            ((grind arith) ∙ (ap (λ b. if b then code.Limits else code.Truncated) (sym (ap (λ r. r.whole) is)) ∙ ap (λ b. told_code b i.row) (sym (nodes_fit i.row ∙ ap is_ok i.read)))) in
            goes_on _ _ (at_line_goes {N = λ (root : ℕ). Unit {0}} (Coded all) d.1.number (root_of n.0 a.0.root) (record { ok = λ root e. tt; err = coded })) (λ root read u. root_goes n i.row i.on is named root)

        behind_header : Gives (Coded all) Passed (after_same all head.0 a.0 d.1 tt)
        behind_header =
            goes_on _ _ (among_goes all (Stands all nodes_line (r1 ∷ r2 ∷ r3 ∷ []) d.1) (line_part nodes_line d.1) (stands_goes all (Unfit all) nodes_line (r1 ∷ r2 ∷ r3 ∷ []) d.1 on3 (λ x e. absurd (cc))
            (λ c e. unfit_on all (r1 ∷ r2 ∷ r3 ∷ []) d.1 (c, d.1.number) on3 refl (λ row h. nodes_fit row ∙ ap is_ok (ap nodes_line (sym h) ∙ e))))) (λ n read i. behind_names n i)

      -- no line with rules stands behind the words
      header_fits : (row : Row) → fits (r1 ∷ r2 ∷ []) row ≡ false
      header_fits row = fits_after (r1 ∷ []) r2 row (codes "synth") w2 [] refl

      after_asked_goes : Gives (Coded all) Passed (after_asked all head.0 a)
      after_asked_goes =
          goes_on _ _ (among_goes all (Stands all header_line (r1 ∷ r2 ∷ []) a.1) (line_part header_line a.1) (stands_goes all (Unfit all) header_line (r1 ∷ r2 ∷ []) a.1 on2 (λ x e. absurd (cc))
          (λ c e. unfit_on all (r1 ∷ r2 ∷ []) a.1 (c, a.1.number) on2 refl (λ row h. header_fits row))))
          (λ d read i.
          let is : i.row ≡ row_of (head_words d.0) = same_Some i.row (row_of (head_words d.0)) (header_takes (Some i.row) d.0 i.read) in
          goes_on _ _ (at_line_goes {N = λ (u : Unit {0}). Unit {0}} (Coded all) a.1.number (refuse (not (is_same d.0 head.0)) code.BadLine) (record {
            ok = λ u e. tt;
            err = λ c e. told_on all (r1 ∷ r2 ∷ []) a.1 i.row c on2 i.here
                (refused (is_same d.0 head.0) c e ∙ (ap (λ b. if b then code.BadLine else code.Truncated) (sym (ap (λ r. r.whole) is)) ∙ ap (λ b. told_code b i.row) (sym (header_fits i.row))));
          }))
          (λ u same v. behind_header d i.row i.on (ap first_word is ∙ (grind arith))))
        where
          refused : (b : Bool) (c : ReportCode) → refuse (not b) code.BadLine ≡ Err c → c ≡ code.BadLine
          refused b c e = grind arith

    -- ---- the words

    abbrev asked_test : List (List ℕ) → Bool
    asked_test words = list_any (λ k. has_shape (asked_shape k) words) (kinds_of head.0)

    asked_first : (ks : List Kind) (row : Row) → list_any (λ k. has_shape (asked_shape k) (words_of row.bytes)) ks ≡ true → first_word row ≡ codes "synth"
    asked_first [] row e = absurd (cc)
    asked_first (k ∷ ks) row e = by_test (has_shape (asked_shape k) (words_of row.bytes)) refl e (asked_first ks row)
      where
        by_test : (b : Bool) → has_shape (asked_shape k) (words_of row.bytes) ≡ b → (b || list_any (λ j. has_shape (asked_shape j) (words_of row.bytes)) ks) ≡ true → (list_any (λ j. has_shape (asked_shape j) (words_of row.bytes)) ks ≡ true → first_word row ≡ codes "synth") → first_word row ≡ codes "synth"
        by_test true here h later = first_of_shape (codes "synth") (drop 1 (asked_shape k)) row here
        by_test false here h later = later h

    asked_code : (o : Option Row) (c : ReportCode) → asked_line head.0 o ≡ Err c → c ≡ code_of (r1 ∷ []) o
    asked_code None c e = let same : code.Truncated ≡ c = cc in sym same
    asked_code (Some row) c e = (ruled_goes asked_test (asked_from head.0) (may_be_asked head.0) (λ v. v) (asked_told head.0) row).err c e ∙ ap (λ b. told_code b row) (sym (grind (arith, fits_after)))

    head_goes : Gives (Coded all) Passed (after_head all head)
    head_goes =
        goes_on _ _ (stands_goes all (Coded all) (asked_line head.0) (r1 ∷ []) head.1 on1 (λ x e. absurd (cc)) (λ c e. asked_code (first head.1.rows) c e ∙ sym (code_on all (r1 ∷ []) head.1 head.1.number on1 refl)))
        (λ a read i. after_asked_goes a i.row i.on (asked_first (kinds_of head.0) i.row ((ruled_goes asked_test (asked_from head.0) (may_be_asked head.0) (λ v. v) (asked_told head.0) i.row).ok a.0 i.read)))

  -- ---- the first line

  on0 : On all [] (start text)
  on0 = record { is = refl; number = refl }

  -- a line of a version, which is the first
  record Said (row : Row) (b : Bool) : Type 0 where
    word : first_word row ≡ codes "sccl"
    version : is_patterned (row ∷ []) ≡ b

  version_goes : (row : Row) → Gives (λ (c : ReportCode). c ≡ told_code false row) (λ (b : Bool). Said row b) (version_line (Some row))
  version_goes row = grind (arith, bytes_eq, bytes_eq-Decides, gives_done, slice_index_or, gives_fail)

  report_goes : Gives (Coded all) Passed (report_at all (start text))
  report_goes =
      goes_on _ _ (stands_goes all (Coded all) version_line [] (start text) on0 (λ x e. absurd (cc)) (λ c e. (grind (arith, version_goes)) ∙ sym (code_on all [] (start text) 1 on0 refl)))
      (λ head read i. let said = (version_goes i.row).ok head.0 i.read in head_goes head i.row i.on said.word said.version)

pub code_is : (text : List ℕ) (why : ReportCode) (n : ℕ) → report_of text ≡ Err (why, n) → Coded (rows_of text) (why, n)
code_is text why n failed = (report_goes text).err (why, n) (sym (report_is text) ∙ failed)
