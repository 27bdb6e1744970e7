-- A text that the checks take is the text of the report that they give, which is valid; where they fail, some valid report has the lines before the one that is blamed.
use Rattle.std.proofs.{Common.{◌≡◌, ℕ, Bool, true, false, not, List, [], ◌∷◌, ◌++◌, map, length, Option, None, Some, Result, Ok, refl, sym, ap, ◌∙◌, subst, arith, codes, flat_map, if◌then◌else◌, is_some}}
use Rattle.std.proofs.lemmas.List.{append-nil, map-append}
use Rattle.text_lines.proofs.{Gives.{Gives, gives_done, gives_like, gives_then, Between, then_on, Cut, cut_here, cut_more, cut_on, line_gives, Stops}, Checks.{bind_ok, need_is, at_line_ok, line_err, part_err_at, ok_is}, Repeated.place}
use Rattle.text_lines.{specs.{Check.{◌>>=◌, refuse, need, at_line, first, line_part}, Text.{Row, Place, rows_of, start}}, proofs.{Rows.{row_of, text_back}, Distinct.AreDistinct}}
use Rattle.schedule.specs.Links.{GroupValue}
use Rattle.outer_ports.specs.declared.part.Part.{Part}
use Rattle.collective_spec.specs.{declared.kind.Kind.Kind, Kinds.{is_custom, takes_root}, Patterns.PatternValue}
use Rattle.collective_spec.specs.declared.kind.Kind.TheVariants as kind
use Rattle.candidate_order.specs.{Ranges.{IsLimits, unpruned}, Frontiers.{PointValue, FrontierValue}}
use Rattle.topology_text.{specs.{Spelling.{lines_of, version_word, header_words, nodes_words, group_words, custom_lines}, declared.fault.TopologyCode.TopologyCode}, proofs.Laws.{named_valid, body_lines, header_on, front_on, cut_behind}}
use Rattle.topology_text.{specs.{Reading.{header_line, nodes_line, groups_at, pattern_at}, Value.{NamedTopologyValue, IsNamed, named_with}, Names.AreNames}, proofs.{Patterns.{IsCustom, some_pattern, pattern_gives}, Links.node_again}}
use Rattle.topology_text.proofs.{Front.{version_words, header_gives, nodes_give}, Groups.{Groups, groups_nil, groups_give}}
use Rattle.topology_text.specs.Spelling as spelling
use Rattle.report_form.proofs.{FrontiersTaken.{AreFrontiers, AreJoined, none_joined, nothings, nothings_are, frontiers_give, joined_gives}, SynthLineTaken.{RootFits, asked_words, IsAsked, asked_gives, words_take}}
use Rattle.report_form.specs.{Spelling.{frontier_lines, joined_lines, report_lines, report_text}, Reading.{body_of, version_of, version_line, is_same, report_of}, SynthLine.{AskedValue, asked_line, root_of, words_from}}
use Rattle.report_form.{specs.{Reports.{WordsValue, ReportValue, IsReport, parts_of}, declared.fault.ReportCode.ReportCode, Lines.{whole_line, no_line, among}}, proofs.LineTaken.{whole_words, fixed_gives, nothing_take}}
use Rattle.report_form.specs.declared.fault.ReportCode.TheVariants as code

-- ---- the body

abbrev pub report : WordsValue → NamedTopologyValue → List (Part × FrontierValue) → List PointValue → ReportValue
report words t frontiers joined = record { words = words; topology = t; frontiers = frontiers; joined = joined }

abbrev pub end_words : List (List ℕ)
end_words = codes "end" ∷ []

-- what stands behind the topology
abbrev pub Behind : Type 0
Behind = List (Part × FrontierValue) × List PointValue

module _ (words : WordsValue) (t : NamedTopologyValue) where
  abbrev lines_behind : Behind → List (List (List ℕ))
  lines_behind b = (flat_map (frontier_lines t.names) b.0 ++ joined_lines t.names words.collective.kind b.1) ++ end_words ∷ []

  record AreBehind (b : Behind) : Type 0 where
    frontiers : AreFrontiers words t (parts_of words.collective.kind) b.0
    joined : AreJoined words t words.collective.kind b.1

  record BodyTaken (p : Place) (r : ReportValue) : Type 0 where
    behind : Behind
    is : report words t behind.0 behind.1 ≡ r
    valid : AreBehind behind
    rows : p.rows ≡ map row_of (lines_behind behind)

  body_gives : length t.names ≡ t.topology.nodes → IsLimits words.limits → (p : Place) → Gives (λ (e : ReportCode × ℕ). Stops lines_behind AreBehind p e.1) (λ (r : ReportValue). BodyTaken p r) (body_of words t p)
  unfolding body_of
  body_gives as_many ok p =
      let kind : Kind = words.collective.kind in
      let F : List (Part × FrontierValue) → List (List (List ℕ)) = flat_map (frontier_lines t.names) in
      let J : List PointValue → List (List (List ℕ)) = joined_lines t.names kind in
      let last : List (List (List ℕ)) = end_words ∷ [] in
      gives_then _ _ (frontiers_give words t as_many ok (parts_of kind) p)
      (λ e s. record { value = (s.value, []); valid = record { frontiers = s.valid; joined = none_joined words t kind }; cut = cut_more (F s.value ++ J []) last p e.1 (cut_more (F s.value) (J []) p e.1 s.cut) })
      (λ f rf tf. gives_then _ _ (joined_gives words t as_many ok kind f.1)
      (λ e s. record { value = (f.0, s.value); valid = record { frontiers = tf.valid; joined = s.valid }; cut = cut_more (F f.0 ++ J s.value) last p e.1 (cut_on (F f.0) (J s.value) p f.1 e.1 tf.lines s.cut) })
      (λ j rj tj.
      let front = then_on (F f.0) (J j.0) p f.1 j.1 tf.lines tj.lines in
      let valid : AreBehind (f.0, j.0) = record { frontiers = tf.valid; joined = tj.valid } in
      gives_then _ _ (fixed_gives (codes "end") end_words refl j.1)
      (λ e line. record { value = (f.0, j.0); valid = valid; cut = cut_on (F f.0 ++ J j.0) last p j.1 e.1 front (cut_here last j.1 e.1 line) })
      (λ d rd td.
      let all = then_on (F f.0 ++ J j.0) last p j.1 d.1 front td.1 in
      gives_then {E = λ (e : ReportCode × ℕ). e.1 ≡ d.1.number} {N = λ (u : Unit {0} × Place). d.1.rows ≡ []} _ _ (record { ok = λ u e. nothing_take d.1 u e; err = λ e h. (part_err_at no_line d.1 e h).1 })
      (λ e line. record { value = (f.0, j.0); valid = valid; cut = cut_on (F f.0 ++ J j.0) last p j.1 e.1 front (cut_on last [] j.1 d.1 e.1 td.1 (cut_here [] d.1 e.1 line)) })
      (λ u ru none. gives_done _ (record { behind = (f.0, j.0); is = refl; valid = valid; rows = all.rows ∙ ap (λ rs. map row_of ((F f.0 ++ J j.0) ++ last) ++ rs) none ∙ append-nil (map row_of ((F f.0 ++ J j.0) ++ last)) })))))

-- ---- the version

-- the first line, by the version
abbrev pub head_words : Bool → List (List ℕ)
head_words false = codes "sccl" ∷ codes "1" ∷ []
head_words true = codes "sccl" ∷ codes "2" ∷ []

pub head_spelled : (c : Option PatternValue) → head_words (is_some c) ≡ codes "sccl" ∷ version_word c ∷ []
head_spelled c = grind arith

version_gives : (p : Place) → Gives (λ (e : ReportCode × ℕ). e.1 ≡ p.number) (λ (x : Bool × Place). Unit {0} × Between (head_words x.0 ∷ []) p x.1) (line_part version_line p)
version_gives p = line_gives version_line head_words p (λ b e. (there (first p.rows) b e, tt))
  where
    there : (line : Option Row) (b : Bool) → version_line line ≡ Ok b → line ≡ Some (row_of (head_words b))
    there line b e =
        let (row, found, e1) = bind_ok (whole_line line) (λ r. need (version_of r.bytes) code.BadLine) b e in
        whole_words line row (head_words b) found (version_words (codes "sccl 1") (codes "sccl 2") head_words refl refl row.bytes b (need_is (version_of row.bytes) code.BadLine b e1))

-- ---- the topology

pub among_ok : {A : Type 0} (rows : List Row) (r : Result A (TopologyCode × ℕ)) (x : A) → among rows r ≡ Ok x → r ≡ Ok x
among_ok {A} rows r x e = grind (arith, ok_is)

among_gives : {A : Type 0} {N : A → Type 0} (E : ℕ → Type 0) (rows : List Row) (r : Result A (TopologyCode × ℕ)) → Gives (λ (e : TopologyCode × ℕ). E e.1) N r → Gives (λ (e : ReportCode × ℕ). E e.1) N (among rows r)
among_gives {A} {N} E rows r g = grind (arith, gives_done)

at_line_gives : {A : Type 0} (n : ℕ) (r : Result A ReportCode) → Gives (λ (e : ReportCode × ℕ). e.1 ≡ n) (λ (x : A). r ≡ Ok x) (at_line n r)
at_line_gives n r = record { ok = λ x e. at_line_ok n r x e; err = λ e h. (line_err n r e h).1 }

-- a topology with the root that was asked for
abbrev Rooted : Type 0
Rooted = NamedTopologyValue × ℕ

record IsRooted (b : Bool) (a : AskedValue) (z : Rooted) : Type 0 where
  named : IsNamed z.0
  shown : is_some z.0.custom ≡ b
  found : root_of z.0.names a.root ≡ Ok z.1

-- ---- a topology with one node

-- the name of the root, or some name
abbrev name_for : Option (List ℕ) → List ℕ
name_for None = codes "n0"
name_for (Some name) = name

alone : (name : List ℕ) → AreDistinct (name ∷ [])
alone name = λ i j d ordered h. absurd (omega (arith, ordered, h))

root_found : (root : Option (List ℕ)) → root_of (name_for root ∷ []) root ≡ Ok 0
root_found None = refl
root_found (Some name) = ap (λ o. need o code.Limits) (node_again (name ∷ []) 0 (alone name) (omega arith))

-- ---- the whole

module _ (b : Bool) (a : AskedValue) (asked : IsAsked b a) where
  -- one node, and a pattern where one is due
  abbrev one_names : List (List ℕ)
  one_names = name_for a.root ∷ []

  one_pattern : Stops (custom_lines one_names) (IsCustom one_names b) (place 1 []) 1
  one_pattern = some_pattern b one_names (place 1 []) 1 refl

  abbrev one_node : Rooted
  one_node = (named_with one_names [] one_pattern.value, 0)

  one_rooted : IsRooted b a one_node
  one_rooted = grind (arith, named_valid, one_pattern, groups_nil, root_found, alone)

  module _ (z : Rooted) (is : IsRooted b a z) (w : Behind) (valid : AreBehind (words_from a z.1) z.0 w) where
    abbrev made : ReportValue
    made = report (words_from a z.1) z.0 w.0 w.1

    made_valid : IsReport made
    made_valid = grind arith

    -- its lines behind the first two
    abbrev later : List (List (List ℕ))
    later = lines_of z.0 ++ lines_behind (words_from a z.1) z.0 w

    made_lines : head_words b ∷ asked_words a ∷ later ≡ report_lines made
    made_lines = grind (arith, asked_words, head_spelled, words_take)

    made_stops : (p q : Place) (n : ℕ) → Between (head_words b ∷ asked_words a ∷ []) p q → Cut later q n → Stops report_lines IsReport p n
    made_stops p q n front cut = record { value = made; valid = made_valid; cut = subst (λ (ls : List (List (List ℕ))). Cut ls p n) made_lines (cut_on (head_words b ∷ asked_words a ∷ []) later p q n front cut) }

  quiet_valid : (z : Rooted) → IsRooted b a z → AreBehind (words_from a z.1) z.0 (nothings (parts_of a.kind), [])
  quiet_valid z is = record { frontiers = nothings_are (words_from a z.1) z.0 is.named.as_many (parts_of a.kind); joined = none_joined (words_from a z.1) z.0 a.kind }

  -- a report that says nothing of its parts, with the lines of this topology before the one that is blamed
  topology_stops : (p q : Place) (n : ℕ) → Between (head_words b ∷ asked_words a ∷ []) p q → Stops (λ (z : Rooted). lines_of z.0) (IsRooted b a) q n → Stops report_lines IsReport p n
  topology_stops p q n front s =
      let w : Behind = (nothings (parts_of a.kind), []) in
      made_stops s.value s.valid w (quiet_valid s.value s.valid) p q n front (cut_more (lines_of s.value.0) (lines_behind (words_from a s.value.1) s.value.0 w) q n s.cut)

  one_stops : (q : Place) (n : ℕ) → n ≡ q.number → Stops (λ (z : Rooted). lines_of z.0) (IsRooted b a) q n
  one_stops q n line = record { value = one_node; valid = one_rooted; cut = cut_here (lines_of one_node.0) q n line }

  -- behind the topology's first line
  node_stops : (q d : Place) (n : ℕ) → Between (spelling.head_words b ∷ []) q d → n ≡ d.number → Stops (λ (z : Rooted). lines_of z.0) (IsRooted b a) q n
  node_stops q d n header line = grind (arith, body_lines, one_rooted, cut_on, header_on, cut_here)

  module _ (q d : Place) (header : Between (spelling.head_words b ∷ []) q d) (names : List (List ℕ)) (named : AreNames names) (m : Place) (nodes : Between (nodes_words names ∷ []) d m) (root : ℕ) (found : root_of names a.root ≡ Ok root) where
    rooted : (gs : List GroupValue) (c : Option PatternValue) → Groups (length names) gs → IsCustom names b c → IsRooted b a (named_with names gs c, root)
    rooted gs c groups pattern = record { named = named_valid names gs c named groups pattern.valid; shown = pattern.shown; found = found }

    rooted_stops : (n : ℕ) (gs : List GroupValue) (c : Option PatternValue) → Groups (length names) gs → IsCustom names b c → Cut (body_lines names gs c) m n → Stops (λ (z : Rooted). lines_of z.0) (IsRooted b a) q n
    rooted_stops n gs c groups pattern cut = record { value = (named_with names gs c, root); valid = rooted gs c groups pattern; cut = cut_behind q d m n b names gs c header nodes pattern.shown cut }

-- a report of each version
some_asked : (b : Bool) → (a : AskedValue) × IsAsked b a
some_asked b = (record { kind = if b then kind.Custom else kind.Allgather; limits = record { k = 0; max_s = 1; max_c = 1; conflicts = 1; pruning = unpruned }; root = None }, record { limits = record { k = omega arith; some_steps = omega arith; steps = omega arith; some_chunks = omega arith; chunks = omega arith; some_conflicts = omega arith; conflicts = omega arith }; fits = no_root b; kind = of_version b })
  where
    no_root : (c : Bool) → RootFits (takes_root (if c then kind.Custom else kind.Allgather)) None
    no_root c = grind arith

    of_version : (c : Bool) → is_custom (if c then kind.Custom else kind.Allgather) ≡ c
    of_version c = grind arith

some_report : (b : Bool) → (r : ReportValue) × IsReport r × (rest : List (List (List ℕ))) × (head_words b ∷ rest ≡ report_lines r)
some_report b =
    let (a, asked) = some_asked b in
    let z : Rooted = one_node b a asked in
    let w : Behind = (nothings (parts_of a.kind), []) in
    let is = one_rooted b a asked in
    let valid = quiet_valid b a asked z is in
    (made b a asked z is w valid, made_valid b a asked z is w valid, asked_words a ∷ later b a asked z is w valid, made_lines b a asked z is w valid)

-- what is left of the checks after each part, where a fault is looked for among these rows
abbrev pub after_pattern : AskedValue → ℕ → List (List ℕ) → List GroupValue → Option PatternValue × Place → Result ReportValue (ReportCode × ℕ)
after_pattern a root names groups c = body_of (words_from a root) (named_with names groups c.0) c.1

abbrev pub after_groups : List Row → Bool → AskedValue → ℕ → List (List ℕ) → List GroupValue × Place → Result ReportValue (ReportCode × ℕ)
after_groups rows b a root names g = among rows (pattern_at b names g.1) >>= after_pattern a root names g.0

abbrev pub after_root : List Row → Bool → AskedValue → List (List ℕ) × Place → ℕ → Result ReportValue (ReportCode × ℕ)
after_root rows b a n root = among rows (groups_at n.0 n.1) >>= after_groups rows b a root n.0

abbrev pub after_names : List Row → Bool → AskedValue → ℕ → List (List ℕ) × Place → Result ReportValue (ReportCode × ℕ)
after_names rows b a line n = at_line line (root_of n.0 a.root) >>= after_root rows b a n

abbrev pub after_same : List Row → Bool → AskedValue → Place → Unit {0} → Result ReportValue (ReportCode × ℕ)
after_same rows b a p u = among rows (line_part nodes_line p) >>= after_names rows b a p.number

abbrev pub after_header : List Row → Bool → AskedValue → ℕ → Bool × Place → Result ReportValue (ReportCode × ℕ)
after_header rows b a line h = at_line line (refuse (not (is_same h.0 b)) code.BadLine) >>= after_same rows b a h.1

abbrev pub after_asked : List Row → Bool → AskedValue × Place → Result ReportValue (ReportCode × ℕ)
after_asked rows b a = among rows (line_part header_line a.1) >>= after_header rows b a.0 a.1.number

abbrev pub after_head : List Row → Bool × Place → Result ReportValue (ReportCode × ℕ)
after_head rows head = line_part (asked_line head.0) head.1 >>= after_asked rows head.0

abbrev pub report_at : List Row → Place → Result ReportValue (ReportCode × ℕ)
report_at rows p = line_part version_line p >>= after_head rows

pub report_is : (text : List ℕ) → report_of text ≡ report_at (rows_of text) (start text)
unfolding report_of
report_is text = refl

pub record ReportTaken (text : List ℕ) (r : ReportValue) : Type 0 where
  pub valid : IsReport r
  pub spelled : text ≡ report_text r

-- the report that was read, or one whose first lines were
pub report_gives : (rows : List Row) (p : Place) → Gives (λ (e : ReportCode × ℕ). Stops report_lines IsReport p e.1) (λ (r : ReportValue). IsReport r × (p.rows ≡ map row_of (report_lines r))) (report_at rows p)
report_gives rows p =
    gives_then _ _ (version_gives p) (λ e line. let (r, valid, rest, is) = some_report false in record { value = r; valid = valid; cut = cut_here (report_lines r) p e.1 line })
    (λ h rh th. gives_then _ _ (asked_gives h.0 h.1)
    (λ e line. let (r, valid, rest, is) = some_report h.0 in record { value = r; valid = valid; cut = subst (λ (ls : List (List (List ℕ))). Cut ls p e.1) is (cut_on (head_words h.0 ∷ []) rest p h.1 e.1 th.1 (cut_here rest h.1 e.1 line)) })
    (λ a ra ta.
    let front = then_on (head_words h.0 ∷ []) (asked_words a.0 ∷ []) p h.1 a.1 th.1 ta.1 in
    let stop : (n : ℕ) → Stops (λ (z : Rooted). lines_of z.0) (IsRooted h.0 a.0) a.1 n → Stops report_lines IsReport p n = λ n s. topology_stops h.0 a.0 ta.0 p a.1 n front s in
    gives_then _ _ (among_gives (λ n. n ≡ a.1.number) rows (line_part header_line a.1) (header_gives a.1)) (λ e line. stop e.1 (one_stops h.0 a.0 ta.0 a.1 e.1 line))
    (λ d rd td. gives_then _ _ (at_line_gives a.1.number (refuse (not (is_same d.0 h.0)) code.BadLine)) (λ e line. stop e.1 (one_stops h.0 a.0 ta.0 a.1 e.1 line))
    (λ u ru kept.
    let header : Between (spelling.head_words h.0 ∷ []) a.1 d.1 = subst (λ (b : Bool). Between (spelling.head_words b ∷ []) a.1 d.1) (grind arith) td.1 in
    gives_then _ _ (among_gives (λ n. n ≡ d.1.number) rows (line_part nodes_line d.1) (nodes_give d.1)) (λ e line. stop e.1 (node_stops h.0 a.0 ta.0 a.1 d.1 e.1 header line))
    (λ n rn tn. gives_then _ _ (at_line_gives d.1.number (root_of n.0 a.0.root)) (λ e line. stop e.1 (node_stops h.0 a.0 ta.0 a.1 d.1 e.1 header line))
    (λ root rr found.
    let groups_of : List GroupValue → List (List (List ℕ)) = map (group_words n.0) in
    let rooted_at = rooted_stops h.0 a.0 ta.0 a.1 d.1 header n.0 tn.0 n.1 tn.1 root found in
    gives_then _ _ (among_gives (λ k. Stops groups_of (Groups (length n.0)) n.1 k) rows (groups_at n.0 n.1) (groups_give n.0 n.1))
    (λ e s. let c = some_pattern h.0 n.0 (place 1 []) 1 refl in stop e.1 (rooted_at e.1 s.value c.value s.valid c.valid (cut_more (groups_of s.value) (custom_lines n.0 c.value) n.1 e.1 s.cut)))
    (λ g rg tg. gives_then _ _ (among_gives (λ k. Stops (custom_lines n.0) (IsCustom n.0 h.0) g.1 k) rows (pattern_at h.0 n.0 g.1) (pattern_gives h.0 n.0 g.1))
    (λ e s. stop e.1 (rooted_at e.1 g.0 s.value tg.valid s.valid (cut_on (groups_of g.0) (custom_lines n.0 s.value) n.1 g.1 e.1 tg.lines s.cut)))
    (λ c rc tc.
    let z : Rooted = (named_with n.0 g.0 c.0, root) in
    let is = rooted h.0 a.0 ta.0 a.1 d.1 header n.0 tn.0 n.1 tn.1 root found g.0 c.0 tg.valid tc.valid in
    let topology : Between (lines_of z.0) a.1 c.1 =
    then_on (header_words c.0 ∷ nodes_words n.0 ∷ []) (body_lines n.0 g.0 c.0) a.1 n.1 c.1 (front_on a.1 d.1 n.1 h.0 n.0 c.0 tc.valid.shown header tn.1) (then_on (groups_of g.0) (custom_lines n.0 c.0) n.1 g.1 c.1 tg.lines tc.lines) in
    gives_like
    (λ e s. made_stops h.0 a.0 ta.0 z is s.value s.valid p a.1 e.1 front (cut_on (lines_of z.0) (lines_behind (words_from a.0 root) z.0 s.value) a.1 c.1 e.1 topology s.cut))
    (λ r t.
    let first : List (List (List ℕ)) = head_words h.0 ∷ asked_words a.0 ∷ lines_of z.0 in
    let lines = then_on (head_words h.0 ∷ asked_words a.0 ∷ []) (lines_of z.0) p a.1 c.1 front topology in
    subst (λ x. IsReport x × (p.rows ≡ map row_of (report_lines x))) t.is (
      made_valid h.0 a.0 ta.0 z is t.behind t.valid,
      lines.rows ∙ ap (λ rs. map row_of first ++ rs) t.rows ∙ sym (map-append row_of first (lines_behind (words_from a.0 root) z.0 t.behind)) ∙ ap (map row_of) (made_lines h.0 a.0 ta.0 z is t.behind t.valid),
    ))
    (body_gives (words_from a.0 root) z.0 refl ta.0.limits c.1)))))))))

pub report_take : (text : List ℕ) (r : ReportValue) → report_of text ≡ Ok r → ReportTaken text r
unfolding report_text
report_take text r e =
    let (valid, rows) = (report_gives (rows_of text) (start text)).ok r (sym (report_is text) ∙ e) in
    record { valid = valid; spelled = text_back text (report_lines r) rows }
