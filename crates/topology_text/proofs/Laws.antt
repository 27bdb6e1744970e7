-- Whole topologies: what is read stands there, and what stands there is read.
use Rattle.std.proofs.{Common.{◌≡◌, ℕ, Bool, List, [], ◌∷◌, ◌++◌, get_or, map, length, Option, None, Some, Result, Ok, Err, refl, sym, ap, ◌∙◌, subst, arith, IfOk, IfSome, codes}, lemmas.List.append-nil}
use Rattle.std.{proofs.lemmas.List.Elements.{All-nil, All-cons, All-map, recursion_from_All}, specs.{Option.is_some, List.{All, AllByRecursion}}}
use Rattle.text_lines.specs.{Text.{Row, Place, rows_of, start}, Check.{◌>>=◌, refuse, first, line_part}}
use Rattle.text_lines.proofs.{Checks.{part_ok, part_err_at}, Gives.{Gives, gives_done, gives_then, rows_split, Between, then_on, Cut, cut_here, cut_more, cut_on, Stops, GivesPart}}
use Rattle.text_lines.proofs.{ReadBack.{Reads, reads_here, reads_as, reads_then, reads_end, Ends}, Repeated.place, Rows.{AreTokens, row_of, rows_again, text_back}, Words.{literal, tokens_from}}
use Rattle.schedule.{specs.Links.{GroupValue, IsGroup, IsBelow}, proofs.First.each_append}
use Rattle.collective_spec.specs.Patterns.{PatternValue, IsPattern}
use Rattle.topology_text.specs.{declared.fault.{TopologyCode.{TopologyCode, TheVariants.BadLine}, TopologyFault.TopologyFault}, Names.AreNames, Answer.Answers, Value.{NamedTopologyValue, IsNamed, named_with}}
use Rattle.topology_text.specs.{Spelling.{header_words, nodes_words, group_words, custom_lines, lines_of, spelling, head_words}, Reading.{nodes_line, groups_at, pattern_at, named_at, topology_at, topology_of}}
use Rattle.topology_text.proofs.{Front.{Names, head_is, header_gives, header_reads, nodes_give, nodes_reads, nodes_are_words}, Groups.{Groups, groups_nil, groups_give, groups_read, group_is_words}}
use Rattle.topology_text.proofs.Patterns.{IsCustom, some_pattern, pattern_gives, pattern_reads, pattern_ends, custom_are_words}

-- ---- parts

pub names_are : (names : List (List ℕ)) → AreNames names → Names names
names_are names ok = record { few = ok.few; each = ok.each; distinct = ok.distinct }

pub named_valid : (names : List (List ℕ)) (groups : List GroupValue) (custom : Option PatternValue) → AreNames names → Groups (length names) groups → IfSome custom (IsPattern (length names)) → IsNamed (named_with names groups custom)
named_valid names groups custom ok valid pattern = grind arith

pub names_taken : (p : Place) (x : List (List ℕ) × Place) → line_part nodes_line p ≡ Ok x → AreNames x.0
names_taken p x e = ((nodes_give p).ok x e).0

pub named_are : (q : Place) (names : List (List ℕ)) (groups : List GroupValue) (custom : Option PatternValue) (rest : Place) → AreNames names → groups_at names q ≡ Ok (groups, rest) → IfSome custom (IsPattern (length names)) → IsNamed (named_with names groups custom)
named_are q names groups custom rest ok e2 pattern = named_valid names groups custom ok ((groups_give names q).ok (groups, rest) e2).valid pattern

pub parts_are : (p q : Place) (names : List (List ℕ)) (groups : List GroupValue) (custom : Option PatternValue) (rest : Place) → line_part nodes_line p ≡ Ok (names, q) → groups_at names q ≡ Ok (groups, rest) → IfSome custom (IsPattern (length names)) → IsNamed (named_with names groups custom)
parts_are p q names groups custom rest e1 e2 pattern = named_are q names groups custom rest (names_taken p (names, q) e1) e2 pattern

-- ---- what was read of a topology

-- the lines of the groups and of the pattern
abbrev pub body_lines : List (List ℕ) → List GroupValue → Option PatternValue → List (List (List ℕ))
body_lines names groups custom = map (group_words names) groups ++ custom_lines names custom

-- the header is that of a topology of its version
pub header_on : (p q : Place) (patterned : Bool) (custom : Option PatternValue) → is_some custom ≡ patterned → Between (head_words patterned ∷ []) p q → Between (header_words custom ∷ []) p q
header_on p q patterned custom shown t = subst (λ (ws : List (List ℕ)). Between (ws ∷ []) p q) (ap head_words (sym shown) ∙ sym (head_is custom)) t

-- its lines up to the names
pub front_on : (p q r : Place) (patterned : Bool) (names : List (List ℕ)) (custom : Option PatternValue) → is_some custom ≡ patterned → Between (head_words patterned ∷ []) p q → Between (nodes_words names ∷ []) q r → Between (header_words custom ∷ nodes_words names ∷ []) p r
front_on p q r patterned names custom shown header nodes = then_on (header_words custom ∷ []) (nodes_words names ∷ []) p q r (header_on p q patterned custom shown header) nodes

-- its lines behind them
pub cut_behind : (p q r : Place) (n : ℕ) (patterned : Bool) (names : List (List ℕ)) (groups : List GroupValue) (custom : Option PatternValue) → Between (head_words patterned ∷ []) p q → Between (nodes_words names ∷ []) q r → is_some custom ≡ patterned → Cut (body_lines names groups custom) r n → Cut (lines_of (named_with names groups custom)) p n
cut_behind p q r n patterned names groups custom header nodes shown cut = cut_on (header_words custom ∷ nodes_words names ∷ []) (body_lines names groups custom) p r n (front_on p q r patterned names custom shown header nodes) cut

one_name : AreNames (codes "n0" ∷ [])
one_name = grind (arith, All-cons, All-nil)

-- the topology that was read, or one whose first lines were
pub topology_gives : (p : Place) → GivesPart lines_of IsNamed p (topology_at p)
unfolding topology_at named_at
topology_gives p =
    let alone : List (List ℕ) = codes "n0" ∷ [] in
    gives_then _ _ (header_gives p) (λ e line. record { value = named_with alone [] None; valid = named_valid alone [] None one_name (groups_nil 1) tt; cut = cut_here (lines_of (named_with alone [] None)) p e.1 line })
    (λ h rh th. gives_then _ _ (nodes_give h.1)
    (λ e line.
    let c = some_pattern h.0 alone h.1 e.1 line in
    let body = nodes_words alone ∷ body_lines alone [] c.value in
    record { value = named_with alone [] c.value; valid = named_valid alone [] c.value one_name (groups_nil 1) c.valid.valid; cut = cut_on (header_words c.value ∷ []) body p h.1 e.1 (header_on p h.1 h.0 c.value c.valid.shown th.1) (cut_here body h.1 e.1 line) })
    (λ n rn tn.
    let behind : (groups : List GroupValue) (c : Option PatternValue) (k : ℕ) → Groups (length n.0) groups → IsCustom n.0 h.0 c → Cut (body_lines n.0 groups c) n.1 k → Stops lines_of IsNamed p k =
    λ groups c k valid is cut. record { value = named_with n.0 groups c; valid = named_valid n.0 groups c tn.0 valid is.valid; cut = cut_behind p h.1 n.1 k h.0 n.0 groups c th.1 tn.1 is.shown cut } in
    gives_then _ _ (groups_give n.0 n.1)
    (λ e s. let c = some_pattern h.0 n.0 (place e.1 []) e.1 refl in behind s.value c.value e.1 s.valid c.valid (cut_more (map (group_words n.0) s.value) (custom_lines n.0 c.value) n.1 e.1 s.cut))
    (λ g rg tg. gives_then _ _ (pattern_gives h.0 n.0 g.1)
    (λ e s. behind g.0 s.value e.1 tg.valid s.valid (cut_on (map (group_words n.0) g.0) (custom_lines n.0 s.value) n.1 g.1 e.1 tg.lines s.cut))
    (λ c rc tc. gives_done _ (record {
      valid = named_valid n.0 g.0 c.0 tn.0 tg.valid tc.valid.valid;
      lines = then_on (header_words c.0 ∷ nodes_words n.0 ∷ []) (body_lines n.0 g.0 c.0) p n.1 c.1 (front_on p h.1 n.1 h.0 n.0 c.0 tc.valid.shown th.1 tn.1) (then_on (map (group_words n.0) g.0) (custom_lines n.0 c.0) n.1 g.1 c.1 tg.lines tc.lines);
    })))))

-- ---- a topology and what follows

pub groups_are : (t : NamedTopologyValue) → IsNamed t → Groups (length t.names) t.topology.groups
groups_are t ok = record { few = ok.topology.limit; each = ok.topology.groups; below = subst (λ (n : ℕ). All (λ g. All (IsBelow n) g.links) t.topology.groups) (sym ok.as_many) ok.topology.nodes }

pub pattern_is : (t : NamedTopologyValue) → IsNamed t → IfSome t.custom (IsPattern (length t.names))
pattern_is t ok = subst (λ (n : ℕ). IfSome t.custom (IsPattern n)) (sym ok.as_many) ok.custom

-- as it was put together
pub named_again : (t : NamedTopologyValue) → IsNamed t → named_with t.names t.topology.groups t.custom ≡ t
named_again t ok i = record { names = t.names; topology = record { nodes = ok.as_many i; groups = t.topology.groups }; custom = t.custom }

-- the lines of its groups, before others
pub groups_of_read : (t : NamedTopologyValue) (n : ℕ) (rest : List Row) → IsNamed t → Ends (codes "group ") rest → Reads (groups_at t.names (place n (map row_of (map (group_words t.names) t.topology.groups) ++ (map row_of (custom_lines t.names t.custom) ++ rest)))) t.topology.groups (map row_of (custom_lines t.names t.custom) ++ rest)
groups_of_read t n rest ok ends = groups_read t.names t.topology.groups n _ (names_are t.names ok.names) (groups_are t ok) (pattern_ends t.names t.custom rest ends)

pub pattern_of_read : (t : NamedTopologyValue) (n : ℕ) (rest : List Row) → IsNamed t → Reads (pattern_at (is_some t.custom) t.names (place n (map row_of (custom_lines t.names t.custom) ++ rest))) t.custom rest
pattern_of_read t n rest ok = pattern_reads t.names t.custom n rest (names_are t.names ok.names) (pattern_is t ok)

-- its rows, part by part
pub rows_parted : (t : NamedTopologyValue) (rest : List Row) → map row_of (lines_of t) ++ rest ≡ row_of (head_words (is_some t.custom)) ∷ row_of (nodes_words t.names) ∷ (map row_of (map (group_words t.names) t.topology.groups) ++ (map row_of (custom_lines t.names t.custom) ++ rest))
rows_parted t rest = grind (arith, row_of, rows_split, head_is)

topology_reads : (n : ℕ) (t : NamedTopologyValue) (rest : List Row) → IsNamed t → Ends (codes "group ") rest → Reads (topology_at (place n (map row_of (lines_of t) ++ rest))) t rest
unfolding topology_at named_at
topology_reads n t rest ok ends =
    subst (λ (rows : List Row). Reads (topology_at (place n rows)) t rest) (sym (rows_parted t rest))
    (reads_then _ _ (header_reads (is_some t.custom) n _) (λ k1. reads_then _ _ (nodes_reads t.names k1 _ ok.names) (λ k2. reads_then _ _ (groups_of_read t k2 rest ok ends)
    (λ k3. reads_then _ _ (pattern_of_read t k3 rest ok) (λ k4. reads_as _ (named_again t ok) (reads_here (named_with t.names t.topology.groups t.custom) k4 rest))))))

-- ---- a topology and nothing else

groups_are_words : (names : List (List ℕ)) (groups : List GroupValue) → Names names → All IsGroup groups → All (λ g. All (IsBelow (length names)) g.links) groups → AllByRecursion AreTokens (map (group_words names) groups)
groups_are_words names groups ok valid below =
    recursion_from_All AreTokens (map (group_words names) groups) (All-map AreTokens (group_words names) groups (λ i d h.
    tokens_from (group_words names (get_or groups i d)) (omega arith) (group_is_words names (get_or groups i d) ok (valid i d h) (below i d h))))

header_are_words : (custom : Option PatternValue) → AreTokens (header_words custom)
header_are_words None = tokens_from (header_words None) (omega arith) (literal (codes "topology") refl, (literal (codes "1") refl, tt))
header_are_words (Some p) = tokens_from (header_words (Some p)) (omega arith) (literal (codes "topology") refl, (literal (codes "2") refl, tt))

pub lines_are_words : (t : NamedTopologyValue) → IsNamed t → AllByRecursion AreTokens (lines_of t)
lines_are_words t ok = grind (arith, groups_are, names_are, header_are_words, tokens_from, nodes_are_words, each_append, groups_are_words, custom_are_words, pattern_is)

pub rows_of_spelling : (t : NamedTopologyValue) → IsNamed t → rows_of (spelling t) ≡ map row_of (lines_of t)
unfolding spelling
rows_of_spelling t ok = rows_again (lines_of t) (lines_are_words t ok)

-- nothing follows the topology
abbrev pub no_line : Option Row → Result (Unit {0}) TopologyCode
no_line next = refuse (is_some next) BadLine

-- the checks of a text's rows
abbrev pub whole_at : Place → Result NamedTopologyValue (TopologyCode × ℕ)
whole_at p = topology_at p >>= (λ found. line_part no_line found.1 >>= (λ u. Ok found.0))

no_more : (rows : List Row) (u : Unit {0}) → no_line (first rows) ≡ Ok u → rows ≡ []
no_more [] u e = refl
no_more (r ∷ rows) u e = absurd (cc)

-- all lines are those of the topology
pub whole_gives : (p : Place) → Gives (λ (e : TopologyCode × ℕ). Stops lines_of IsNamed p e.1) (λ (t : NamedTopologyValue). IsNamed t × (p.rows ≡ map row_of (lines_of t))) (whole_at p)
whole_gives p = gives_then _ _ (topology_gives p) (λ e s. s)
    (λ x rx tx. gives_then {N = λ (u : Unit {0} × Place). x.1.rows ≡ []} _ _ (record { ok = λ u e. no_more x.1.rows u.0 (part_ok no_line x.1 u e).0; err = λ e h. (part_err_at no_line x.1 e h).1 })
    (λ e line.
    let all = cut_on (lines_of x.0) [] p x.1 e.1 tx.lines (cut_here [] x.1 e.1 line) in
    record { value = x.0; valid = tx.valid; cut = subst (λ (ls : List (List (List ℕ))). Cut ls p e.1) (append-nil (lines_of x.0)) all })
    (λ u ru none. gives_done _ (tx.valid, tx.lines.rows ∙ ap (λ rs. map row_of (lines_of x.0) ++ rs) none ∙ append-nil (map row_of (lines_of x.0)))))

pub all_take : (text : List ℕ) (t : NamedTopologyValue) → topology_of text ≡ Ok t → IsNamed t × (text ≡ spelling t)
unfolding topology_of spelling
all_take text t e = let (valid, rows) = (whole_gives (start text)).ok t e in (valid, text_back text (lines_of t) rows)

pub all_again : (t : NamedTopologyValue) → IsNamed t → topology_of (spelling t) ≡ Ok t
unfolding topology_of
all_again t ok = grind (arith, topology_reads 1 t [] ok refl, place, rows_of_spelling, append-nil, row_of, reads_end)

pub is_found : (text : List ℕ) (r : Result NamedTopologyValue TopologyFault) → Answers r (topology_of text) → IfOk r (λ t. IsNamed t × (text ≡ spelling t))
is_found text (Ok t) e = all_take text t e
is_found text (Err fault) e = tt

pub only_found : (text : List ℕ) (r : Result NamedTopologyValue TopologyFault) (t : NamedTopologyValue) → Answers r (topology_of text) → IsNamed t → text ≡ spelling t → Answers r (Ok t)
only_found text r t e ok same = rw (← all_again t ok, ← same) e
