-- What the checks of a report's parts took stands there, and is valid.
use Rattle.std.proofs.{Common.{arith, ◌≡◌, ℕ, List, [], ◌∷◌, ◌++◌, map, length, refl, ap, ◌≢◌, codes, flat_map, All}, lemmas.List.Elements.{All-nil, All-cons}}
use Rattle.text_lines.{specs.Text.{Place}, proofs.Gives.{gives_done, gives_like, gives_then, here, then_on, cut_here, cut_more, cut_on, GivesPart, parts_give, lines_give}}
use Rattle.outer_ports.specs.declared.part.Part.{Part}
use Rattle.outer_ports.specs.declared.part.Part.TheVariants as part
use Rattle.collective_spec.specs.declared.kind.Kind.{Kind}
use Rattle.collective_spec.specs.declared.kind.Kind.TheVariants as kind
use Rattle.candidate_order.specs.{declared.candidate.Candidate.Candidate, Ranges.IsLimits, Frontiers.{QuestionValue, PointValue, UnknownValue, FrontierValue}}
use Rattle.topology_text.specs.Value.{NamedTopologyValue}
use Rattle.report_form.specs.{Reports.{WordsValue, IsFrontier, IsJoinedPoint, question_of}, Points.{frontier_point_at, joined_point_at}, Spelling.{point_lines, refuted_words, unknown_words, part_words, frontier_lines, joined_lines}}
use Rattle.report_form.specs.Reading.{refuted_line, unknown_line, part_bytes, frontier_at, frontiers_from, joined_at}
use Rattle.report_form.proofs.{LineTaken.fixed_gives, ListsTaken.{AreListed, none_listed, refuted_takes, AreUnknown, none_unknown, unknown_takes}, PointsTaken.{ArePoints, no_points, point_steps}, JoinedTaken.{joined_steps, no_joined}}

abbrev pub frontier : List PointValue → List Candidate → List UnknownValue → FrontierValue
frontier points refuted unknown = record { points = points; refuted = refuted; unknown = unknown }

-- a frontier that says nothing is valid
abbrev pub nothing_found : FrontierValue
nothing_found = frontier [] [] []

abbrev pub IsFrontierOf : WordsValue → NamedTopologyValue → Part × FrontierValue → Type 0
IsFrontierOf words t x = IsFrontier (question_of words t x.0) x.1

module _ (names : List (List ℕ)) (q : QuestionValue) (as_many : length names ≡ q.topology.nodes) where
  frontier_valid : (points : List PointValue) (refuted : List Candidate) (unknown : List UnknownValue) → ArePoints names q as_many points → AreListed q refuted → AreUnknown q unknown → IsFrontier q (frontier points refuted unknown)
  frontier_valid points refuted unknown a b c = record { points = a.each; refuted = b.within; unknown = c.each; points_ascend = a.listed.ascending; refuted_ascend = b.ascending; unknown_ascend = c.listed.ascending }

  pub nothing_valid : IsFrontier q nothing_found
  nothing_valid = frontier_valid [] [] [] (no_points names q as_many) (none_listed q) (none_unknown q)

  -- the frontier that was read, or one whose first lines were
  pub frontier_gives : IsLimits q.limits → (x : Part) (p : Place) → GivesPart (λ f. frontier_lines names (x, f)) (IsFrontier q) p (frontier_at names q x p)
  unfolding frontier_at
  frontier_gives ok x p =
      let A : List PointValue → List (List (List ℕ)) = flat_map (point_lines names) in
      let B : List Candidate → List (List (List ℕ)) = map refuted_words in
      let C : List UnknownValue → List (List (List ℕ)) = map unknown_words in
      let title : List (List (List ℕ)) = part_words x ∷ [] in
      gives_then _ _ (fixed_gives (part_bytes x) (part_words x) (grind arith) p)
      (λ e line. record { value = nothing_found; valid = nothing_valid; cut = cut_here _ p e.1 line })
      (λ h read head. gives_then _ _ (parts_give (point_lines names) (ArePoints names q as_many) (codes "point ") (frontier_point_at names q) (point_steps names q as_many ok) (no_points names q as_many) h.1)
      (λ e s. record { value = frontier s.value [] []; valid = frontier_valid s.value [] [] s.valid (none_listed q) (none_unknown q); cut = cut_on title (A s.value ++ []) p h.1 e.1 head.1 (cut_more (A s.value) [] h.1 e.1 s.cut) })
      (λ a ra ta. gives_then _ _ (lines_give (codes "refuted ") (refuted_line q) refuted_words (AreListed q) (refuted_takes q) (none_listed q) a.1)
      (λ e s. record {
        value = frontier a.0 s.value [];
        valid = frontier_valid a.0 s.value [] ta.valid s.valid (none_unknown q);
        cut = cut_on title (A a.0 ++ (B s.value ++ [])) p h.1 e.1 head.1 (cut_on (A a.0) (B s.value ++ []) h.1 a.1 e.1 ta.lines (cut_more (B s.value) [] a.1 e.1 s.cut));
      })
      (λ b rb tb. gives_then _ _ (lines_give (codes "unknown ") (unknown_line q) unknown_words (AreUnknown q) (unknown_takes q ok) (none_unknown q) b.1)
      (λ e s. record {
        value = frontier a.0 b.0 s.value;
        valid = frontier_valid a.0 b.0 s.value ta.valid tb.valid s.valid;
        cut = cut_on title (A a.0 ++ (B b.0 ++ C s.value)) p h.1 e.1 head.1 (cut_on (A a.0) (B b.0 ++ C s.value) h.1 a.1 e.1 ta.lines (cut_on (B b.0) (C s.value) a.1 b.1 e.1 tb.lines s.cut));
      })
      (λ c rc tc. gives_done _ (record {
        valid = frontier_valid a.0 b.0 c.0 ta.valid tb.valid tc.valid;
        lines = then_on title (A a.0 ++ (B b.0 ++ C c.0)) p h.1 c.1 head.1 (then_on (A a.0) (B b.0 ++ C c.0) h.1 a.1 c.1 ta.lines (then_on (B b.0) (C c.0) a.1 b.1 c.1 tb.lines tc.lines));
      })))))

-- frontiers that say nothing, of these parts
abbrev pub nothings : List Part → List (Part × FrontierValue)
nothings parts = map (λ x. (x, nothing_found)) parts

module _ (words : WordsValue) (t : NamedTopologyValue) where
  pub record AreFrontiers (parts : List Part) (all : List (Part × FrontierValue)) : Type 0 where
    pub parts_are : map (λ x. x.0) all ≡ parts
    pub valid : All (λ x. IsFrontier (question_of words t x.0) x.1) all

  one_more : (x : Part) (f : FrontierValue) (parts : List Part) (all : List (Part × FrontierValue)) → IsFrontier (question_of words t x) f → AreFrontiers parts all → AreFrontiers (x ∷ parts) ((x, f) ∷ all)
  one_more x f parts all valid are = record { parts_are = ap (λ ps. x ∷ ps) are.parts_are; valid = All-cons (IsFrontierOf words t) (x, f) all valid are.valid }

  pub record AreJoined (k : Kind) (all : List PointValue) : Type 0 where
    pub valid : All (IsJoinedPoint (question_of words t part.Joined)) all
    pub only : k ≢ kind.Allreduce → all ≡ []

  pub none_joined : (k : Kind) → AreJoined k []
  none_joined k = record { valid = All-nil (IsJoinedPoint (question_of words t part.Joined)); only = λ h. refl }

module _ (words : WordsValue) (t : NamedTopologyValue) (as_many : length t.names ≡ t.topology.nodes) where
  -- ---- all frontiers

  pub nothings_are : (parts : List Part) → AreFrontiers words t parts (nothings parts)
  nothings_are [] = record { parts_are = refl; valid = All-nil (IsFrontierOf words t) }
  nothings_are (x ∷ parts) = one_more words t x nothing_found parts (nothings parts) (nothing_valid t.names (question_of words t x) as_many) (nothings_are parts)

  pub frontiers_give : IsLimits words.limits → (parts : List Part) (p : Place) → GivesPart (flat_map (frontier_lines t.names)) (AreFrontiers words t parts) p (frontiers_from words t parts p)
  frontiers_give ok [] p = gives_done _ (record { valid = nothings_are []; lines = here p })
  frontiers_give ok (x ∷ parts) p =
      let F : List (Part × FrontierValue) → List (List (List ℕ)) = flat_map (frontier_lines t.names) in
      gives_then _ _ (frontier_gives t.names (question_of words t x) as_many ok x p)
      (λ e s. record { value = (x, s.value) ∷ nothings parts; valid = one_more words t x s.value parts (nothings parts) s.valid (nothings_are parts); cut = cut_more (frontier_lines t.names (x, s.value)) (F (nothings parts)) p e.1 s.cut })
      (λ f read one. gives_then _ _ (frontiers_give ok parts f.1)
      (λ e s. record { value = (x, f.0) ∷ s.value; valid = one_more words t x f.0 parts s.value one.valid s.valid; cut = cut_on (frontier_lines t.names (x, f.0)) (F s.value) p f.1 e.1 one.lines s.cut })
      (λ rest more later. gives_done _ (record { valid = one_more words t x f.0 parts rest.0 one.valid later.valid; lines = then_on (frontier_lines t.names (x, f.0)) (F rest.0) p f.1 rest.1 one.lines later.lines })))

  -- ---- joined points

  pub joined_gives : IsLimits words.limits → (k : Kind) (p : Place) → GivesPart (joined_lines t.names k) (AreJoined words t k) p (joined_at k words t p)
  joined_gives ok kind.Allreduce p =
      let q = question_of words t part.Joined in
      let title : List (List (List ℕ)) = part_words part.Joined ∷ [] in
      let all_are : (all : List PointValue) → All (IsJoinedPoint q) all → AreJoined words t kind.Allreduce all = λ all valid. record { valid = valid; only = λ h. absurd (h refl) } in
      gives_then _ _ (fixed_gives (part_bytes part.Joined) (part_words part.Joined) refl p)
      (λ e line. record { value = []; valid = none_joined words t kind.Allreduce; cut = cut_here _ p e.1 line })
      (λ h read head. gives_like
      (λ e s. record { value = s.value; valid = all_are s.value s.valid; cut = cut_on title (flat_map (point_lines t.names) s.value) p h.1 e.1 head.1 s.cut })
      (λ x points. record { valid = all_are x.0 points.valid; lines = then_on title (flat_map (point_lines t.names) x.0) p h.1 x.1 head.1 points.lines })
      (parts_give (point_lines t.names) (λ ps. All (IsJoinedPoint q) ps) (codes "point ") (joined_point_at t.names q) (joined_steps t.names q as_many ok) (no_joined t.names q as_many) h.1))
  joined_gives ok k p = gives_done _ (record { valid = none_joined words t k; lines = here p })
