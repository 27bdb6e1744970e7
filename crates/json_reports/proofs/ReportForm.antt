-- The JSON of a report has the form, and stands for the report's text.
use Rattle.std.proofs.Common.{◌≡◌, ◌≢◌, ℕ, ◌<◌, Bool, true, false, List, [], ◌∷◌, ◌++◌, map, length, Option, Some, None, refl, sym, ap, ap₂, ◌∙◌, subst, arith, append_assoc, codes, decimal, bytes_eq, nat_lt, if◌then◌else◌, option_map, slice_index_or, ◌&&◌}
use Rattle.std.{proofs.lemmas.{List.Elements.recursion_from_All, Bool.{and_parts, ltb-true}}, specs.{Prelude.unwrap_or, List.{All, AllByRecursion, flat_map}}}
use Rattle.outer_ports.specs.declared.part.Part.{Part}
use Rattle.outer_ports.specs.declared.part.Part.TheVariants as part
use Rattle.schedule.{specs.{declared.hop.Hop.Hop, Links.GroupValue, Sends.is_hop_below}, proofs.First.each_weaker}
use Rattle.collective_spec.specs.{declared.kind.Kind.Kind, Kinds.{word_of, takes_root}, Patterns.PatternValue, Collectives.chunks_in}
use Rattle.collective_spec.specs.declared.kind.Kind.TheVariants as kind
use Rattle.candidate_order.specs.{declared.mark.Mark.Mark, Frontiers.{PointValue, FrontierValue, QuestionValue}}
use Rattle.candidate_order.specs.declared.mark.Mark.TheVariants as mark
use Rattle.topology_text.specs.{Names.AreNames, Spelling.{name_at, version_word}}
use Rattle.report_form.specs.Reports.{WordsValue, ReportValue, IsReport, IsFrontier, IsPrintedPoint, IsJoinedPoint, HasSchedule, parts_of, question_of}
use Rattle.report_form.specs.Spelling.{pruning_words, synth_words, point_lines, send_words, refuted_words, unknown_words, frontier_lines, joined_lines, report_lines}
use Rattle.list_laws.proofs.Each.{each_always}
use Rattle.serde_json.{specs.{Data.{Data, string}, Find.{as_array, get}}, proofs.Views.get_member-put}
use Rattle.json_values.{specs.{Shape.{◌>>=◌, ◌⊕◌, one, headed}, Forms.{count, each, name, row_read}, TopologyForm.version, TopologyJson.topology_json}, proofs.TopologyForm.{each_one, each_some, name_there, topology_form}}
use Rattle.json_reports.{specs.Candidates.{refuted, unknown}, proofs.Keys.{counts_with, words_with}}
use Rattle.json_rules.specs.{ReportForm.{send, point, frontier, kinds, words}, ReportJson.{report_json, report_in}}

-- the sends are of nodes that have a name
abbrev SendsBelow : List (List ℕ) → PointValue → Type 0
SendsBelow names p = AllByRecursion (λ h. (h.from < length names) × (h.to < length names)) p.schedule.sends

module _ (names : List (List ℕ)) (named : AreNames names) where
  send_found : (h : Hop) → (h.from < length names) × (h.to < length names) → (send names).read ((send names).json h) ≡ Some (send_words names h ∷ [])
  send_found h below =
      ap₂ (λ from to. one (headed (codes "send") (Some (decimal h.chunk ∷ []) ⊕ from ⊕ to ⊕ Some (decimal h.step ∷ [])))) (name_there names named h.from below.0) (name_there names named h.to below.1)

  point_of : (s r c : ℕ) (rounds : List ℕ) (sends : List Hop) (m : Mark) → AllByRecursion (λ h. (h.from < length names) × (h.to < length names)) sends
      → (point names).read ((point names).json (record { candidate = record { s = s; r = r; c = c }; schedule = record { rounds = rounds; sends = sends }; mark = m })) ≡ Some (point_lines names (record { candidate = record { s = s; r = r; c = c }; schedule = record { rounds = rounds; sends = sends }; mark = m }))
  point_of s r c rounds sends m below = by_mark m
    where
      counted : (each count).read ((each count).json rounds) ≡ Some (map decimal rounds)
      counted = each_one count decimal rounds (each_always _ (λ n. refl) rounds)

      sent : (each (send names)).read ((each (send names)).json sends) ≡ Some (map (send_words names) sends)
      sent = each_one (send names) (send_words names) sends (each_weaker _ _ send_found sends below)

      by_mark : (m : Mark) → (point names).read ((point names).json (record { candidate = record { s = s; r = r; c = c }; schedule = record { rounds = rounds; sends = sends }; mark = m })) ≡ Some (point_lines names (record { candidate = record { s = s; r = r; c = c }; schedule = record { rounds = rounds; sends = sends }; mark = m }))
      by_mark mark.Optimal = rw (counted, sent) refl
      by_mark mark.Open = rw (counted, sent) refl
      by_mark (mark.Joined adding) = rw (counted, sent) refl

  points_found : (points : List PointValue) → AllByRecursion (SendsBelow names) points → (each (point names)).read ((each (point names)).json points) ≡ Some (flat_map (point_lines names) points)
  points_found points below = each_some (point names) (point_lines names) points (each_weaker _ _ (λ (p : PointValue). point_of p.candidate.s p.candidate.r p.candidate.c p.schedule.rounds p.schedule.sends p.mark) points below)

  frontier_found : (p : Part) (f : FrontierValue) → p ≢ part.Joined → AllByRecursion (SendsBelow names) f.points → (frontier names).read ((frontier names).json (p, f)) ≡ Some (frontier_lines names (p, f))
  frontier_found p f h below = by_part p h
    where
      none : (each refuted).read ((each refuted).json f.refuted) ≡ Some (map refuted_words f.refuted)
      none = each_one refuted refuted_words f.refuted (each_always _ (λ x. refl) f.refuted)

      open_ones : (each unknown).read ((each unknown).json f.unknown) ≡ Some (map unknown_words f.unknown)
      open_ones = each_one unknown unknown_words f.unknown (each_always _ (λ x. refl) f.unknown)

      by_part : (p : Part) → p ≢ part.Joined → (frontier names).read ((frontier names).json (p, f)) ≡ Some (frontier_lines names (p, f))
      by_part part.Whole h = rw (points_found f.points below, none, open_ones) refl
      by_part part.Reduce h = rw (points_found f.points below, none, open_ones) refl
      by_part part.Gather h = rw (points_found f.points below, none, open_ones) refl
      by_part part.Joined h = absurd (h refl)

-- ---- the words

kind_found : (k : Kind) → kinds.read (string (word_of k)) ≡ Some (word_of k ∷ [])
kind_found kind.Broadcast = refl
kind_found kind.Gather = refl
kind_found kind.Allgather = refl
kind_found kind.Scatter = refl
kind_found kind.Alltoall = refl
kind_found kind.Reduce = refl
kind_found kind.Reducescatter = refl
kind_found kind.Allreduce = refl
kind_found kind.Custom = refl

-- the words of a search, with a root or without, where these are the word of its kind and the name of its root
module _ (names : List (List ℕ)) (k s c n : ℕ) (kind root : List ℕ) (is_kind : kinds.read (string kind) ≡ Some (kind ∷ [])) (is_name : name.read (string root) ≡ Some (root ∷ [])) where
  abbrev line_of : Option (List (List ℕ)) → Option (List (List ℕ)) → List (List ℕ) → Option (List (List (List ℕ)))
  line_of collective at_root said =
      one (headed (codes "synth") (option_map (map (λ w. codes "collective" ++ 61 ∷ w)) collective ⊕ Some ((codes "k=" ++ decimal k) ∷ []) ⊕ Some ((codes "steps=" ++ decimal s) ∷ []) ⊕ Some ((codes "chunks=" ++ decimal c) ∷ []) ⊕ Some ((codes "conflicts=" ++ decimal n) ∷ []) ⊕ at_root ⊕ Some said))

  members_found : (rooted cuts ordered : Bool) → (words names).read (words_with k s c n kind root rooted cuts ordered) ≡ line_of (Some (kind ∷ [])) (Some (if rooted then (codes "root=" ++ root) ∷ [] else [])) (pruning_words (record { cuts = cuts; ordered = ordered }))
  members_found true true true = rw (is_kind, is_name) refl
  members_found true true false = rw (is_kind, is_name) refl
  members_found true false true = rw (is_kind, is_name) refl
  members_found true false false = rw (is_kind, is_name) refl
  members_found false true true = rw is_kind refl
  members_found false true false = rw is_kind refl
  members_found false false true = rw is_kind refl
  members_found false false false = rw is_kind refl

module _ (names : List (List ℕ)) (named : AreNames names) (w : WordsValue) (below : w.collective.root < length names) where
  words_found : (words names).read ((words names).json w) ≡ Some (synth_words names w ∷ [])
  words_found =
      members_found names w.limits.k w.limits.max_s w.limits.max_c w.limits.conflicts (word_of w.collective.kind) (name_at names w.collective.root) (kind_found w.collective.kind) (name_there names named w.collective.root below)
      (takes_root w.collective.kind) w.limits.pruning.cuts w.limits.pruning.ordered

  joins_found : (get (codes "collective") ((words names).json w) >>= kinds.read) ≡ Some (word_of w.collective.kind ∷ [])
  joins_found =
      let others = counts_with w.limits.k w.limits.max_s w.limits.max_c w.limits.conflicts (name_at names w.collective.root) (takes_root w.collective.kind) w.limits.pruning.cuts w.limits.pruning.ordered in
      ap (λ o. o >>= kinds.read) (get_member-put (codes "collective") (string (word_of w.collective.kind)) others) ∙ kind_found w.collective.kind

-- ---- the whole

title_of : (names : List (List ℕ)) (nodes : ℕ) (groups : List GroupValue) (custom : Option PatternValue) → (get (codes "version") (topology_json (record { names = names; topology = record { nodes = nodes; groups = groups }; custom = custom })) >>= version.read) ≡ Some (version_word custom ∷ [])
title_of names nodes groups None = refl
title_of names nodes groups (Some p) = refl

mapped : {X Y : Type 0} (P : Y → Type 0) (f : X → Y) (xs : List X) → AllByRecursion P (map f xs) → AllByRecursion (λ x. P (f x)) xs
mapped P f [] h = tt
mapped P f (x ∷ xs) h = (h.0, mapped P f xs h.1)

parts_have : (k : Kind) → AllByRecursion (λ p. p ≢ part.Joined) (parts_of k)
parts_have kind.Broadcast = ((λ e. cc), tt)
parts_have kind.Gather = ((λ e. cc), tt)
parts_have kind.Allgather = ((λ e. cc), tt)
parts_have kind.Scatter = ((λ e. cc), tt)
parts_have kind.Alltoall = ((λ e. cc), tt)
parts_have kind.Reduce = ((λ e. cc), tt)
parts_have kind.Reducescatter = ((λ e. cc), tt)
parts_have kind.Allreduce = ((λ e. cc), ((λ e. cc), tt))
parts_have kind.Custom = ((λ e. cc), tt)

abbrev joined_read : List (List ℕ) → Bool → Data → Option (List (List (List ℕ)))
joined_read names joins d = if joins then headed (codes "joined" ∷ []) ((each (point names)).read d) else as_array d >>= row_read []

joined_found : (names : List (List ℕ)) → AreNames names → (k : Kind) (joined : List PointValue) → AllByRecursion (SendsBelow names) joined → (k ≢ kind.Allreduce → joined ≡ [])
    → joined_read names (bytes_eq (word_of k) (codes "allreduce")) ((each (point names)).json joined) ≡ Some (joined_lines names k joined)
joined_found names named kind.Allreduce joined below only = ap (headed (codes "joined" ∷ [])) (points_found names named joined below)
joined_found names named kind.Broadcast joined below only = ap (λ j. joined_read names false ((each (point names)).json j)) (only (λ e. cc))
joined_found names named kind.Gather joined below only = ap (λ j. joined_read names false ((each (point names)).json j)) (only (λ e. cc))
joined_found names named kind.Allgather joined below only = ap (λ j. joined_read names false ((each (point names)).json j)) (only (λ e. cc))
joined_found names named kind.Scatter joined below only = ap (λ j. joined_read names false ((each (point names)).json j)) (only (λ e. cc))
joined_found names named kind.Alltoall joined below only = ap (λ j. joined_read names false ((each (point names)).json j)) (only (λ e. cc))
joined_found names named kind.Reduce joined below only = ap (λ j. joined_read names false ((each (point names)).json j)) (only (λ e. cc))
joined_found names named kind.Reducescatter joined below only = ap (λ j. joined_read names false ((each (point names)).json j)) (only (λ e. cc))
joined_found names named kind.Custom joined below only = ap (λ j. joined_read names false ((each (point names)).json j)) (only (λ e. cc))

hop_within : (size chunks nodes : ℕ) → size ≡ nodes → (h : Hop) → is_hop_below chunks nodes h ≡ true → (h.from < size) × (h.to < size)
hop_within size chunks nodes many h is =
    let ends = and_parts (nat_lt h.from nodes) (nat_lt h.to nodes) (and_parts (nat_lt h.chunk chunks) (nat_lt h.from nodes && nat_lt h.to nodes) is).1 in
    (omega (arith, ltb-true h.from nodes ends.0), omega (arith, ltb-true h.to nodes ends.1))

sends_within : (names : List (List ℕ)) (chunks nodes : ℕ) (sends : List Hop) → length names ≡ nodes → All (λ h. is_hop_below chunks nodes h ≡ true) sends → AllByRecursion (λ h. (h.from < length names) × (h.to < length names)) sends
sends_within names chunks nodes sends many each = each_weaker _ _ (hop_within (length names) chunks nodes many) sends (recursion_from_All _ sends each)

frontier_each : (names : List (List ℕ)) → AreNames names → (xs : List (Part × FrontierValue)) → AllByRecursion (λ x. x.0 ≢ part.Joined) xs → AllByRecursion (λ x. AllByRecursion (SendsBelow names) x.1.points) xs
    → AllByRecursion (λ x. (frontier names).read ((frontier names).json x) ≡ Some (frontier_lines names x)) xs
frontier_each names named [] h k = tt
frontier_each names named (x ∷ xs) h k = (frontier_found names named x.0 x.1 h.0 k.0, frontier_each names named xs h.1 k.1)

pub report_form : (r : ReportValue) → IsReport r → report_in (report_json r) ≡ Some (report_lines r)
report_form r valid =
    let names = r.topology.names in
    let named = valid.topology.names in
    let w = r.words in
    let k = w.collective.kind in
    let below = λ (q : QuestionValue) (same : length names ≡ q.topology.nodes) (p : PointValue) (has : HasSchedule q p). sends_within names (chunks_in q.spec q.topology.nodes p.candidate.c) q.topology.nodes p.schedule.sends same has.in_range in
    let each_part = mapped (λ p. p ≢ part.Joined) (λ x. x.0) r.frontiers (subst (AllByRecursion (λ p. p ≢ part.Joined)) (sym valid.parts) (parts_have k)) in
    let points = each_weaker _ _ (λ (x : Part × FrontierValue) (ok : IsFrontier (question_of w r.topology x.0) x.1). each_weaker _ _ (λ (p : PointValue) (h : IsPrintedPoint (question_of w r.topology x.0) p). below (question_of w r.topology x.0) valid.topology.as_many p h.has) x.1.points (recursion_from_All _ x.1.points ok.points)) r.frontiers (recursion_from_All _ r.frontiers valid.frontiers) in
    let joined = each_weaker _ _ (λ (p : PointValue) (h : IsJoinedPoint (question_of w r.topology part.Joined) p). below (question_of w r.topology part.Joined) valid.topology.as_many p h.has) r.joined (recursion_from_All _ r.joined valid.joined) in
    let title = title_of names r.topology.topology.nodes r.topology.topology.groups r.topology.custom in
    let parts = each_some (frontier names) (frontier_lines names) r.frontiers (frontier_each names named r.frontiers each_part points) in
    let points_joined = ap (λ o. joined_read names (unwrap_or (option_map (λ ts. bytes_eq (slice_index_or ts 0 []) (codes "allreduce")) o) false) ((each (point names)).json r.joined)) (joins_found names named w valid.words.root) ∙ joined_found names named k r.joined joined valid.only_allreduce in
    rw (topology_form r.topology valid.topology, title, words_found names named w valid.words.root, parts, points_joined, append_assoc (flat_map (frontier_lines names) r.frontiers) (joined_lines names k r.joined) ((codes "end" ∷ []) ∷ [])) refl
