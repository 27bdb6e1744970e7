-- The JSON of a report: its numbers are small, its texts are names and words, and what is printed of it is read back.
use Rattle.std.proofs.{Common.{◌≡◌, ◌⊎◌, inl, inr, ℕ, ◌^◌, ◌<◌, ◌≤◌, Bool, true, false, List, map, Some, option_map, refl, sym, ap, ◌∙◌, ltb-true, arith, Ok, All, codes, slice_index_or}, lemmas.Bool.and_parts}
use Rattle.text_lines.specs.{Text.text_of, Check.◌>>=◌}
use Rattle.outer_ports.specs.declared.part.Part.{Part}
use Rattle.outer_ports.specs.declared.part.Part.TheVariants as part
use Rattle.collective_spec.{specs.{Collectives.chunks_in, Kinds.{takes_root, word_of}, declared.kind.Kind.Kind}, proofs.Chunks.{FewBase, chunks_few}}
use Rattle.collective_spec.specs.declared.kind.Kind.TheVariants as kind
use Rattle.candidate_order.specs.{declared.{candidate.Candidate.Candidate, mark.Mark.Mark}, Ranges.IsLimits, Frontiers.{QuestionValue, PointValue, FrontierValue, IsWithin}}
use Rattle.candidate_order.specs.declared.mark.Mark.TheVariants as mark
use Rattle.topology_text.specs.Names.{is_name}
use Rattle.report_form.specs.{Reports.{HasSchedule, IsFrontier, IsJoinedPoint, IsPrintedPoint, IsReport, ReportValue, question_of}, Reading.report_of, Spelling.{part_words, report_lines, report_text}}
use Rattle.report_laws.proofs.{PointsAgain.base_of, ReportAgain.report_again}
use Rattle.serde_json.specs.Data.{string}
use Rattle.json_values.{specs.{Json.{array_of, count_of, printed}, Answer.{of_json, of_text}}, proofs.{Built.{plain_name, plain_topology}, Plain.{Plain, deeper, plain_array, plain_count, plain_list, plain_object, plain_word, text_back}}}
use Rattle.json_rules.specs.{ReportForm.{frontier, point, send, words}, ReportJson.{report_json, report_text_in}, Answer.report_of_json}
use Rattle.json_reports.{specs.Candidates.{refuted, unknown}, proofs.{Keys.words_with, ReportForm.report_form}}

module _ (names : List (List ℕ)) (named : All (λ n. is_name n ≡ true) names) where
  -- ---- points and frontiers

  module _ (q : QuestionValue) (limits : IsLimits q.limits) (nodes : q.topology.nodes ≤ 16) (base : FewBase q.spec) where
    plain_point : (p : PointValue) → HasSchedule q p → p.candidate.s ≤ 16 → p.candidate.r ≤ 32 → p.candidate.c ≤ 16 → ((n : ℕ) → p.mark ≡ mark.Joined n → n < 2 ^ 64) → Plain 3 ((point names).json p)
    plain_point p has s r c adding = by_mark p.mark refl
      where
        steps : Plain 2 (count_of p.candidate.s)
        steps = plain_count (omega (arith, s))

        copies : Plain 2 (count_of p.candidate.c)
        copies = plain_count (omega (arith, c))

        total : Plain 2 (count_of p.candidate.r)
        total = plain_count (omega (arith, r))

        rounds : Plain 2 (array_of (map count_of p.schedule.rounds))
        rounds = plain_list count_of p.schedule.rounds (λ i d below. let round = has.schedule.rounds i d below in plain_count (omega (arith, round.few)))

        sends : Plain 2 (array_of (map (send names).json p.schedule.sends))
        sends = plain_list (send names).json p.schedule.sends (λ i d below.
            let chunks = chunks_in q.spec q.topology.nodes p.candidate.c in
            let chunk = ltb-true _ chunks (and_parts _ _ (has.in_range i d below)).0 in
            let step = has.schedule.steps i d below in
            plain_array (plain_count (omega (arith, chunk, chunks_few q.spec q.topology.nodes p.candidate.c nodes c base)), (plain_name names named _, (plain_name names named _, (plain_count (omega (arith, step.to, has.schedule.few)), tt)))))

        by_mark : (m : Mark) → p.mark ≡ m → Plain 3 ((point names).json (record p { mark = m }))
        by_mark mark.Optimal e = plain_object refl (refl, copies, (refl, plain_word refl, (refl, total, (refl, rounds, (refl, steps, (refl, sends, tt))))))
        by_mark mark.Open e = plain_object refl (refl, copies, (refl, plain_word refl, (refl, total, (refl, rounds, (refl, steps, (refl, sends, tt))))))
        by_mark (mark.Joined n) e = plain_object refl (refl, plain_count (adding n e), (refl, copies, (refl, plain_word refl, (refl, total, (refl, rounds, (refl, steps, (refl, sends, tt)))))))

    not_joined : (m : Mark) → (m ≡ mark.Optimal) ⊎ (m ≡ mark.Open) → (n : ℕ) → m ≡ mark.Joined n → n < 2 ^ 64
    not_joined m (inl e) n joined = absurd cc
    not_joined m (inr e) n joined = absurd cc

    printed_point : (p : PointValue) → IsPrintedPoint q p → Plain 3 ((point names).json p)
    printed_point p h =
        let w = h.within in
        plain_point p h.has (omega (arith, w.steps, limits.steps)) (omega (arith, w.steps, w.rounds, limits.steps, limits.k)) (omega (arith, w.chunks, limits.chunks)) (not_joined p.mark h.mark)

    joined_point : (p : PointValue) → IsJoinedPoint q p → Plain 3 ((point names).json p)
    joined_point p h =
        plain_point p h.has (omega (arith, h.steps, limits.steps)) (omega (arith, h.steps, h.rounds, limits.steps, limits.k)) (omega (arith, h.chunks, limits.chunks))
        (λ n e. let same : mark.Joined h.adding ≡ mark.Joined n = sym h.mark ∙ e in let is : h.adding ≡ n = cc in omega (arith, h.some_copy, h.steps, limits.steps, is))

    small : (x : Candidate) → IsWithin q x → (x.s < 2 ^ 64) × (x.r < 2 ^ 64) × (x.c < 2 ^ 64)
    small x w = (omega (arith, w.steps, limits.steps), omega (arith, w.steps, w.rounds, limits.steps, limits.k), omega (arith, w.chunks, limits.chunks))

    part_word : (x : Part) → Plain 4 (string (slice_index_or (part_words x) 1 (codes "joined")))
    part_word part.Whole = plain_word refl
    part_word part.Reduce = plain_word refl
    part_word part.Gather = plain_word refl
    part_word part.Joined = plain_word refl

    plain_frontier : (x : Part) (f : FrontierValue) → IsFrontier q f → Plain 5 ((frontier names).json (x, f))
    plain_frontier x f h =
        let points = plain_list (point names).json f.points (λ i d below. printed_point _ (h.points i d below)) in
        let none : Plain 4 (array_of (map refuted.json f.refuted)) = plain_list refuted.json f.refuted (λ i d below. let n = small _ (h.refuted i d below) in plain_array (plain_count n.0, (plain_count n.1, (plain_count n.2, tt)))) in
        let open_ones : Plain 4 (array_of (map unknown.json f.unknown)) = plain_list unknown.json f.unknown (λ i d below.
        let is = h.unknown i d below in
        let n = small _ is.within in
        plain_array (plain_count n.0, (plain_count n.1, (plain_count n.2, (plain_count (omega (arith, is.conflicts, limits.conflicts)), tt))))) in
        plain_object refl (refl, part_word x, (refl, points, (refl, none, (refl, open_ones, tt))))

-- ---- the words

kind_word : (k : Kind) → Plain 0 (string (word_of k))
kind_word kind.Broadcast = plain_word refl
kind_word kind.Gather = plain_word refl
kind_word kind.Allgather = plain_word refl
kind_word kind.Scatter = plain_word refl
kind_word kind.Alltoall = plain_word refl
kind_word kind.Reduce = plain_word refl
kind_word kind.Reducescatter = plain_word refl
kind_word kind.Allreduce = plain_word refl
kind_word kind.Custom = plain_word refl

module _ {k s c n : ℕ} {kind root : List ℕ} (k_plain : Plain 0 (count_of k)) (s_plain : Plain 0 (count_of s)) (c_plain : Plain 0 (count_of c)) (n_plain : Plain 0 (count_of n)) (of_kind : Plain 0 (string kind)) (of_root : Plain 0 (string root)) where
  plain_words : (rooted cuts ordered : Bool) → Plain 1 (words_with k s c n kind root rooted cuts ordered)
  plain_words true true true = plain_object refl (refl, c_plain, (refl, of_kind, (refl, n_plain, (refl, plain_word refl, (refl, k_plain, (refl, plain_word refl, (refl, of_root, (refl, s_plain, tt))))))))
  plain_words true true false = plain_object refl (refl, c_plain, (refl, of_kind, (refl, n_plain, (refl, plain_word refl, (refl, k_plain, (refl, of_root, (refl, s_plain, tt)))))))
  plain_words true false true = plain_object refl (refl, c_plain, (refl, of_kind, (refl, n_plain, (refl, k_plain, (refl, plain_word refl, (refl, of_root, (refl, s_plain, tt)))))))
  plain_words true false false = plain_object refl (refl, c_plain, (refl, of_kind, (refl, n_plain, (refl, k_plain, (refl, of_root, (refl, s_plain, tt))))))
  plain_words false true true = plain_object refl (refl, c_plain, (refl, of_kind, (refl, n_plain, (refl, plain_word refl, (refl, k_plain, (refl, plain_word refl, (refl, s_plain, tt)))))))
  plain_words false true false = plain_object refl (refl, c_plain, (refl, of_kind, (refl, n_plain, (refl, plain_word refl, (refl, k_plain, (refl, s_plain, tt))))))
  plain_words false false true = plain_object refl (refl, c_plain, (refl, of_kind, (refl, n_plain, (refl, k_plain, (refl, plain_word refl, (refl, s_plain, tt))))))
  plain_words false false false = plain_object refl (refl, c_plain, (refl, of_kind, (refl, n_plain, (refl, k_plain, (refl, s_plain, tt)))))

-- ---- the whole

pub plain_report : (r : ReportValue) → IsReport r → Plain 7 (report_json r)
plain_report r h =
    let names = r.topology.names in
    let named = h.topology.names.each in
    let ask = question_of r.words r.topology in
    let limits = h.words.limits in
    let nodes = h.topology.topology.few in
    let base : (x : Part) → FewBase (ask x).spec = λ x. base_of r.words r.topology x h.topology.custom in
    let frontiers : Plain 6 (array_of (map (frontier names).json r.frontiers)) = plain_list (frontier names).json r.frontiers (λ i d below. let x = slice_index_or r.frontiers i d in plain_frontier names named (ask x.0) limits nodes (base x.0) x.0 x.1 (h.frontiers i d below)) in
    let joined : Plain 4 (array_of (map (point names).json r.joined)) = plain_list (point names).json r.joined (λ i d below. joined_point names named (ask part.Joined) limits nodes (base part.Joined) _ (h.joined i d below)) in
    let asked : Plain 1 ((words names).json r.words) = plain_words (plain_count (omega (arith, limits.k))) (plain_count (omega (arith, limits.steps))) (plain_count (omega (arith, limits.chunks))) (plain_count (omega (arith, limits.conflicts))) (kind_word r.words.collective.kind) (plain_name names named r.words.collective.root) (takes_root r.words.collective.kind) r.words.limits.pruning.cuts r.words.limits.pruning.ordered in
    plain_object refl (refl, frontiers, (refl, deeper (omega arith) joined, (refl, deeper (omega arith) (plain_topology r.topology h.topology), (refl, deeper (omega arith) asked, tt))))

report_text_is : (r : ReportValue) → text_of (report_lines r) ≡ report_text r
unfolding report_text
report_text_is r = refl

pub report_back : (r : ReportValue) → IsReport r → report_of_json (printed (report_json r)) ≡ Ok r
report_back r valid =
    let text : report_text_in (report_json r) ≡ Some (report_text r) = ap (option_map text_of) (report_form r valid) ∙ ap Some (report_text_is r) in
    ap (λ x. of_json x >>= λ found. of_text (report_of found)) (text_back report_text_in (report_json r) (report_text r) (plain_report r valid) (omega arith) text) ∙ ap of_text (report_again r valid)
