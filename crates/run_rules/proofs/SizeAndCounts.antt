-- Whether a search can be done, check by check.
use Rattle.std.proofs.{Common.{◌≡◌, ◌≤◌, ◌==◌, ℕ, Bool, true, length, List, Result, Err, sym, ap, ◌∙◌, false, Ok, refl, nat_lt}, lemmas.Bool.{ltb-false}}
use Rattle.text_lines.specs.Check.{◌>>=◌, refuse}
use Rattle.collective_spec.{specs.{declared.{collective.Collective.Collective}, Collectives.{fits_kind}}, proofs.Sized.fitting_kind}
use Rattle.candidate_order.specs.{Frontiers.QuestionValue, Ranges.LimitsValue}
use Rattle.candidate_formula.specs.{Counts.{allowed_up_to, chunk_counts}, Sizes.size_of}
use Rattle.round_encoding.specs.Candidates.{size_limit}
use Rattle.topology_text.specs.Value.{NamedTopologyValue}
use Rattle.report_form.specs.Reports.{WordsValue}
use Rattle.run_rules.specs.{declared.status.Status.TheVariants.{TooLarge, NoCandidate}, Refusals.{Refusal, refused_at}, Tasks.searchable, Steps.whole_question}

-- ---- the size and the chunk counts of a question

module _ (q : QuestionValue) where
  behind_size : Bool → Result (Unit {0}) Refusal
  behind_size large = refuse large (refused_at TooLarge 0 (size_of q)) >>= (λ _. refuse (length (chunk_counts q) == 0) (refused_at NoCandidate 0 0))

  by_size : (large : Bool) → nat_lt size_limit (size_of q) ≡ large → searchable q ≡ behind_size large
  unfolding behind_size
  by_size large e = ap behind_size e

  small_if : (large : Bool) → nat_lt size_limit (size_of q) ≡ large → searchable q ≡ Ok tt → size_of q ≤ size_limit
  unfolding behind_size
  small_if true e can = let impossible : Err (refused_at TooLarge 0 (size_of q)) ≡ Ok tt = sym (by_size true e) ∙ can in absurd (cc)
  small_if false e can = ltb-false size_limit (size_of q) e

  -- what can be searched is small enough
  pub is_small : searchable q ≡ Ok tt → size_of q ≤ size_limit
  is_small can = small_if (nat_lt size_limit (size_of q)) refl can

-- ---- as the code has it

-- the counts of the search are those of the kind of the words
pub counts_are : (w : WordsValue) (t : NamedTopologyValue) (collective : Collective) (limits : LimitsValue) (nodes : ℕ) (counts : List ℕ) → fits_kind w.collective.kind t.custom ≡ true → collective ≡ w.collective → limits ≡ w.limits → nodes ≡ t.topology.nodes
    → counts ≡ allowed_up_to limits.max_c collective.kind nodes → counts ≡ chunk_counts (whole_question w t)
counts_are w t collective limits nodes counts fits same within as_many listed =
    listed ∙ ap (λ (x : LimitsValue). allowed_up_to x.max_c collective.kind nodes) within ∙ ap (λ (x : Collective). allowed_up_to w.limits.max_c x.kind nodes) same
    ∙ ap (allowed_up_to w.limits.max_c w.collective.kind) as_many ∙ sym (ap (λ kind. allowed_up_to w.limits.max_c kind t.topology.nodes) (fitting_kind w.collective t.custom fits))
