-- What the checks of refuted and unknown candidates took stands there, and is valid.
use Rattle.std.proofs.{Common.{◌≡◌, true, ◌&&◌, List, [], ◌∷◌, ◌++◌, map, None, sym, ap, ◌∙◌, subst, arith, ◌==◌, decimal, codes, All, AllPairs}, lemmas.{Bool.{and_parts, eqb-true}, List.{map-append, Elements.{All-push, All-nil}}}}
use Rattle.std.specs.List.{last_or}
use Rattle.list_laws.proofs.Pairs.{no_pairs}
use Rattle.text_lines.proofs.Gives.{Takes}
use Rattle.candidate_order.{specs.{declared.candidate.Candidate.Candidate, Ranges.IsLimits, Costs.Before, Frontiers.{QuestionValue, UnknownValue, IsWithin, IsUnknown}}, proofs.Orders.has_chunk}
use Rattle.report_form.specs.{Spelling.{refuted_words, unknown_words}, Tests.{is_within, comes_next}, Reading.{refuted_from, refuted_line, unknown_from, unknown_line}}
use Rattle.report_form.proofs.{Tested.decides_within, Ascending.push_candidate, Tokens.any_number_is, LineTaken.ruled_takes, Shapes.{refuted_take, unknown_take}}

module _ (q : QuestionValue) where
  -- candidates within the limits, in the order of the search
  pub record AreListed (xs : List Candidate) : Type 0 where
    pub within : All (IsWithin q) xs
    pub ascending : AllPairs Before xs

  pub none_listed : AreListed []
  none_listed = record { within = All-nil (IsWithin q); ascending = no_pairs Before }

  pub push_listed : (before : List Candidate) (x : Candidate) → AreListed before → IsWithin q x → comes_next (last_or None before) x ≡ true → AreListed (before ++ x ∷ [])
  push_listed before x are w next = record {
    within = All-push (IsWithin q) before x are.within w;
    ascending = push_candidate before x (λ k d low. has_chunk q _ (are.within k d low)) (has_chunk q x w) are.ascending next;
  }

  -- the same by a part of each element
  pub push_part : {A : Type 0} (part : A → Candidate) (before : List A) (x : A) → AreListed (map part before) → IsWithin q (part x) → comes_next (last_or None (map part before)) (part x) ≡ true → AreListed (map part (before ++ x ∷ []))
  push_part part before x are w next = subst AreListed (sym (map-append part before (x ∷ []))) (push_listed (map part before) (part x) are w next)

  pub refuted_takes : Takes (codes "refuted ") (refuted_line q) refuted_words AreListed
  refuted_takes = ruled_takes (codes "refuted ") refuted_from (λ before x. is_within q x && comes_next (last_or None before) x) refuted_words AreListed
      (λ before words x are shape rule. let parts = and_parts (is_within q x) (comes_next (last_or None before) x) rule in (refuted_take words x shape, push_listed before x are ((decides_within q x).0 parts.0) parts.1))

  abbrev candidates : List UnknownValue → List Candidate
  candidates us = map (λ u. u.candidate) us

  pub record AreUnknown (us : List UnknownValue) : Type 0 where
    pub each : All (IsUnknown q) us
    pub listed : AreListed (candidates us)

  pub none_unknown : AreUnknown []
  none_unknown = record { each = All-nil (IsUnknown q); listed = none_listed }

  pub unknown_takes : IsLimits q.limits → Takes (codes "unknown ") (unknown_line q) unknown_words AreUnknown
  unknown_takes ok = ruled_takes (codes "unknown ") unknown_from (λ before u. is_within q u.candidate && comes_next (last_or None (candidates before)) u.candidate && u.conflicts == q.limits.conflicts) unknown_words AreUnknown
      (λ before words u are shape rule.
      let taken = unknown_take words u shape in
      let parts = and_parts (is_within q u.candidate && comes_next (last_or None (candidates before)) u.candidate) (u.conflicts == q.limits.conflicts) rule in
      let front = and_parts (is_within q u.candidate) (comes_next (last_or None (candidates before)) u.candidate) parts.0 in
      let w = (decides_within q u.candidate).0 front.0 in
      let same = eqb-true u.conflicts q.limits.conflicts parts.1 in
      let number = any_number_is taken.token u.conflicts taken.number (omega (arith, same, ok.conflicts)) in (
        taken.stands ∙ ap (λ w. codes "unknown" ∷ decimal u.candidate.s ∷ decimal u.candidate.r ∷ decimal u.candidate.c ∷ w ∷ []) number,
        record { each = All-push (IsUnknown q) before u are.each (record { within = w; conflicts = same }); listed = push_part (λ v. v.candidate) before u are.listed w front.1 },
      ))
