-- What an engine that keeps proofs changes, from call to call.
use Rattle.std.{specs.Prelude.{◌≡◌, [], ◌++◌, Contains}, proofs.{Common.{refl, sym, ◌∙◌, ap, inl, inr, ⊎_elim, subst}, lemmas.List.{append-nil, append_assoc, Elements.Contains-append_left}}}
use Rattle.outer_ports.specs.declared.proof_name.ProofName.{ProofName}
use Rattle.candidate_order.specs.declared.candidate.Candidate.{Candidate}
use Rattle.candidate_formula.{specs.{Formulas.formula_for, Files.candidate_of}, proofs.BegunFiles.{begun_refl, begun_trans, begun_weaker}}
use Rattle.engine_rules.specs.Outcomes.{RecordValue, IsNew}
use Rattle.candidate_solver.specs.Kept.{EngineState, IsTouched, KeptMoves}

pub KeptMoves-refl : (now : EngineState) → KeptMoves now now
KeptMoves-refl now = record {
  same_part = refl;
  same_question = refl;
  more = [];
  added = sym (append-nil now.entries);
  stays = λ x e. e;
  tells = λ t. t;
  begun = λ t. begun_refl;
}

-- a candidate that the record lacks now it lacked before
still_new : (before now more : RecordValue) (x : Candidate) → now ≡ before ++ more → IsNew now x → IsNew before x
still_new before now more x added new = λ kind h. new kind (subst (λ r. Contains r (x, kind)) (sym added) (Contains-append_left before more (x, kind) h))

module _ (a b c : EngineState) (first : KeptMoves a b) (second : KeptMoves b c) where
  -- touched in the first call, or in the later one, is touched by both
  touched_first : (name : ProofName) → IsTouched a b name → IsTouched a c name
  touched_first name t = record {
    of_part = t.of_part;
    of_candidate = ⊎_elim
        (λ e. inl (e.0, subst (λ r. Contains r (candidate_of name, e.0)) (sym second.added) (Contains-append_left b.entries second.more (candidate_of name, e.0) e.1), e.2))
        (λ s. inr (second.stays (candidate_of name) s))
        t.of_candidate;
  }

  touched_later : (name : ProofName) → IsTouched b c name → IsTouched a c name
  touched_later name t = record {
    of_part = t.of_part ∙ first.same_part;
    of_candidate = ⊎_elim
        (λ e. inl (e.0, e.1, still_new a.entries b.entries first.more (candidate_of name) first.added e.2))
        (λ s. inr s)
        t.of_candidate;
  }

pub KeptMoves-trans : (a b c : EngineState) → KeptMoves a b → KeptMoves b c → KeptMoves a c
KeptMoves-trans a b c first second = record {
  same_part = second.same_part ∙ first.same_part;
  same_question = second.same_question ∙ first.same_question;
  more = first.more ++ second.more;
  added = second.added ∙ ap (λ r. r ++ second.more) first.added ∙ append_assoc a.entries first.more second.more;
  stays = λ x e. second.stays x (first.stays x e);
  tells = λ t. first.tells (second.tells t);
  begun = λ t.
      begun_trans
      (begun_weaker (λ name touched. (touched_first a b c first second name touched, refl)) (first.begun (second.tells t)))
      (begun_weaker (λ name touched. (touched_later a b c first second name touched, ap (λ q. formula_for q (candidate_of name)) first.same_question)) (second.begun t));
}
