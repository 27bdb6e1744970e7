-- What an engine that takes up refutations changes, from call to call.
use Rattle.std.{specs.Prelude.{Bool, IsTrue, Contains}, proofs.{Common.{refl, sym, ◌∙◌, ⊎_elim, subst}, lemmas.List.Elements.Contains-append_left}}
use Rattle.engine_rules.specs.declared.settled.Settled.TheVariants.{Refuted}
use Rattle.candidate_solver.specs.{Kept.{EngineState, KeptMoves}, Laws.{KeptMoves-refl, KeptMoves-trans}}
use Rattle.proof_audit.{specs.Kept.KeepsEach, proofs.Keeping.{keeps_refl, keeps_trans, still_refuted}}
use Rattle.kept_proofs.specs.{Keeping.{TakesUpEach, KeepingMoves}, Members.is_in}

pub KeepingMoves-refl : (kept : Bool) (now : EngineState) → KeepingMoves kept kept now now
KeepingMoves-refl kept now = record {
  moves = KeptMoves-refl now;
  same = refl;
  takes = λ k t x kind there new has. absurd (new kind there);
  keeps = λ k t. keeps_refl now.part now.question now.files;
}

-- what is taken up in the first calls is so behind all, and what is not settled there stands as before the others
takes_both : (a b c : EngineState) → KeptMoves b c → KeepsEach a.part a.question a.files b.files → TakesUpEach a.part a.question a.entries b.entries a.files → TakesUpEach a.part a.question b.entries c.entries b.files → TakesUpEach a.part a.question a.entries c.entries a.files
takes_both a b c second keeps early late x kind there new has = ⊎_elim
    (λ old. subst (λ es. Contains es (x, Refuted)) (sym second.added) (Contains-append_left b.entries second.more (x, Refuted) (early x old.0 old.1 new has)))
    (λ fresh. late x kind there fresh (still_refuted a.part a.question a.files b.files x (keeps x has) has))
    (is_in b.entries x)

pub KeepingMoves-trans : (first second third : Bool) (a b c : EngineState) → KeepingMoves first second a b → KeepingMoves second third b c → KeepingMoves first third a c
KeepingMoves-trans first second third a b c early late = record {
  moves = KeptMoves-trans a b c early.moves late.moves;
  same = late.same ∙ early.same;
  takes = λ kept told.
      let sooner = late.moves.tells told in
      takes_both a b c late.moves (early.keeps kept sooner) (early.takes kept sooner)
      (subst (λ p. TakesUpEach p a.question b.entries c.entries b.files) early.moves.same_part
      (subst (λ q. TakesUpEach b.part q b.entries c.entries b.files) early.moves.same_question
      (late.takes (subst IsTrue (sym early.same) kept) told)));
  keeps = λ kept told.
      keeps_trans a.part a.question a.files b.files c.files (early.keeps kept (late.moves.tells told))
      (subst (λ p. KeepsEach p a.question b.files c.files) early.moves.same_part
      (subst (λ q. KeepsEach b.part q b.files c.files) early.moves.same_question
      (late.keeps (subst IsTrue (sym early.same) kept) told)));
}
