use Rattle.std.proofs.Common.{◌≡◌, ◌≢◌, ℕ, Bool, IsTrue, List, Result, Ok, Err, IfOk, OnErr, refl, subst, sym}
use Rattle.outer_ports.specs.{Files.Files, Port.{HasCause, Tells}}
use Rattle.command_words.specs.declared.command.Command.{Command}
use Rattle.run_rules.specs.{declared.{answer.Answer.Answer, halt.Halt.{Halt, TheVariants.{Source, Shelf}}}, Commands.{IsRefusal, opens_shelf}, Refusals.Refusal}
use Rattle.run_rules.specs.{Answers.{FilesValue, IsAnswer, LeavesOff}, Tasks.task_of}
use Rattle.sccl_run.proofs.commands.command_answer.Goals as goal

-- what an answer says of a command that opens the shelf
module _ {S : Type 0} (tells : S → Bool) (file : S → Files) (faults : S → ℕ) (bytes : List ℕ) (old new : S) (x : Result Answer Halt) where
  abbrev Found : Command → Type 0
  Found c = record { answers : IfOk x (λ a. IsAnswer (task_of c bytes) (record { told = tells new; before = file old; after = file new }) a.status a.text.items); leaves : IsTrue (tells new) → OnErr x (LeavesOff (task_of c bytes) (file old) (file new)); untouched : IfOk x (λ a. IsRefusal a.status → new ≡ old); last : x ≡ Err Shelf → (r : Refusal) → task_of c bytes ≡ Err r → ⊥; source : x ≢ Err Source; told : Tells (tells old) (tells new); cause : HasCause Shelf (faults old) (faults new) x }

  opened : (c d : Command) → c ≡ d → IsTrue (opens_shelf (Ok d)) → Found d → record {
    answers : IfOk x (λ a. IsAnswer (task_of c bytes) (record { told = tells new; before = file old; after = file new }) a.status a.text.items);
    leaves : IsTrue (tells new) → OnErr x (LeavesOff (task_of c bytes) (file old) (file new));
    unopened : ¬ IsTrue (opens_shelf (Ok c)) → new ≡ old;
    untouched : IfOk x (λ a. IsRefusal a.status → new ≡ old);
    opens : x ≡ Err Shelf → IsTrue (opens_shelf (Ok c));
    last : x ≡ Err Shelf → (r : Refusal) → task_of c bytes ≡ Err r → ⊥;
    source : x ≢ Err Source;
    told : Tells (tells old) (tells new);
    cause : HasCause Shelf (faults old) (faults new) x;
  }
  opened c d is opens found =
      let there : IsTrue (opens_shelf (Ok c)) = subst (λ c. IsTrue (opens_shelf (Ok c))) (sym is) opens in let f : Found c = subst Found (sym is) found in
      record { answers = f.answers; leaves = f.leaves; unopened = λ none. absurd (none there); untouched = f.untouched; opens = λ _. there; last = f.last; source = f.source; told = f.told; cause = f.cause }

pub returns-in_ok-family_answer-in-Family-clause-answers :
    goal.returns-in_ok-family_answer-in-Family-clause-answers
returns-in_ok-family_answer-in-Family-clause-answers g c =
    let files : FilesValue = record { told = g.H.Shelf.tells c.args.shelf.now; before = g.H.Shelf.file c.args.shelf.now; after = g.H.Shelf.file c.args.shelf.now } in let a = c.in_ok-family_answer-in-Family.field-0 in
    subst (λ d. IsAnswer (task_of d c.args.bytes.now) files a.status a.text.items) (sym c.in-Family.is) (c.in_ok-family_answer-in-Family.ensures files (λ told name. refl))

pub returns-in_ok-trial_answer-in-Trial-clause-answers :
    goal.returns-in_ok-trial_answer-in-Trial-clause-answers
returns-in_ok-trial_answer-in-Trial-clause-answers g c =
    let files : FilesValue = record { told = g.H.Shelf.tells c.args.shelf.now; before = g.H.Shelf.file c.args.shelf.now; after = g.H.Shelf.file c.args.shelf.now } in let a = c.in_ok-trial_answer-in-Trial.field-0 in
    subst (λ d. IsAnswer (task_of d c.args.bytes.now) files a.status a.text.items) (sym c.in-Trial.is) (c.in_ok-trial_answer-in-Trial.ensures files (λ told name. refl))

pub returns-in-Synth : goal.returns-in-Synth
returns-in-Synth g c = opened g.H.Shelf.tells g.H.Shelf.file g.H.Shelf.faults c.args.bytes.now c.args.shelf.now c.synth_answer.new.shelf c.synth_answer.result c.args.command.now _ c.in-Synth.is refl c.synth_answer.ensures

pub returns-in-Check : goal.returns-in-Check
returns-in-Check g c = opened g.H.Shelf.tells g.H.Shelf.file g.H.Shelf.faults c.args.bytes.now c.args.shelf.now c.check_answer.new.shelf c.check_answer.result c.args.command.now _ c.in-Check.is refl c.check_answer.ensures

pub returns-in-Bound : goal.returns-in-Bound
returns-in-Bound g c = opened g.H.Shelf.tells g.H.Shelf.file g.H.Shelf.faults c.args.bytes.now c.args.shelf.now c.bound_answer.new.shelf c.bound_answer.result c.args.command.now _ c.in-Bound.is refl c.bound_answer.ensures

pub returns-in-Degrade : goal.returns-in-Degrade
returns-in-Degrade g c = opened g.H.Shelf.tells g.H.Shelf.file g.H.Shelf.faults c.args.bytes.now c.args.shelf.now c.degrade_answer.new.shelf c.degrade_answer.result c.args.command.now _ c.in-Degrade.is refl c.degrade_answer.ensures
