use Rattle.std.proofs.{Common.{IsTrue, Ok, IfOk, inl, refl, subst, sym, ap, ◌∙◌}, lemmas.Result.IfOk-from_err}
use Rattle.command_words.specs.Words.{texts}
use Rattle.run_rules.specs.{declared.halt.Halt.TheVariants.{Memory, Source, Shelf}, Commands.{opens_shelf, reads_source}}
use Rattle.sccl_run.specs.inner.Answering.{Answers}
use Rattle.sccl_run.proofs.{Dues.{asks, asks_no_reading, asks_one, refused_asks_nothing}, Texts.{answers_words, halts_before, halts_words, if_ok, opens_read, other_told, passed_on, read_or_not, refused_words, stood, was_told}, Calls.unmoved}
use Rattle.sccl_run.proofs.toplevel.answer.Goals as goal

pub returns-in_err-text-in-Ok : goal.returns-in_err-text-in-Ok
returns-in_err-text-in-Ok g c =
    let words = texts c.args.words.now in let s = c.source_text.ensures in let x = c.from_residual.result in let err = c.from_residual.ensures.0 in
    let was = was_told c.source_text.result c.in_err-text-in-Ok.field-0.0 x c.in_err-text-in-Ok.was c.from_residual.ensures.1 in let read = sym c.in-Ok.ensures.read in
    record {
      ends = IfOk-from_err x _ err;
      answers = IfOk-from_err x _ err;
      halts = halts_before words (g.I.Source.tells c.source_text.new.source) (g.I.Source.left c.args.source.now) _ x (λ name. refl) (λ e. s.shelf (was Shelf e));
      told = s.told;
      cause = passed_on Source c.source_text.result c.in_err-text-in-Ok.field-0.0 x c.in_err-text-in-Ok.was c.from_residual.ensures.1 s.cause;
      reads = λ e. asks reads_source words c.in-Ok.command read (sym c.reads_source.ensures ∙ s.reads (was Source e));
      unread = λ none. s.untouched (c.reads_source.ensures ∙ asks_no_reading words c.in-Ok.command read none);
      read = λ _ _. IfOk-from_err x _ err;
      memory = λ told e. inl (ap g.I.Source.left (s.memory (was Memory e)));
      part = λ told e. s.part told (was Source e);
      behind = λ _ e. absurd (s.shelf (was Shelf e));
      shelf_told = λ told. told;
      shelf_cause = stood (λ e. s.shelf (was Shelf e)) refl;
      opens = λ e. absurd (s.shelf (was Shelf e));
      unopened = λ _. refl;
      behind_source = λ _. refl;
      behind_refusals = IfOk-from_err x _ err;
    }

pub returns-in_ok-text-in-Ok : goal.returns-in_ok-text-in-Ok
returns-in_ok-text-in-Ok g c =
    let words = texts c.args.words.now in let command = c.in-Ok.command in let read = sym c.in-Ok.ensures.read in let s = c.source_text.ensures in let due = c.reads_source.ensures in let x = c.text_answer.result in let a = c.text_answer.ensures in
    let tells = g.I.Source.tells c.source_text.new.source in let had = g.I.Source.left c.args.source.now in let text = c.in_ok-text-in-Ok.text in
    let whole = λ (told : IsTrue tells) (reads : IsTrue (reads_source (Ok command))). c.in_ok-text-in-Ok.ensures.whole told (due ∙ reads) in
    record {
      ends = subst (λ x. IfOk c.text_answer.result (λ a. Answers x a.status)) c.in-Ok.ensures.read a.ends;
      answers = answers_words words command read tells had text whole c.in_ok-text-in-Ok.ensures.longer _ x a.answers;
      halts = halts_words words command read tells had text whole c.in_ok-text-in-Ok.ensures.longer _ x a.last a.leaves;
      told = s.told;
      cause = stood a.source (unmoved c.in_ok-text-in-Ok.ensures.cause);
      reads = λ e. absurd (a.source e);
      unread = λ none. s.untouched (due ∙ asks_no_reading words command read none);
      read = λ told ask. if_ok x (c.in_ok-text-in-Ok.ensures.read told (due ∙ asks_one reads_source words command read ask));
      memory = λ told e. read_or_not c.reads_source.result (λ unread. ap g.I.Source.left (s.untouched unread)) (λ yes. c.in_ok-text-in-Ok.ensures.read told yes);
      part = λ told e. absurd (a.source e);
      behind = λ told e. c.in_ok-text-in-Ok.ensures.read told (due ∙ opens_read command (a.opens e));
      shelf_told = a.told;
      shelf_cause = a.cause;
      opens = λ e. asks opens_shelf words command read (a.opens e);
      unopened = λ none. a.unopened (λ opens. none (asks opens_shelf words command read opens));
      behind_source = λ e. absurd (a.source e);
      behind_refusals = a.untouched;
    }

pub returns-in_err-refused_word-in-Err : goal.returns-in_err-refused_word-in-Err
returns-in_err-refused_word-in-Err g c =
    let x = c.from_residual-in_err-refused_word-in-Err.result in let err = c.from_residual-in_err-refused_word-in-Err.ensures.0 in let source = other_told Memory x c.from_residual-in_err-refused_word-in-Err.ensures.1 Source (λ e. cc) in
    let shelf = other_told Memory x c.from_residual-in_err-refused_word-in-Err.ensures.1 Shelf (λ e. cc) in
    record {
      ends = IfOk-from_err x _ err;
      answers = IfOk-from_err x _ err;
      halts = halts_before (texts c.args.words.now) (g.I.Source.tells c.args.source.now) (g.I.Source.left c.args.source.now) _ x (λ name. refl) shelf;
      told = λ told. told;
      cause = stood source refl;
      reads = λ e. absurd (source e);
      unread = λ _. refl;
      read = λ _ _. IfOk-from_err x _ err;
      memory = λ _ _. inl refl;
      part = λ _ e. absurd (source e);
      behind = λ _ e. absurd (shelf e);
      shelf_told = λ told. told;
      shelf_cause = stood shelf refl;
      opens = λ e. absurd (shelf e);
      unopened = λ _. refl;
      behind_source = λ _. refl;
      behind_refusals = IfOk-from_err x _ err;
    }

pub returns-in_ok-refused_word-in-Err-clause-answers :
    goal.returns-in_ok-refused_word-in-Err-clause-answers
returns-in_ok-refused_word-in-Err-clause-answers g c =
    refused_words (texts c.args.words.now) c.in-Err.fault (sym c.in-Err.ensures.read) _ _ _ c.in_ok-refused_word-in-Err.field-0.status c.in_ok-refused_word-in-Err.field-0.text.items (λ told name. refl) c.in_ok-refused_word-in-Err.ensures

pub returns-in_ok-refused_word-in-Err-clause-read :
    goal.returns-in_ok-refused_word-in-Err-clause-read
returns-in_ok-refused_word-in-Err-clause-read g c = λ told ask. absurd (refused_asks_nothing reads_source (texts c.args.words.now) c.in-Err.fault refl (sym c.in-Err.ensures.read) ask)
