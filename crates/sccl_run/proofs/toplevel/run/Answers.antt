use Rattle.std.proofs.Common.{Err, ap, refl}
use Rattle.command_words.specs.Words.{texts}
use Rattle.run_rules.specs.declared.halt.Halt.TheVariants.{Memory, Source, Shelf}
use Rattle.sccl_run.proofs.{Calls.{call_answered, call_cut_off, call_unread, call_unshelved, call_without_memory}, Runs.{appended_as, left_answered, left_cut_off, left_unread, left_unshelved, left_without_memory, part_of, run_answered, run_cut_off, run_halted}}
use Rattle.sccl_run.proofs.toplevel.run.Goals as goal

pub returns-in-Ok-write_all : goal.returns-in-Ok-write_all
returns-in-Ok-write_all g c =
    let words = texts c.args.words.now in let a = c.in-Ok.ensures in let answer = c.in-Ok.answer in record {
      source_told = a.told;
      sink_told = c.in-Ok-write_all.ensures.told;
      shelf_told = a.shelf_told;
      run = run_answered _ _ _ _ _ _ _ _ answer.text.items
          (call_answered words _ _ _ _ _ _ answer.status a.ends a.cause c.in-Ok-write_all.ensures.cause a.shelf_cause a.unread a.unopened a.behind_refusals) (λ told. left_answered words _ _ answer.status a.ends (a.read told)) a.answers
          (λ told. appended_as _ _ answer.text.items _ (c.in-Ok-write_all.ensures.whole told) c.deref.ensures.value);
    }

pub returns-in-Ok : goal.returns-in-Ok
returns-in-Ok g c =
    let words = texts c.args.words.now in let a = c.in-Ok.ensures in let text = c.in-Ok.answer.text.items in record {
      source_told = a.told;
      sink_told = c.in-Err.ensures.told;
      shelf_told = a.shelf_told;
      run = run_cut_off _ _ _ _ _ _ _ _ c.in-Ok.answer.status text
          (part_of (g.O.Sink.tells c.write_all.new.sink) (g.O.Sink.written c.args.sink.now) (g.O.Sink.written c.write_all.new.sink) text _ c.deref.ensures.value c.in-Err.ensures.prefix) refl
          (call_cut_off words _ _ _ _ _ _ a.cause (c.in-Err.ensures.cause.rose refl) a.shelf_cause a.unread a.unopened) (λ told. left_cut_off words _ _ (a.read told)) a.answers;
    }

pub returns-in-Err-Memory : goal.returns-in-Err-Memory
returns-in-Err-Memory g c =
    let words = texts c.args.words.now in let a = c.in-Err-Memory.ensures in let is = c.in-Err-Memory.field-0-is in
    record { source_told = a.told; sink_told = λ told. told; shelf_told = a.shelf_told; run = run_halted _ _ _ _ _ _ _ _ Memory is refl (call_without_memory words _ _ _ _ _ _ is a.cause refl a.shelf_cause a.unread refl a.unopened) (λ told. left_without_memory words _ _ (a.memory told (ap Err is))) a.halts }

pub returns-in-Err-Source : goal.returns-in-Err-Source
returns-in-Err-Source g c =
    let words = texts c.args.words.now in let a = c.in-Err-Source.ensures in let is = c.in-Err-Source.field-0-is in
    record { source_told = a.told; sink_told = λ told. told; shelf_told = a.shelf_told; run = run_halted _ _ _ _ _ _ _ _ Source is refl (call_unread words _ _ _ _ _ _ (a.reads (ap Err is)) is a.cause refl a.shelf_cause refl (a.behind_source (ap Err is))) (λ told. left_unread words _ _ (a.part told (ap Err is))) a.halts }

pub returns : goal.returns
returns g c =
    let words = texts c.args.words.now in let a = c.in-Err-Shelf.ensures in let is = c.in-Err-Shelf.field-0-is in
    record { source_told = a.told; sink_told = λ told. told; shelf_told = a.shelf_told; run = run_halted _ _ _ _ _ _ _ _ Shelf is refl (call_unshelved words _ _ _ _ _ _ (a.opens (ap Err is)) is a.cause refl a.shelf_cause a.unread refl) (λ told. left_unshelved words _ _ (a.behind told (ap Err is))) a.halts }
