use Rattle.std.proofs.Common.{◌≡◌, ◌≤◌, ◌∙◌, ◌+◌, ◌-◌, ◌∷◌, arith, refl, length, Ok, Err}
use Rattle.command_words.{specs.{Words.texts, inner.Seen.{from_place, seen, seen_all}}, proofs.Taking.{has_place, more_keys, no_keys, one_more, word_read, word_refused, words_read}}
use Rattle.command_words.proofs.reading.command_given.Goals as goal

pub loop-word-init : goal.loop-word-init
loop-word-init c = record { read = refl; right = tt; distinct = no_keys; place = refl }

pub overflow_sub-first : goal.overflow_sub-first
overflow_sub-first c = has_place c.loop-word.places c.loop-word.first c.in-Ok.given.key (omega (arith, c.loop-word.invariant.place)) (omega arith) c.in-Ok.ensures.first c.loop-word.invariant.distinct

pub loop-word-preserved : goal.loop-word-preserved
loop-word-preserved c =
    let kept = from_place c.loop-word.first c.loop-word.places in
    let index : 19 - c.loop-word.first ≡ c.loop-word.word-index + 1 = omega (arith, c.loop-word.invariant.place) in
    let within : c.loop-word.first ≤ 18 = omega (arith, c.loop-word.invariant.place) in
    let long : length c.loop-word.places ≡ 18 = omega arith in
    let some = has_place c.loop-word.places c.loop-word.first c.in-Ok.given.key within long c.in-Ok.ensures.first c.loop-word.invariant.distinct in
    let here = one_more c.loop-word.places c.loop-word.first c.in-Ok.given some within long in
    record {
      read = rw here (word_read c.args.verb (seen_all kept) (19 - c.loop-word.first) c.args.words.now c.loop-word.word-index c.word-item.result c.deref.result.now (Ok (seen c.in-Ok.given ∷ seen_all kept)) c.loop-word-test.true c.word-item.is c.deref.ensures index c.in-Ok.ensures.read ∙ c.loop-word.invariant.read);
      right = rw here (record { fit = c.in-Ok.ensures.right.fit; taken = c.in-Ok.ensures.right.taken; place = omega (arith, c.in-Ok.ensures.right.place, index, c.loop-word-test.true) }, c.loop-word.invariant.right);
      distinct = rw here (more_keys c.in-Ok.given.key kept c.in-Ok.ensures.first c.loop-word.invariant.distinct);
      place = omega (arith, some, c.loop-word.invariant.place);
    }

pub returns-in-Err-clause-read : goal.returns-in-Err-clause-read
returns-in-Err-clause-read c =
    let index : 19 - c.loop-word.first ≡ c.loop-word.word-index + 1 = omega (arith, c.loop-word.invariant.place) in
    word_refused c.args.verb (texts c.args.words.now) (record { code = c.in-Err.code; word = 19 - c.loop-word.first }) (word_read c.args.verb (seen_all (from_place c.loop-word.first c.loop-word.places)) (19 - c.loop-word.first) c.args.words.now c.loop-word.word-index c.word-item.result c.deref.result.now (Err c.in-Err.code) c.loop-word-test.true c.word-item.is c.deref.ensures index c.in-Err.ensures.read ∙ c.loop-word.invariant.read)

pub returns-clause-read : goal.returns-clause-read
returns-clause-read c =
    c.command_from.ensures.read ∙ words_read c.args.verb (seen_all (from_place c.loop-word.first c.loop-word.places)) c.args.words.now c.loop-word.word-index (19 - c.loop-word.first) (omega (arith, c.loop-word-test.false)) (omega (arith, c.loop-word.invariant.place)) c.loop-word.invariant.read
