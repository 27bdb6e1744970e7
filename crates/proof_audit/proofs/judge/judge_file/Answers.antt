use Rattle.std.proofs.{Common.{◌≡◌, ◌+◌, ◌<◌, ◌≤◌, length, take, Ok, ap, ◌∙◌, subst, arith, IfSome}, lemmas.List.{length-take-le, with_items_is}}
use Rattle.proof_audit.proofs.Pieces.{is_read, piece_read, more_taken, refused_piece, refused_length, ended}
use Rattle.proof_audit.proofs.judge.judge_file.Goals as goal

pub returns-then-count-eq0-clause-exact : goal.returns-then-count-eq0-clause-exact
returns-then-count-eq0-clause-exact g c = λ t.
    let i = c.loop-place.invariant in
    let room : 0 < length c.read_at.new.buf = omega (arith, c.deref_mut.ensures.len, c.read_at.auto.buf, i.room) in
    let read = is_read c.args.name (λ u. i.stay (c.read_at.ensures.told u)) c.in_ok-count.ensures.read c.in-Some.is in
    c.verdict_of.ensures ∙ ended c.args.limit i.front c.in_ok-passed.passed c.read_at.ensures.told read c.if-count-eq0.true room c.loop-place-test.true c.in_ok-passed.ensures t

pub returns-then-not-branch-clause-exact : goal.returns-then-not-branch-clause-exact
returns-then-not-branch-clause-exact g c =
    let i = c.loop-place.invariant in
    let within : c.in-Some.count ≤ length c.read_at.new.buf = subst (λ o. IfSome o (λ n. n ≤ length c.read_at.new.buf)) c.in-Some.is c.in_ok-count.ensures.within in
    let long : length c.read_at.new.buf ≡ c.loop-place.buffer.len = omega (arith, c.deref_mut.ensures.len, c.read_at.auto.buf) in
    let read = is_read c.args.name (λ u. i.stay (c.read_at.ensures.told u)) c.in_ok-count.ensures.read c.in-Some.is in
    refused_piece c.args.limit i.front _ c.read_at.ensures.told (piece_read read within c.deref.result.now (c.deref.ensures.value ∙ with_items_is c.loop-place.buffer c.read_at.new.buf long))
    (c.in_ok-take.ensures.over (ap (λ b. Ok b) c.if-not-branch.true))

pub loop-place-preserved : goal.loop-place-preserved
loop-place-preserved g c =
    let i = c.loop-place.invariant in
    let n = c.in-Some.count in
    let within : n ≤ length c.read_at.new.buf = subst (λ o. IfSome o (λ k. k ≤ length c.read_at.new.buf)) c.in-Some.is c.in_ok-count.ensures.within in
    let long : length c.read_at.new.buf ≡ c.loop-place.buffer.len = omega (arith, c.deref_mut.ensures.len, c.read_at.auto.buf) in
    let buffer : c.deref.result.now ≡ c.read_at.new.buf = c.deref.ensures.value ∙ with_items_is c.loop-place.buffer c.read_at.new.buf long in
    let read = is_read c.args.name (λ u. i.stay (c.read_at.ensures.told u)) c.in_ok-count.ensures.read c.in-Some.is in
    let size : length (take n c.deref.result.now) ≡ n = ap (λ bs. length (take n bs)) buffer ∙ length-take-le n c.read_at.new.buf within in
    let goes = ap (λ b. Ok b) c.if-not-branch.false in
    record {
      room = i.room;
      within = omega (arith, c.loop-place-test.true, within, c.deref_mut.ensures.len, c.read_at.auto.buf, i.room);
      told = λ u. i.told (c.read_at.ensures.told u);
      kept = c.in_ok-count.ensures.cause.stays (λ e. absurd (cc)) ∙ i.kept;
      stay = λ u name. c.read_at.ensures.stay u name ∙ i.stay (c.read_at.ensures.told u) name;
      reading = c.in_ok-take.ensures.reading goes;
      taken = c.in_ok-take.ensures.taken goes ∙ ap (λ k. k + length (take n c.deref.result.now)) i.taken ∙ ap (λ k. c.loop-place.place + k) size;
      front = more_taken n (take n c.deref.result.now) i.front c.read_at.ensures.told (piece_read read within c.deref.result.now buffer) size (c.in_ok-take.ensures.more goes);
    }

pub returns-clause-exact : goal.returns-clause-exact
returns-clause-exact g c = refused_length c.args.limit c.loop-place.invariant.front c.loop-place-test.false
