use Rattle.std.proofs.{Common.{arith, ◌≡◌, ◌∙◌, refl, sym, ap, ℕ, ◌+◌, List, [], ◌∷◌, ◌++◌, length, drop, length-append, IsTrue, Result, Ok, Err}, Math.Seq.drop-append_seam, lemmas.{Grind.common_steps, List.append-nil}}
use Rattle.outer_ports.specs.{Port.failed, declared.read_fault.ReadFault.{ReadFault, TheVariants.{Failed, OutOfMemory, TooLong}}}
use Rattle.outer_ports.proofs.Faults.{err_is, handed_on, unmoved}
use Rattle.outer_ports.proofs.reading.read_all.Goals as goal

left_behind : (front rest whole : List ℕ) (n : ℕ) → front ++ rest ≡ whole → length front ≡ n → rest ≡ drop n whole
left_behind front rest whole n is len = rw (← is, ← len) (sym (drop-append_seam front rest))

-- where no more was moved and none was left, all is in front
none_left : (a x b y whole : List ℕ) → a ++ x ≡ b ++ y → b ++ y ≡ whole → y ≡ [] → length a ≡ length b → (a ≡ whole) × (x ≡ [])
none_left a [] b y whole moved was end len = (sym (append-nil a) ∙ moved ∙ was, refl)
none_left a (x ∷ xs) b y whole moved was end len = absurd (omega (arith, ap length moved, length-append a (x ∷ xs), length-append b y, ap length end, len))

-- answers that are unlike
ok_err : {T E : Type 0} (x : T) (e : E) → Ok x ≡ Err e → ⊥
ok_err x e is = absurd (cc)

faults : {T : Type 0} (r : Result T ReadFault) → (r ≡ Err OutOfMemory → r ≡ Err TooLong → ⊥) × (r ≡ Err OutOfMemory → r ≡ Err Failed → ⊥) × (r ≡ Err Failed → r ≡ Err TooLong → ⊥)
faults r = (λ one other. absurd (cc), λ one other. absurd (cc), λ one other. absurd (cc))

pub returns-in_err-bytes : goal.returns-in_err-bytes
returns-in_err-bytes g c = rw (err_is _ OutOfMemory c.from_residual.ensures.1)
    (record { told = λ t. t; cause = unmoved _ _ _ _ refl ((faults _).1 refl); memory = λ _. refl; within = tt; whole = λ _. tt; end = λ _. tt; too_long = λ _ e. absurd ((faults _).0 refl e); one_more = λ _ e. absurd ((faults _).0 refl e); failed = λ _ e. absurd ((faults _).1 refl e); rest = λ _. (0, omega arith, refl) })

pub returns-in_err-read_piece : goal.returns-in_err-read_piece
returns-in_err-read_piece g c = let i = c.loop-buffer.invariant in let piece = c.read_piece.ensures in let I = g.I.Source in let now = c.read_piece.new.source in
    let rest : IsTrue (I.tells now) → I.left now ≡ drop (length c.loop-buffer.bytes.items) (I.left c.args.source.now) = λ t. c.in_err-read_piece.ensures.stays t ∙ left_behind _ _ _ _ (i.taken (piece.told t)) refl in rw (err_is _ Failed c.from_residual-in_err-read_piece.ensures.1)
    (record {
      told = λ t. i.told (piece.told t);
      cause = handed_on failed Failed _ _ _ _ _ i.kept c.in_err-read_piece.was refl piece.cause;
      memory = λ e. absurd ((faults _).1 e refl);
      within = tt;
      whole = λ _. tt;
      end = λ _. tt;
      too_long = λ _ e. absurd ((faults _).2 refl e);
      one_more = λ _ e. absurd ((faults _).2 refl e);
      failed = λ t _. (length c.loop-buffer.bytes.items, omega (arith, c.len.ensures, c.loop-buffer-test.true), rest t);
      rest = λ t. (length c.loop-buffer.bytes.items, omega (arith, i.within), rest t);
    })

pub returns-then-branch-eq0 : goal.returns-then-branch-eq0
returns-then-branch-eq0 g c = let i = c.loop-buffer.invariant in let piece = c.in_ok-read_piece.ensures in let I = g.I.Source in let now = c.read_piece.new.source in
    let all : IsTrue (I.tells now) → (c.read_piece.new.bytes.items ≡ I.left c.args.source.now) × (I.left now ≡ []) = λ t. none_left c.read_piece.new.bytes.items (I.left now) c.loop-buffer.bytes.items (I.left c.loop-buffer.source) _ (piece.moved t) (i.taken (piece.told t)) (piece.end t c.if-branch-eq0.true) (omega (arith, piece.count.1, c.if-branch-eq0.true)) in
    record {
      told = λ t. i.told (piece.told t);
      cause = unmoved _ _ _ _ (piece.cause.stays (λ e. ok_err _ _ e) ∙ i.kept) (λ e. ok_err _ _ e);
      memory = λ e. absurd (ok_err _ _ e);
      within = omega (arith, piece.count.1, c.if-branch-eq0.true, c.len.ensures, c.loop-buffer-test.true);
      whole = λ t. (all t).0;
      end = λ t. (all t).1;
      too_long = λ _ e. absurd (ok_err _ _ e);
      one_more = λ _ e. absurd (ok_err _ _ e);
      failed = λ _ e. absurd (ok_err _ _ e);
      rest = λ _. tt;
    }

pub loop-buffer-preserved : goal.loop-buffer-preserved
loop-buffer-preserved g c = let i = c.loop-buffer.invariant in let piece = c.in_ok-read_piece.ensures in
    record { within = grind (arith, common_steps); room = omega (arith, i.room, piece.capacity); told = λ t. i.told (piece.told t); kept = piece.cause.stays (λ e. ok_err _ _ e) ∙ i.kept; taken = λ t. piece.moved t ∙ i.taken (piece.told t) }

pub returns : goal.returns
returns g c = let i = c.loop-buffer.invariant in let full : length c.loop-buffer.bytes.items ≡ c.args.limit + 1 = omega (arith, i.within, c.len.ensures, c.loop-buffer-test.false) in let I = g.I.Source in let now = c.loop-buffer.source in
    let rest : IsTrue (I.tells now) → I.left now ≡ drop (c.args.limit + 1) (I.left c.args.source.now) = λ t. left_behind _ _ _ _ (i.taken t) full in
    record {
      told = i.told;
      cause = unmoved _ _ _ _ i.kept (λ e. (faults _).2 e refl);
      memory = λ e. absurd ((faults _).0 e refl);
      within = tt;
      whole = λ _. tt;
      end = λ _. tt;
      too_long = λ t _. omega (arith, full, ap length (i.taken t), length-append c.loop-buffer.bytes.items (I.left now));
      one_more = λ t _. rest t;
      failed = λ _ e. absurd ((faults _).2 e refl);
      rest = λ t. (c.args.limit + 1, omega arith, rest t);
    }
