-- Whether a candidate is in a record.
use Rattle.std.specs.{Prelude.{◌≡◌, ◌⊎◌, ◌==◌, ◌&&◌, Bool, true, false, [], ◌∷◌, Contains}, Bool.Decides}
use Rattle.std.proofs.{Common.{refl, ap, inl, inr, ⊎_elim, arith}, lemmas.{Bool.{false≢true, Decides.{Decides-and, Decides-eqb, Decides-like}}, List.Elements.{Contains-append_right, Contains-append_cases, Contains-push_cases}}}
use Rattle.candidate_order.specs.declared.candidate.Candidate.{Candidate}
use Rattle.engine_rules.specs.{declared.settled.Settled.{Settled, TheVariants.{Solved, Refuted, Unknown}}, Outcomes.{RecordValue, IsNew}}

-- what is or is not
abbrev pub Decided : Type 0 → Type 0
Decided P = P ⊎ (P → ⊥)

decided : {P : Type 0} (b : Bool) → Decides b P → Decided P
decided true d = inl (d.0 refl)
decided false d = inr (λ p. absurd (false≢true (d.1 p)))

same_candidate : (x y : Candidate) → Decided (x ≡ y)
same_candidate x y = decided (x.s == y.s && x.r == y.r && x.c == y.c) (Decides-like _
    (λ e i. record { s = e.0.0 i; r = e.0.1 i; c = e.1 i })
    (λ e. ((ap (λ z. z.s) e, ap (λ z. z.r) e), ap (λ z. z.c) e))
    (Decides-and _ _ (Decides-and _ _ (Decides-eqb x.s y.s) (Decides-eqb x.r y.r)) (Decides-eqb x.c y.c)))

same_kind : (k l : Settled) → Decided (k ≡ l)
same_kind Solved Solved = inl refl
same_kind Refuted Refuted = inl refl
same_kind Unknown Unknown = inl refl
same_kind _ _ = inr (λ e. absurd (cc))

same_entry : (d e : Candidate × Settled) → Decided (d ≡ e)
same_entry d e = ⊎_elim
    (λ same. ⊎_elim (λ kind. inl (λ i. (same i, kind i))) (λ apart. inr (λ is. apart (ap (λ (p : Candidate × Settled). p.1) is))) (same_kind d.1 e.1))
    (λ apart. inr (λ is. apart (ap (λ (p : Candidate × Settled). p.0) is)))
    (same_candidate d.0 e.0)

-- a record has an entry or not
pub has_entry : (entries : RecordValue) (x : Candidate) (kind : Settled) → Decided (Contains entries (x, kind))
has_entry [] x kind = inr (λ there. absurd (omega (arith, there.1)))
has_entry (e ∷ es) x kind = ⊎_elim
    (λ there. inl (Contains-append_right (e ∷ []) es (x, kind) there))
    (λ none. ⊎_elim
    (λ same. inl (0, omega arith, same))
    (λ apart. inr (λ there. ⊎_elim (λ front. ⊎_elim (λ empty. absurd (omega (arith, empty.1))) apart (Contains-push_cases [] e (x, kind) front)) none (Contains-append_cases (e ∷ []) es (x, kind) there)))
    (same_entry e (x, kind)))
    (has_entry es x kind)

-- a candidate was settled, or is new
pub is_in : (entries : RecordValue) (x : Candidate) → ((kind : Settled) × Contains entries (x, kind)) ⊎ IsNew entries x
is_in entries x = ⊎_elim (λ a. inl (Solved, a))
    (λ a. ⊎_elim (λ b. inl (Refuted, b)) (λ b. ⊎_elim (λ c. inl (Unknown, c)) (λ c. inr (new a b c)) (has_entry entries x Unknown)) (has_entry entries x Refuted))
    (has_entry entries x Solved)
  where
    new : (Contains entries (x, Solved) → ⊥) → (Contains entries (x, Refuted) → ⊥) → (Contains entries (x, Unknown) → ⊥) → IsNew entries x
    new a b c Solved = a
    new a b c Refuted = b
    new a b c Unknown = c
