-- Clauses that lie one after another in one list of literals, as it grows.
use Rattle.std.proofs.Common.{zero, suc, ◌≡◌, ℕ, ◌+◌, ◌-◌, ◌<◌, ◌≤◌, List, [], ◌∷◌, ◌++◌, length, get_or, take, drop, refl, sym, ap, ◌∙◌, arith, length-drop, slice_range, flat_map}
use Rattle.std.proofs.lemmas.List.{take-append-le, drop-append-le, drop_at, take_all, drop_all, Folds.drop_split}
use Rattle.cnf_formula.specs.{Literals.LitValue, inner.Lying.{cut, AreEnds}}

pub range_longer : {X : Type 0} (old new : List X) (start end : ℕ) → start ≤ end → end ≤ length old → slice_range (old ++ new) start end ≡ slice_range old start end
range_longer old new start end h w =
    ap (take (end - start)) (drop-append-le start old new (omega (arith, h, w))) ∙ take-append-le (end - start) (drop start old) new (omega (arith, length-drop start old, h, w))

pub range_new : {X : Type 0} (old new : List X) (start end : ℕ) → start ≡ length old → end ≡ length old + length new → slice_range (old ++ new) start end ≡ new
range_new old new start end p q = ap (take (end - start)) (drop_at old new start (sym p)) ∙ take_all (end - start) new (omega (arith, p, q))

ends_within : (from : ℕ) (ends : List ℕ) (last : ℕ) → AreEnds from ends last → from ≤ last
ends_within from [] last h = omega (arith, h)
ends_within from (end ∷ ends) last h = omega (arith, h.0, ends_within end ends last h.1)

pub ends_at : (from : ℕ) (ends : List ℕ) (last place : ℕ) → AreEnds from ends last → place < length ends → (get_or (from ∷ ends) place 0 ≤ get_or ends place 0) × (get_or ends place 0 ≤ last)
ends_at from [] last place h w = absurd (omega (arith, w))
ends_at from (end ∷ ends) last zero h w = (h.0, ends_within end ends last h.1)
ends_at from (end ∷ ends) last (suc place) h w = ends_at end ends last place h.1 (omega (arith, w))

pub ends_push : (from : ℕ) (ends : List ℕ) (last end : ℕ) → AreEnds from ends last → last ≤ end → AreEnds from (ends ++ end ∷ []) end
ends_push from [] last end h w = (omega (arith, h, w), refl)
ends_push from (x ∷ ends) last end h w = (h.0, ends_push x ends last end h.1 w)

pub cut_long : (lits : List LitValue) (from : ℕ) (ends : List ℕ) → length (cut lits from ends) ≡ length ends
cut_long lits from [] = refl
cut_long lits from (end ∷ ends) = ap (λ n. suc n) (cut_long lits end ends)

pub cut_at : (lits : List LitValue) (from : ℕ) (ends : List ℕ) (place : ℕ) → place < length ends → get_or (cut lits from ends) place [] ≡ slice_range lits (get_or (from ∷ ends) place 0) (get_or ends place 0)
cut_at lits from [] place w = absurd (omega (arith, w))
cut_at lits from (end ∷ ends) zero w = refl
cut_at lits from (end ∷ ends) (suc place) w = cut_at lits end ends place (omega (arith, w))

pub cut_push : (lits new : List LitValue) (from : ℕ) (ends : List ℕ) (end : ℕ) → AreEnds from ends (length lits) → end ≡ length lits + length new → cut (lits ++ new) from (ends ++ end ∷ []) ≡ cut lits from ends ++ new ∷ []
cut_push lits new from [] end h e = ap (λ c. c ∷ []) (range_new lits new from end h e)
cut_push lits new from (x ∷ ends) end h e =
    ap (λ c. c ∷ cut (lits ++ new) x (ends ++ end ∷ [])) (range_longer lits new from x h.0 (ends_within x ends (length lits) h.1)) ∙ ap (λ cs. slice_range lits from x ∷ cs) (cut_push lits new x ends end h.1 e)

pub cut_joined : (lits : List LitValue) (from : ℕ) (ends : List ℕ) → AreEnds from ends (length lits) → flat_map (λ clause. clause) (cut lits from ends) ≡ drop from lits
cut_joined lits from [] h = sym (drop_all from lits (omega (arith, h)))
cut_joined lits from (end ∷ ends) h = ap (λ r. slice_range lits from end ++ r) (cut_joined lits end ends h.1) ∙ sym (drop_split lits from end h.0)
