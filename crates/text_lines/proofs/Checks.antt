-- Where a block of checks passes, and where it fails.
use Rattle.std.proofs.Common.{arith, ◌≡◌, ℕ, Bool, true, false, Option, None, Some, Result, Ok, Err, List, [], ◌∷◌, ◌⊎◌, refl, sym, ap, inl, inr, if◌then◌else◌}
use Rattle.text_lines.specs.{Text.{Row, Place, behind}, Check.{◌>>=◌, refuse, need, at_line, first, line_part}}

-- a block passes where each of its steps does
pub bind_ok : {A B C : Type 0} (r : Result A C) (f : A → Result B C) (y : B) → (r >>= f) ≡ Ok y → (x : A) × (r ≡ Ok x) × (f x ≡ Ok y)
bind_ok (Ok x) f y e = (x, refl, e)
bind_ok (Err c) f y e = absurd (cc)

pub refuse_ok : {B C : Type 0} (b : Bool) (code : C) (f : Unit {0} → Result B C) (y : B) → (refuse b code >>= f) ≡ Ok y → (b ≡ false) × (f tt ≡ Ok y)
refuse_ok true code f y e = absurd (cc)
refuse_ok false code f y e = (refl, e)

pub refuse_alone : {C : Type 0} (b : Bool) (code : C) (u : Unit {0}) → refuse b code ≡ Ok u → b ≡ false
refuse_alone true code u e = absurd (cc)
refuse_alone false code u e = refl

-- a value that a test lets through
pub if_some : {A : Type 0} (b : Bool) (o : Option A) (x : A) → (if b then o else None) ≡ Some x → (b ≡ true) × (o ≡ Some x)
if_some true o x e = (refl, e)
if_some false o x e = absurd (cc)

pub need_ok : {A B C : Type 0} (o : Option A) (code : C) (f : A → Result B C) (y : B) → (need o code >>= f) ≡ Ok y → (x : A) × (o ≡ Some x) × (f x ≡ Ok y)
need_ok None code f y e = absurd (cc)
need_ok (Some x) code f y e = (x, refl, e)

pub need_is : {A C : Type 0} (o : Option A) (code : C) (x : A) → need o code ≡ Ok x → o ≡ Some x
need_is None code x e = absurd (cc)
need_is {A} {C} (Some y) code x e = let same : y ≡ x = cc in ap (λ z. Some z) same

pub at_line_ok : {A C : Type 0} (n : ℕ) (r : Result A C) (x : A) → at_line n r ≡ Ok x → r ≡ Ok x
at_line_ok n (Ok y) x e = let same : y ≡ x = cc in ap (λ z. Ok z) same
at_line_ok n (Err c) x e = absurd (cc)

abbrev pub done : {A C : Type 0} → A → Result A C
done x = Ok x

pub ok_is : {A C : Type 0} (x y : A) → done {C = C} x ≡ done y → x ≡ y
ok_is x y e = cc

pub first_is : {A : Type 0} (rows : List A) (row : A) → first rows ≡ Some row → (more : List A) × (rows ≡ row ∷ more)
first_is [] row e = absurd (cc)
first_is (r ∷ rs) row e = let same : r ≡ row = cc in (rs, ap (λ x. x ∷ rs) same)

pub part_ok : {A C : Type 0} (check : Option Row → Result A C) (p : Place) (x : A × Place) → line_part check p ≡ Ok x → (check (first p.rows) ≡ Ok x.0) × (x.1 ≡ behind p)
part_ok {A} {C} check p x e = grind (arith, bind_ok, ok_is, at_line_ok)

-- a block fails where its first step does, or where the rest does after it
pub bind_err : {A B C : Type 0} (r : Result A C) (f : A → Result B C) (e : C) → (r >>= f) ≡ Err e → (r ≡ Err e) ⊎ ((x : A) × (r ≡ Ok x) × (f x ≡ Err e))
bind_err (Ok x) f e h = inr (x, refl, h)
bind_err (Err c) f e h = let same : c ≡ e = cc in inl (ap (λ z. Err z) same)

-- the fault of a line's check is at that line
pub line_err : {A C : Type 0} (n : ℕ) (r : Result A C) (e : C × ℕ) → at_line n r ≡ Err e → (r ≡ Err e.0) × (e.1 ≡ n)
line_err n (Ok x) e h = absurd (cc)
line_err n (Err c) e h = let same : (c, n) ≡ e = cc in (ap (λ z. Err z.0) same, sym (ap (λ z. z.1) same))

-- a part fails where the check of its line does, at the line of its place
pub part_err_at : {A C : Type 0} (check : Option Row → Result A C) (p : Place) (e : C × ℕ) → line_part check p ≡ Err e → (check (first p.rows) ≡ Err e.0) × (e.1 ≡ p.number)
part_err_at {A} {C} check p e h = grind arith

-- a check of a line, and what comes of it at a place
pub after_line : {A B C : Type 0} (n : ℕ) (c : Result A C) (p : Place) (f : A × Place → Result B (C × ℕ)) → (at_line n c >>= (λ x. f (x, p))) ≡ ((at_line n c >>= (λ x. Ok (x, p))) >>= f)
after_line n (Ok x) p f = refl
after_line n (Err e) p f = refl
