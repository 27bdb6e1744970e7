-- Entries of a map in which one value was written.
use Rattle.std.{proofs.Common.{◌≡◌, ◌∙◌, refl, sym, ap, Bool, true, false, cond, List, [], ◌∷◌, Some, Result, Ok, Err, OnErr}, specs.{Option.option_map, Result.is_ok, Map.{lookup, set_value}}}

-- what a look-up tells of a value stays where the written value tells the same as the one before it
pub look_up_stays : {K X Y : Type 0} (f : X → Y) (test at : K → Bool) (es : List (K × X)) (v w : X) → lookup test es ≡ Some v → f w ≡ f v → option_map f (lookup at (set_value test es w)) ≡ option_map f (lookup at es)
look_up_stays f test at [] v w found same = refl
look_up_stays {K} {X} f test at (e ∷ es) v w found same = by_test (test e.0) (λ later. look_up_stays f test at es v w later same) found
  where
    by_test : (t : Bool) → (lookup test es ≡ Some v → option_map f (lookup at (set_value test es w)) ≡ option_map f (lookup at es)) → cond t (Some e.1) (lookup test es) ≡ Some v → option_map f (lookup at (cond t ((e.0, w) ∷ es) (e ∷ set_value test es w))) ≡ option_map f (lookup at (e ∷ es))
    by_test true rest here =
        let is : e.1 ≡ v = cc in
        elim (at e.0) as (λ b. option_map f (cond b (Some w) (lookup at es)) ≡ option_map f (cond b (Some e.1) (lookup at es))) [ true ↦ ap (λ y. Some y) (same ∙ sym (ap f is)) | false ↦ refl ]
    by_test false rest later =
        elim (at e.0) as (λ b. option_map f (cond b (Some e.1) (lookup at (set_value test es w))) ≡ option_map f (cond b (Some e.1) (lookup at es))) [ true ↦ refl | false ↦ rest later ]

-- the same of the entries that the writing left
pub entry_stays : {K X Y : Type 0} (f : X → Y) (test at : K → Bool) (es ns : List (K × X)) (v w : X) → ns ≡ set_value test es w → Some v ≡ lookup test es → f w ≡ f v → option_map f (lookup at ns) ≡ option_map f (lookup at es)
entry_stays f test at es ns v w written found same = ap (λ xs. option_map f (lookup at xs)) written ∙ look_up_stays f test at es v w (sym found) same

pub on_err : {T E P : Type 0} (r : Result T E) → (is_ok r ≡ false → P) → OnErr r P
on_err (Ok x) h = tt
on_err (Err e) h = h refl

pub not_ok : {A : Type 0} (ok : Bool) (now more old : A) → now ≡ cond ok more old → ok ≡ false → now ≡ old
not_ok ok now more old is failed = is ∙ ap (λ t. cond t more old) failed
