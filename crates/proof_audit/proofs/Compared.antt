-- A text that is compared piece by piece.
use Rattle.std.proofs.{Common.{◌≡◌, ◌∙◌, refl, sym, ap, ℕ, ◌+◌, ◌<◌, ◌≤◌, true, false, List, [], ◌∷◌, ◌++◌, length, take, drop, ⊎_elim, arith, ◌&&◌, nat_eq, bytes_eq}, Math.Seq.{take-append_seam, drop-drop}}
use Rattle.std.proofs.lemmas.{Bool.{false≢true, cases_Bool, cases_eq, eq-eqb, ne_eqb}, Slice.Eq.bytes_eq-Decides, List.{take-append-drop, drop_all, length-drop}}

pub not_begun : (left piece more : List ℕ) → bytes_eq piece (take (length piece) left) ≡ false → bytes_eq (piece ++ more) left ≡ false
not_begun left piece more apart = grind (arith, ⊎_elim, bytes_eq-Decides, take-append_seam, false≢true, cases_Bool, bytes_eq)

behind_front : (front xs ys : List ℕ) → bytes_eq (front ++ xs) (front ++ ys) ≡ bytes_eq xs ys
behind_front [] xs ys = refl
behind_front (b ∷ front) xs ys = ap (λ e. e && bytes_eq (front ++ xs) (front ++ ys)) (eq-eqb b b refl) ∙ behind_front front xs ys

pub begun : (text : List ℕ) (done : ℕ) (piece more : List ℕ) → bytes_eq piece (take (length piece) (drop done text)) ≡ true → bytes_eq (piece ++ more) (drop done text) ≡ bytes_eq more (drop (done + length piece) text)
begun text done piece more same =
    let front : take (length piece) (drop done text) ≡ piece = sym ((bytes_eq-Decides piece (take (length piece) (drop done text))).0 same) in
    let sum : length piece + done ≡ done + length piece = omega arith in
    let behind = drop (done + length piece) text in
    let rest : drop (length piece) (drop done text) ≡ behind = drop-drop (length piece) done text in
    let split : drop done text ≡ piece ++ behind = sym (take-append-drop (length piece) (drop done text)) ∙ ap (λ bs. bs ++ drop (length piece) (drop done text)) front ∙ ap (λ bs. piece ++ bs) rest in
    ap (bytes_eq (piece ++ more)) split ∙ behind_front piece more behind

some_left : (xs : List ℕ) → 0 < length xs → bytes_eq [] xs ≡ false
some_left [] some = absurd (omega (arith, some))
some_left (x ∷ xs) some = refl

pub at_end : (done : ℕ) (text : List ℕ) → done ≤ length text → nat_eq done (length text) ≡ bytes_eq [] (drop done text)
at_end done text within = grind (arith, ⊎_elim, eq-eqb, bytes_eq, drop_all, ne_eqb, some_left, length-drop, cases_eq)

-- the same of a vector, which knows its length
pub vec_at_end : (done long : ℕ) (text : List ℕ) → long ≡ length text → done ≤ long → nat_eq done long ≡ bytes_eq [] (drop done text)
vec_at_end done long text e within = ap (nat_eq done) e ∙ at_end done text (omega (arith, e, within))
