-- Laws of the words for lists, at one more element and by places.
use Rattle.std.proofs.Common.{◌≡◌, ℕ, Bool, true, false, cond, ◌||◌, eqb, List, [], ◌∷◌, ◌++◌, length, sym, refl, ap, ◌∙◌, ap₂, append_assoc, append-nil, arith}
use Rattle.runs.specs.Lists.{gather, last, empty, silent, since, member}

pub gather_append : {A B : Type 0} (f : A → List B) (xs ys : List A) → gather f (xs ++ ys) ≡ gather f xs ++ gather f ys
gather_append f [] ys = refl
gather_append f (x ∷ xs) ys = ap (λ zs. f x ++ zs) (gather_append f xs ys) ∙ sym (append_assoc (f x) (gather f xs) (gather f ys))

pub gather_push : {A B : Type 0} (f : A → List B) (xs : List A) (x : A) → gather f (xs ++ x ∷ []) ≡ gather f xs ++ f x
gather_push f xs x = gather_append f xs (x ∷ []) ∙ ap (λ zs. gather f xs ++ zs) (append-nil (f x))

pub gather_quiet : {A B : Type 0} (f : A → List B) (xs : List A) (x : A) → f x ≡ [] → gather f (xs ++ x ∷ []) ≡ gather f xs
gather_quiet f xs x e = gather_push f xs x ∙ ap (λ zs. gather f xs ++ zs) e ∙ append-nil (gather f xs)

pub last_push : {A : Type 0} (d : A) (xs : List A) (x : A) → last d (xs ++ x ∷ []) ≡ x
last_push d [] x = refl
last_push d (y ∷ ys) x = last_push y ys x

push_cond : {A : Type 0} (a b : Bool) (u v w : List A) (x : A) → cond a (cond b (u ++ x ∷ []) (v ++ x ∷ [])) (w ++ x ∷ []) ≡ cond a (cond b u v) w ++ x ∷ []
push_cond true true u v w x = refl
push_cond true false u v w x = refl
push_cond false true u v w x = refl
push_cond false false u v w x = refl

pub since_quiet : {A B : Type 0} (f : A → List B) (xs : List A) (x : A) → f x ≡ [] → since f (xs ++ x ∷ []) ≡ since f xs ++ x ∷ []
since_quiet f [] x e = ap (λ b. cond b (x ∷ []) []) (ap empty e)
since_quiet f (y ∷ ys) x e =
    ap₂ (λ a w. cond a (cond (empty (f y)) (y ∷ (ys ++ x ∷ [])) (ys ++ x ∷ [])) w) (ap empty (gather_quiet f ys x e)) (since_quiet f ys x e)
    ∙ push_cond (silent f ys) (empty (f y)) (y ∷ ys) ys (since f ys) x

empty_append : {A : Type 0} (u v : List A) → empty v ≡ false → empty (u ++ v) ≡ false
empty_append [] v e = e
empty_append (x ∷ u) v e = refl

pub since_anew : {A B : Type 0} (f : A → List B) (xs : List A) (x : A) → empty (f x) ≡ false → since f (xs ++ x ∷ []) ≡ []
since_anew f [] x e = ap (λ b. cond b (x ∷ []) []) e
since_anew f (y ∷ ys) x e =
    ap₂ (λ a w. cond a (cond (empty (f y)) (y ∷ (ys ++ x ∷ [])) (ys ++ x ∷ [])) w) (ap empty (gather_push f ys x) ∙ empty_append (gather f ys) (f x) e) (since_anew f ys x e)

pub or_assoc : (a b c : Bool) → (a || b) || c ≡ a || (b || c)
or_assoc true b c = refl
or_assoc false b c = refl

pub or_false : (a : Bool) → a || false ≡ a
or_false true = refl
or_false false = refl

pub member_push : (k : ℕ) (xs : List ℕ) (i : ℕ) → member k (xs ++ i ∷ []) ≡ member k xs || member k (i ∷ [])
member_push k [] i = refl
member_push k (x ∷ xs) i = ap (λ b. eqb x k || b) (member_push k xs i) ∙ sym (or_assoc (eqb x k) (member k xs) (member k (i ∷ [])))

-- `last` and `since`, said by places

last_append : {A : Type 0} (d y : A) (xs : List A) → last d (xs ++ y ∷ []) ≡ y
last_append d y [] = refl
last_append d y (x ∷ xs) = last_append x y xs

pub since_ever : {A B : Type 0} (f : A → List B) (xs : List A) → gather f xs ≡ [] → since f xs ≡ xs
since_ever f [] e = refl
since_ever f (x ∷ xs) e =
    let p = append_empty (f x) (gather f xs) e in
    ap₂ (λ a b. cond a (cond b (x ∷ xs) xs) (since f xs)) (ap empty p.1) (ap empty p.0)
  where
    append_empty : {C : Type 0} (u v : List C) → u ++ v ≡ [] → (u ≡ []) × (v ≡ [])
    append_empty [] v e = (refl, e)
    append_empty (x ∷ u) v e = absurd (omega (arith, ap length e))

pub since_last : {A B : Type 0} (f : A → List B) (y : B) (xs ys : List A) (x : A) → f x ≡ y ∷ [] → gather f ys ≡ [] → since f (xs ++ x ∷ ys) ≡ ys
since_last f y [] ys x e g = ap₂ (λ a b. cond a (cond b (x ∷ ys) ys) (since f ys)) (ap empty g) (ap empty e)
since_last f y (z ∷ xs) ys x e g =
    ap₂ (λ a w. cond a (cond (empty (f z)) (z ∷ (xs ++ x ∷ ys)) (xs ++ x ∷ ys)) w)
    (ap empty (gather_append f xs (x ∷ ys)) ∙ empty_append (gather f xs) (f x ++ gather f ys) (ap (λ (u : List _). empty (u ++ gather f ys)) e))
    (since_last f y xs ys x e g)

pub last_yield : {A B : Type 0} (f : A → List B) (d y : B) (xs ys : List A) (x : A) → f x ≡ y ∷ [] → gather f ys ≡ [] → last d (gather f (xs ++ x ∷ ys)) ≡ y
last_yield f d y xs ys x e g =
    ap (last d) (gather_append f xs (x ∷ ys) ∙ ap (λ u. gather f xs ++ u) (ap₂ (λ (a b : List _). a ++ b) e g)) ∙ last_append d y (gather f xs)
