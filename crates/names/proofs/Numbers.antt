-- Names by number and their records in a row: none, one more, and which names are there.
use Rattle.std.proofs.Common.{◌≡◌, ℕ, ◌+◌, ◌-◌, ◌<◌, ◌≤◌, ◌⊎◌, List, [], ◌∷◌, ◌++◌, map, length, get_or, take, Err, Equal, sym, ap, ◌∙◌, subst, inl, inr, arith}
use lib.Seq.{get_or-append_seam}
use Rattle.std.specs.List.{insert}
use Rattle.std.proofs.lemmas.List.Edits.{length-insert, get_or-insert_below, get_or-insert_at, get_or-insert_above}
use Rattle.std.proofs.lemmas.List.{length_push, get_or_append_left, length-map, get_or-map}
use Rattle.std.proofs.lemmas.Bool.{cases_lt, cases_order}
use Rattle.row.specs.declared.Unplaced.{Unplaced}
use Rattle.row.specs.declared.Unplaced.TheVariants.{There, Full, NotAbove}
use Rattle.row.specs.Order.{Ascending, Climbing}
use Rattle.row.specs.Placing.{InsertOutcome}
use Rattle.row.proofs.Orders.{climbing_from_ascending}
use Rattle.names.specs.declared.name.Name.{Name}
use Rattle.names.specs.declared.name.NameRecord.{NameRecord}
use Rattle.terms.specs.Among.{Among}
use Rattle.names.specs.Letters.{letters}
use Rattle.names.specs.Order.{record_order}
use Rattle.names.specs.Numbered.{Numbered, Listed}
use Rattle.names.specs.Lexical.{same_from_lex, lex_from_same}

-- what the type of a list says of its names and records
abbrev pub Kept : List Name → List NameRecord → Type 0
Kept names records = Climbing record_order (take (length names) records) × Numbered names (take (length names) records) × Listed names (take (length names) records)

pub kept_none : (names : List Name) (records : List NameRecord) → names ≡ [] → Kept names records
kept_none names records e = subst (λ ns. Kept ns records) (sym e) (climbing_from_ascending record_order [] (λ i j d l m. absurd (omega arith)), (λ j d h. absurd (omega arith)), (λ k d h. absurd (omega arith)))

-- what holds of each element holds of each once one more is put in
each_inserted : {X : Type 0} (P : X → Type 0) (ys : List X) (i : ℕ) (x d : X) → i ≤ length ys → ((j : ℕ) → j < length ys → P (get_or ys j d)) → P x
    → (j : ℕ) → j < length (insert ys i x) → P (get_or (insert ys i x) j d)
each_inserted P ys i x d le old new j h = go (cases_order j i)
  where
    go : (j ≡ i) ⊎ ((j < i) ⊎ (i < j)) → P (get_or (insert ys i x) j d)
    go (inl e) = subst (λ (n : ℕ). P (get_or (insert ys i x) n d)) (sym e) (subst P (sym (get_or-insert_at ys i x d le)) new)
    go (inr (inl l)) = subst P (sym (get_or-insert_below ys i x d j l le)) (old j (omega arith))
    go (inr (inr g)) =
        let e : j ≡ j - 1 + 1 = omega arith in
        subst (λ (n : ℕ). P (get_or (insert ys i x) n d)) (sym e)
        (subst P (sym (get_or-insert_above ys i x d (j - 1) (omega arith) le)) (old (j - 1) (omega (arith, length-insert ys i x le))))

module _ (names : List Name) (row : List NameRecord) (i : ℕ) (x : NameRecord) (le : i ≤ length row) (next : x.number ≡ length names) where
  grown : List Name
  grown = names ++ x.name ∷ []

  numbered_inserted : Numbered names row → Numbered grown (insert row i x)
  unfolding grown
  numbered_inserted old j d h = each_inserted P row i x d le (λ n l. keep (get_or row n d) (old n d l).0 (old n d l).1) new j h
    where
      P : NameRecord → Type 0
      P y = (y.number < length grown) × (get_or grown y.number d.name ≡ y.name)

      keep : (y : NameRecord) → y.number < length names → get_or names y.number d.name ≡ y.name → (y.number < length grown) × (get_or grown y.number d.name ≡ y.name)
      keep y l q = (omega (arith, length_push names x.name), get_or_append_left names (x.name ∷ []) d.name y.number l ∙ q)

      new : (x.number < length grown) × (get_or grown x.number d.name ≡ x.name)
      new = (omega (arith, length_push names x.name), ap (λ (n : ℕ). get_or grown n d.name) next ∙ get_or-append_seam names x.name [] d.name)

  listed_inserted : Listed names row → Listed grown (insert row i x)
  unfolding grown
  listed_inserted old k d h none = go (cases_lt k (length names))
    where
      long : length (insert row i x) ≡ length row + 1
      long = length-insert row i x le

      moved : (j : ℕ) → j < length row → (get_or row j d).number ≡ k → (j < i) ⊎ (i ≤ j) → ⊥
      moved j m e (inl l) = none j (omega (arith, long)) (ap (λ (r : NameRecord). r.number) (get_or-insert_below row i x d j l le) ∙ e)
      moved j m e (inr g) = none (j + 1) (omega (arith, long)) (ap (λ (r : NameRecord). r.number) (get_or-insert_above row i x d j g le) ∙ e)

      go : (k < length names) ⊎ (length names ≤ k) → ⊥
      go (inl l) = old k d l (λ j m e. moved j m e (cases_lt j i))
      go (inr g) =
          let e : x.number ≡ k = omega (arith, length_push names x.name) in
          none i (omega (arith, long)) (ap (λ (r : NameRecord). r.number) (get_or-insert_at row i x d le) ∙ e)

pub kept_more : (names more : List Name) (records after : List NameRecord) (x : NameRecord) (n i : ℕ) → n ≡ length names → more ≡ names ++ x.name ∷ [] → x.number ≡ n → i ≤ length (take n records)
    → take (n + 1) after ≡ insert (take n records) i x → Ascending record_order (take (n + 1) after) → Kept names records → Kept more after
unfolding grown
kept_more names more records after x n i en em num le ins up old =
    let long : length more ≡ n + 1 = ap length em ∙ length_push names x.name ∙ ap (λ (k : ℕ). k + 1) (sym en) in
    let row : take (length more) after ≡ insert (take n records) i x = ap (λ (k : ℕ). take k after) long ∙ ins in
    let numbered : Numbered names (take n records) = subst (λ (k : ℕ). Numbered names (take k records)) (sym en) old.1 in
    let listed : Listed names (take n records) = subst (λ (k : ℕ). Listed names (take k records)) (sym en) old.2 in (
      climbing_from_ascending record_order (take (length more) after) (subst (λ (k : ℕ). Ascending record_order (take k after)) (sym long) up),
      subst (Numbered more) (sym row) (subst (λ ns. Numbered ns (insert (take n records) i x)) (sym em) (numbered_inserted names (take n records) i x le (num ∙ en) numbered)),
      subst (Listed more) (sym row) (subst (λ ns. Listed ns (insert (take n records) i x)) (sym em) (listed_inserted names (take n records) i x le (num ∙ en) listed)),
    )

pub kept_still : (names : List Name) (records after : List NameRecord) (n : ℕ) → n ≡ length names → take n after ≡ take n records → Kept names records → Kept names after
kept_still names records after n en same old =
    let e : take (length names) records ≡ take (length names) after = subst (λ (k : ℕ). take k records ≡ take k after) en (sym same) in
    (subst (Climbing record_order) e old.0, subst (Numbered names) e old.1, subst (Listed names) e old.2)

-- ---- a name is there exactly if the row has it

pub found_name : (names : List Name) (row : List NameRecord) (x : NameRecord) (j : ℕ) → Numbered names row → j < length row → record_order (get_or row j x) x ≡ Equal → Among (map letters names) (letters x.name)
unfolding Among
found_name names row x j num h e =
    let k = (get_or row j x).number in
    let p = num j x h in (
      k,
      omega (arith, length-map names letters, p.0),
      λ d. get_or-map letters names k x.name d p.0 ∙ ap letters p.1 ∙ same_from_lex (letters (get_or row j x).name) (letters x.name) e,
    )

pub missing_name : (names : List Name) (row : List NameRecord) (x : NameRecord) → Numbered names row → Listed names row → ((j : ℕ) → j < length row → ¬ (record_order (get_or row j x) x ≡ Equal))
    → ¬ Among (map letters names) (letters x.name)
unfolding Among
missing_name names row x num listed none has =
    let k = has.0 in
    let h : k < length names = omega (arith, length-map names letters, has.1) in
    listed k x h (λ j l e.
    let same : get_or names k x.name ≡ (get_or row j x).name = ap (λ (n : ℕ). get_or names n x.name) (sym e) ∙ (num j x l).1 in
    none j l (lex_from_same (letters (get_or row j x).name) (letters x.name) (ap letters (sym same) ∙ sym (get_or-map letters names k x.name [] h) ∙ has.2 [])))

-- ---- a record that is not placed

pub still_row : (x : NameRecord) (xs ys : List NameRecord) (room : ℕ) (u : Unplaced) → InsertOutcome record_order x xs room ys (Err u) → ys ≡ xs
still_row x xs ys room (There i) o = o.2
still_row x xs ys room Full o = o.1
still_row x xs ys room NotAbove o = absurd o

pub there_already : (x : NameRecord) (xs ys : List NameRecord) (room : ℕ) (u : Unplaced) → length xs < room → InsertOutcome record_order x xs room ys (Err u) → (j : ℕ) × (j < length xs) × (record_order (get_or xs j x) x ≡ Equal)
there_already x xs ys room (There i) h o = (i, o.0, o.1 x)
there_already x xs ys room Full h o = absurd (omega (arith, o.0))
there_already x xs ys room NotAbove h o = absurd o
