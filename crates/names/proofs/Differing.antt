-- The names of a list are names, and differ.
use Rattle.std.proofs.Common.{◌≡◌, ℕ, ◌<◌, ◌≤◌, ◌⊎◌, List, [], ◌∷◌, map, length, get_or, take, vec_items, sym, ap, ◌∙◌, subst, inl, inr, true≢false, arith}
use Rattle.std.specs.Ordering.{is_lt}
use Rattle.std.proofs.lemmas.List.{length-map, get_or-map}
use Rattle.std.proofs.lemmas.Bool.{cases_order}
use Rattle.row.specs.Order.{Ascending}
use Rattle.row.proofs.Orders.{ascending_from_climbing}
use Rattle.names.specs.declared.name.Name.{Name}
use Rattle.names.specs.declared.name.NameRecord.{NameRecord}
use Rattle.names.specs.Spelling.{NoName}
use Rattle.names.specs.Letters.{letters}
use Rattle.names.specs.Order.{record_order}
use Rattle.names.specs.Numbered.{Numbered, Listed}
use Rattle.names.specs.Kept.{NamesKept, EveryListKeepsNames}
use Rattle.names.specs.Lexical.{lex_from_same}

module _ (names : List Name) (row : List NameRecord) (up : Ascending record_order row) (numbered : Numbered names row) (listed : Listed names row) (d : NameRecord) where
  -- the record at a place has the name of its number
  named : (i j : ℕ) → i < length row → (get_or row i d).number ≡ j → get_or names j d.name ≡ (get_or row i d).name
  named i j h e = ap (λ (n : ℕ). get_or names n d.name) (sym e) ∙ (numbered i d h).1

  -- records in order have different letters
  apart : (a b : ℕ) → a < b → b < length row → ¬ (letters (get_or row a d).name ≡ letters (get_or row b d).name)
  apart a b l h e = true≢false (ap is_lt (sym (up a b d l h) ∙ lex_from_same (letters (get_or row a d).name) (letters (get_or row b d).name) e))

  names_differ : (j k : ℕ) → j < k → k < length names → ¬ (letters (get_or names j d.name) ≡ letters (get_or names k d.name))
  names_differ j k l h e = listed j d (omega arith) (λ a la ea. listed k d h (λ b lb eb. go a la ea b lb eb (cases_order a b)))
    where
      go : (a : ℕ) → a < length row → (get_or row a d).number ≡ j → (b : ℕ) → b < length row → (get_or row b d).number ≡ k → (a ≡ b) ⊎ ((a < b) ⊎ (b < a)) → ⊥
      go a la ea b lb eb o =
          let same : letters (get_or row a d).name ≡ letters (get_or row b d).name = ap letters (sym (named a j la ea)) ∙ e ∙ ap letters (named b k lb eb) in
          elim o [
            | inl q ↦ (let z : j ≡ k = sym ea ∙ ap (λ (n : ℕ). (get_or row n d).number) q ∙ eb in omega arith)
            | inr (inl q) ↦ apart a b q lb same
            | inr (inr q) ↦ apart b a q la (sym same)
          ]

kept_names : (most : ℕ) (names : List Name) (row : List NameRecord) → length names ≤ most → Ascending record_order row → Numbered names row → Listed names row → NamesKept most (map letters names)
kept_names most [] row few up numbered listed = record { few = omega arith; proper = λ k h. absurd (omega arith); different = λ j k p h. absurd (omega arith) }
kept_names most (n ∷ ns) row few up numbered listed = record {
  few = omega (arith, length-map (n ∷ ns) letters);
  proper = λ k h. subst (λ m. ¬ NoName m) (sym (at k h)) (get_or (n ∷ ns) k n).proper;
  different = λ j k p h e. names_differ (n ∷ ns) row up numbered listed (record { name = n; number = 0 }) j k p (omega (arith, length-map (n ∷ ns) letters)) (sym (at j (omega arith)) ∙ e ∙ at k h);
}
  where
    at : (k : ℕ) → k < length (map letters (n ∷ ns)) → get_or (map letters (n ∷ ns)) k [] ≡ letters (get_or (n ∷ ns) k n)
    at k h = get_or-map letters (n ∷ ns) k n [] (omega (arith, length-map (n ∷ ns) letters))

pub keeps_names : EveryListKeepsNames
keeps_names most l = kept_names most (vec_items l.names) (take (length (vec_items l.names)) (vec_items l.records)) l.few (ascending_from_climbing record_order _ l.up) l.numbered l.listed
