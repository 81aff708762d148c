use Rattle.std.proofs.Common.{◌≡◌, ℕ, ◌<◌, [], ◌∷◌, ◌++◌, map, length, take, vec_items, sym, refl, ap, ◌∙◌, subst, arith, length-take-le, rules}
use Rattle.std.proofs.lemmas.List.{length_push, length-map, map_push}
use Rattle.row.specs.Order.{Ascending}
use Rattle.row.proofs.Orders.{ascending_from_climbing}
use Rattle.names.specs.declared.name.NameRecord.{NameRecord}
use Rattle.terms.specs.Among.{Among}
use Rattle.names.specs.Letters.{letters}
use Rattle.names.specs.Numbered.{Numbered, Listed}
use Rattle.names.specs.Order.{record_order}
use Rattle.names.proofs.Numbers.{kept_more, kept_still, found_name, missing_name, still_row, there_already}
use Rattle.names.proofs.list.NameList.enter.Goals as goal

pub place_owned-requires : goal.place_owned-requires
place_owned-requires g c =
    let b = c.args.self.now in
    let n : c.len-number.result ≡ length (vec_items b.names) = c.len-number.ensures ∙ length-map (vec_items b.names) letters in
    record {
      within = omega (arith, b.whole, b.few, n);
      up = subst (λ (k : ℕ). Ascending record_order (take k (vec_items b.records))) (sym n) (ascending_from_climbing record_order _ b.up);
    }

pub invariant_of-self : goal.invariant_of-self
invariant_of-self g c =
    let b = c.args.self.now in
    let n : c.len-number.result ≡ length (vec_items b.names) = c.len-number.ensures ∙ length-map (vec_items b.names) letters in
    let x : NameRecord = record { name = c.in_ok-name.name; number = c.len-number.result } in
    let o = c.in-Ok.ensures.outcome in
    let e = c.push_reserved.ensures.items in
    let r = kept_more (vec_items b.names) (vec_items c.push_reserved.new.self) (vec_items b.records) (vec_items c.place_owned.new.records) x c.len-number.result c.in-Ok.field-0 n e refl o.1 o.2 c.in-Ok.ensures.up (b.up, b.numbered, b.listed) in
    record {
      whole = omega (arith, c.place_owned.ensures.size, b.whole);
      few = omega (arith, ap length e, length_push (vec_items b.names) c.in_ok-name.name, c.if-number.false, n);
      room = omega (arith, c.push_reserved.ensures.capacity, b.room);
      up = r.0;
      numbered = r.1;
      listed = r.2;
    }

pub invariant_of-self-in-Err : goal.invariant_of-self-in-Err
invariant_of-self-in-Err g c =
    let b = c.args.self.now in
    let n : c.len-number.result ≡ length (vec_items b.names) = c.len-number.ensures ∙ length-map (vec_items b.names) letters in
    let x : NameRecord = record { name = c.in_ok-name.name; number = c.len-number.result } in
    let same = still_row x (take c.len-number.result (vec_items b.records)) (take c.len-number.result (vec_items c.place_owned.new.records)) (length (vec_items b.records)) c.in-Err.field-0 c.in-Err.ensures.outcome in
    let r = kept_still (vec_items b.names) (vec_items b.records) (vec_items c.place_owned.new.records) c.len-number.result n same (b.up, b.numbered, b.listed) in
    record { whole = omega (arith, c.place_owned.ensures.size, b.whole); few = b.few; room = b.room; up = r.0; numbered = r.1; listed = r.2 }

pub returns-in-Ok : goal.returns-in-Ok
returns-in-Ok g c =
    let b = c.args.self.now in
    let names = vec_items b.names in
    let n : c.len-number.result ≡ length names = c.len-number.ensures ∙ length-map names letters in
    let x : NameRecord = record { name = c.in_ok-name.name; number = c.len-number.result } in
    let row = take c.len-number.result (vec_items b.records) in
    let m = c.in_ok-name.ensures.value in
    let numbered : Numbered names row = subst (λ (k : ℕ). Numbered names (take k (vec_items b.records))) (sym n) b.numbered in
    let listed : Listed names row = subst (λ (k : ℕ). Listed names (take k (vec_items b.records))) (sym n) b.listed in
    let absent = c.in-Ok.ensures.sorted.0 in
    let apart : ¬ Among (map letters names) c.args.text.now = subst (λ t. ¬ Among (map letters names) t) m.0 (missing_name names row x numbered listed (λ j l. absent j x (omega arith) l)) in
    record {
      answer = search rules;
      number = c.len-number.ensures;
      after = ap (map letters) c.push_reserved.ensures.items ∙ map_push letters names c.in_ok-name.name ∙ ap (λ t. map letters names ++ t ∷ []) m.0;
    }

pub returns-in-Err : goal.returns-in-Err
returns-in-Err g c =
    let b = c.args.self.now in
    let names = vec_items b.names in
    let n : c.len-number.result ≡ length names = c.len-number.ensures ∙ length-map names letters in
    let x : NameRecord = record { name = c.in_ok-name.name; number = c.len-number.result } in
    let row = take c.len-number.result (vec_items b.records) in
    let m = c.in_ok-name.ensures.value in
    let numbered : Numbered names row = subst (λ (k : ℕ). Numbered names (take k (vec_items b.records))) (sym n) b.numbered in
    let short : length row < length (vec_items b.records) = omega (arith, length-take-le c.len-number.result (vec_items b.records) (omega (arith, b.whole, b.few, n)), c.if-number.false, b.whole) in
    let t = there_already x row _ (length (vec_items b.records)) c.in-Err.field-0 short c.in-Err.ensures.outcome in
    let found : Among (map letters names) c.args.text.now = subst (Among (map letters names)) m.0 (found_name names row x t.0 numbered t.1 t.2) in
    record {
      answer = search rules;
      number = search rules;
      after = refl;
    }
