use Rattle.std.proofs.Common.{◌≡◌, ℕ, ◌+◌, ◌<◌, ◌≤◌, List, length, take, set, Option, Some, sym, refl, ap, ◌∙◌, subst, arith, rules}
use Rattle.std.proofs.lemmas.List.{length-set, take-set-le}
use Rattle.terms.specs.declared.line.Line.{Line}
use Rattle.terms.specs.Lines.{zero_line}
use Rattle.sheet.specs.declared.EntrySlot.{EntrySlot}
use Rattle.sheet.specs.Entries.{end_in, last_end}
use Rattle.sheet.specs.Sheets.{Clean}
use Rattle.sheet.specs.Calls.{slot_of}
use Rattle.sheet.specs.Labels.{LineEnteredIn}
use Rattle.sheet.proofs.Ends.{entries_same}
use Rattle.sheet.proofs.Stores.{blank_more}
use Rattle.sheet.proofs.Begun.line.Goals as goal

pub returns : goal.returns
returns c =
    let b = c.args.self.now in
    let x = c.args.line in
    let es = b.entries.now in
    let ls = b.lines.now in
    let after = c.enter_in.new.lines in
    let k = c.in_ok-number.number in
    let r : c.enter_in.result ≡ Some k = search rules in
    let entered : LineEnteredIn x b.from b.count ls after (Some k) =
    subst (λ (o : Option ℕ). LineEnteredIn x b.from b.count ls after o) r
    (subst (λ (slot : EntrySlot). LineEnteredIn x slot.start slot.count ls after c.enter_in.result) c.slot-slot.ensures c.enter_in.ensures) in
    let order = entered.0 in
    let a = entered.1 in
    let end : c.end_within.result ≡ end_in (length ls) (slot_of b) = c.end_within.ensures ∙ ap (end_in (length ls)) c.slot-slot.ensures in
    let lt : b.from + b.count < length ls = omega arith in
    let e : after ≡ set ls (b.from + b.count) x = a.slots_are in
    let long : length after ≡ length ls = ap length e ∙ length-set ls (b.from + b.count) x in
    let one : b.from + b.count + 1 ≡ b.from + (b.count + 1) = omega arith in (
      search rules,
      record {
        lines = e;
        lent = refl;
        entries = refl;
        used = refl;
        head = refl;
        from = refl;
        count = refl;
        number = a.outcome.2;
        label_is = a.outcome.3;
        rising = a.up;
        filed_is = λ s.
            let far : last_end (length after) (take b.used es) ≤ b.from = omega (arith, s.kept.free, ap (λ (n : ℕ). last_end n (take b.used es)) long) in
            entries_same b.from (take b.used es) after ls long far (ap (take b.from) e ∙ take-set-le b.from ls (b.from + b.count) x (omega arith));
        sound = λ s. record {
          kept = record { few = s.kept.few; slots = s.kept.slots; free = s.kept.free ∙ ap (λ (n : ℕ). last_end n (take b.used es)) (sym long) };
          few = s.few;
          slot = s.slot;
          fits = omega arith;
        };
        clean = λ z.
            subst (λ (n : ℕ). Clean es after b.used n) one
            (subst (λ (zs : List Line). Clean es zs b.used (b.from + b.count + 1)) (sym e)
            (record { slots = z.slots; lines = blank_more zero_line ls (b.from + b.count) x lt z.lines }));
      },
    )
