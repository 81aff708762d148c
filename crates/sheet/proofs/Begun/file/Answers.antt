use Rattle.std.proofs.Common.{◌≡◌, ℕ, ◌+◌, List, length, take, set, sym, refl, ap, ◌∙◌, subst, arith}
use Rattle.std.proofs.lemmas.List.{length-set, take_more_set}
use Rattle.sheet.specs.declared.EntrySlot.{EntrySlot}
use Rattle.sheet.specs.Entries.{entries_in, end_in, last_end, zero_slot}
use Rattle.sheet.specs.Sheets.{Clean}
use Rattle.sheet.specs.Calls.{slot_of}
use Rattle.sheet.proofs.Ends.{last_end_push}
use Rattle.sheet.proofs.Stores.{entries_more, blank_more}
use Rattle.sheet.proofs.Begun.file.Goals as goal

pub returns : goal.returns
returns c =
    let b = c.args.self in
    let es = b.entries.now in
    let ls = b.lines.now in
    let after = c.put.new.entries in
    let e : after ≡ set es b.used (slot_of b) = c.put.ensures ∙ ap (set es b.used) c.slot-slot.ensures in
    let long : length after ≡ length es = ap length e ∙ length-set es b.used (slot_of b) in
    let u = c.min-used.result in
    let w = c.end_within-written.result in
    let end : w ≡ end_in (length ls) (slot_of b) = c.end_within-written.ensures ∙ ap (end_in (length ls)) c.slot-slot.ensures in
    record {
      entries = e;
      lent = refl;
      lines = refl;
      used = omega (arith, c.min-used.ensures, c.saturating_add.ensures);
      written = end;
      filed_is = λ k.
          let n : u ≡ b.used + 1 = omega (arith, k.slot, c.min-used.ensures, c.saturating_add.ensures) in
          ap (λ (m : ℕ). entries_in after ls m) n ∙ ap (λ (xs : List EntrySlot). entries_in xs ls (b.used + 1)) e ∙ entries_more es ls b.used (slot_of b) k.slot;
      sound = λ k.
          let n : u ≡ b.used + 1 = omega (arith, k.slot, c.min-used.ensures, c.saturating_add.ensures) in
          let first : take u after ≡ _ = ap (λ (m : ℕ). take m after) n ∙ ap (take (b.used + 1)) e ∙ take_more_set es b.used (slot_of b) k.slot in
          let ends = ap (last_end (length ls)) first ∙ last_end_push (length ls) (take b.used es) (slot_of b) in
          record {
            few = omega (arith, k.few);
            slots = omega (arith, k.slot);
            free = omega (arith, k.kept.free, k.fits);
          };
      clean = λ k z.
          let n : b.used + 1 ≡ u = omega (arith, k.slot, c.min-used.ensures, c.saturating_add.ensures) in
          let m : b.from + b.count ≡ w = omega (arith, k.fits) in
          subst (λ (i : ℕ). Clean after ls i w) n (subst (λ (xs : List EntrySlot). Clean xs ls (b.used + 1) w) (sym e)
          (record { slots = blank_more zero_slot es b.used (slot_of b) k.slot z.slots; lines = (subst (λ (i : ℕ). Clean es ls b.used i) m z).lines }));
    }
