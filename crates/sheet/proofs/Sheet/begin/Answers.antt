use Rattle.std.proofs.Common.{◌≡◌, ◌+◌, ◌≤◌, length, take, refl, subst, inl, inr, arith, rules}
use Rattle.terms.specs.declared.refusal.Refusal.TheVariants.{NoRoom}
use Rattle.terms.proofs.Least.{free_of}
use Rattle.sheet.specs.Sheets.{filed, Clean}
use Rattle.sheet.specs.Grounds.{Ground, Accepted}
use Rattle.sheet.specs.Calls.{beginning}
use Rattle.sheet.proofs.Ends.{last_end_le}
use Rattle.sheet.proofs.Stores.{entries_length}
use Rattle.sheet.proofs.Sheet.begin.Goals as goal

pub returns-in-Ok : goal.returns-in-Ok
returns-in-Ok c =
    let s = c.args.self in
    let es = s.entries.now in
    let ls = s.lines.now in
    let call = beginning s c.args.head in
    let yes : Accepted call = search rules in
    let room = free_of (Ground call) yes NoRoom (omega arith) in
    let long = entries_length es ls s.used in
    let few : ¬ (1024 ≤ length (filed s)) = λ h. room (inl h) in
    let slot : ¬ (length es ≤ length (filed s)) = λ h. room (inr h) in
    let same : s.written ≡ s.written + 0 = omega arith in (
      yes,
      refl,
      record {
        filed_is = refl;
        label_is = refl;
        sound = λ k. record {
          kept = k;
          few = omega (arith, k.slots);
          slot = omega (arith, k.slots);
          fits = omega (arith, k.free, last_end_le (length ls) (take s.used es));
        };
        clean = λ k. subst (Clean es ls s.used) same k;
      },
    )
