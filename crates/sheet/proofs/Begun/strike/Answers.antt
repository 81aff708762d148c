use Rattle.std.proofs.Common.{◌≡◌, ◌-◌, ◌≤◌, length, take, drop, replicate, sym, refl, ap, ◌∙◌, arith}
use Rattle.terms.specs.Lines.{zero_line}
use Rattle.sheet.specs.declared.EntrySlot.{EntrySlot}
use Rattle.sheet.specs.Entries.{last_end, wiped}
use Rattle.sheet.proofs.Ends.{entries_same}
use Rattle.sheet.proofs.Stores.{wiped_length, wiped_below, wiped_blank}
use Rattle.sheet.proofs.Begun.strike.Goals as goal

pub returns : goal.returns
returns c =
    let b = c.args.self in
    let es = b.entries.now in
    let ls = b.lines.now in
    let after = c.wipe_in.new.lines in
    let e : after ≡ wiped zero_line ls b.from b.count = c.wipe_in.ensures ∙ ap (λ (x : EntrySlot). wiped zero_line ls x.start x.count) c.slot-slot.ensures in
    record {
      lines = e;
      lent = refl;
      entries = refl;
      used = refl;
      written = refl;
      filed_is = λ k.
          let long : length after ≡ length ls = ap length e ∙ wiped_length zero_line ls b.from b.count k.fits in
          let far : last_end (length after) (take b.used es) ≤ b.from = omega (arith, k.kept.free, ap (λ n. last_end n (take b.used es)) long) in
          entries_same b.from (take b.used es) after ls long far (ap (take b.from) e ∙ wiped_below zero_line ls b.from b.count k.fits);
      sound = λ k.
          let long : length ls ≡ length after = sym (ap length e ∙ wiped_length zero_line ls b.from b.count k.fits) in
          record { few = k.kept.few; slots = k.kept.slots; free = k.kept.free ∙ ap (λ n. last_end n (take b.used es)) long };
      clean = λ k z.
          let long : length ls ≡ length after = sym (ap length e ∙ wiped_length zero_line ls b.from b.count k.fits) in
          record {
            slots = z.slots;
            lines = ap (drop b.from) e ∙ wiped_blank zero_line ls b.from b.count k.fits z.lines ∙ ap (λ n. replicate (n - b.from) zero_line) long;
          };
    }
