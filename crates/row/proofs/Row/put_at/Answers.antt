use Rattle.std.proofs.Common.{ℕ, ap, refl, ◌∙◌, true≢false, get_or, arith}
use Rattle.std.proofs.lemmas.List.{length-set}
use Rattle.row.proofs.Lists.{put_items, put_rest}
use Rattle.row.proofs.Row.put_at.Goals as goal

pub returns : goal.returns
returns g c =
    let xs = c.args.self.now.slots.now in
    let ys = c.copy_within.new.self in
    let en = c.copy_within.ensures in
    let len = c.args.self.now.len in
    let i = c.args.i in
    record {
      items = put_items xs ys len i c.args.x c.requires.place c.requires.room en.len
          (λ k d h. en.by_index.1 k d (omega arith)) (λ k d h l. en.by_index.0 k d h (omega arith) ∙ ap (λ (n : ℕ). get_or xs n d) (omega arith));
      kept = record {
        len = refl;
        rest = put_rest xs ys len i c.args.x c.requires.place c.requires.room en.len (λ k d h. en.by_index.2 k d (omega arith));
        refused = λ e. absurd (true≢false e);
        size = length-set ys i c.args.x ∙ en.len;
      };
      lender = refl;
    }
