use Rattle.std.proofs.Common.{◌≡◌, ◌≤◌, length, take, vec_items, vec_len, vec_capacity}
use Rattle.book.specs.Models.{model}
use Rattle.question.specs.Asked.{asked, beside}
use Rattle.runs.specs.Calls.{events}
use Rattle.runs.specs.Histories.{Run}
use Rattle.runs.proofs.performing.replay.Given as goal

abbrev pub invariant-loop-call : goal.invariant-loop-call
invariant-loop-call l =
    Run (beside (model l.initial.book) (asked l.initial.question)) (events (take l.call-index l.calls) (vec_items l.replies)) (beside (model l.book) (asked l.question))
    × (vec_len l.replies ≡ l.call-index)
    × (length l.calls ≤ vec_capacity l.replies)
