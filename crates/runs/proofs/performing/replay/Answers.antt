use Rattle.std.proofs.Common.{◌≡◌, ◌+◌, [], ◌∷◌, ◌++◌, length, get_or, take, vec_items, sym, ap, ◌∙◌, subst, arith, length-take-le, take_all, rules}
use Rattle.std.proofs.lemmas.List.{take_more}
use Rattle.book.specs.States.{State}
use Rattle.book.specs.Models.{model}
use Rattle.question.specs.Asked.{asked, beside}
use Rattle.runs.specs.declared.calls.Call.{Call}
use Rattle.runs.specs.declared.calls.Call.TheVariants.{Begin}
use Rattle.runs.specs.Calls.{meant, events}
use Rattle.runs.specs.Histories.{Event, Run}
use Rattle.runs.proofs.Lawfully.{lawful, run_push, events_push}
use Rattle.runs.proofs.performing.replay.Goals as goal

pub loop-call-preserved : goal.loop-call-preserved
loop-call-preserved c =
    let cs = c.args.calls.now in
    let i = c.loop-call.call-index in
    let d : Call = Begin 0 in
    let rs = vec_items c.loop-call.replies in
    let reply = c.perform-reply.result in
    let first : State = beside (model c.args.book.now) (asked c.args.question.now) in
    let before : State = beside (model c.loop-call.book) (asked c.loop-call.question) in
    let after : State = beside (model c.perform-reply.new.book) (asked c.perform-reply.new.question) in
    let long : length (take i cs) ≡ length rs = omega (arith, length-take-le i cs (omega arith), c.loop-call.replies.ok.0, c.loop-call.invariant.1) in
    let ev : Event = record { call = meant (get_or cs i d); reply = reply } in
    let e : events (take (i + 1) cs) (vec_items c.push_reserved.new.self) ≡ events (take i cs) rs ++ ev ∷ [] =
    ap (events (take (i + 1) cs)) c.push_reserved.ensures.items
    ∙ ap (λ ts. events ts (rs ++ reply ∷ [])) (take_more cs i d c.loop-call-test.true)
    ∙ events_push (take i cs) rs (get_or cs i d) reply long in (
      subst (λ h. Run first h after) (sym e) (run_push first before after (events (take i cs) rs) ev c.loop-call.invariant.0 c.perform-reply.ensures),
      search rules,
      search rules,
    )

pub returns : goal.returns
returns c =
    let cs = c.args.calls.now in
    let rs = vec_items c.loop-call.replies in
    let first : State = beside (model c.args.book.now) (asked c.args.question.now) in
    let last : State = beside (model c.loop-call.book) (asked c.loop-call.question) in
    let ran : Run first (events cs rs) last = subst (λ ts. Run first (events ts rs) last) (take_all c.loop-call.call-index cs (omega arith)) c.loop-call.invariant.0 in
    record {
      lawful = lawful first (events cs rs) last ran;
      answered = omega (arith, c.loop-call.replies.ok.0, c.loop-call.invariant.1, c.loop-call.auto.call-index-end, c.loop-call-test.false);
    }
