use Rattle.std.proofs.Common.{◌≡◌, ◌<◌, ◌++◌, length, sym, subst}
use Rattle.std.proofs.lemmas.Result.{on_ok_weaker}
use Rattle.writing.proofs.Beginnings.{two_pushed}
use Rattle.loop_data.specs.Loops.{LoopData}
use Rattle.told_choices.specs.declared.why.Why.{Why}
use Rattle.told_choices.specs.Whys.{IsWhy}
use Rattle.explain.specs.Reasons.{life_text, need_text, reason_text}
use Rattle.explain.proofs.Reasoned.{value-there}
use Rattle.explain.proofs.intervals.reason_texts.push_reason.Goals as goal

pub push_life-requires : goal.push_life-requires
push_life-requires c =
    let p = c.args.prepared.now in
    let a = subst (λ (w : Why). IsWhy p c.requires.is.0 w) c.in-Register.is c.requires.is.1 in
    subst (λ (l : LoopData). c.in-Register.life.operation < length l.statements) (sym c.innermost.ensures.value) (value-there p c.requires.is.0 c.in-Register.life a.0 a.1)

pub push_life-requires-in-Need : goal.push_life-requires-in-Need
push_life-requires-in-Need c =
    let p = c.args.prepared.now in
    let a = subst (λ (w : Why). IsWhy p c.requires.is.0 w) c.in-Need.is c.requires.is.1 in
    subst (λ (l : LoopData). c.in-Need.life.operation < length l.statements) (sym c.innermost-in-Need.ensures.value) (value-there p c.requires.is.0 c.in-Need.life a.0 a.1)

pub returns-in_ok-push_life-in-Need : goal.returns-in_ok-push_life-in-Need
returns-in_ok-push_life-in-Need c =
    let old = c.args.text.now.items in
    let new = c.push_all_need.new.text.items in
    let life = c.in-Need.life in
    let needs = need_text c.in-Need.need in
    record {
      ok = on_ok_weaker c.push_all_need.result
          (λ e. subst (λ (w : Why). new ≡ old ++ reason_text c.args.prepared.now.loop w) (sym c.in-Need.is)
          (subst (λ (l : LoopData). new ≡ old ++ (life_text l life ++ needs)) c.innermost-in-Need.ensures.value
          (two_pushed old (life_text c.innermost-in-Need.result.now life) needs c.push_life-in-Need.new.text.items new c.in_ok-push_life-in-Need.ensures.ok e)))
          c.push_all_need.ensures.ok;
    }
