use Rattle.std.proofs.Common.{◌≤◌, ℕ, List, length, subst, arith, rules}
use Rattle.std.specs.Borrow.{Bor}
use Rattle.std.specs.List.{AllZip}
use Rattle.workers.specs.inner.Made.{IsMadeOf}
use Rattle.workers.specs.inner.Pieces.{NamesDiffer}
use Rattle.workers.proofs.Together.{told_of_all}
use Rattle.workers.proofs.pieces.told_apart.Goals as goal

pub returns-then-are_of_one_text : goal.returns-then-are_of_one_text
returns-then-are_of_one_text g c =
    let m = c.args.machine.now in
    let r = c.args.settings.now.ratio in
    let k = c.args.settings.now.ceiling in
    let text = c.args.text.now in
    let made = c.in-Ok-make_all.made.items in
    let names = c.in_ok-names.names.items in
    let zip = subst (λ ps. AllZip (λ (piece : Bor (List ℕ)) (one : _). IsMadeOf g.F.Fn c.args.tell.now m r k piece.now one) ps made) c.as_slice-2.ensures.value c.in-Ok-make_all.ensures in
    let small : length text ≤ 1048576 = omega (arith, c.if-text-gt-MAX_TEXT.false) in
    let few : length names ≤ 1024 = search rules in
    let differ : NamesDiffer names = subst NamesDiffer c.as_slice-3.ensures.value (search (c.are_of_one_text.ensures.differ, c.if-are_of_one_text.true)) in
    told_of_all g.F.Fn c.args.tell.now m r k text c.in-Ok.pieces.items made names c.in_ok-names.parts.items c.in-Ok.ensures zip c.in_ok-names.ensures few differ small
