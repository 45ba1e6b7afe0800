-- The parts of statements that were read, by their numbers.
use Rattle.std.proofs.Common.{◌≡◌, ℕ, ◌<◌, List, length, get_or, refl, ap, subst, arith, Some}
use Rattle.std.specs.List.{slice_get}
use Rattle.std.proofs.lemmas.Option.{slice_get_read}
use Rattle.loop_data.specs.declared.language.statement.Place.{Place}
use Rattle.loop_data.specs.declared.language.statement.Statement.{Statement}
use Rattle.loop_data.specs.Loops.{LoopData, IsLoop, IsPlace}
use Rattle.graph_text.specs.Names.{name_of, name_or_place, op_name}

-- the element that was read from a list that is another one
read : {X : Type 0} (xs ys : List X) (i k : ℕ) (x : X) → xs ≡ ys → i ≡ k → k < length ys → x ≡ get_or xs i x → slice_get ys k ≡ Some x
read {X = X} xs ys i k x same number within is =
    let there : i < length xs = omega (arith, ap length same) in
    let at : slice_get xs i ≡ Some x = slice_get_read xs (length xs) i x refl there is in
    subst (λ (n : ℕ). slice_get ys n ≡ Some x) number (subst (λ (zs : List X). slice_get zs i ≡ Some x) same at)

pub op-named : (loop : LoopData) (statements : List Statement) (i k : ℕ) (s : Statement) → statements ≡ loop.statements → i ≡ k → k < length loop.statements
    → s ≡ get_or statements i s → op_name loop k ≡ name_or_place loop s.name s.place
op-named loop statements i k s same number within is = ap (name_of loop) (read statements loop.statements i k s same number within is)

pub place-there : (loop : LoopData) (statements : List Statement) (i k : ℕ) (s : Statement) (p : Place) → IsLoop loop → statements ≡ loop.statements → i ≡ k
    → k < length loop.statements → s ≡ get_or statements i s → s.place ≡ Some p → IsPlace loop p
place-there loop statements i k s p l same number within is place = (l.each k s (read statements loop.statements i k s same number within is)).place p place
