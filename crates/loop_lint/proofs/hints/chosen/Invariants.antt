use Rattle.std.proofs.Common.{◌≡◌, ℕ, List, filter, map, option_map, take}
use Rattle.loop_lint.specs.Hints.{may_be}
use Rattle.loop_reader.specs.Declarations.{declared_seen}
use Rattle.loop_lint.specs.inner.Tables.{known_at}
use Rattle.loop_lint.proofs.hints.chosen.Given as goal

-- those of the names so far
abbrev pub invariant-loop-name : goal.invariant-loop-name
invariant-loop-name l =
    map (λ n. n.now) l.names.items
    ≡ filter (λ (name : List ℕ). may_be l.want (option_map declared_seen (known_at l.table.names name).declared)) (map (λ n. n.now) (take l.name-index l.table.order.items))
