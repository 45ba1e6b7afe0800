use Rattle.std.proofs.Common.{◌≡◌, drop, map, option_map}
use Rattle.std.specs.Option.{option_or}
use Rattle.near_names.specs.Nearest.{nearest, nearest_below}
use Rattle.near_names.proofs.names.nearest.Given as goal

-- the best so far, or one of the names that are left
abbrev pub invariant-loop-name : goal.invariant-loop-name
invariant-loop-name l =
    option_or (nearest_below l.fn.word l.least (map (λ n. n.now) (drop l.name-index l.names))) (option_map (λ n. n.now) l.best)
    ≡ nearest l.fn.word (map (λ n. n.now) l.fn.names)
