use Rattle.std.proofs.Common.{◌≡◌, ℕ, ◌+◌, ◌<◌, ◌++◌, ◌∷◌, [], List, length, get_or, map, take, None, sym, ap, ◌∙◌, arith, rules}
use Rattle.std.proofs.lemmas.List.{take_all, get_or_default}
use Rattle.machine_data.specs.declared.alternative.Row.{Row}
use Rattle.mrt.specs.Placements.{OperationAlternatives}
use Rattle.mrt.proofs.placements.Rostering.{IfSome-each, kind_earlier, kinds_more, latest-more}
use Rattle.mrt.proofs.rosters.roster.Roster.of_kinds.Goals as goal

pub push_group-requires-clause-earlier : goal.push_group-requires-clause-earlier
push_group-requires-clause-earlier c =
    let i = c.loop-kind.invariant in
    let alternatives : OperationAlternatives = c.args.alternatives.now in
    let kinds : List ℕ = c.args.kinds.now in
    let k = c.loop-kind.kind-index in
    let kind : ℕ = get_or kinds k 0 in
    let lt : k < length kinds = omega arith in
    let there : kind < length alternatives = c.requires.kinds k 0 lt in
    let own : get_or alternatives kind [] ≡ c.as_slice-own.result.now =
    get_or_default alternatives kind [] c.index-alternatives-kind.result there ∙ sym c.index-alternatives-kind.is ∙ sym c.as_slice-own.ensures.value in
    let read = get_or_default c.loop-kind.latest.items kind None c.index-earlier.result.now (omega (arith, there, i.room)) ∙ sym c.index-earlier.ensures in
    IfSome-each _ c.index-earlier.result.now (λ e found.
    let seen = i.latest kind e (read ∙ found) in
    (omega (arith, seen.0, i.count), ap (λ os. get_or os e []) i.groups ∙ kind_earlier alternatives kinds k lt kind e seen.0 seen.1 ∙ own))

pub loop-kind-preserved : goal.loop-kind-preserved
loop-kind-preserved c =
    let i = c.loop-kind.invariant in
    let alternatives : OperationAlternatives = c.args.alternatives.now in
    let kinds : List ℕ = c.args.kinds.now in
    let k = c.loop-kind.kind-index in
    let kind : ℕ = get_or kinds k 0 in
    let lt : k < length kinds = omega arith in
    let there : kind < length alternatives = c.requires.kinds k 0 lt in
    let is : get_or kinds k kind ≡ kind = get_or_default kinds k kind 0 lt in
    let own : get_or alternatives kind [] ≡ c.as_slice-own.result.now =
    get_or_default alternatives kind [] c.index-alternatives-kind.result there ∙ sym c.index-alternatives-kind.is ∙ sym c.as_slice-own.ensures.value in
    let pushed = c.in_ok-push_group.ensures in
    record {
      interval = c.push_group.ensures.interval ∙ i.interval;
      groups = pushed.pushed ∙ ap (λ os. os ++ c.as_slice-own.result.now ∷ []) i.groups
          ∙ ap (λ one. map (λ m. get_or alternatives m []) (take k kinds) ++ one ∷ []) (sym own) ∙ kinds_more alternatives kinds k lt kind is;
      each_group = pushed.each_group;
      count = pushed.count ∙ ap (λ n. n + 1) i.count;
      room = search rules;
      latest = latest-more kinds c.loop-kind.latest.items k _ kind is (c.len.ensures ∙ c.loop-kind.groups.ok.0 ∙ i.count) (omega (arith, there, i.room)) i.latest;
    }

pub returns-clause-value : goal.returns-clause-value
returns-clause-value c =
    let i = c.loop-kind.invariant in
    let kinds : List ℕ = c.args.kinds.now in
    let k = c.loop-kind.kind-index in
    let f : ℕ → List (List Row) = λ one. get_or c.args.alternatives.now one [] in
    let whole = i.groups ∙ ap (map f) (take_all k kinds (omega arith)) in
    let long : length c.loop-kind.groups.items ≡ length kinds = omega (arith, i.count) in
    rw (i.interval, whole, long) at c.unplaced.ensures
