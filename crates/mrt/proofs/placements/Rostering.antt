-- What is kept of operations and their placements, as they change.
use Rattle.std.proofs.Common.{zero, suc, ◌≡◌, ℕ, ◌+◌, ◌-◌, ◌<◌, inl, inr, List, [], ◌∷◌, ◌++◌, length, get_or, set, map, replicate, take, drop, Option, Some, None, refl, sym, ap, ◌∙◌, subst, arith, length-set}
use Rattle.std.specs.List.{All, slice_get, slice_range}
use Rattle.std.specs.Option.{option_map, IfSome}
use Rattle.std.proofs.lemmas.Bool.{cases_eq, cases_lt}
use Rattle.std.proofs.lemmas.Option.{none-some, same_Some, slice_get-get_or, slice_get_within}
use Rattle.std.proofs.lemmas.List.{map_push, map-set, get_or-set_other, length-take-le, take_more, get_or-map, get_or-take, take_rest, drop_at, get_or-replicate, get_or_past, length-replicate}
use Rattle.std.proofs.lemmas.Grind.{get_or-set_at}
use Rattle.std.proofs.lemmas.List.Elements.{All-head, All-tail, All-weaker, All-map, All-nil, All-take, All-drop}
use Rattle.machine_data.specs.declared.alternative.Row.{Row}
use Rattle.mrt.specs.declared.rosters.kinds.Kind.{Kind}
use Rattle.mrt.specs.declared.rosters.roster.Group.{Group}
use Rattle.mrt.specs.declared.rosters.roster.Issue.{Issue}
use Rattle.mrt.specs.Placements.{OperationAlternatives, Placements, alternatives_of, rows_of}
use Rattle.mrt.specs.inner.Rosters.{Table, table_of, placement, group_of, IsGroup, IsIssue, IsRoster}
use Rattle.mrt.proofs.placements.Lists.{slice_range-append, slice_get-set_same, slice_get-set_other}

module _ (ii : ℕ) (alternatives : List (List Row)) (groups : List Group) (issues : List (Option Issue)) (roster : IsRoster ii alternatives groups issues) (op : ℕ) where
  -- what is at the place that is written, and at the others
  kept_issue : (v : Option Issue) → ((issue : Issue) → v ≡ Some issue → IsIssue ii (map (group_of alternatives) groups) op issue)
      → (o : ℕ) (issue : Issue) → slice_get (set issues op v) o ≡ Some (Some issue) → IsIssue ii (map (group_of alternatives) groups) o issue
  kept_issue v own o issue e =
      elim (cases_eq o op) [
        | inl same ↦
            let P : ℕ → Type 0 = λ k. IsIssue ii (map (group_of alternatives) groups) k issue in
            let within = slice_get_within (set issues op v) o (Some issue) e in
            let here : op < length issues = omega (arith, within, length-set issues op v) in
            let at : slice_get (set issues op v) op ≡ Some (Some issue) = ap (λ k. slice_get (set issues op v) k) (sym same) ∙ e in
            subst P (sym same) (own issue (same_Some v (Some issue) (sym (slice_get-set_same issues op v here) ∙ at)))
        | inr other ↦ roster.each_issue o issue (sym (slice_get-set_other issues op o v other) ∙ e)
      ]

  pub IsRoster-placed : (issue : Issue) → IsIssue ii (map (group_of alternatives) groups) op issue → IsRoster ii alternatives groups (set issues op (Some issue))
  IsRoster-placed issue own = record {
    whole = length-set issues op (Some issue) ∙ roster.whole;
    each_group = roster.each_group;
    each_issue = kept_issue (Some issue) (λ i e. subst (λ (j : Issue). IsIssue ii (map (group_of alternatives) groups) op j) (same_Some issue i e) own);
  }

  pub IsRoster-removed : IsRoster ii alternatives groups (set issues op None)
  IsRoster-removed = record {
    whole = length-set issues op None ∙ roster.whole;
    each_group = roster.each_group;
    each_issue = kept_issue None (λ i e. cc);
  }

group_of-grown : (alternatives more : List (List Row)) (groups : List Group) → All (IsGroup (length alternatives)) groups
    → map (group_of (alternatives ++ more)) groups ≡ map (group_of alternatives) groups
group_of-grown alternatives more [] all = refl
group_of-grown alternatives more (g ∷ groups) all =
    let own = All-head (IsGroup (length alternatives)) g groups all in
    let rest = group_of-grown alternatives more groups (All-tail (IsGroup (length alternatives)) g groups all) in
    ap (λ x. x ∷ map (group_of (alternatives ++ more)) groups) (slice_range-append alternatives more g.first g.end own.order own.within)
    ∙ ap (λ xs. group_of alternatives g ∷ xs) rest

pub group_of-pushed : (alternatives more whole : List (List Row)) (groups : List Group) (group : Group) → whole ≡ alternatives ++ more
    → All (IsGroup (length alternatives)) groups → group.first ≡ length alternatives → group.end ≡ length whole
    → map (group_of whole) (groups ++ group ∷ []) ≡ map (group_of alternatives) groups ++ more ∷ []
group_of-pushed alternatives more whole groups group e all from to =
    let own : group_of whole group ≡ more =
    ap (λ n. slice_range whole n group.end) from ∙ ap (λ n. slice_range whole (length alternatives) n) to
    ∙ take_rest whole (length alternatives) ∙ ap (λ xs. drop (length alternatives) xs) e ∙ drop_at alternatives more (length alternatives) refl in
    let others : map (group_of whole) groups ≡ map (group_of alternatives) groups = rw e (group_of-grown alternatives more groups all) in
    map_push (group_of whole) groups group ∙ ap (λ xs. xs ++ group_of whole group ∷ []) others ∙ ap (λ x. map (group_of alternatives) groups ++ x ∷ []) own

-- one operation more, which has the alternatives of an earlier one
pub group_of-shared : (alternatives more : List (List Row)) (groups : List Group) (e : ℕ) (group : Group) → e < length groups → group ≡ get_or groups e group
    → get_or (map (group_of alternatives) groups) e [] ≡ more → map (group_of alternatives) (groups ++ group ∷ []) ≡ map (group_of alternatives) groups ++ more ∷ []
group_of-shared alternatives more groups e group there is same =
    let f = group_of alternatives in
    let own : f group ≡ more = ap f is ∙ sym (get_or-map f groups e group [] there) ∙ same in
    map_push f groups group ∙ ap (λ x. map f groups ++ x ∷ []) own

-- kinds of operations below a number are below the next
pub below-more : (k : ℕ) (kinds : List Kind) → All (λ (one : Kind). one.operation < k) kinds → All (λ (one : Kind). one.operation < k + 1) kinds
below-more k kinds all = All-weaker (λ (one : Kind). one.operation < k) (λ (one : Kind). one.operation < k + 1) (λ one lt. omega arith) kinds all

-- what holds of the value, where there is one
pub IfSome-each : (P : ℕ → Type 0) (found : Option ℕ) → ((e : ℕ) → found ≡ Some e → P e) → IfSome found P
IfSome-each P None each = tt
IfSome-each P (Some e) each = each e refl

module _ (alternatives : OperationAlternatives) (kinds : List ℕ) (k : ℕ) (within : k < length kinds) where
  -- the alternatives of an earlier operation, which has the kind
  pub kind_earlier : (kind e : ℕ) → e < k → get_or kinds e kind ≡ kind
      → get_or (map (λ one. get_or alternatives one []) (take k kinds)) e [] ≡ get_or alternatives kind []
  kind_earlier kind e before is =
      let f : ℕ → List (List Row) = λ one. get_or alternatives one [] in
      let there : e < length (take k kinds) = omega (arith, length-take-le k kinds) in
      get_or-map f (take k kinds) e kind [] there ∙ ap f (get_or-take k kinds e kind before ∙ is)

  -- one operation more, of this kind
  pub kinds_more : (kind : ℕ) → get_or kinds k kind ≡ kind
      → map (λ one. get_or alternatives one []) (take k kinds) ++ get_or alternatives kind [] ∷ [] ≡ map (λ one. get_or alternatives one []) (take (k + 1) kinds)
  kinds_more kind is =
      let f : ℕ → List (List Row) = λ one. get_or alternatives one [] in
      sym (ap (map f) (take_more kinds k kind within) ∙ map_push f (take k kinds) (get_or kinds k kind) ∙ ap (λ one. map f (take k kinds) ++ f one ∷ []) is)

-- for each kind the latest operation that has it, where this one is of a kind
pub latest-more : (kinds : List ℕ) (latest : List (Option ℕ)) (k n kind : ℕ) → get_or kinds k kind ≡ kind → n ≡ k → kind < length latest
    → ((one e : ℕ) → get_or latest one None ≡ Some e → (e < k) × (get_or kinds e one ≡ one))
    → (one e : ℕ) → get_or (set latest kind (Some n)) one None ≡ Some e → (e < k + 1) × (get_or kinds e one ≡ one)
latest-more kinds latest k n kind is here there so_far one e found =
    elim (cases_eq one kind) [
      | inl same ↦
          let own : k ≡ e = sym here ∙ same_Some n e (sym (get_or-set_at latest kind one (Some n) None same there) ∙ found) in
          (omega (arith, own), subst (λ m. get_or kinds m one ≡ one) own (subst (λ m. get_or kinds k m ≡ m) (sym same) is))
      | inr other ↦
          let before = so_far one e (sym (get_or-set_other latest kind one (Some n) None other) ∙ found) in
          (omega (arith, before.0), before.1)
    ]

-- a write of one placement
pub table_of-set : (ii : ℕ) (alternatives : List (List Row)) (groups : List Group) (issues : List (Option Issue)) (op : ℕ) (v : Option Issue)
    → table_of ii alternatives groups (set issues op v) ≡ record (table_of ii alternatives groups issues) { placed = set (map (option_map placement) issues) op (option_map placement v) }
table_of-set ii alternatives groups issues op v =
    let with = λ (ps : Placements). let t : Table = record { interval = ii; operations = map (group_of alternatives) groups; placed = ps } in t in
    ap with (map-set (option_map placement) issues op v)

-- nothing is placed yet
pub IsRoster-new : (ii : ℕ) (alternatives : List (List Row)) (groups : List Group) (n : ℕ) → length groups ≡ n → All (IsGroup (length alternatives)) groups
    → IsRoster ii alternatives groups (replicate n None)
IsRoster-new ii alternatives groups n e all = record {
  whole = length-replicate n None ∙ sym e;
  each_group = all;
  each_issue = λ op issue h.
      let within : op < n = omega (arith, slice_get_within (replicate n None) op (Some issue) h, length-replicate {A = Option Issue} n None) in
      let at = slice_get-get_or (replicate n None) op None (omega (arith, slice_get_within (replicate n None) op (Some issue) h)) in
      let none = get_or-replicate {A = Option Issue} n op None None within in
      absurd (none-some issue (sym none ∙ same_Some (get_or (replicate n None) op None) (Some issue) (sym at ∙ h)));
}

pub map-replicate_none : (n : ℕ) → map (option_map placement) (replicate n None) ≡ replicate n None
map-replicate_none zero = refl
map-replicate_none (suc n) = ap (λ xs. None ∷ xs) (map-replicate_none n)

pub table_of-new : (ii interval : ℕ) (alternatives : List (List Row)) (groups : List Group) (operations : OperationAlternatives) (n : ℕ) → interval ≡ ii
    → map (group_of alternatives) groups ≡ operations
    → table_of interval alternatives groups (replicate n None) ≡ record { interval = ii; operations = operations; placed = replicate n None }
table_of-new ii interval alternatives groups operations n i o =
    let first = λ (k : ℕ). let t : Table = record { interval = k; operations = map (group_of alternatives) groups; placed = map (option_map placement) (replicate n None) } in t in
    let second = λ (os : OperationAlternatives). let t : Table = record { interval = ii; operations = os; placed = map (option_map placement) (replicate n None) } in t in
    let third = λ (ps : Placements). let t : Table = record { interval = ii; operations = operations; placed = ps } in t in
    ap first i ∙ ap second o ∙ ap third (map-replicate_none n)

-- what holds of the empty list and of each element holds at any place
get_or_all : {X : Type 0} (P : List X → Type 0) (xss : List (List X)) (k : ℕ) → P [] → All P xss → P (get_or xss k [])
get_or_all P xss k none all =
    elim (cases_lt k (length xss)) [
      | inl lt ↦ all k [] lt
      | inr past ↦ subst P (sym (get_or_past xss k [] past)) none
    ]

pub rows_of-all : (P : Row → Type 0) (alternatives : List (List Row)) (groups : List Group) → All (All P) alternatives
    → (op alternative : ℕ) → All P (rows_of (map (group_of alternatives) groups) op alternative)
rows_of-all P alternatives groups all op alternative =
    let Q : List Row → Type 0 = All P in
    let each = λ (g : Group). All-take Q (g.end - g.first) (drop g.first alternatives) (All-drop Q g.first alternatives all) in
    let groups_all = All-map (All Q) (group_of alternatives) groups (λ k d lt. each (get_or groups k d)) in
    get_or_all Q (alternatives_of (map (group_of alternatives) groups) op) alternative (All-nil P)
    (get_or_all (All Q) (map (group_of alternatives) groups) op (All-nil Q) groups_all)
