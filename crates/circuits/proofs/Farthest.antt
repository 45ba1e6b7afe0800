-- The longest of an operation's walk and of those that begin with an edge from it.
use Rattle.std.proofs.Common.{◌≡◌, ℕ, ◌+◌, ◌*◌, ◌≤◌, ℤ, pos, ◌+ℤ◌, ◌-ℤ◌, List, [], ◌∷◌, ◌++◌, length, get_or, refl, inl, inr, arith, Option, Some, None, MatchOption}
use Rattle.std.specs.Prelude.{◌≤ℤ◌, ◌<ℤ◌}
use Rattle.std.specs.List.{slice_index}
use Rattle.std.proofs.lemmas.Int.{ints}
use Rattle.std.proofs.lemmas.Bool.{cases_lt}
use Rattle.std.proofs.lemmas.List.{get_or-replicate, get_or_past, length-replicate}
use Rattle.std.proofs.lemmas.List.Elements.{All-nil, All-push, Contains-append_left, Contains-push}
use Rattle.std.proofs.Math.ListN.{replicate}
use Rattle.edges.specs.Edges.{EdgeData}
use Rattle.walks.specs.Kept.{KeepsNumber}
use Rattle.circuits.specs.inner.Layers.{LeadsOn, IsFarthest}

pub zeros : (n p : ℕ) → slice_index (replicate n 0) p ≡ 0
zeros n p = let zeroes : List ℕ = replicate n 0 in elim (cases_lt p n) [
  | inl below ↦ get_or-replicate n p 0 0 below
  | inr past ↦ get_or_past zeroes p 0 (let long : length zeroes ≡ n = length-replicate n 0 in omega arith)
]

-- before any edge
pub farthest-none : (ii : ℕ) (lengths : List ℕ) (own : ℕ) → IsFarthest [] ii lengths own own None
farthest-none ii lengths own = record { no_shorter = omega arith; longest = All-nil (KeepsNumber ii lengths own); attained = refl }

-- one edge more, with which the walk is longer
pub farthest-longer : (edges : List EdgeData) (ii : ℕ) (lengths : List ℕ) (own reach next : ℕ) (first : Option EdgeData) (e : EdgeData) (reached : ℤ)
    → IsFarthest edges ii lengths own reach first → reached ≡ ((pos (slice_index lengths e.to) +ℤ e.delay) -ℤ pos (ii * e.distance))
    → pos reach <ℤ reached → pos next ≡ reached → IsFarthest (edges ++ e ∷ []) ii lengths own next (Some e)
farthest-longer edges ii lengths own reach next first e reached f is more new =
    let up : reach ≤ next = omega (arith, ints) in
    let low : own ≤ reach = f.no_shorter in
    record {
      no_shorter = omega arith;
      longest = All-push (KeepsNumber ii lengths next) edges e
          (λ k d h. let old : (pos (slice_index lengths (get_or edges k d).to) +ℤ (get_or edges k d).delay) ≤ℤ pos (reach + ii * (get_or edges k d).distance) = f.longest k d h in
          omega (arith, ints))
          (omega (arith, ints));
      attained = (Contains-push edges e, omega (arith, ints));
    }

-- one edge more, with which it is not
pub farthest-kept : (edges : List EdgeData) (ii : ℕ) (lengths : List ℕ) (own reach : ℕ) (first : Option EdgeData) (e : EdgeData) (reached : ℤ)
    → IsFarthest edges ii lengths own reach first → reached ≡ ((pos (slice_index lengths e.to) +ℤ e.delay) -ℤ pos (ii * e.distance))
    → reached ≤ℤ pos reach → IsFarthest (edges ++ e ∷ []) ii lengths own reach first
farthest-kept edges ii lengths own reach first e reached f is less = record {
  no_shorter = f.no_shorter;
  longest = All-push (KeepsNumber ii lengths reach) edges e f.longest (omega (arith, ints));
  attained = elim first as (λ v. MatchOption v (reach ≡ own) (LeadsOn edges ii lengths reach) → MatchOption v (reach ≡ own) (LeadsOn (edges ++ e ∷ []) ii lengths reach)) [
    | None ↦ λ same. same
    | Some x ↦ λ leads. (Contains-append_left edges (e ∷ []) x leads.0, leads.1)
  ] f.attained;
}
