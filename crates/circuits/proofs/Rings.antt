-- A walk along first edges from an operation back to it comes to no operation twice.
use Rattle.std.proofs.Common.{◌≡◌, ◌≢◌, ℕ, zero, suc, ◌+◌, ◌<◌, ◌≤◌, List, [], ◌∷◌, ◌++◌, length, get_or, refl, sym, ap, ◌∙◌, subst, inl, inr, arith, Option, Some, None}
use Rattle.std.specs.List.{slice_index_or}
use Rattle.std.proofs.lemmas.Bool.{cases_lt}
use Rattle.std.proofs.lemmas.List.{get_or_append_left, get_or_push, length-append}
use Rattle.edges.specs.Edges.{EdgeData}
use Rattle.edges.specs.Graphs.{GraphData}
use Rattle.walks.specs.Walks.{IsWalk}
use Rattle.walks.proofs.Circuits.{IsWalk-append}
use Rattle.walks.proofs.Sweeps.{via-edge}
use Rattle.circuits.specs.inner.Sweeps.{AreFirst, GoesRoundOnce}

-- each edge of the walk is the one that is kept for its operation
abbrev pub Follows : List (Option EdgeData) → List EdgeData → Type 0
Follows first walk = (k : ℕ) (d : EdgeData) → k < length walk → slice_index_or first (get_or walk k d).from None ≡ Some (get_or walk k d)

-- the walk goes on from its first operation once
abbrev pub LeavesOnce : ℕ → List EdgeData → Type 0
LeavesOnce start walk = (k : ℕ) (d : EdgeData) → 0 < k → k < length walk → (get_or walk k d).from ≢ start

begins-at : (edges : List EdgeData) (p q : ℕ) (walk : List EdgeData) (d : EdgeData) → IsWalk edges p walk q → 0 < length walk → (get_or walk 0 d).from ≡ p
begins-at edges p q [] d w some = absurd (omega arith)
begins-at edges p q (e ∷ walk) d w some = w.1

goes-on : (edges : List EdgeData) (p q : ℕ) (walk : List EdgeData) → IsWalk edges p walk q → (k : ℕ) (d : EdgeData) → suc k < length walk
    → (get_or walk (suc k) d).from ≡ (get_or walk k d).to
goes-on edges p q [] w k d h = absurd (omega arith)
goes-on edges p q (e ∷ walk) w zero d h = begins-at edges e.to q walk d w.2 (omega arith)
goes-on edges p q (e ∷ walk) w (suc k) d h = goes-on edges e.to q walk w.2 k d (omega arith)

ends-at : (edges : List EdgeData) (p q : ℕ) (walk : List EdgeData) → IsWalk edges p walk q → (k : ℕ) (d : EdgeData) → suc k ≡ length walk → (get_or walk k d).to ≡ q
ends-at edges p q [] w k d h = absurd (omega arith)
ends-at edges p q (e ∷ []) w zero d h = w.2
ends-at edges p q (e ∷ []) w (suc k) d h = absurd (omega arith)
ends-at edges p q (e ∷ (f ∷ walk)) w zero d h = absurd (omega arith)
ends-at edges p q (e ∷ (f ∷ walk)) w (suc k) d h = ends-at edges e.to q (f ∷ walk) w.2 k d (omega arith)

-- two places that go on from one operation go on alike, up to the end
apart : (edges : List EdgeData) (first : List (Option EdgeData)) (start : ℕ) (walk : List EdgeData) → IsWalk edges start walk start → Follows first walk → LeavesOnce start walk
    → (d : EdgeData) (left i j : ℕ) → i < j → j < length walk → length walk ≤ j + left → (get_or walk i d).from ≢ (get_or walk j d).from
apart edges first start walk w follows once d zero i j less short long same = absurd (omega arith)
apart edges first start walk w follows once d (suc left) i j less short long same =
    let a : slice_index_or first (get_or walk i d).from None ≡ Some (get_or walk i d) = follows i d (omega arith) in
    let b : slice_index_or first (get_or walk j d).from None ≡ Some (get_or walk j d) = follows j d short in
    let e : slice_index_or first (get_or walk i d).from None ≡ slice_index_or first (get_or walk j d).from None = ap (λ p. slice_index_or first p None) same in
    let equal : get_or walk i d ≡ get_or walk j d = cc in
    let to : (get_or walk i d).to ≡ (get_or walk j d).to = ap (λ (e : EdgeData). e.to) equal in
    let on : (get_or walk (suc i) d).from ≡ (get_or walk i d).to = goes-on edges start start walk w i d (omega arith) in
    elim (cases_lt (suc j) (length walk)) [
      | inl more ↦ (let next : (get_or walk (suc j) d).from ≡ (get_or walk j d).to = goes-on edges start start walk w j d more in
          apart edges first start walk w follows once d left (suc i) (suc j) (omega arith) more (omega arith) (on ∙ to ∙ sym next))
      | inr last ↦ (let end : (get_or walk j d).to ≡ start = ends-at edges start start walk w j d (omega arith) in
          once (suc i) d (omega arith) (omega arith) (on ∙ to ∙ end))
    ]

pub goes-round : (edges : List EdgeData) (first : List (Option EdgeData)) (start : ℕ) (walk : List EdgeData) → IsWalk edges start walk start → Follows first walk
    → LeavesOnce start walk → length walk ≤ 128 → GoesRoundOnce edges walk
goes-round edges first start walk w follows once few = record {
  start = start;
  closed = w;
  once = λ i j d less short. apart edges first start walk w follows once d (length walk) i j less short (omega arith);
  few = few;
}

-- an edge more
pub follows-more : (first : List (Option EdgeData)) (walk : List EdgeData) (e : EdgeData) → Follows first walk → slice_index_or first e.from None ≡ Some e
    → Follows first (walk ++ e ∷ [])
follows-more first walk e old is k d within =
    let long : length (walk ++ e ∷ []) ≡ length walk + 1 = length-append walk (e ∷ []) in
    elim (cases_lt k (length walk)) [
      | inl before ↦ subst (λ (f : EdgeData). slice_index_or first f.from None ≡ Some f) (sym (get_or_append_left walk (e ∷ []) d k before)) (old k d before)
      | inr after ↦ subst (λ (f : EdgeData). slice_index_or first f.from None ≡ Some f) (sym (get_or_push walk e d k (omega arith))) is
    ]

pub leaves-more : (start : ℕ) (walk : List EdgeData) (e : EdgeData) → LeavesOnce start walk → (0 < length walk → e.from ≢ start) → LeavesOnce start (walk ++ e ∷ [])
leaves-more start walk e old away k d some within =
    let long : length (walk ++ e ∷ []) ≡ length walk + 1 = length-append walk (e ∷ []) in
    elim (cases_lt k (length walk)) [
      | inl before ↦ subst (λ (f : EdgeData). f.from ≢ start) (sym (get_or_append_left walk (e ∷ []) d k before)) (old k d some before)
      | inr after ↦ subst (λ (f : EdgeData). f.from ≢ start) (sym (get_or_push walk e d k (omega arith))) (away (omega arith))
    ]

-- the walk along first edges from an operation, as far as another
pub record IsAlongFirst (edges : List EdgeData) (first : List (Option EdgeData)) (start : ℕ) (walk : List EdgeData) (at : ℕ) : Type 0 where
  pub is_walk : IsWalk edges start walk at
  pub follows : Follows first walk
  pub once : LeavesOnce start walk

pub along-none : (edges : List EdgeData) (first : List (Option EdgeData)) (start : ℕ) → IsAlongFirst edges first start [] start
along-none edges first start = record {
  is_walk = refl;
  follows = λ k d h. absurd (omega arith);
  once = λ k d some h. absurd (omega arith);
}

pub along-more : (graph : GraphData) (first : List (Option EdgeData)) (start at : ℕ) (walk : List EdgeData) (e : EdgeData) → AreFirst graph first → at < length first
    → slice_index_or first at None ≡ Some e → (0 < length walk → at ≢ start) → IsAlongFirst graph.edges first start walk at
    → IsAlongFirst graph.edges first start (walk ++ e ∷ []) e.to
along-more graph first start at walk e are within is away along =
    let v = via-edge graph first at None e are within is in
    record {
      is_walk = IsWalk-append graph.edges start at e.to walk (e ∷ []) along.is_walk (v.0, v.1, refl);
      follows = follows-more first walk e along.follows (subst (λ p. slice_index_or first p None ≡ Some e) (sym v.1) is);
      once = leaves-more start walk e along.once (λ some same. away some (sym v.1 ∙ same));
    }
