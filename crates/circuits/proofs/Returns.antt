-- Where a walk goes on from an operation again.
use Rattle.std.proofs.Common.{◌≡◌, ◌≢◌, ℕ, ◌+◌, ◌-◌, ◌<◌, ◌==◌, Bool, true, false, cond, List, ◌∷◌, ◌++◌, length, get_or, take, drop, sym, ap, ◌∙◌, inl, inr, arith, Some, None}
use Rattle.std.specs.List.{AllPairs, position, position_or_len}
use Rattle.std.proofs.lemmas.Bool.{cases_lt, eqb-true, eq-eqb, lt-ltb}
use Rattle.std.proofs.lemmas.List.{take_more, take-append-drop, drop-drop, drop_more, get_or-take, get_or-drop, get_or_default, length-take-le, length-drop}
use Rattle.std.proofs.lemmas.List.Quantifiers.{all_pairs_push, position-Some}
use Rattle.std.proofs.lemmas.List.Sums.{fails_before_first}
use Rattle.edges.specs.Edges.{EdgeData}
use Rattle.circuits.specs.inner.Layers.{IsReturn}

-- the walk goes on from no operation twice
abbrev pub GoesOnOnce : List EdgeData → Type 0
GoesOnOnce walk = AllPairs (λ (a b : EdgeData). a.from ≢ b.from) walk

-- where no element passes
fails-from_none : {X : Type 0} (p : X → Bool) (xs : List X) → position p xs ≡ None → (k : ℕ) (d : X) → k < length xs → p (get_or xs k d) ≡ false
fails-from_none p xs none k d within = elim (cases_lt (position_or_len p xs) (length xs)) [
  | inl found ↦ (let is : position p xs ≡ Some (position_or_len p xs)
      = ap (λ b. cond b (Some (position_or_len p xs)) None) (lt-ltb (position_or_len p xs) (length xs) found) in
      let wrong : None ≡ Some (position_or_len p xs) = sym none ∙ is in
      cc)
  | inr past ↦ fails_before_first p xs k d (omega arith)
]

-- one edge more, from an operation that is none of those before
pub once-more : (walk : List EdgeData) (end : ℕ) (d : EdgeData) (operation : ℕ) → end < length walk → operation ≡ (get_or walk end d).from
    → GoesOnOnce (take end walk) → position (λ (e : EdgeData). e.from == operation) (take end walk) ≡ None → GoesOnOnce (take (end + 1) walk)
once-more walk end d operation within is once none =
    rw (take_more walk end d within) (all_pairs_push (λ (a b : EdgeData). a.from ≢ b.from) (take end walk) (get_or walk end d) once
    (λ k f below same. let passes : ((get_or (take end walk) k f).from == operation) ≡ true = eq-eqb _ _ (same ∙ sym is) in
    let fails : ((get_or (take end walk) k f).from == operation) ≡ false = fails-from_none (λ (e : EdgeData). e.from == operation) (take end walk) none k f below in
    let wrong : true ≡ false = sym passes ∙ fails in
    cc))

part-at : (walk : List EdgeData) (begin end k : ℕ) (d : EdgeData) → begin + k < end → get_or (take (end - begin) (drop begin walk)) k d ≡ get_or (take end walk) (begin + k) d
part-at walk begin end k d below =
    let short : k < end - begin = omega arith in
    get_or-take (end - begin) (drop begin walk) k d short ∙ get_or-drop begin walk k d ∙ sym (get_or-take end walk (begin + k) d below)

-- an edge from the same operation as one before
pub return-found : (walk : List EdgeData) (begin end : ℕ) (d : EdgeData) (operation : ℕ) → end < length walk → operation ≡ (get_or walk end d).from
    → GoesOnOnce (take end walk) → position (λ (e : EdgeData). e.from == operation) (take end walk) ≡ Some begin
    → IsReturn walk (take (end - begin) (drop begin walk))
return-found walk begin end d operation within is once found =
    let next : EdgeData = get_or walk end d in
    let long : length (take end walk) ≡ end = length-take-le end walk (omega arith) in
    let at = position-Some (λ (e : EdgeData). e.from == operation) (take end walk) begin d found in
    let below : begin < length (take end walk) = at.0 in
    let before : begin < end = omega arith in
    let left : length (drop begin walk) ≡ length walk - begin = length-drop begin walk in
    let size : length (take (end - begin) (drop begin walk)) ≡ end - begin = length-take-le (end - begin) (drop begin walk) (omega arith) in
    let same : begin + (end - begin) ≡ end = omega arith in
    let rest : drop (end - begin) (drop begin walk) ≡ next ∷ drop (end + 1) walk
    = drop-drop (end - begin) begin walk ∙ ap (λ n. drop n walk) same ∙ drop_more walk end d within in
    record {
      before = take begin walk;
      next = next;
      after = drop (end + 1) walk;
      is = sym (take-append-drop begin walk) ∙ ap (λ l. take begin walk ++ l)
          (sym (take-append-drop (end - begin) (drop begin walk)) ∙ ap (λ l. take (end - begin) (drop begin walk) ++ l) rest);
      some = omega arith;
      returns = λ f. let first : get_or (take (end - begin) (drop begin walk)) 0 f ≡ get_or (take end walk) begin d
          = part-at walk begin end 0 f (omega arith) ∙ ap (λ n. get_or (take end walk) n f) (omega arith) ∙ get_or_default (take end walk) begin f d below in
          ap (λ (e : EdgeData). e.from) first ∙ eqb-true (get_or (take end walk) begin d).from operation at.1 ∙ is;
      once = λ i j f less short equal.
          let inside : j < end - begin = omega arith in
          once (begin + i) (begin + j) f (omega arith) (omega arith)
          (ap (λ (e : EdgeData). e.from) (sym (part-at walk begin end i f (omega arith))) ∙ equal ∙ ap (λ (e : EdgeData). e.from) (part-at walk begin end j f (omega arith)));
    }
