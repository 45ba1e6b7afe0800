-- The table grows by a layer, and the walk that it leads along by an edge.
use Rattle.std.proofs.Common.{◌≡◌, ℕ, ◌+◌, ◌-◌, ◌*◌, ◌<◌, ◌≤◌, pos, ◌+ℤ◌, List, [], ◌∷◌, ◌++◌, length, get_or, sym, ◌∙◌, subst, arith, rules, Option, Some, None, MatchOption}
use Rattle.std.specs.List.{slice_index, slice_index_or}
use Rattle.std.specs.Option.{IsSome}
use Rattle.std.proofs.lemmas.Int.{ints}
use Rattle.std.proofs.lemmas.List.{get_or_append_left, get_or_push, get_or_default, length-append}
use Rattle.edges.specs.Edges.{EdgeData}
use Rattle.edges.specs.Graphs.{GraphData, IsGraph}
use Rattle.walks.specs.Walks.{IsWalk, delay_of, distance_of}
use Rattle.circuits.specs.declared.layer.Layer.{Layer}
use Rattle.circuits.specs.Circuits.{IsCircuitAbove}
use Rattle.circuits.specs.inner.Layers.{IsLayer, IsReturn}
use Rattle.circuits.proofs.Returns.{GoesOnOnce}
use Rattle.circuits.proofs.Rounds.{Rises, rise-returns, circuit-from_return}
use Rattle.circuits.proofs.Tables.{AreLongest, IsTable, IsFirst, IsOnWay, first-of, same-of, longest-more, short-more, rises-from_longer, table-more, on_way-more}

-- the layers of walks of 0 to `made` edges, and an operation whose walk got longer with the last edge
pub record IsGrown (graph : GraphData) (ii : ℕ) (layers : List Layer) (made at : ℕ) : Type 0 where
  pub size : length layers ≡ made + 1
  pub table : IsTable graph ii layers
  pub zero : (d : Layer) (p : ℕ) → slice_index (get_or layers 0 d).lengths p ≡ 0
  pub longest : (d : Layer) → AreLongest graph ii made (get_or layers made d).lengths
  pub short : (d : Layer) (p : ℕ) → p < length graph.latencies → slice_index (get_or layers made d).lengths p ≤ 64 * made
  pub rises : 0 < made → (d : Layer) → Rises graph ii made at (slice_index (get_or layers made d).lengths at)

pub grown-more : (graph : GraphData) (ii made at operation : ℕ) (layers : List Layer) (d next : Layer) → IsGraph graph → IsGrown graph ii layers made at
    → d ≡ get_or layers made d → IsLayer graph ii d.lengths next.lengths next.first → operation < length graph.latencies
    → slice_index d.lengths operation < slice_index next.lengths operation → IsGrown graph ii (layers ++ next ∷ []) (made + 1) operation
grown-more graph ii made at operation layers d next g old is layer below more =
    let size : length layers ≡ made + 1 = old.size in
    let longer : length (layers ++ next ∷ []) ≡ length layers + 1 = length-append layers (next ∷ []) in
    let same : (f : Layer) → get_or layers made f ≡ d = λ f. get_or_default layers made f d (omega arith) ∙ sym is in
    let top : (f : Layer) → get_or (layers ++ next ∷ []) (made + 1) f ≡ next = λ f. get_or_push layers next f (made + 1) size in
    let longest : AreLongest graph ii made d.lengths = subst (λ (a : Layer). AreLongest graph ii made a.lengths) (same d) (old.longest d) in
    record {
      size = omega arith;
      table = table-more graph ii made layers next size old.table (λ f. subst (λ (a : Layer). IsLayer graph ii a.lengths next.lengths next.first) (sym (same f)) layer);
      zero = λ f p. subst (λ (a : Layer). slice_index a.lengths p ≡ 0) (sym (get_or_append_left layers (next ∷ []) f 0 (omega arith))) (old.zero f p);
      longest = λ f. subst (λ (a : Layer). AreLongest graph ii (made + 1) a.lengths) (sym (top f))
          (longest-more graph ii made d.lengths next.lengths next.first g layer longest);
      short = λ f p within. subst (λ (a : Layer). slice_index a.lengths p ≤ 64 * (made + 1)) (sym (top f))
          (short-more graph ii made d.lengths next.lengths next.first g layer
          (λ k low. subst (λ (a : Layer). slice_index a.lengths k ≤ 64 * made) (same d) (old.short d k low)) p within);
      rises = λ _ f. subst (λ (a : Layer). Rises graph ii (made + 1) operation (slice_index a.lengths operation)) (sym (top f))
          (rises-from_longer graph ii made operation (slice_index next.lengths operation) d.lengths longest below more);
    }

-- the walk from `start` by the table, as far as the layer `left`
abbrev pub IsWalked : GraphData → ℕ → List Layer → ℕ → ℕ → List EdgeData → ℕ → ℕ → Type 0
IsWalked graph ii layers made start walk at left =
    (d : Layer) → IsOnWay graph ii start (slice_index (get_or layers made d).lengths start) walk at (slice_index (get_or layers left d).lengths at)

-- the edge that the table leads along
pub edge-on : (graph : GraphData) (ii at left : ℕ) (layers : List Layer) (d f : Layer) (e : EdgeData) → IsGraph graph → IsTable graph ii layers → at < length graph.latencies
    → 0 < left → left < length layers → d ≡ get_or layers (left - 1 + 1) d → slice_index_or d.first at None ≡ Some e
    → IsFirst graph ii (get_or layers (left - 1) f).lengths at (slice_index (get_or layers left f).lengths at) e
edge-on graph ii at left layers d f e g table below some short is first =
    let on : left - 1 + 1 ≡ left = omega arith in
    let same : d ≡ get_or layers (left - 1 + 1) f = is ∙ get_or_default layers (left - 1 + 1) d f (omega arith) in
    subst (λ k. IsFirst graph ii (get_or layers (left - 1) f).lengths at (slice_index (get_or layers k f).lengths at) e) on
    (first-of graph ii (get_or layers (left - 1) f).lengths (get_or layers (left - 1 + 1) f).lengths (get_or layers (left - 1 + 1) f).first at e g
    (table (left - 1) f (omega arith)) below (subst (λ (a : Layer). slice_index_or a.first at None ≡ Some e) same first))

pub walked-more : (graph : GraphData) (ii made start at left : ℕ) (layers : List Layer) (walk : List EdgeData) (d : Layer) (e : EdgeData) → IsGraph graph → IsTable graph ii layers
    → 0 < left → left < length layers → d ≡ get_or layers (left - 1 + 1) d → slice_index_or d.first at None ≡ Some e
    → IsWalked graph ii layers made start walk at left → IsWalked graph ii layers made start (walk ++ e ∷ []) e.to (left - 1)
walked-more graph ii made start at left layers walk d e g table some short is first way f =
    on_way-more graph ii start (slice_index (get_or layers made f).lengths start) (get_or layers (left - 1) f).lengths walk at
    (slice_index (get_or layers left f).lengths at) e (way f) (edge-on graph ii at left layers d f e g table (way f).there some short is first)

pub walked-kept : (graph : GraphData) (ii made start at left : ℕ) (layers : List Layer) (walk : List EdgeData) (d : Layer) → IsTable graph ii layers
    → 0 < left → left < length layers → d ≡ get_or layers (left - 1 + 1) d → slice_index_or d.first at None ≡ None
    → IsWalked graph ii layers made start walk at left → IsWalked graph ii layers made start walk at (left - 1)
walked-kept graph ii made start at left layers walk d table some short is first way f =
    let on : left - 1 + 1 ≡ left = omega arith in
    let same : d ≡ get_or layers (left - 1 + 1) f = is ∙ get_or_default layers (left - 1 + 1) d f (omega arith) in
    let equal : slice_index (get_or layers left f).lengths at ≡ slice_index (get_or layers (left - 1) f).lengths at
    = subst (λ k. slice_index (get_or layers k f).lengths at ≡ slice_index (get_or layers (left - 1) f).lengths at) on
    (same-of graph ii (get_or layers (left - 1) f).lengths (get_or layers (left - 1 + 1) f).lengths (get_or layers (left - 1 + 1) f).first at
    (table (left - 1) f (omega arith)) (way f).there (subst (λ (a : Layer). slice_index_or a.first at None ≡ None) same first)) in
    subst (λ n. IsOnWay graph ii start (slice_index (get_or layers made f).lengths start) walk at n) equal (way f)

-- a walk of at most `made` edges that is longer than each one of fewer than `made`
pub record IsLongWalk (graph : GraphData) (ii made start : ℕ) (walk : List EdgeData) : Type 0 where
  pub reach : ℕ
  pub end : ℕ
  pub rises : Rises graph ii made start reach
  pub is_walk : IsWalk graph.edges start walk end
  pub sum : delay_of walk ≡ pos (reach + ii * distance_of walk)
  pub few : length walk ≤ made

pub long-walk : (graph : GraphData) (ii made start at left : ℕ) (layers : List Layer) (walk : List EdgeData) → IsGrown graph ii layers made start → 0 < made
    → left ≡ 0 → length walk + left ≤ made → IsWalked graph ii layers made start walk at left → IsLongWalk graph ii made start walk
long-walk graph ii made start at left layers walk grown some none few way =
    let d : Layer = record { lengths = []; first = [] } in
    let reach : ℕ = slice_index (get_or layers made d).lengths start in
    let w : IsOnWay graph ii start reach walk at (slice_index (get_or layers left d).lengths at) = way d in
    let zero : slice_index (get_or layers left d).lengths at ≡ 0 = subst (λ k. slice_index (get_or layers k d).lengths at ≡ 0) (sym none) (grown.zero d at) in
    let sum : (delay_of walk +ℤ pos (slice_index (get_or layers left d).lengths at)) ≡ pos (reach + ii * distance_of walk) = w.sum in
    record { reach = reach; end = at; rises = grown.rises some d; is_walk = w.is_walk; sum = omega (arith, ints); few = omega arith }

-- the same once the table has a layer for one edge more than there are operations
pub whole-walk : (graph : GraphData) (ii operations made start at left : ℕ) (layers : List Layer) (walk : List EdgeData) → operations ≡ length graph.latencies
    → made ≡ operations + 1 → left ≡ 0 → IsGrown graph ii layers made start → length walk + left ≤ operations + 1
    → IsWalked graph ii layers (operations + 1) start walk at left → IsLongWalk graph ii (length graph.latencies + 1) start walk
whole-walk graph ii operations made start at left layers walk all last none grown few way =
    subst (λ n. IsLongWalk graph ii (n + 1) start walk) all
    (long-walk graph ii (operations + 1) start at left layers walk (subst (λ k. IsGrown graph ii layers k start) last grown) (omega arith) none few way)

pub long-returns : {X : Type 0} (graph : GraphData) (ii start : ℕ) (walk : List EdgeData) (found : Option X) (P : X → Type 0) → IsGraph graph
    → IsLongWalk graph ii (length graph.latencies + 1) start walk → MatchOption found (GoesOnOnce walk) P → IsSome found
long-returns graph ii start walk None P g w once = absurd (rise-returns graph ii start w.end w.reach walk g w.rises w.is_walk w.sum once)
long-returns graph ii start walk (Some x) P g w h = search rules

pub long-circuit : (graph : GraphData) (ii made start : ℕ) (walk part : List EdgeData) → IsLongWalk graph ii made start walk → IsReturn walk part
    → IsCircuitAbove graph.edges ii part
long-circuit graph ii made start walk part w r = circuit-from_return graph ii start w.end made w.reach walk part w.rises w.is_walk w.sum w.few r
