-- Lists of edges that grow.
use Rattle.std.proofs.Common.{◌≡◌, ℕ, ◌+◌, ◌<◌, ℤ, pos, ◌+ℤ◌, List, [], ◌∷◌, ◌++◌, length, get_or, take, refl, sym, ap, ◌∙◌, subst, inl, inr, arith, Some}
use Rattle.std.proofs.lemmas.List.{append-nil, append_assoc, take_more, get_or_default}
use Rattle.std.proofs.lemmas.Option.{slice_get_within}
use Rattle.std.proofs.lemmas.List.Elements.{All-nil, All-push, All-append, Contains-append_left, Contains-get_or, Contains-push, Contains-push_cases}
use Rattle.std.proofs.lemmas.Bool.{cases_lt}
use Rattle.std.proofs.lemmas.Int.{ints}
use Rattle.std.specs.List.{slice_index, slice_get, All, Contains}
use Rattle.loop_data.specs.declared.language.statement.Statement.{Statement}
use Rattle.loop_data.specs.declared.language.statement.Place.{Place}
use Rattle.loop_data.specs.declared.language.statement.Operand.{Operand}
use Rattle.loop_data.specs.declared.language.statement.Operand.TheVariants.{Value}
use Rattle.edges.specs.Edges.{EdgeData}
use Rattle.graph.specs.Subscripts.{IsDelay, IsMemoryEdge, IsUse, IsMeeting, IsFound, GainsEdges, HasUses, HasMeetings, HasAllEdges}

pub memory_edge-sound : (latencies : List ℕ) (p : ℕ) (first : Statement) (q : ℕ) (second : Statement) (place later : Place) (d : ℕ) (delay : ℤ)
    → first.place ≡ Some place → second.place ≡ Some later → place.array ≡ later.array → place.offset ≡ (later.offset +ℤ pos d) → (d ≡ 0 → p < q)
    → IsDelay first.opcode second.opcode (slice_index latencies p) (slice_index latencies q) delay
    → IsMemoryEdge latencies p first q second (record { from = p; to = q; distance = d; delay = delay })
memory_edge-sound latencies p first q second place later d delay a b same far order is = record {
  from = refl;
  to = refl;
  place = place;
  is_place = a;
  later = later;
  is_later = b;
  same_array = same;
  distance = far;
  order = order;
  delay = is;
}

same_place : (first : Statement) (a b : Place) → first.place ≡ Some a → first.place ≡ Some b → a ≡ b
same_place first a b p q = let h : Some a ≡ Some b = sym p ∙ q in cc

same_fields : (from to distance : ℕ) (delay : ℤ) (e : EdgeData) → from ≡ e.from → to ≡ e.to → distance ≡ e.distance → delay ≡ e.delay
    → record { from = from; to = to; distance = distance; delay = delay } ≡ e
same_fields from to distance delay e f t d z =
    ap (λ k. let x : EdgeData = record { from = k; to = to; distance = distance; delay = delay } in x) f
    ∙ (ap (λ k. let x : EdgeData = record { from = e.from; to = k; distance = distance; delay = delay } in x) t
    ∙ (ap (λ k. let x : EdgeData = record { from = e.from; to = e.to; distance = k; delay = delay } in x) d
    ∙ ap (λ k. let x : EdgeData = record { from = e.from; to = e.to; distance = e.distance; delay = k } in x) z))

pub memory_edge-complete : (latencies : List ℕ) (p : ℕ) (first : Statement) (q : ℕ) (second : Statement) (place later : Place) (d : ℕ) (delay : ℤ)
    → first.place ≡ Some place → second.place ≡ Some later → place.offset ≡ (later.offset +ℤ pos d)
    → ((other : ℤ) → IsDelay first.opcode second.opcode (slice_index latencies p) (slice_index latencies q) other → Some delay ≡ Some other)
    → (e : EdgeData) → IsMemoryEdge latencies p first q second e → Some (record { from = p; to = q; distance = d; delay = delay }) ≡ Some e
memory_edge-complete latencies p first q second place later d delay a b far only e h =
    let s : place.offset ≡ h.place.offset = ap (λ (x : Place). x.offset) (same_place first place h.place a h.is_place) in
    let t : later.offset ≡ h.later.offset = ap (λ (x : Place). x.offset) (same_place second later h.later b h.is_later) in
    let u : h.place.offset ≡ (h.later.offset +ℤ pos e.distance) = h.distance in
    let v : d ≡ e.distance = omega (arith, ints) in
    let w : Some delay ≡ Some e.delay = only e.delay h.delay in
    let x : delay ≡ e.delay = cc in
    ap Some (same_fields p q d delay e (sym h.from) (sym h.to) v x)

pub GainsEdges-none : (statements : List Statement) (latencies : List ℕ) (list : List EdgeData) → GainsEdges statements latencies list list
GainsEdges-none statements latencies list = record { more = []; is = sym (append-nil list); found = All-nil (IsFound statements latencies) }

pub GainsEdges-push : (statements : List Statement) (latencies : List ℕ) (old new : List EdgeData) (e : EdgeData) → GainsEdges statements latencies old new
    → IsFound statements latencies e → GainsEdges statements latencies old (new ++ e ∷ [])
GainsEdges-push statements latencies old new e g f = record {
  more = g.more ++ e ∷ [];
  is = ap (λ l. l ++ e ∷ []) g.is ∙ append_assoc old g.more (e ∷ []);
  found = All-push (IsFound statements latencies) g.more e g.found f;
}

pub GainsEdges-keeps : (statements : List Statement) (latencies : List ℕ) (old new : List EdgeData) (e : EdgeData) → GainsEdges statements latencies old new
    → Contains old e → Contains new e
GainsEdges-keeps statements latencies old new e g h = subst (λ l. Contains l e) (sym g.is) (Contains-append_left old g.more e h)

pub GainsEdges-found : (statements : List Statement) (latencies : List ℕ) (old new : List EdgeData) → GainsEdges statements latencies old new
    → All (IsFound statements latencies) old → All (IsFound statements latencies) new
GainsEdges-found statements latencies old new g h =
    subst (All (IsFound statements latencies)) (sym g.is) (All-append (IsFound statements latencies) old g.more h g.found)

-- one operand more, which is a value whose edge was pushed
pub HasUses-pushed : (latencies : List ℕ) (to : ℕ) (operands : List Operand) (i p d : ℕ) (o : Operand) (list : List EdgeData) (e : EdgeData) → i < length operands
    → o ≡ get_or operands i o → o ≡ Value p d → e ≡ record { from = p; to = to; distance = d; delay = pos (slice_index latencies p) }
    → HasUses latencies to (take i operands) list → HasUses latencies to (take (i + 1) operands) (list ++ e ∷ [])
HasUses-pushed latencies to operands i p d o list e within is value pushed h = λ from distance c.
    let edge : EdgeData = record { from = from; to = to; distance = distance; delay = pos (slice_index latencies from) } in
    let more : take (i + 1) operands ≡ take i operands ++ o ∷ [] = take_more operands i o within ∙ ap (λ x. take i operands ++ x ∷ []) (sym is) in
    elim (Contains-push_cases (take i operands) o (Value from distance) (subst (λ l. Contains l (Value from distance)) more c)) [
      | inl before ↦ Contains-append_left list (e ∷ []) edge (h from distance before)
      | inr here ↦ (let v : Value p d ≡ Value from distance = sym value ∙ here in
          let f : p ≡ from = cc in let g : d ≡ distance = cc in
          let same : e ≡ edge = pushed ∙ ap (λ k. record { from = k; to = to; distance = d; delay = pos (slice_index latencies k) }) f
          ∙ ap (λ k. record { from = from; to = to; distance = k; delay = pos (slice_index latencies from) }) g in
          subst (λ x. Contains (list ++ e ∷ []) x) same (Contains-push list e))
    ]

-- one operand more, which is no value
pub HasUses-passed : (latencies : List ℕ) (to : ℕ) (operands : List Operand) (i : ℕ) (o : Operand) (list : List EdgeData) → i < length operands
    → o ≡ get_or operands i o → ((p d : ℕ) → o ≡ Value p d → ⊥)
    → HasUses latencies to (take i operands) list → HasUses latencies to (take (i + 1) operands) list
HasUses-passed latencies to operands i o list within is other h = λ from distance c.
    let more : take (i + 1) operands ≡ take i operands ++ o ∷ [] = take_more operands i o within ∙ ap (λ x. take i operands ++ x ∷ []) (sym is) in
    elim (Contains-push_cases (take i operands) o (Value from distance) (subst (λ l. Contains l (Value from distance)) more c)) [
      | inl before ↦ h from distance before
      | inr here ↦ absurd (other from distance here)
    ]

-- the step of a loop over an operation's operands, at a value
pub uses-pushed : (statements : List Statement) (latencies : List ℕ) (to : ℕ) (reader : Statement) (operands : List Operand) (i p d : ℕ) (delay : ℤ) (old list : List EdgeData)
    → slice_get statements to ≡ Some reader → operands ≡ reader.operands → i < length operands → (o : Operand) → get_or operands i o ≡ Value p d
    → delay ≡ pos (slice_index latencies p) → GainsEdges statements latencies old list × HasUses latencies to (take i operands) list
    → GainsEdges statements latencies old (list ++ record { from = p; to = to; distance = d; delay = delay } ∷ [])
    × HasUses latencies to (take (i + 1) operands) (list ++ record { from = p; to = to; distance = d; delay = delay } ∷ [])
uses-pushed statements latencies to reader operands i p d delay old list at same within o value lat h =
    let e : EdgeData = record { from = p; to = to; distance = d; delay = delay } in
    let reads : Contains reader.operands (Value p d)
    = subst (λ l. Contains l (Value p d)) same (subst (Contains operands) value (Contains-get_or operands i o within)) in
    let used : IsUse statements latencies e = record { reader = reader; is_reader = at; reads = reads; delay = lat } in (
      GainsEdges-push statements latencies old list e h.0 (inl used),
      HasUses-pushed latencies to operands i p d (get_or operands i o) list e within (get_or_default operands i o (get_or operands i o) within) value
          (ap (λ z. let edge : EdgeData = record { from = p; to = to; distance = d; delay = z } in edge) lat) h.1,
    )

-- the step of a loop over all operations, at one whose cell the operation comes upon
pub meetings-pushed : (statements : List Statement) (latencies : List ℕ) (to i : ℕ) (first second : Statement) (e : EdgeData) (old list : List EdgeData)
    → slice_get statements i ≡ Some first → slice_get statements to ≡ Some second → IsMemoryEdge latencies i first to second e
    → ((other : EdgeData) → IsMemoryEdge latencies i first to second other → Some e ≡ Some other)
    → GainsEdges statements latencies old list × HasMeetings statements latencies to i list
    → GainsEdges statements latencies old (list ++ e ∷ []) × HasMeetings statements latencies to (i + 1) (list ++ e ∷ [])
meetings-pushed statements latencies to i first second e old list at there edge only h =
    let f : i ≡ e.from = sym edge.from in
    let t : to ≡ e.to = sym edge.to in
    let a : slice_get statements e.from ≡ Some first = subst (λ k. slice_get statements k ≡ Some first) f at in
    let b : slice_get statements e.to ≡ Some second = subst (λ k. slice_get statements k ≡ Some second) t there in
    let g : IsMemoryEdge latencies e.from first e.to second e
    = subst (λ k. IsMemoryEdge latencies k first e.to second e) f (subst (λ k. IsMemoryEdge latencies i first k second e) t edge) in
    let m : IsMeeting statements latencies e = record { first = first; is_first = a; second = second; is_second = b; edge = g } in (
      GainsEdges-push statements latencies old list e h.0 (inr m),
      λ other to_is below meets. elim (cases_lt other.from i) [
        | inl before ↦ Contains-append_left list (e ∷ []) other (h.1 other to_is before meets)
        | inr after ↦ (let i_is : other.from ≡ i = omega arith in
            let p : Some meets.first ≡ Some first = sym meets.is_first ∙ ap (slice_get statements) i_is ∙ at in
            let q : Some meets.second ≡ Some second = sym meets.is_second ∙ ap (slice_get statements) to_is ∙ there in
            let pf : meets.first ≡ first = cc in
            let qf : meets.second ≡ second = cc in
            let x : IsMemoryEdge latencies i first to second other
            = subst (λ k. IsMemoryEdge latencies k first to second other) i_is (subst (λ k. IsMemoryEdge latencies other.from first k second other) to_is
            (subst (λ s. IsMemoryEdge latencies other.from s other.to second other) pf (subst (λ s. IsMemoryEdge latencies other.from meets.first other.to s other) qf meets.edge))) in
            let r : Some e ≡ Some other = only other x in
            let y : e ≡ other = cc in
            subst (Contains (list ++ e ∷ [])) y (Contains-push list e))
      ],
    )

-- the same at one whose cell it does not
pub meetings-passed : (statements : List Statement) (latencies : List ℕ) (to i : ℕ) (first second : Statement) (old list : List EdgeData)
    → slice_get statements i ≡ Some first → slice_get statements to ≡ Some second
    → ((other : EdgeData) → IsMemoryEdge latencies i first to second other → ⊥)
    → GainsEdges statements latencies old list × HasMeetings statements latencies to i list
    → GainsEdges statements latencies old list × HasMeetings statements latencies to (i + 1) list
meetings-passed statements latencies to i first second old list at there none h = (
  h.0,
  λ other to_is below meets. elim (cases_lt other.from i) [
    | inl before ↦ h.1 other to_is before meets
    | inr after ↦ (let i_is : other.from ≡ i = omega arith in
        let p : Some meets.first ≡ Some first = sym meets.is_first ∙ ap (slice_get statements) i_is ∙ at in
        let q : Some meets.second ≡ Some second = sym meets.is_second ∙ ap (slice_get statements) to_is ∙ there in
        let pf : meets.first ≡ first = cc in
        let qf : meets.second ≡ second = cc in
        let x : IsMemoryEdge latencies i first to second other
        = subst (λ k. IsMemoryEdge latencies k first to second other) i_is (subst (λ k. IsMemoryEdge latencies other.from first k second other) to_is
        (subst (λ s. IsMemoryEdge latencies other.from s other.to second other) pf (subst (λ s. IsMemoryEdge latencies other.from meets.first other.to s other) qf meets.edge))) in
        absurd (none other x))
  ],
)

-- the step of a loop that takes each operation in turn
pub all-more : (statements : List Statement) (latencies : List ℕ) (to : ℕ) (old mid list : List EdgeData) (reader : Statement)
    → slice_get statements to ≡ Some reader → HasAllEdges statements latencies to old → GainsEdges statements latencies old mid → HasUses latencies to reader.operands mid
    → GainsEdges statements latencies mid list → HasMeetings statements latencies to (length statements) list → HasAllEdges statements latencies (to + 1) list
all-more statements latencies to old mid list reader at h g uses k meetings = λ e below found. elim (cases_lt e.to to) [
  | inl before ↦ GainsEdges-keeps statements latencies mid list e k (GainsEdges-keeps statements latencies old mid e g (h e before found))
  | inr after ↦ (let is : e.to ≡ to = omega arith in elim found [
    | inl u ↦ (let q : Some u.reader ≡ Some reader = sym u.is_reader ∙ ap (slice_get statements) is ∙ at in
        let r : u.reader ≡ reader = cc in
        let c : Contains mid (record { from = e.from; to = to; distance = e.distance; delay = pos (slice_index latencies e.from) })
        = uses e.from e.distance (subst (λ (s : Statement). Contains s.operands (Value e.from e.distance)) r u.reads) in
        let same : record { from = e.from; to = to; distance = e.distance; delay = pos (slice_index latencies e.from) } ≡ e
        = ap (λ x. let edge : EdgeData = record { from = e.from; to = x; distance = e.distance; delay = pos (slice_index latencies e.from) } in edge) (sym is)
        ∙ ap (λ x. let edge : EdgeData = record { from = e.from; to = e.to; distance = e.distance; delay = x } in edge) (sym u.delay) in
        GainsEdges-keeps statements latencies mid list e k (subst (Contains mid) same c))
    | inr m ↦ meetings e is (slice_get_within statements e.from m.first m.is_first) m
  ])
]

pub found-within : (statements : List Statement) (latencies : List ℕ) (e : EdgeData) → IsFound statements latencies e → e.to < length statements
found-within statements latencies e (inl u) = slice_get_within statements e.to u.reader u.is_reader
found-within statements latencies e (inr m) = slice_get_within statements e.to m.second m.is_second
