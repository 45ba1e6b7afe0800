-- The values of overlapped runs, and of runs of one iteration after another.
use Rattle.std.proofs.Common.{◌≡◌, ℕ, suc, zero, ◌+◌, ◌-◌, ◌*◌, ◌<◌, ◌≤◌, false, eqb, leb, List, [], ◌∷◌, length, map, Some, refl, sym, ap, ◌∙◌, subst, inl, inr, arith}
use Rattle.std.specs.Prelude.{slice_get}
use Rattle.std.proofs.lemmas.Bool.{cases_eq, cases_lt, eq-eqb, ne_eqb, le-leb, lt-leb, cond-true, cond-false}
use Rattle.std.proofs.lemmas.List.{length-map}
use Rattle.registers.specs.declared.value.Read.{Read}
use Rattle.registers.proofs.Whole.{times-more}
use Rattle.instances.specs.Runs.{Place, RunData, IsRun, StandsIn, reading_cycle, source, value_of}
use Rattle.instances.specs.Histories.{reads_by, Computes, Initials, History, got, IsSequential, Gives, IsOverlapped}
use Rattle.instances.specs.Promises.{GoForward, RunsAreSequential}
use Rattle.instances.proofs.Lives.{read-within, carried-far}
use Rattle.instances.proofs.Standing.{read-lands, read-opens}
use Rattle.instances.proofs.Openings.{openings-one, opening-read}

-- lists

-- the reads of an operation are among all reads
abbrev IsReadBy : List Read → ℕ → Read → Type 0
IsReadBy reads op r = (k : ℕ) × (slice_get reads k ≡ Some r) × (r.reader ≡ op)

read-later : (x : Read) (reads : List Read) (op : ℕ) (r : Read) → IsReadBy reads op r → IsReadBy (x ∷ reads) op r
read-later x reads op r b = (suc b.0, b.1, b.2)

read-first : (x : Read) (reads : List Read) (op n : ℕ) (r : Read) → x.reader ≡ op → ((m : ℕ) → slice_get (reads_by reads op) m ≡ Some r → IsReadBy reads op r)
    → slice_get (x ∷ reads_by reads op) n ≡ Some r → IsReadBy (x ∷ reads) op r
read-first x reads op zero r by back e = let same : x ≡ r = cc in (0, ap Some same, sym (ap (λ (y : Read). y.reader) same) ∙ by)
read-first x reads op (suc n) r by back e = read-later x reads op r (back n e)

reads-back : (reads : List Read) (op n : ℕ) (r : Read) → slice_get (reads_by reads op) n ≡ Some r → IsReadBy reads op r
reads-back [] op n r e = cc
reads-back (x ∷ reads) op n r e = elim (cases_eq x.reader op) [
  | inl same ↦
      read-first x reads op n r same (λ m. reads-back reads op m r)
      (ap (λ (rs : List Read). slice_get rs n) (sym (cond-true (eqb x.reader op) (x ∷ reads_by reads op) (reads_by reads op) (eq-eqb x.reader op same))) ∙ e)
  | inr other ↦
      read-later x reads op r (reads-back reads op n r
      (ap (λ (rs : List Read). slice_get rs n) (sym (cond-false (eqb x.reader op) (x ∷ reads_by reads op) (reads_by reads op) (ne_eqb x.reader op other))) ∙ e))
]

map-same : {V : Type 0} (f g : Read → V) (reads : List Read) → ((n : ℕ) (r : Read) → slice_get reads n ≡ Some r → f r ≡ g r) → map f reads ≡ map g reads
map-same f g [] same = refl
map-same f g (r ∷ reads) same = ap (λ y. y ∷ map f reads) (same 0 r refl) ∙ ap (λ ys. g r ∷ ys) (map-same f g reads (λ n. same (suc n)))

map-each : {V : Type 0} (f : Read → V) (reads : List Read) (xs : List V) → length xs ≡ length reads
    → ((n : ℕ) (r : Read) (x : V) → slice_get reads n ≡ Some r → slice_get xs n ≡ Some x → x ≡ f r) → xs ≡ map f reads
map-each f [] [] e same = refl
map-each f [] (x ∷ xs) e same = absurd (omega arith)
map-each f (r ∷ reads) [] e same = absurd (omega arith)
map-each f (r ∷ reads) (x ∷ xs) e same =
    ap (λ y. y ∷ xs) (same 0 r x refl refl) ∙ ap (λ ys. f r ∷ ys) (map-each f reads xs (omega arith) (λ n. same (suc n)))

map-at : {V : Type 0} (f : Read → V) (reads : List Read) (n : ℕ) (r : Read) (x : V) → slice_get reads n ≡ Some r → slice_get (map f reads) n ≡ Some x → f r ≡ x
map-at f [] n r x e h = cc
map-at f (y ∷ reads) zero r x e h = let same : y ≡ r = cc in let there : f y ≡ x = cc in ap f (sym same) ∙ there
map-at f (y ∷ reads) (suc n) r x e h = map-at f reads n r x e h

-- an instance before another one, by the iteration and then by the maker's place among `many` operations
comes-before : (many i d maker reader : ℕ) → d ≤ i → maker < many → (d ≡ 0 → maker < reader) → many * (i - d) + maker < many * i + reader
comes-before many i zero maker reader le few first =
    let f = first refl in
    let e : many * (i - 0) ≡ many * i = ap (λ n. many * n) (let x : i - 0 ≡ i = omega arith in x) in
    omega arith
comes-before many i (suc d) maker reader le few first =
    let a : many * i ≡ many * (i - suc d) + many * (i - (i - suc d)) = times-more many (i - suc d) i (omega arith) in
    let b : many * (i - (i - suc d)) ≡ many * 1 + many * (i - (i - suc d) - 1) = times-more many 1 (i - (i - suc d)) (omega arith) in
    omega arith

-- what a read gets

got-value : {V : Type 0} (initial : Initials V) (history : History V) (i : ℕ) (r : Read) → r.distance ≤ i → got initial history i r ≡ history r.value (i - r.distance)
got-value initial history i r le = cond-true (leb r.distance i) (history r.value (i - r.distance)) (initial r.value (r.distance - i)) (le-leb r.distance i le)

got-initial : {V : Type 0} (initial : Initials V) (history : History V) (i : ℕ) (r : Read) → i < r.distance → got initial history i r ≡ initial r.value (r.distance - i)
got-initial initial history i r lt = cond-false (leb r.distance i) (history r.value (i - r.distance)) (initial r.value (r.distance - i)) (lt-leb r.distance i lt)

got-same : {V : Type 0} (initial : Initials V) (one other : History V) (i : ℕ) (r : Read) → (r.distance ≤ i → one r.value (i - r.distance) ≡ other r.value (i - r.distance))
    → got initial one i r ≡ got initial other i r
got-same initial one other i r same = elim (cases_lt i r.distance) [
  | inl lt ↦ got-initial initial one i r lt ∙ sym (got-initial initial other i r lt)
  | inr le ↦ got-value initial one i r le ∙ same le ∙ sym (got-value initial other i r le)
]

-- an instance stands in a place in a cycle alone
stands-one : (run : RunData) (trip : ℕ) (place : Place) (cycle v k w l : ℕ) → StandsIn run trip place cycle v k → StandsIn run trip place cycle w l → (v ≡ w) × (k ≡ l)
stands-one run trip place cycle v k w l one other = elim (other.last v k one.there one.within one.here one.landed) [
  | inl same ↦ same
  | inr before ↦ elim (one.last w l other.there other.within other.here other.landed) [
    | inl same ↦ (sym same.0, sym same.1)
    | inr after ↦ absurd (omega arith)
  ]
]

module _ {V : Type 0} (run : RunData) (is : IsRun run) (trip : ℕ) (initial : Initials V) (n : ℕ) (r : Read) (there : slice_get run.reads n ≡ Some r) (i : ℕ) (within : i < trip) where
  gives-got : (history : History V) → Gives run trip initial history (source run r i) (reading_cycle run r i) (got initial history i r)
  gives-got history = elim (cases_lt i r.distance) [
    | inl lt ↦
        let far = carried-far run is n r there in
        inr (
          read-opens run is n r there trip i lt,
          (r.value, r.distance - i, read-within run is n r there, omega arith, omega arith, sym (opening-read run is r i lt), got-initial initial history i r lt),
        )
    | inr le ↦ inl (r.value, i - r.distance, read-lands run is n r there trip i within le, got-value initial history i r le)
  ]

  gives-one : (history : History V) (x : V) → Gives run trip initial history (source run r i) (reading_cycle run r i) x → x ≡ got initial history i r
  gives-one history x (inl at) = elim (cases_lt i r.distance) [
    | inl lt ↦ let s = at.2 in absurd (read-opens run is n r there trip i lt at.0 at.1 s.there s.within s.here s.landed)
    | inr le ↦
        let same = stands-one run trip (source run r i) (reading_cycle run r i) at.0 at.1 r.value (i - r.distance) at.2 (read-lands run is n r there trip i within le) in
        at.3 ∙ ap (λ w. history w at.1) same.0 ∙ ap (history r.value) same.1 ∙ sym (got-value initial history i r le)
  ]
  gives-one history x (inr at) = elim (cases_lt i r.distance) [
    | inl lt ↦
        let first = at.1 in
        let far = carried-far run is n r there in
        let same = openings-one run is first.0 r.value first.1 (r.distance - i) first.2 (read-within run is n r there) first.3 first.4 (omega arith) (omega arith)
        (first.5 ∙ opening-read run is r i lt) in
        first.6 ∙ ap (λ w. initial w first.1) same.0 ∙ ap (initial r.value) same.1 ∙ sym (got-initial initial history i r lt)
    | inr le ↦ let s = read-lands run is n r there trip i within le in absurd (at.0 r.value (i - r.distance) s.there s.within s.here s.landed)
  ]

-- histories of overlapped runs are those of runs of one iteration after another

module _ {V : Type 0} (run : RunData) (is : IsRun run) (trip : ℕ) (compute : Computes V) (initial : Initials V) where
  sequential-from_overlapped : (written : History V) → IsOverlapped run trip compute initial written → IsSequential run trip compute initial written
  sequential-from_overlapped written over v i in_v within =
      let o = over v i in_v within in
      let maker : ℕ = (value_of run v).maker in
      o.2 ∙ ap (compute v i) (map-each (got initial written i) (reads_by run.reads maker) o.0 o.1.each (λ n r x at there.
      let b = reads-back run.reads maker n r at in
      gives-one run is trip initial b.0 r b.1 i within written x (o.1.given n r x at there)))

  overlapped-from_sequential : (history : History V) → IsSequential run trip compute initial history → IsOverlapped run trip compute initial history
  overlapped-from_sequential history sequential v i in_v within =
      let maker : ℕ = (value_of run v).maker in
      let reads : List Read = reads_by run.reads maker in (
        map (got initial history i) reads,
        record {
          each = length-map reads (got initial history i);
          given = λ n r x at there.
              let b = reads-back run.reads maker n r at in
              subst (Gives run trip initial history (source run r i) (reading_cycle run r i)) (map-at (got initial history i) reads n r x at there)
              (gives-got run is trip initial b.0 r b.1 i within history);
        },
        sequential v i in_v within,
      )

-- how late an instance is

late : RunData → ℕ → ℕ → ℕ
late run v i = length run.times * i + (value_of run v).maker

maker-within : (run : RunData) → IsRun run → (v : ℕ) → v < length run.values → (value_of run v).maker < length run.times
maker-within run is v within = (is.lists.each_value v (record { maker = 0; lands = 0; out = false }) within).maker

-- what is read is made earlier
read-earlier : (run : RunData) → IsRun run → GoForward run → (v n i : ℕ) (r : Read) → slice_get (reads_by run.reads (value_of run v).maker) n ≡ Some r → r.distance ≤ i
    → (r.value < length run.values) × (late run r.value (i - r.distance) < late run v i)
unfolding late
read-earlier run is forward v n i r at le =
    let b = reads-back run.reads (value_of run v).maker n r at in
    let in_v = read-within run is b.0 r b.1 in (
      in_v,
      comes-before (length run.times) i r.distance (value_of run r.value).maker (value_of run v).maker le (maker-within run is r.value in_v)
          (λ none. let f = forward b.0 r b.1 none in let e = b.2 in omega arith),
    )

module _ {V : Type 0} (run : RunData) (is : IsRun run) (forward : GoForward run) (compute : Computes V) (initial : Initials V) where
  -- there is one history of one iteration after another

  sequential-one : (trip : ℕ) (one other : History V) → IsSequential run trip compute initial one → IsSequential run trip compute initial other
      → (fuel v i : ℕ) → v < length run.values → i < trip → late run v i < fuel → one v i ≡ other v i
  sequential-one trip one other s t zero v i in_v within few = absurd (omega arith)
  sequential-one trip one other s t (suc fuel) v i in_v within few =
      s v i in_v within
      ∙ ap (compute v i) (map-same (got initial one i) (got initial other i) (reads_by run.reads (value_of run v).maker) (λ n r at.
      got-same initial one other i r (λ le.
      let e = read-earlier run is forward v n i r at le in
      let early = e.1 in
      sequential-one trip one other s t fuel r.value (i - r.distance) e.0 (omega arith) (omega arith))))
      ∙ sym (t v i in_v within)

-- and some: each value made of what is read, a number of steps deep

made : {V : Type 0} → RunData → Computes V → Initials V → ℕ → History V
made run compute initial zero = initial
made run compute initial (suc fuel) = λ v i. compute v i (map (got initial (made run compute initial fuel) i) (reads_by run.reads (value_of run v).maker))

module _ {V : Type 0} (run : RunData) (is : IsRun run) (forward : GoForward run) (compute : Computes V) (initial : Initials V) where
  made-enough : (one other v i : ℕ) → v < length run.values → late run v i < one → late run v i < other → made run compute initial one v i ≡ made run compute initial other v i
  unfolding made
  made-enough zero other v i in_v few enough = absurd (omega arith)
  made-enough (suc one) zero v i in_v few enough = absurd (omega arith)
  made-enough (suc one) (suc other) v i in_v few enough =
      ap (compute v i) (map-same (got initial (made run compute initial one) i) (got initial (made run compute initial other) i) (reads_by run.reads (value_of run v).maker) (λ n r at.
      got-same initial (made run compute initial one) (made run compute initial other) i r (λ le.
      let e = read-earlier run is forward v n i r at le in
      let early = e.1 in
      made-enough one other r.value (i - r.distance) e.0 (omega arith) (omega arith))))

  made-sequential : (trip : ℕ) → (history : History V) × IsSequential run trip compute initial history
  unfolding made
  made-sequential trip =
      let history : History V = λ v i. made run compute initial (suc (late run v i)) v i in (
        history,
        λ v i in_v within.
            let steps : ℕ = late run v i in
            ap (compute v i) (map-same (got initial (made run compute initial steps) i) (got initial history i) (reads_by run.reads (value_of run v).maker) (λ n r at.
            got-same initial (made run compute initial steps) history i r (λ le.
            let e = read-earlier run is forward v n i r at le in
            let early = e.1 in
            made-enough steps (suc (late run r.value (i - r.distance))) r.value (i - r.distance) e.0 early (omega arith)))),
      )

pub runs-are_sequential : (V : Type 0) → RunsAreSequential V
runs-are_sequential V run trip compute initial is forward = (
  λ written history over sequential v i in_v within.
      sequential-one run is forward compute initial trip written history (sequential-from_overlapped run is trip compute initial written over) sequential
      (suc (late run v i)) v i in_v within (omega arith),
  overlapped-from_sequential run is trip compute initial,
  made-sequential run is forward compute initial trip,
)
