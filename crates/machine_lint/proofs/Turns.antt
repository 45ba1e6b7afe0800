-- What is told of one element after another.
use Rattle.std.proofs.Common.{◌≡◌, ℕ, ◌+◌, ◌<◌, ◌≤◌, List, [], ◌∷◌, ◌++◌, length, get_or, take, map, sym, ap, ◌∙◌, append_assoc}
use Rattle.std.proofs.lemmas.List.{append-nil, map-append, take_all, take_more}
use Rattle.toml.specs.Data.{Data}
use Rattle.toml.specs.View.{view}
use Rattle.toml.specs.declared.value.Value.{Value}
use Rattle.machine_lint.specs.Tree.{Lints, in_turn}

turn-push : (check : List Data → Data → Lints) (before ds : List Data) (d : Data) → in_turn check before (ds ++ d ∷ []) ≡ in_turn check before ds ++ check (before ++ ds) d
turn-push check before [] d = append-nil (check before d) ∙ ap (λ (b : List Data). check b d) (sym (append-nil before))
turn-push check before (x ∷ ds) d =
    ap (λ (rest : Lints). check before x ++ rest) (turn-push check (before ++ x ∷ []) ds d ∙ ap (λ (b : List Data). in_turn check (before ++ x ∷ []) ds ++ check b d) (append_assoc before (x ∷ []) ds))
    ∙ sym (append_assoc (check before x) (in_turn check (before ++ x ∷ []) ds) (check (before ++ x ∷ ds) d))

-- the element at a place, after those before it
pub turn-more : (check : List Data → Data → Lints) (vs : List Value) (i : ℕ) (v : Value) (all : Lints) (old new : Lints) → i < length vs → v ≡ get_or vs i v
    → old ≡ all ++ in_turn check [] (map view (take i vs)) → new ≡ old ++ check (map view (take i vs)) (view v) → new ≡ all ++ in_turn check [] (map view (take (i + 1) vs))
turn-more check vs i v all old new below is was now =
    now ∙ ap (λ (l : Lints). l ++ check (map view (take i vs)) (view v)) was
    ∙ append_assoc all (in_turn check [] (map view (take i vs))) (check (map view (take i vs)) (view v))
    ∙ ap (λ (l : Lints). all ++ l) (sym (turn-push check [] (map view (take i vs)) (view v)))
    ∙ ap (λ (ds : List Data). all ++ in_turn check [] ds) (sym (map-append view (take i vs) (v ∷ [])) ∙ ap (map view) (sym (rw (take_more vs i v below, ← is))))

-- .. of all elements
pub turn-all : (check : List Data → Data → Lints) (vs : List Value) (i : ℕ) (all told : Lints) → length vs ≤ i → told ≡ all ++ in_turn check [] (map view (take i vs)) → told ≡ all ++ in_turn check [] (map view vs)
turn-all check vs i all told end is = is ∙ ap (λ (rest : List Value). all ++ in_turn check [] (map view rest)) (take_all i vs end)
