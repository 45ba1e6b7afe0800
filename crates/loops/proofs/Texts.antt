-- Texts that grow piece by piece.
use Rattle.std.proofs.Common.{◌≡◌, ℕ, zero, suc, ℤ, pos, negsuc, ◌≤◌, List, [], ◌∷◌, ◌++◌, codes, length, take, map, refl, sym, ap, ◌∙◌}
use Rattle.std.specs.List.{flat_map}
use Rattle.std.proofs.lemmas.List.{take_all, append-nil}
use Rattle.std.proofs.lemmas.List.Concat.{flat_map-append}
use Rattle.std.proofs.lemmas.List.Folds.{flat_map-map}
use Rattle.loop_data.specs.declared.language.lists.Array.{Array}
use Rattle.loop_data.specs.declared.language.lists.Param.{Param}
use Rattle.loop_data.specs.declared.language.lists.Initial.{Initial}
use Rattle.loop_data.specs.declared.language.statement.Statement.{Statement}
use Rattle.loop_data.specs.Loops.{LoopData}
use Rattle.writing.specs.Words.{with_sign}
use Rattle.loops.specs.Text.{following, offset_text, line_text, array_words, param_words, init_words, statement_words, out_words, text_of}

-- the pieces of all elements, each after a blank
pub pieces_following : {X : Type 0} (f : X → List ℕ) (before now : List ℕ) (xs : List X) (i : ℕ) → length xs ≤ i
    → now ≡ before ++ flat_map (λ x. 32 ∷ f x) (take i xs) → now ≡ before ++ following (map f xs)
pieces_following f before now xs i all e =
    e ∙ ap (λ ys. before ++ flat_map (λ x. 32 ∷ f x) ys) (take_all i xs all) ∙ ap (λ t. before ++ t) (sym (flat_map-map (λ w. 32 ∷ w) f xs))

-- a subscript constant that isn't 0 has its sign
pub signed_offset : (offset : ℤ) → ¬ (offset ≡ pos 0) → with_sign offset ≡ offset_text offset
signed_offset (pos zero) other = absurd (other refl)
signed_offset (pos (suc n)) other = refl
signed_offset (negsuc n) other = refl

joined : (xs ys : List (List (List ℕ))) (t u : List ℕ) → flat_map line_text xs ≡ t → flat_map line_text ys ≡ u → flat_map line_text (xs ++ ys) ≡ t ++ u
joined xs ys t u e f = flat_map-append line_text xs ys ∙ ap (λ v. v ++ flat_map line_text ys) e ∙ ap (λ v. t ++ v) f

-- the canonical text, part by part
pub text_of-is : (loop : LoopData) → text_of loop
    ≡ ((((((([] ++ line_text (codes "loop" ∷ loop.name ∷ []))
    ++ flat_map (λ (a : Array). line_text (array_words a)) loop.arrays)
    ++ flat_map (λ (p : Param). line_text (param_words p)) loop.params)
    ++ flat_map (λ (i : Initial). line_text (init_words loop i)) loop.inits)
    ++ flat_map (λ (s : Statement). line_text (statement_words loop s)) loop.statements)
    ++ flat_map (λ s. line_text (out_words loop s)) loop.outs)
    ++ codes "end\n")
unfolding text_of
text_of-is loop =
    let head : List (List (List ℕ)) = (codes "loop" ∷ loop.name ∷ []) ∷ [] in
    let arrays = map array_words loop.arrays in
    let params = map param_words loop.params in
    let inits = map (init_words loop) loop.inits in
    let statements = map (statement_words loop) loop.statements in
    let outs = map (out_words loop) loop.outs in
    let last : List (List (List ℕ)) = (codes "end" ∷ []) ∷ [] in
    joined (((((head ++ arrays) ++ params) ++ inits) ++ statements) ++ outs) last _ _
    (joined ((((head ++ arrays) ++ params) ++ inits) ++ statements) outs _ _
    (joined (((head ++ arrays) ++ params) ++ inits) statements _ _
    (joined ((head ++ arrays) ++ params) inits _ _
    (joined (head ++ arrays) params _ _
    (joined head arrays _ _
    (append-nil (line_text (codes "loop" ∷ loop.name ∷ [])))
    (flat_map-map line_text array_words loop.arrays))
    (flat_map-map line_text param_words loop.params))
    (flat_map-map line_text (init_words loop) loop.inits))
    (flat_map-map line_text (statement_words loop) loop.statements))
    (flat_map-map line_text (out_words loop) loop.outs))
    refl
