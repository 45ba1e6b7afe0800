-- Look-ups over lines with one more line.
use Rattle.std.proofs.Common.{◌≡◌, Bool, true, false, List, [], ◌∷◌, ◌++◌, refl, ap, ◌∙◌, if◌then◌else◌, Option, Some, None}
use Rattle.std.specs.Prelude.{option_to_list}
use Rattle.std.specs.List.{All, cons_option, filter_map, flat_map}
use Rattle.std.proofs.lemmas.List.{append-nil}
use Rattle.std.proofs.lemmas.List.Concat.{flat_map-append}
use Rattle.std.proofs.lemmas.List.Elements.{All-head, All-tail, filter_map-append}
use Rattle.problem_lines.specs.Forms.{Form, MachineLine, UnitsLine, FileLine, KindLine, ProblemLine, OpLine, ValueLine, ReadLine, EdgeLine, EndLine}
use Rattle.problem_reader.specs.Sofar.{since, inside}

-- lists

one-option : {X : Type 0} (o : Option X) → cons_option o [] ≡ option_to_list o
one-option None = refl
one-option (Some x) = refl

pub filter-push : {X Y : Type 0} (h : X → Option Y) (xs : List X) (x : X) → filter_map h (xs ++ x ∷ []) ≡ filter_map h xs ++ option_to_list (h x)
filter-push h xs x = filter_map-append h xs (x ∷ []) ∙ ap (λ ys. filter_map h xs ++ ys) (one-option (h x))

pub flat-push : {X Y : Type 0} (h : X → List Y) (xs : List X) (x : X) → flat_map h (xs ++ x ∷ []) ≡ flat_map h xs ++ h x
flat-push h xs x = flat_map-append h xs (x ∷ []) ∙ ap (λ ys. flat_map h xs ++ ys) (append-nil (h x))

-- what a function gives of an item that gave this, where it was so
abbrev pub Stable : {Y : Type 0} → (Y → Type 0) → Option Y → Option Y → Type 0
Stable P None o = o ≡ None
Stable P (Some y) o = P y → o ≡ Some y

stable-step : {Y : Type 0} (P : Y → Type 0) (o o' : Option Y) (ys ys' : List Y) → Stable P o o' → (All P ys → ys' ≡ ys) → All P (cons_option o ys) → cons_option o' ys' ≡ cons_option o ys
stable-step P None o' ys ys' h t all = ap (λ p. cons_option p ys') h ∙ t all
stable-step P (Some y) o' ys ys' h t all = ap (λ p. cons_option p ys') (h (All-head P y ys all)) ∙ ap (λ zs. y ∷ zs) (t (All-tail P y ys all))

pub filter-stable : {X Y : Type 0} (P : Y → Type 0) (f g : X → Option Y) → ((x : X) → Stable P (f x) (g x)) → (xs : List X) → All P (filter_map f xs) → filter_map g xs ≡ filter_map f xs
filter-stable P f g h [] all = refl
filter-stable P f g h (x ∷ xs) all = stable-step P (f x) (g x) (filter_map f xs) (filter_map g xs) (h x) (filter-stable P f g h xs) all

-- the lines since the last that is so

pub since-push : (opens : Form → Bool) (sofar forms : List Form) (form : Form) → since opens sofar (forms ++ form ∷ []) ≡ (if opens form then [] else since opens sofar forms ++ form ∷ [])
since-push opens sofar [] form = refl
since-push opens sofar (f ∷ fs) form =
    elim (opens f) as (λ b. (if b then since opens [] (fs ++ form ∷ []) else since opens (sofar ++ f ∷ []) (fs ++ form ∷ []))
    ≡ (if opens form then [] else (if b then since opens [] fs else since opens (sofar ++ f ∷ []) fs) ++ form ∷ [])) [
      | true ↦ since-push opens [] fs form
      | false ↦ since-push opens (sofar ++ f ∷ []) fs form
    ]

pub inside-push : (now : Bool) (forms : List Form) (form : Form) → inside now (forms ++ form ∷ []) ≡ inside (inside now forms) (form ∷ [])
inside-push now [] form = refl
inside-push now (MachineLine name ∷ fs) form = inside-push now fs form
inside-push now (UnitsLine names ∷ fs) form = inside-push now fs form
inside-push now (FileLine name storage ∷ fs) form = inside-push now fs form
inside-push now (KindLine name latency alternatives ∷ fs) form = inside-push now fs form
inside-push now (ProblemLine name ∷ fs) form = inside-push true fs form
inside-push now (OpLine name kind ∷ fs) form = inside-push now fs form
inside-push now (ValueLine name maker lands file out ∷ fs) form = inside-push now fs form
inside-push now (ReadLine reader value distance offset ∷ fs) form = inside-push now fs form
inside-push now (EdgeLine from to delay distance ∷ fs) form = inside-push now fs form
inside-push now (EndLine ∷ fs) form = inside-push false fs form
