-- What each of some names is told, at its number.
use Rattle.std.proofs.Common.{◌≡◌, ℕ, ◌<◌, min, List, length, get_or, map, Option, None, option_map, sym, ◌∙◌, ap, subst, arith}
use Rattle.std.proofs.lemmas.List.{get_or-map, length-map}
use Rattle.std.proofs.lemmas.Slice.Zip.{get_or-zip, length-zip}
use Rattle.std.specs.List.{zip}
use Rattle.problems.specs.declared.draft.File.{File}
use Rattle.problems.specs.declared.draft.Value.{Value}
use Rattle.solution_reader.specs.Data.{OpData, ValueData}
use Rattle.solution_reader.specs.Resolved.{op_named, place_told, number_told}

pub record IsToldAt {A : Type 0} (all : List (Option A)) (number : ℕ) (told : Option A) : Type 0 where
  pub there : number < length all
  pub is : get_or all number None ≡ told

-- an operation

pub place_at : (ops : List OpData) (names : List (List ℕ)) (number : ℕ) (name word : List ℕ) (row : Option OpData) → number < length names → name ≡ get_or names number name → word ≡ name → row ≡ op_named ops word
    → IsToldAt (map (place_told ops) names) number (option_map (λ (o : OpData). (o.time, o.alternative)) row)
place_at ops names number name word row lt here same is = record {
  there = omega (arith, length-map names (place_told ops));
  is = get_or-map (place_told ops) names number name None lt
      ∙ ap (place_told ops) (sym here ∙ sym same)
      ∙ ap (option_map (λ (o : OpData). (o.time, o.alternative))) (sym is);
}

-- a value

number-at : (values : List ValueData) (files : List File) (names : List (List ℕ)) (rows : List Value) (number : ℕ) (name : List ℕ) (d : Value) (told : Option ℕ) → number < min (length names) (length rows) → name ≡ get_or names number name
    → told ≡ number_told values files (name, get_or rows number d)
    → IsToldAt (map (number_told values files) (zip names rows)) number told
number-at values files names rows number name d told lt here is =
    let low : number < length names = omega arith in
    let high : number < length rows = omega arith in
    let within : number < length (zip names rows) = omega (arith, length-zip names rows) in
    record {
      there = omega (arith, length-map (zip names rows) (number_told values files));
      is = get_or-map (number_told values files) (zip names rows) number (name, d) None within
          ∙ ap (number_told values files) (get_or-zip names rows number (name, d) low high ∙ ap (λ n. (n, get_or rows number d)) (sym here))
          ∙ sym is;
    }

pub number_at : (values : List ValueData) (files the_files : List File) (names the_names : List (List ℕ)) (rows the_rows : List Value) (number : ℕ) (name : List ℕ) (d : Value) (told : Option ℕ)
    → files ≡ the_files → names ≡ the_names → rows ≡ the_rows → number < min (length names) (length rows) → name ≡ get_or names number name → told ≡ number_told values files (name, get_or rows number d)
    → IsToldAt (map (number_told values the_files) (zip the_names the_rows)) number told
number_at values files the_files names the_names rows the_rows number name d told ef en er lt here is =
    let same : map (number_told values files) (zip names rows) ≡ map (number_told values the_files) (zip the_names the_rows)
    = ap (λ fs. map (number_told values fs) (zip names rows)) ef ∙ ap (λ ns. map (number_told values the_files) (zip ns rows)) en ∙ ap (λ rs. map (number_told values the_files) (zip the_names rs)) er in
    subst (λ (all : List (Option ℕ)). IsToldAt all number told) same (number-at values files names rows number name d told lt here is)

pub numbers_long : (values : List ValueData) (files : List File) (names the_names : List (List ℕ)) (rows the_rows : List Value) → names ≡ the_names → rows ≡ the_rows
    → length (map (number_told values files) (zip the_names the_rows)) ≡ min (length names) (length rows)
numbers_long values files names the_names rows the_rows en er =
    length-map (zip the_names the_rows) (number_told values files) ∙ length-zip the_names the_rows
    ∙ ap (λ ns. min (length ns) (length the_rows)) (sym en) ∙ ap (λ rs. min (length names) (length rs)) (sym er)
