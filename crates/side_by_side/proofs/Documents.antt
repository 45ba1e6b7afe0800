-- What is told of loops as objects in parts, put together, is their document.
use Rattle.std.proofs.Common.{◌≡◌, ◌∙◌, ℕ, suc, Bool, false, ◌+◌, ◌-◌, ◌==◌, List, [], ◌∷◌, ◌++◌, length, map, take, refl, sym, ap, ap₂, arith, append_assoc, length-append}
use Rattle.std.specs.Prelude.{codes, if◌then◌else◌}
use Rattle.std.specs.List.{AllZip, flat_map, join_by}
use Rattle.std.proofs.lemmas.List.{append-nil, take-append-le, take_all}
use Rattle.std.proofs.lemmas.Bool.Decides.{nat_tests}
use Rattle.std.proofs.lemmas.List.Concat.{flat_map-append}
use Rattle.machine.specs.Machines.{MachineData}
use Rattle.loop_data.specs.Loops.{LoopData}
use Rattle.loop_schedules.specs.Problems.{ProblemData}
use Rattle.candidates.specs.Choices.{IsChoice}
use Rattle.loop_listings.specs.Listings.{ListingData, listing_of, listing_rows}
use Rattle.loop_listings.specs.Texts.{number_failed, number_met}
use Rattle.loop_listings.specs.declared.choices.Choice.{Choice}
use Rattle.loop_listings.specs.declared.listings.Row.{Row}
use Rattle.json_objects.specs.Documents.{document_of, head_text, tail_text}
use Rattle.listing_json.specs.Documents.{row_object}
use Rattle.json_objects.proofs.Joined.{join-map}
use Rattle.listing_json.proofs.Joined.{documents-joined}
use Rattle.candidates.specs.Files.{ArePrepared}
use Rattle.written.specs.Written.{Written}
use Rattle.json_printouts.specs.Documents.{IsListingDocument}
use Rattle.json_printouts.proofs.Told.{told_document}
use Rattle.workers.specs.Told.{Group, choices_of, problems_of}
use Rattle.side_by_side.specs.declared.parts.told.ToldLoops.{ToldLoops}
use Rattle.side_by_side.specs.inner.Objects.{objects_text, without_comma}
use Rattle.side_by_side.specs.inner.Told.{number_failed_told, number_met_told, number_told, text_of_told}
use Rattle.side_by_side.proofs.Texts.{IsToldGroup, both_all, lists_all, met_told, number_failed_all, number_met_all, rows_append, texts_all}

module _ {A : Type 0} (f : A → List ℕ) (sep : List ℕ) where
  commas_moved : (xs : List A) → flat_map (λ y. sep ++ f y) xs ++ sep ≡ sep ++ flat_map (λ y. f y ++ sep) xs
  commas_moved [] = sym (append-nil sep)
  commas_moved (y ∷ ys) =
      append_assoc (sep ++ f y) (flat_map (λ z. sep ++ f z) ys) sep ∙ ap (λ (t : List ℕ). (sep ++ f y) ++ t) (commas_moved ys)
      ∙ append_assoc sep (f y) (sep ++ flat_map (λ z. f z ++ sep) ys) ∙ ap (λ (t : List ℕ). sep ++ t) (sym (append_assoc (f y) sep (flat_map (λ z. f z ++ sep) ys)))

  -- with one more of what stands between two, each stands before one
  pub one_more : (x : A) (xs : List A) → flat_map (λ y. f y ++ sep) (x ∷ xs) ≡ join_by f sep (x ∷ xs) ++ sep
  one_more x xs =
      append_assoc (f x) sep (flat_map (λ y. f y ++ sep) xs) ∙ ap (λ (t : List ℕ). f x ++ t) (sym (commas_moved xs))
      ∙ sym (append_assoc (f x) (flat_map (λ y. sep ++ f y) xs) sep)

front : (text : List ℕ) (c : ℕ) → take (length (text ++ c ∷ []) - 1) (text ++ c ∷ []) ≡ text
front text c =
    ap (λ (n : ℕ). take n (text ++ c ∷ [])) (omega (arith, length-append text (c ∷ [])))
    ∙ take-append-le (length text) text (c ∷ []) (omega arith) ∙ take_all (length text) text (omega arith)

not_none : (n : ℕ) → (suc n == 0) ≡ false
not_none n = grind (arith, nat_tests)

by_rows : (ceiling : ℕ) (rows : List Row) (n : ℕ) (h t : List ℕ) → n ≡ length rows
    → without_comma n (h ++ objects_text ceiling rows) ++ t ≡ h ++ (join_by (row_object ceiling) (codes ",") rows ++ t)
by_rows ceiling [] n h t e = ap (λ (k : ℕ). without_comma k (h ++ []) ++ t) e ∙ append_assoc h [] t
by_rows ceiling (r ∷ rows) n h t e =
    let j = join_by (row_object ceiling) (codes ",") (r ∷ rows) in
    let all = h ++ objects_text ceiling (r ∷ rows) in
    ap (λ (k : ℕ). without_comma k all ++ t) e ∙ ap (λ (b : Bool). (if b then all else take (length all - 1) all) ++ t) (not_none (length rows))
    ∙ ap (λ (x : List ℕ). take (length x - 1) x ++ t) (ap (λ (y : List ℕ). h ++ y) (one_more (row_object ceiling) (codes ",") r rows) ∙ sym (append_assoc h j (codes ",")))
    ∙ ap (λ (x : List ℕ). x ++ t) (front (h ++ j) 44) ∙ append_assoc h j t

-- the objects of a group
abbrev pub group_objects : ℕ → List ProblemData → List Choice → List ℕ
group_objects ceiling problems choices = objects_text ceiling (listing_rows problems choices)

group_objects_more : (ceiling : ℕ) (ps qs : List ProblemData) (cs ds : List Choice) → AllZip IsChoice ps cs → group_objects ceiling (ps ++ qs) (cs ++ ds) ≡ group_objects ceiling ps cs ++ group_objects ceiling qs ds
group_objects_more ceiling ps qs cs ds h =
    ap (objects_text ceiling) (rows_append ps qs cs ds h) ∙ flat_map-append (λ (row : Row). row_object ceiling row ++ codes ",") (listing_rows ps cs) (listing_rows qs ds)

-- how the parts are put together
pub record JoinsObjects (parts : List ToldLoops) (written : Written) : Type 0 where
  pub text : written.text ≡ without_comma (number_told parts) (head_text (number_failed_told parts) ++ flat_map text_of_told parts) ++ tail_text (number_met_told parts)
  pub met : written.all_met ≡ (number_failed_told parts == 0)

-- what is told of prepared loops with their listing
abbrev pub shown_objects : List ProblemData → ListingData → List ℕ
shown_objects problems listing = objects_text listing.ceiling listing.rows

pub document_is : (machine : MachineData) (ratio ceiling : ℕ) (loops : List LoopData) (groups : List Group) (parts : List ToldLoops) (written : Written)
    → ArePrepared machine ratio ceiling loops (problems_of groups) → AllZip (IsToldGroup (group_objects ceiling)) groups parts
    → JoinsObjects parts written → IsListingDocument ratio ceiling machine loops written
document_is machine ratio ceiling loops groups parts written prepared h joins =
    let listing = listing_of ceiling (problems_of groups) (choices_of groups) in
    let rows = listing.rows in
    let told = texts_all (group_objects ceiling) (group_objects_more ceiling) refl groups parts h in
    let mets = number_met_all (group_objects ceiling) groups parts h in
    let faileds = number_failed_all (group_objects ceiling) groups parts h in
    let count : number_told parts ≡ length rows = ap₂ (λ (a b : ℕ). a + b) mets faileds ∙ both_all rows in
    let whole : written.text ≡ head_text (number_failed rows) ++ (join_by (row_object ceiling) (codes ",") rows ++ tail_text (number_met rows))
    = joins.text ∙ ap (λ (t : List ℕ). without_comma (number_told parts) (head_text (number_failed_told parts) ++ t) ++ tail_text (number_met_told parts)) told
    ∙ ap₂ (λ (a b : ℕ). without_comma (number_told parts) (head_text a ++ objects_text ceiling rows) ++ tail_text b) faileds mets
    ∙ by_rows ceiling rows (number_told parts) (head_text (number_failed rows)) (tail_text (number_met rows)) count in
    let joined = documents-joined listing in
    let mapped : document_of (map (row_object ceiling) rows) (number_met rows) (number_failed rows) ≡ head_text (number_failed rows) ++ (join_by (row_object ceiling) (codes ",") rows ++ tail_text (number_met rows))
    = ap (λ (t : List ℕ). head_text (number_failed rows) ++ (t ++ tail_text (number_met rows))) (join-map (row_object ceiling) (codes ",") rows) in
    told_document machine ratio ceiling loops (problems_of groups) listing written (whole ∙ sym mapped ∙ sym joined) (joins.met ∙ met_told (group_objects ceiling) groups parts h) prepared
    (lists_all (group_objects ceiling) ceiling groups parts h)
