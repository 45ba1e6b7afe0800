-- The document of a listing is that of the objects of its loops.
use Rattle.std.proofs.Common.{◌≡◌, ℕ, true, false, List, [], ◌∷◌, ◌++◌, map, refl, sym, ap, ◌∙◌, append_assoc}
use Rattle.std.specs.Prelude.{codes, decimal}
use Rattle.std.specs.Fmt.{digits}
use Rattle.std.specs.List.{flat_map, join_by}
use Rattle.serde_json.proofs.OnLiterals.{serde_json_on_literals}
use Rattle.serde_json.specs.View.{items_of}
use Rattle.serde_json.specs.Written.{items_text}
use Rattle.loop_listings.specs.declared.listings.Row.{Row}
use Rattle.loop_listings.specs.Listings.{ListingData}
use Rattle.loop_listings.specs.Texts.{number_failed, number_met}
use Rattle.json_objects.specs.Documents as json
use Rattle.json_objects.proofs.Joined.{join-map}
use Rattle.listing_json.specs.Documents.{document_of, document_text, row_object, row_value}
use Rattle.listing_json.specs.Joined.{DocumentsAreJoined}

-- the objects of loops, each after a comma, and what closes their array
others : (ceiling : ℕ) (rows : List Row)
    → items_text true (items_of (map (row_value ceiling) rows)) ≡ flat_map (λ (row : Row). codes "," ++ row_object ceiling row) rows ++ codes "]"
others ceiling [] = refl
others ceiling (row ∷ rows) =
    ap (λ (t : List ℕ). codes "," ++ (row_object ceiling row ++ t)) (others ceiling rows)
    ∙ sym (append_assoc (codes "," ++ row_object ceiling row) (flat_map (λ (r : Row). codes "," ++ row_object ceiling r) rows) (codes "]"))

-- with a comma between two
objects : (ceiling : ℕ) (rows : List Row) → items_text false (items_of (map (row_value ceiling) rows)) ≡ join_by (row_object ceiling) (codes ",") rows ++ codes "]"
objects ceiling [] = refl
objects ceiling (row ∷ rows) =
    ap (λ (t : List ℕ). row_object ceiling row ++ t) (others ceiling rows)
    ∙ sym (append_assoc (row_object ceiling row) (flat_map (λ (r : Row). codes "," ++ row_object ceiling r) rows) (codes "]"))

-- each part of the document in brackets of its own
regrouped : (h a g l j b t m v n : List ℕ) → l ≡ j ++ b → (h ++ (a ++ (g ++ (l ++ (t ++ (m ++ v)))))) ++ n ≡ ((h ++ a) ++ g) ++ (j ++ (((b ++ t) ++ m) ++ (v ++ n)))
regrouped h a g l j b t m v n is =
    simp append_assoc
    (ap (λ (x : List ℕ). h ++ (a ++ (g ++ (x ++ (t ++ (m ++ (v ++ n))))))) is ∙ ap (λ (x : List ℕ). h ++ (a ++ (g ++ x))) (append_assoc j b (t ++ (m ++ (v ++ n)))))

-- the document, by its head, its objects and its tail
document-is : (listing : ListingData) → document_text listing
    ≡ json.head_text (number_failed listing.rows) ++ (join_by (row_object listing.ceiling) (codes ",") listing.rows ++ json.tail_text (number_met listing.rows))
unfolding serde_json_on_literals digits document_of
document-is listing =
    let value = row_value listing.ceiling in
    regrouped (codes "{\"failed\":") (decimal (number_failed listing.rows)) (codes ",\"loops\":[") (items_text false (items_of (map value listing.rows)))
    (join_by (row_object listing.ceiling) (codes ",") listing.rows) (codes "]") (codes ",\"met\":") (decimal (number_met listing.rows)) (codes ",\"version\":1}") (codes "\n")
    (objects listing.ceiling listing.rows)

pub documents-joined : DocumentsAreJoined
documents-joined listing =
    document-is listing
    ∙ ap (λ (t : List ℕ). json.head_text (number_failed listing.rows) ++ (t ++ json.tail_text (number_met listing.rows))) (sym (join-map (row_object listing.ceiling) (codes ",") listing.rows))

-- what is written part by part is the document
pub document-pushed : (listing : ListingData) (rows : List Row) (ceiling failed met : ℕ) (a b c : List ℕ) → rows ≡ listing.rows → ceiling ≡ listing.ceiling → failed ≡ number_failed rows
    → met ≡ number_met rows → a ≡ json.head_text failed → b ≡ a ++ join_by (row_object ceiling) (codes ",") rows → c ≡ b ++ json.tail_text met → c ≡ document_text listing
document-pushed listing rows ceiling failed met a b c is_rows is_ceiling is_failed is_met is_a is_b is_c =
    let joined = join_by (row_object ceiling) (codes ",") rows in
    let same_failed = is_failed ∙ ap number_failed is_rows in
    let same_met = is_met ∙ ap number_met is_rows in
    is_c ∙ ap (λ (t : List ℕ). t ++ json.tail_text met) (is_b ∙ ap (λ (t : List ℕ). t ++ joined) is_a)
    ∙ append_assoc (json.head_text failed) joined (json.tail_text met)
    ∙ (λ i. json.head_text (same_failed i) ++ (join_by (row_object (is_ceiling i)) (codes ",") (is_rows i) ++ json.tail_text (same_met i)))
    ∙ sym (document-is listing)
