-- What stands between quotes for a name is read as that name.
use Rattle.std.proofs.Common.{◌≡◌, ℕ, ◌==◌, Bool, true, false, ◌||◌, List, [], ◌∷◌, ◌++◌, refl, sym, subst, append_assoc}
use Rattle.std.specs.Prelude.{if◌then◌else◌}
use Rattle.std.proofs.lemmas.Bool.{eqb-false}
use Rattle.problem_graphs.specs.Escapes.{IsQuoted, NamesAreReadBack, ends, escape, escaped, escaped_byte, plain}

-- one byte more before a name
byte-quoted : (byte : ℕ) (text name rest : List ℕ) → IsQuoted text name rest → (quote slash : Bool) → (byte == 34) ≡ quote → (byte == 92) ≡ slash
    → IsQuoted ((if quote || slash then 92 ∷ byte ∷ [] else byte ∷ []) ++ text) (byte ∷ name) rest
byte-quoted byte text name rest q true slash a b = escape byte text name rest q
byte-quoted byte text name rest q false true a b = escape byte text name rest q
byte-quoted byte text name rest q false false a b = plain byte text name rest (eqb-false byte 34 a) (eqb-false byte 92 b) q

pub read-back : NamesAreReadBack
read-back [] rest = ends rest
read-back (byte ∷ name) rest =
    subst (λ (text : List ℕ). IsQuoted text (byte ∷ name) rest) (sym (append_assoc (escaped_byte byte) (escaped name) (34 ∷ rest)))
    (byte-quoted byte (escaped name ++ 34 ∷ rest) name rest (read-back name rest) (byte == 34) (byte == 92) refl refl)
