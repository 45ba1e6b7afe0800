-- What the names of the lines of a block stand for, line by line.
use Rattle.std.proofs.Common.{◌≡◌, ℕ, ◌+◌, ◌<◌, ◌≤◌, List, [], ◌∷◌, ◌++◌, inl, inr, length, get_or, take, refl, sym, ◌∙◌, ap, subst, arith, pos, map, append_assoc, option_map, unwrap_or, Option, Some, None}
use Rattle.std.specs.Prelude.{option_to_list}
use Rattle.std.specs.Borrow.{Bor}
use Rattle.std.proofs.lemmas.List.{get_or_append_left, get_or_push, get_or-take, get_or_default, length_push, length-take-le, take_all, map-append}
use Rattle.std.proofs.lemmas.Bool.Decides.{eqb_tells}
use Rattle.loop_reader.specs.declared.lines.entry.LineEntry.{LineEntry}
use Rattle.loop_lines.specs.declared.form.Form as code
use Rattle.loop_reader.specs.declared.names.found.Targets.{Targets}
use Rattle.loop_lines.specs.Forms.{Form}
use Rattle.loop_lines.specs.Parsed.{form_seen, statement_seen, subscript_seen, use_seen, uses_seen}
use Rattle.loop_reader.specs.Meaning.{Declared, AnArray, AParam, AValue, declared, reads, operand_of, out_in, place_at, statement_in, statement_of}
use Rattle.loop_reader.specs.inner.Found.{AreFound, IsFoundFor, IsFoundIn, array_in, operand_if, operands_with, reads_at, target_at, target_in, out_by, place_with, statement_by, statement_with}
use Rattle.loop_lines.specs.declared.form.Form.TheVariants as forms
use Rattle.loop_lines.specs.declared.form.StatementWords.{StatementWords}
use Rattle.loop_lines.specs.declared.form.Subscript.{Subscript}
use Rattle.loop_lines.specs.declared.form.Use.{Use}
use Rattle.loop_lines.specs.declared.form.Use.TheVariants as code_uses
use Rattle.loop_reader.specs.declared.names.found.Target.{Target}
use Rattle.loop_lines.specs.declared.form.Uses.{Uses}
use Rattle.loop_data.specs.declared.language.statement.Operand.{Operand}

found-as : (block : List Form) (line there : LineEntry) (found one : Targets) → IsFoundFor block line.form found → there ≡ line → one ≡ found → IsFoundFor block there.form one
found-as block line there found one h e f = rw e (rw f h)

pub found-none : (block : List Form) (lines : List LineEntry) → AreFound block (take 0 lines) []
found-none block lines = record { all = refl; each = λ i d e low. absurd (omega arith) }

-- one more line
pub found-more : (block : List Form) (lines : List LineEntry) (i : ℕ) (d : LineEntry) (found : List Targets) (one : Targets) → i < length lines → AreFound block (take i lines) found
    → IsFoundFor block (get_or lines i d).form one → AreFound block (take (i + 1) lines) (found ++ one ∷ [])
found-more block lines i d found one low v h =
    let before : length (take i lines) ≡ i = length-take-le i lines (omega arith) in
    let after : length (take (i + 1) lines) ≡ i + 1 = length-take-le (i + 1) lines (omega arith) in
    let here : length found ≡ i = v.all ∙ before in
    record {
      all = omega (arith, length_push found one, here, after);
      each = λ j d' e high. elim (eqb_tells j i) [
        | inl p ↦
            found-as block (get_or lines i d) (get_or (take (i + 1) lines) j d') one (get_or (found ++ one ∷ []) j e) h
            (get_or-take (i + 1) lines j d' (omega (arith, p.1)) ∙ ap (λ n. get_or lines n d') p.1 ∙ get_or_default lines i d' d low)
            (get_or_push found one e j (here ∙ sym p.1))
        | inr p ↦
            let other = p.1 in
            let below : j < i = omega (arith, high, after, other) in
            found-as block (get_or (take i lines) j d') (get_or (take (i + 1) lines) j d') (get_or found j e) (get_or (found ++ one ∷ []) j e) (v.each j d' e (omega (arith, before, below)))
            (get_or-take (i + 1) lines j d' (omega (arith, below)) ∙ sym (get_or-take i lines j d' below))
            (get_or_append_left found (one ∷ []) e j (omega (arith, here, below)))
      ];
    }

-- all lines
pub found-all : (block : List Form) (lines : List LineEntry) (i : ℕ) (found : List Targets) → length lines ≤ i → AreFound block (take i lines) found → AreFound block lines found
found-all block lines i found all v = subst (λ ls. AreFound block ls found) (take_all i lines all) v

-- a statement by what was found for it

reads-at : (d : Option Declared) (distance : ℕ) → reads_at (target_at d) distance ≡ reads d distance
reads-at None distance = refl
reads-at (Some (AnArray number)) distance = refl
reads-at (Some (AParam number)) distance = refl
reads-at (Some (AValue number)) distance = refl

operand-if : (block : List Form) (o : Option Use) (target : Target) → target ≡ target_in block o → operand_if o target ≡ map (operand_of block) (map use_seen (option_to_list o))
operand-if block None target h = refl
operand-if block (Some (code_uses.Number value)) target h = refl
operand-if block (Some (code_uses.Plain name)) target h =
    ap (λ t. reads_at t 0 ∷ []) h ∙ ap (λ x. x ∷ []) (reads-at (declared block name.now) 0)
operand-if block (Some (code_uses.At name distance)) target h =
    ap (λ t. reads_at t (unwrap_or distance 0) ∷ []) h ∙ ap (λ x. x ∷ []) (reads-at (declared block name.now) (unwrap_or distance 0))

operands-with : (block : List Form) (uses : Uses) (found : Targets) → found.first ≡ target_in block uses.first → found.second ≡ target_in block uses.second → found.third ≡ target_in block uses.third
    → operands_with uses found ≡ map (operand_of block) (uses_seen uses)
operands-with block uses found e f g =
    let first = option_to_list uses.first in
    let second = option_to_list uses.second in
    let third = option_to_list uses.third in
    let seen : List Use → List Operand = λ us. map (operand_of block) (map use_seen us) in
    let joined : (xs ys : List Use) → seen (xs ++ ys) ≡ seen xs ++ seen ys = λ xs ys. ap (map (operand_of block)) (map-append use_seen xs ys) ∙ map-append (operand_of block) (map use_seen xs) (map use_seen ys) in
    ap (λ xs. (xs ++ operand_if uses.second found.second) ++ operand_if uses.third found.third) (operand-if block uses.first found.first e)
    ∙ ap (λ xs. (seen first ++ xs) ++ operand_if uses.third found.third) (operand-if block uses.second found.second f)
    ∙ ap (λ xs. (seen first ++ seen second) ++ xs) (operand-if block uses.third found.third g)
    ∙ append_assoc (seen first) (seen second) (seen third)
    ∙ sym (joined first (second ++ third) ∙ ap (λ xs. seen first ++ xs) (joined second third))

place-with : (block : List Form) (place : Option Subscript) (array : ℕ) → array ≡ array_in block place → place_with place array ≡ option_map (place_at block) (option_map subscript_seen place)
place-with block None array h = refl
place-with block (Some p) array h = ap (λ n. Some (record { array = n; offset = unwrap_or p.offset (pos 0) })) h

statement-with : (block : List Form) (source : StatementWords) (found : Targets) → IsFoundIn block source found → statement_with source found ≡ statement_of block (statement_seen source)
statement-with block source found h =
    ap (λ n. record { opcode = source.opcode; name = option_map (λ (n : Bor (List ℕ)). n.now) source.name; place = n; operands = operands_with source.uses found }) (place-with block source.place found.number h.number)
    ∙ ap (λ os. record { opcode = source.opcode; name = option_map (λ (n : Bor (List ℕ)). n.now) source.name; place = option_map (place_at block) (option_map subscript_seen source.place); operands = os }) (operands-with block source.uses found h.first h.second h.third)

-- the line's statement
pub statement-by : (block : List Form) (form : code.Form) (found : Targets) → IsFoundFor block form found
    → option_to_list (statement_by form found) ≡ map (statement_of block) (option_to_list (statement_in (form_seen form)))
statement-by block (forms.Loop name) found h = refl
statement-by block (forms.Array name cells) found h = refl
statement-by block (forms.Param name value) found h = refl
statement-by block (forms.Init name number value) found h = refl
statement-by block (forms.Statement source) found h = ap (λ s. s ∷ []) (statement-with block source found h)
statement-by block (forms.Out name) found h = refl
statement-by block forms.End found h = refl
statement-by block forms.Malformed found h = refl

-- and its live value
pub out-by : (block : List Form) (form : code.Form) (found : Targets) → IsFoundFor block form found → option_to_list (out_by form found) ≡ option_to_list (out_in block (form_seen form))
out-by block (forms.Loop name) found h = refl
out-by block (forms.Array name cells) found h = refl
out-by block (forms.Param name value) found h = refl
out-by block (forms.Init name number value) found h = refl
out-by block (forms.Statement source) found h = refl
out-by block (forms.Out name) found h = ap (λ n. n ∷ []) h
out-by block forms.End found h = refl
out-by block forms.Malformed found h = refl
