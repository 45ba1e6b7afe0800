-- A `kind` line has an alternative at least, and each of its alternatives a hold.
use Rattle.std.proofs.Common.{◌≡◌, ℕ, ◌≤◌, Bool, true, false, List, [], ◌∷◌, drop, length, refl, arith, subst, if◌then◌else◌, Option, Some, None}
use Rattle.std.specs.Prelude.{codes, Result, Ok}
use Rattle.std.specs.Option.{option_or}
use Rattle.std.specs.List.{All}
use Rattle.std.proofs.lemmas.Bool.{false≢true}
use Rattle.std.proofs.lemmas.List.Elements.{All-cons, All-nil}
use Rattle.machine_data.specs.Opcodes.{same_word}
use Rattle.problem_lines.specs.Fits.{fault_on, fits}
use Rattle.problem_lines.specs.Forms.{Form, KindLine, HoldForm, hold_of}
use Rattle.problem_lines.specs.Keywords.{keyword_named}
use Rattle.problem_lines.specs.Lines.{LineForm, alternatives_in, end_fault, hold_places, holds_in, is_bar, kind_places, line_form, places, places_fault, says, unless_fault, with_keyword, word_line}
use Rattle.problem_lines.specs.Names.{is_hold}
use Rattle.loop_lines.specs.Columns.{Placed, column_after}
use Rattle.problem_faults.specs.declared.expected.Expected.{Expected}
use Rattle.problem_faults.specs.declared.expected.Expected.TheVariants.{Name, Number, Hold, Latency, Bar}
use Rattle.problem_lines.specs.declared.fault.LineFault.{LineFault}
use Rattle.problem_lines.specs.declared.keyword.Keyword as first
use Rattle.problem_lines.specs.declared.keyword.Keyword.TheVariants as words
use Rattle.problem_tables.proofs.Naming.{same_word-yes}

abbrev pub HasHold : List HoldForm → Type 0
HasHold holds = 1 ≤ length holds

-- other lines may say anything
abbrev pub HasHolds : Form → Type 0
HasHolds (KindLine name latency alternatives) = (1 ≤ length alternatives) × All HasHold alternatives
HasHolds form = Unit {0}

abbrev pub LineHasHolds : Result (Option LineForm) LineFault → Type 0
LineHasHolds (Ok (Some line)) = HasHolds line.form
LineHasHolds line = Unit {0}

-- places

fit-if : (b : Bool) (fault : LineFault) (o : Option LineFault) → option_or (if b then None else Some fault) o ≡ None → (b ≡ true) × (o ≡ None)
fit-if true fault o h = (refl, h)
fit-if false fault o h = absurd (let no : ⊥ = cc in no)

-- a word that fits its place
fit : (end : List Placed → Option LineFault) (column : ℕ) (what : Expected) (more : List Expected) (w : Placed) (ws : List Placed) → places_fault end column (what ∷ more) (w ∷ ws) ≡ None
    → (fits what w.bytes ≡ true) × (places_fault end (column_after w) more ws ≡ None)
fit end column what more w ws h = fit-if (fits what w.bytes) (fault_on what w) (places_fault end (column_after w) more ws) h

-- no word
unfit : (end : List Placed → Option LineFault) (column : ℕ) (what : Expected) (more : List Expected) → places_fault end column (what ∷ more) [] ≡ None → ⊥
unfit end column what more h = cc

-- a hold is no bar
no-bar : (w : List ℕ) → is_hold w ≡ true → same_word w (codes "|") ≡ true → ⊥
no-bar w hold bar = false≢true (subst (λ x. is_hold x ≡ true) (same_word-yes w (codes "|") bar) hold)

-- holds and alternatives

-- at the beginning and after a bar a hold has to stand
abbrev AreHeld : Bool → List Placed → Type 0
AreHeld true ws = HasHold (holds_in ws) × All HasHold (alternatives_in ws)
AreHeld false ws = All HasHold (alternatives_in ws)

held-first : (b : Bool) (w : Placed) (ws : List Placed) → (b ≡ true → ⊥) → All HasHold (alternatives_in ws)
    → HasHold (if b then [] else hold_of w ∷ holds_in ws) × All HasHold (if b then holds_in ws ∷ alternatives_in ws else alternatives_in ws)
held-first true w ws never h = absurd (never refl)
held-first false w ws never h = (omega arith, h)

held-next : (end : List Placed → Option LineFault) (b : Bool) (column : ℕ) (w : Placed) (ws : List Placed)
    → (places_fault end (column_after w) (hold_places true ws) ws ≡ None → AreHeld true ws)
    → (places_fault end (column_after w) (hold_places false ws) ws ≡ None → AreHeld false ws)
    → places_fault end column (if b then Bar ∷ hold_places true ws else Hold ∷ hold_places false ws) (w ∷ ws) ≡ None
    → All HasHold (if b then holds_in ws ∷ alternatives_in ws else alternatives_in ws)
held-next end true column w ws after within h =
    let held = after (fit end column Bar (hold_places true ws) w ws h).1 in
    All-cons HasHold (holds_in ws) (alternatives_in ws) held.0 held.1
held-next end false column w ws after within h = within (fit end column Hold (hold_places false ws) w ws h).1

held-from : (end : List Placed → Option LineFault) (start : Bool) (column : ℕ) (ws : List Placed) → places_fault end column (hold_places start ws) ws ≡ None → AreHeld start ws
held-from end true column [] h = absurd (unfit end column Hold [] h)
held-from end false column [] h = All-nil HasHold
held-from end true column (w ∷ ws) h =
    let is = fit end column Hold (hold_places false ws) w ws h in
    held-first (is_bar w) w ws (no-bar w.bytes is.0) (held-from end false (column_after w) ws is.1)
held-from end false column (w ∷ ws) h = held-next end (is_bar w) column w ws (held-from end true (column_after w) ws) (held-from end false (column_after w) ws) h

bar-held : (b : Bool) (ws : List Placed) → b ≡ true → AreHeld true ws
    → (1 ≤ length (if b then holds_in ws ∷ alternatives_in ws else alternatives_in ws)) × All HasHold (if b then holds_in ws ∷ alternatives_in ws else alternatives_in ws)
bar-held true ws e h = (omega arith, All-cons HasHold (holds_in ws) (alternatives_in ws) h.0 h.1)
bar-held false ws e h = absurd (false≢true e)

kind-held : (end : List Placed → Option LineFault) (column : ℕ) (ws : List Placed) → places_fault end column (kind_places ws) ws ≡ None
    → (1 ≤ length (alternatives_in (drop 3 ws))) × All HasHold (alternatives_in (drop 3 ws))
kind-held end column [] h = absurd (unfit end column Name (Latency ∷ Number ∷ Bar ∷ hold_places true []) h)
kind-held end column (a ∷ []) h =
    let one = fit end column Name (Latency ∷ Number ∷ Bar ∷ hold_places true []) a [] h in
    absurd (unfit end (column_after a) Latency (Number ∷ Bar ∷ hold_places true []) one.1)
kind-held end column (a ∷ b ∷ []) h =
    let one = fit end column Name (Latency ∷ Number ∷ Bar ∷ hold_places true []) a (b ∷ []) h in
    let two = fit end (column_after a) Latency (Number ∷ Bar ∷ hold_places true []) b [] one.1 in
    absurd (unfit end (column_after b) Number (Bar ∷ hold_places true []) two.1)
kind-held end column (a ∷ b ∷ c ∷ []) h =
    let one = fit end column Name (Latency ∷ Number ∷ Bar ∷ hold_places true []) a (b ∷ c ∷ []) h in
    let two = fit end (column_after a) Latency (Number ∷ Bar ∷ hold_places true []) b (c ∷ []) one.1 in
    let three = fit end (column_after b) Number (Bar ∷ hold_places true []) c [] two.1 in
    absurd (unfit end (column_after c) Bar (hold_places true []) three.1)
kind-held end column (a ∷ b ∷ c ∷ d ∷ ws) h =
    let one = fit end column Name (Latency ∷ Number ∷ Bar ∷ hold_places true ws) a (b ∷ c ∷ d ∷ ws) h in
    let two = fit end (column_after a) Latency (Number ∷ Bar ∷ hold_places true ws) b (c ∷ d ∷ ws) one.1 in
    let three = fit end (column_after b) Number (Bar ∷ hold_places true ws) c (d ∷ ws) two.1 in
    let four = fit end (column_after c) Bar (hold_places true ws) d ws three.1 in
    bar-held (is_bar d) ws four.0 (held-from end true (column_after d) ws four.1)

-- lines

says-held : (keyword : first.Keyword) (after : ℕ) (ws : List Placed) → places_fault (end_fault keyword) after (places keyword ws) ws ≡ None → HasHolds (says keyword ws)
says-held words.Kind after ws h = kind-held (end_fault words.Kind) after ws h
says-held keyword after ws h = tt

held-unless : (keyword : first.Keyword) (w : Placed) (ws : List Placed) (fault : Option LineFault) → (fault ≡ None → HasHolds (says keyword ws))
    → LineHasHolds (with_keyword w (unless_fault fault (says keyword ws)))
held-unless keyword w ws None h = h refl
held-unless keyword w ws (Some fault) h = tt

held-word : (keyword : Option first.Keyword) (w : Placed) (ws : List Placed) → LineHasHolds (word_line keyword w ws)
held-word None w ws = tt
held-word (Some keyword) w ws = held-unless keyword w ws (places_fault (end_fault keyword) (column_after w) (places keyword ws) ws) (says-held keyword (column_after w) ws)

pub line-held : (ws : List Placed) → LineHasHolds (line_form ws)
line-held [] = tt
line-held (w ∷ ws) = held-word (keyword_named w.bytes) w ws
