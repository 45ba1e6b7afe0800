-- The registers that an operation reads and writes, from one of its own to the next.
use Rattle.std.proofs.Common.{◌≡◌, ◌≢◌, ℕ, ◌+◌, ◌<◌, false, eq-eqb, List, [], ◌++◌, length, get_or, take, sym, ap, ◌∙◌, slice_index}
use Rattle.std.specs.Prelude.{◌==◌}
use Rattle.std.specs.List.{flat_map, range_with_len}
use Rattle.std.proofs.Math.ListN as lists
use Rattle.std.proofs.lemmas.Bool.{cond-true, cond-false, ne_eqb}
use Rattle.std.proofs.lemmas.List.{append-nil}
use Rattle.problems.specs.declared.draft.Value.{Value}
use Rattle.registers.specs.declared.value.Read.{Read}
use Rattle.registers.specs.declared.value.Value.{Value as PlainValue}
use Rattle.instances.specs.Runs.{value_of}
use Rattle.solutions.specs.Runs.{run_of}
use Rattle.solutions.specs.Solutions.{SolutionData}
use Rattle.solution_text.specs.Operations.{read_text, write_text}
use Rattle.solution_text.specs.Registers.{destination_of, source_of, spaced_register}
use Rattle.solution_text.specs.inner.Chains.{IsNext, makers_of, readers_of}
use Rattle.solution_text.proofs.Chaining.{listed-next, numbered-next}
use Rattle.solution_text.proofs.Loops.{listed-more, numbered-more}

abbrev pub no_read : Read
no_read = record { value = 0; reader = 0; distance = 0; offset = 0 }

abbrev pub no_value : Value
no_value = record { maker = 0; lands = 0; out = false; file = 0 }

not-read : (s : SolutionData) (op : ℕ) (r : Read) → r.reader ≢ op → read_text s op r ≡ []
not-read s op r other = cond-false (r.reader == op) (spaced_register s.problem.draft (source_of s r)) [] (ne_eqb r.reader op other)

-- before the first read of an operation there is none
pub reads-begin : (s : SolutionData) (op found : ℕ) (reads : List Read) (old : List ℕ) → IsNext (readers_of reads) op 0 found
    → old ≡ old ++ flat_map (read_text s op) (take found reads)
reads-begin s op found reads old n =
    listed-next (read_text s op) (λ (r : Read). r.reader) old old reads op 0 found no_read (not-read s op) n (sym (append-nil old))

-- one read more, and those of other operations after it
pub reads-more : (s : SolutionData) (op at found : ℕ) (reads : List Read) (old before new : List ℕ) (d : Read) → at < length reads → (get_or reads at d).reader ≡ op
    → before ≡ old ++ flat_map (read_text s op) (take at reads) → new ≡ before ++ spaced_register s.problem.draft (source_of s (get_or reads at d))
    → IsNext (readers_of reads) op (at + 1) found → new ≡ old ++ flat_map (read_text s op) (take found reads)
reads-more s op at found reads old before new d within own b n next =
    let r : Read = get_or reads at d in
    let here : read_text s op r ≡ spaced_register s.problem.draft (source_of s r)
    = cond-true (r.reader == op) (spaced_register s.problem.draft (source_of s r)) [] (eq-eqb r.reader op own) in
    listed-next (read_text s op) (λ (q : Read). q.reader) old new reads op (at + 1) found d (not-read s op) next
    (listed-more (read_text s op) old before new reads at d within b (n ∙ ap (λ t. before ++ t) (sym here)))

-- the maker of a value of the run
pub maker-is : (s : SolutionData) (k : ℕ) → (value_of (run_of s) k).maker ≡ slice_index (makers_of s.problem.draft.values.items) k
maker-is s k =
    let plain : Value → PlainValue = λ (v : Value). record { maker = v.maker; lands = v.lands; out = v.out } in
    ap (λ (v : PlainValue). v.maker) (lists.get_or-map plain s.problem.draft.values.items k no_value)
    ∙ sym (lists.get_or-map (λ (v : Value). v.maker) s.problem.draft.values.items k no_value)

not-written : (s : SolutionData) (op k : ℕ) → slice_index (makers_of s.problem.draft.values.items) k ≢ op → write_text s op k ≡ []
not-written s op k other =
    cond-false ((value_of (run_of s) k).maker == op) (spaced_register s.problem.draft (destination_of s k)) []
    (ne_eqb (value_of (run_of s) k).maker op (λ e. other (sym (maker-is s k) ∙ e)))

pub writes-begin : (s : SolutionData) (op found : ℕ) (old : List ℕ) → IsNext (makers_of s.problem.draft.values.items) op 0 found
    → old ≡ old ++ flat_map (write_text s op) (range_with_len 0 found)
writes-begin s op found old n =
    numbered-next (write_text s op) (makers_of s.problem.draft.values.items) old old op 0 found (not-written s op) n (sym (append-nil old))

pub writes-more : (s : SolutionData) (op at found : ℕ) (old before new : List ℕ) → slice_index (makers_of s.problem.draft.values.items) at ≡ op
    → before ≡ old ++ flat_map (write_text s op) (range_with_len 0 at) → new ≡ before ++ spaced_register s.problem.draft (destination_of s at)
    → IsNext (makers_of s.problem.draft.values.items) op (at + 1) found → new ≡ old ++ flat_map (write_text s op) (range_with_len 0 found)
writes-more s op at found old before new own b n next =
    let here : write_text s op at ≡ spaced_register s.problem.draft (destination_of s at)
    = cond-true ((value_of (run_of s) at).maker == op) (spaced_register s.problem.draft (destination_of s at)) [] (eq-eqb (value_of (run_of s) at).maker op (maker-is s at ∙ own)) in
    numbered-next (write_text s op) (makers_of s.problem.draft.values.items) old new op (at + 1) found (not-written s op) next
    (numbered-more (write_text s op) old before new at b (n ∙ ap (λ t. before ++ t) (sym here)))
