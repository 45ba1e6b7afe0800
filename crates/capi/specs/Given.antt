-- Which draft a caller's problem means.
use Rattle.std.specs.Prelude.{◌≡◌, ℕ, ◌==◌, not, if◌then◌else◌, List, [], map}
use Rattle.std.specs.Borrow.{Bor}
use Rattle.smallvec.specs.SmallVec.{SmallVec}
use Rattle.registers.specs.declared.value.Read.{Read}
use Rattle.problems.specs.declared.draft.File.{File}
use Rattle.problems.specs.declared.draft.File.TheVariants.{Rotating, Unallotted}
use Rattle.problems.specs.declared.draft.Hold.{Hold}
use Rattle.problems.specs.declared.draft.Kind.{Kind}
use Rattle.problems.specs.declared.draft.Value.{Value}
use Rattle.problems.specs.declared.draft.Order.{Order}
use Rattle.problems.specs.declared.draft.Draft.{Draft}
use Rattle.capi.specs.declared.given.Hold.{Hold as GivenHold}
use Rattle.capi.specs.declared.given.Kind.{Kind as GivenKind}
use Rattle.capi.specs.declared.given.Value.{Value as GivenValue}
use Rattle.capi.specs.declared.given.Read.{Read as GivenRead}
use Rattle.capi.specs.declared.given.Order.{Order as GivenOrder}
use Rattle.capi.specs.declared.given.Problem.{Problem as GivenProblem}

-- a file of `registers` rotating registers, or an unallotted one for 0
abbrev pub file_of : ℕ → File
file_of registers = if registers == 0 then Unallotted else Rotating registers

abbrev pub hold_of : GivenHold → Hold
hold_of hold = record { unit = hold.unit; offset = hold.offset }

abbrev pub holds_of : Bor (List GivenHold) → List Hold
holds_of holds = map hold_of holds.now

abbrev pub rows_of : SmallVec Hold → List Hold
rows_of rows = rows.items

-- the latency and the alternatives of a kind
abbrev pub kind_of : Kind → ℕ × List (List Hold)
kind_of kind = (kind.latency, map rows_of kind.alternatives.items)

-- the same of a kind that is given
abbrev pub given_kind : GivenKind → ℕ × List (List Hold)
given_kind kind = (kind.latency, map holds_of kind.alternatives.now)

abbrev pub value_of : GivenValue → Value
value_of value = record { maker = value.maker; lands = value.lands; out = not (value.out == 0); file = value.file }

abbrev pub read_of : GivenRead → Read
read_of reading = record { value = reading.value; reader = reading.reader; distance = reading.distance; offset = reading.offset }

abbrev pub order_of : GivenOrder → Order
order_of order = record { from = order.from; to = order.to; delay = order.delay; distance = order.distance }

-- the draft has what is given, and no names
pub record IsDraftOf (given : GivenProblem) (draft : Draft) : Type 0 where
  pub units : draft.units ≡ given.units
  pub files : draft.files.items ≡ map file_of given.files.now
  pub kinds : map kind_of draft.kinds.items ≡ map given_kind given.kinds.now
  pub operations : draft.operations.items ≡ given.operations.now
  pub values : draft.values.items ≡ map value_of given.values.now
  pub reads : draft.reads.items ≡ map read_of given.reads.now
  pub orders : draft.orders.items ≡ map order_of given.orders.now
  pub unit_names : draft.names.units.items ≡ []
  pub file_names : draft.names.files.items ≡ []
  pub kind_names : draft.names.kinds.items ≡ []
  pub operation_names : draft.names.operations.items ≡ []
  pub value_names : draft.names.values.items ≡ []
