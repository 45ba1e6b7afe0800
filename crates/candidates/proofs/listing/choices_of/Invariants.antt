use Rattle.std.proofs.Common.{◌≡◌, ◌≤◌, length, take, vec_capacity, vec_len}
use Rattle.std.specs.List.{AllZip}
use Rattle.candidates.specs.Choices.{IsChoice}
use Rattle.candidates.proofs.listing.choices_of.Given as goal

abbrev pub invariant-loop-prepared : goal.invariant-loop-prepared
invariant-loop-prepared l = record {
  zip : AllZip IsChoice (take l.prepared-index l.loops) l.choices.items;
  long : vec_len l.choices ≡ l.prepared-index;
  room : length l.loops ≤ vec_capacity l.choices;
}
