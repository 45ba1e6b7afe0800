use Rattle.std.proofs.Common.{ℕ}
use Rattle.std.proofs.lemmas.Simd.{length-replicate, get_or-replicate}
use Rattle.mrt.proofs.words.lanes.none.Goals as goal

pub returns : goal.returns
returns c = record { long = length-replicate {A = ℕ} 8 0; each = λ k l. get_or-replicate {A = ℕ} 8 k 0 0 l }
