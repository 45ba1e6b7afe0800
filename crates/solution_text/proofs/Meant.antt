-- The registers that are named are those of the run.
use Rattle.std.proofs.Common.{◌≡◌, ℕ, ◌+◌, ◌%◌, refl, ap, ◌∙◌, add_assoc}
use Rattle.std.specs.Prelude.{pos}
use Rattle.registers.specs.Physical.{physical}
use Rattle.instances.specs.Runs.{Home, InRegister, Rotates, destination_in, home_of, preloaded_in, source_in, stage_of, value_of}
use Rattle.solutions.specs.Runs.{run_of}
use Rattle.solution_text.specs.Promises.{NamesAreThoseOfRuns}
use Rattle.solution_text.specs.Registers.{register_after}

pub names-are : NamesAreThoseOfRuns
names-are s value file registers number e =
    let stage : ℕ = stage_of (run_of s) (value_of (run_of s) value).maker in (
      (λ k. (
        record { file = file; number = (number + stage) % registers },
        ap (λ (h : Home). register_after h stage) e,
        refl,
        ap (λ (h : Home). destination_in h value stage k) e,
      )),
      (λ reading i same.
          let at : ℕ = stage_of (run_of s) reading.reader in
          let home : home_of (run_of s) reading.value ≡ Rotates file registers number = ap (home_of (run_of s)) same ∙ e in (
            record { file = file; number = (number + (reading.distance + at)) % registers },
            ap (λ (h : Home). register_after h (reading.distance + at)) home,
            refl,
            ap (λ (h : Home). source_in h reading.value reading.distance at i) home
                ∙ ap (λ n. InRegister file (physical registers (n % registers) (pos (at + i)))) (add_assoc number reading.distance at),
          )),
      (λ iterations. (
        record { file = file; number = (number + iterations) % registers },
        ap (λ (h : Home). register_after h iterations) e,
        refl,
        ap (λ (h : Home). preloaded_in h value iterations) e,
      )),
    )
