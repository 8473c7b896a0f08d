-- Why gains are refused.
use Rattle.std.specs.Prelude.{ℕ, ◌*◌, ◌&&◌, Bool, ℤ, List, length, Option, Some, None, nat_le, ◌==◌, if◌then◌else◌}
use Rattle.std.specs.List.{list_all}
use Rattle.std.specs.Int.RustNames.{unsigned_abs}
use Rattle.gain_mix.specs.declared.matrix.MatrixFault.{MatrixFault}
use Rattle.gain_mix.specs.declared.matrix.MatrixFault.TheVariants.{Shape, Range}

-- there are 1 to 8 outputs and 1 to 1,024 inputs, and a gain for each pair of them
abbrev pub has_shape : ℕ → ℕ → List ℤ → Bool
has_shape outs ins gains =
    nat_le 1 outs && nat_le outs 8 && nat_le 1 ins && nat_le ins 1024 && length gains == outs * ins

-- each gain is from -1,048,576 to 1,048,576
abbrev pub has_range : List ℤ → Bool
has_range gains = list_all (λ g. nat_le (unsigned_abs g) 1048576) gains

-- the first fault of these gains
abbrev pub matrix_fault_of : ℕ → ℕ → List ℤ → Option MatrixFault
matrix_fault_of outs ins gains =
    if has_shape outs ins gains then if has_range gains then None else Some Range else Some Shape
