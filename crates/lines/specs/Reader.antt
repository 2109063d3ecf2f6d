-- What a block of an input brings to a line.
use Rattle.std.specs.Prelude.{ℕ, Bool, ◌⊎◌, List, [], ◌∷◌, ◌++◌, Option, OnSome}
use Rattle.std.specs.declared.ops.ControlFlow.{ControlFlow}
use Rattle.std.specs.declared.ops.ControlFlow.TheVariants.{Continue, Break}
use Rattle.std.specs.Io.KnownBytes.{Consumes, IsAtEnd}

-- a part of the line, and behind the last part the line's end or the end of the input
abbrev pub Brings : Option (List ℕ) → Option (List ℕ) → List ℕ → ControlFlow Bool Unit → Type 0
Brings old new part (Continue _) = Consumes old new part
Brings old new part (Break _) = Consumes old new (part ++ 10 ∷ []) ⊎ (Consumes old new part × OnSome old (IsAtEnd new))
