-- What a function inside the crate promises the others. Assumes nothing.
use Rattle.std.specs.Prelude.{ℕ, List}
use Rattle.strlib.specs.Refusal.{first}
use Rattle.strlib.specs.declared.StrPtr.{StrPtr}
use Rattle.preparing.specs.Listed.{source_checks}

-- what the checks of the list alone find
unfoldable pub source_refusal : List ℕ → List StrPtr → ℕ → ℕ
source_refusal s list count = first (source_checks s list count)
