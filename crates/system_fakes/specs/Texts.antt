-- Files as lists of bytes.
use Rattle.std.specs.Prelude.{ℕ, List, map, Vec}
use Rattle.std.specs.declared.alloc.Global.{Global}

abbrev pub texts_in : List (Vec ℕ Global) → List (List ℕ)
texts_in files = map (λ v. v.items) files
