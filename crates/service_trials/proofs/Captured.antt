-- A closure may be shared by threads where each thing that it captures may be.
use denote.Exit.{Kept}
use denote.Param.{arg, param}
use denote.Param.Send.{AllSync, IsSync, arg_sync, param_sync}
use denote.Param.SendFields.{FieldsHave, as_row_sync, declared_sync}
use denote.RattleType.{RattleType}
use denote.Struct.Field.{row_field}
use denote.Struct.Tuple.{TupleAt, parts, type_at}
use mathlib.Core.List.{List, [], ◌∷◌}
use mir.Syntax.{Sym, Ty}
use Prim.Native.Nat.{ℕ}

all_sync : (Ts : List RattleType) → AllSync Ts → FieldsHave IsSync (parts Ts)
all_sync [] s = tt
all_sync (T ∷ Ts) s = (as_row_sync (row_field T) s.0, all_sync Ts s.1)

module _ (i : ℕ) (δ : Ty) (k : Kept) (ν : Sym) where
  pub five_sync : (A B C D E : RattleType) → IsSync A → IsSync B → IsSync C → IsSync D → IsSync E → IsSync (param i (arg δ k (TupleAt ν (A ∷ B ∷ C ∷ D ∷ E ∷ []))))
  five_sync A B C D E a b c d e =
      let Ts = A ∷ B ∷ C ∷ D ∷ E ∷ [] in
      param_sync i (arg δ k (TupleAt ν Ts)) (arg_sync δ k (TupleAt ν Ts) (declared_sync (type_at ν Ts) (all_sync Ts (a, (b, (c, (d, (e, tt))))))))
