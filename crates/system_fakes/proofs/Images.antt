-- An image of a history.
use Rattle.std.proofs.Common.{◌≡◌, Result, Ok, Err, sym, subst}
use Rattle.std.specs.Prelude.{IfOk}
use Rattle.system_fakes.specs.declared.history.History.{History}
use Rattle.system_fakes.specs.Held.{Held, bytes_of}
use Rattle.system_fakes.specs.History.{State, IsNow}
use Rattle.system_fakes.specs.Image.{IsPlayed}
use Rattle.system_fakes.specs.Views.{state_of}

pub image_now : {E : Type 0} (r : Result History E) (s : State) (t : Held) → IsPlayed s t → IfOk r (λ h. (state_of h).held ≡ t)
    → IfOk r (λ h. IsNow s.folders s.texts (state_of h).held.folder (bytes_of (state_of h).held))
image_now (Ok h) s t played same = subst (λ (g : Held). IsNow s.folders s.texts g.folder (bytes_of g)) (sym same) record { names = played.folder; bytes = played.bytes }
image_now (Err e) s t played same = tt
