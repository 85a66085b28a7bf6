-- What is said of a result, from call to call.
use Rattle.std.proofs.Common.{◌≡◌, true, false, Option, None, Some, Result, Ok, Err, IfOk, OnOk, OnErr, IsErr, refl, ap, ◌∙◌, sym}
use Rattle.std.specs.Option.{is_some}
use Rattle.std.specs.Prelude.{IsErrAnd}

pub then : {T E : Type 0} {P Q : T → Type 0} (result : Result T E) → ((t : T) → P t → Q t) → IfOk result P → IfOk result Q
then (Ok t) step p = step t p
then (Err e) step p = tt

pub two : {T E : Type 0} {P Q R : T → Type 0} (result : Result T E) → ((t : T) → P t → Q t → R t) → IfOk result P → IfOk result Q → IfOk result R
two (Ok t) step p q = step t p q
two (Err e) step p q = tt

pub after : {T E : Type 0} {P Q : Type 0} (result : Result T E) → (P → Q) → OnOk result P → OnOk result Q
after (Ok t) step p = step p
after (Err e) step p = tt

-- what follows from Ok and from an error follows
pub whichever : {T E P R : Type 0} {Q : T → Type 0} (result : Result T E) → ((t : T) → Q t → P) → (R → P) → IfOk result Q → OnErr result R → P
whichever (Ok t) well badly q r = well t q
whichever (Err e) well badly q r = badly r

-- nothing is said of Ok after an error
pub none_of : {T E : Type 0} (result : Result T E) (P : T → Type 0) → IsErr result → IfOk result P
none_of (Ok t) P failed = absurd (cc failed)
none_of (Err e) P failed = tt

pub none_on : {T E : Type 0} (result : Result T E) (P : Type 0) → IsErr result → OnOk result P
none_on (Ok t) P failed = absurd (cc failed)
none_on (Err e) P failed = tt

pub on_any : {T E P : Type 0} (result : Result T E) → P → OnErr result P
on_any (Ok t) p = tt
on_any (Err e) p = p

pub ok_apart : {T E : Type 0} {t : T} {e : E} → Ok t ≡ Err e → ⊥
ok_apart is = absurd (cc is)

pub is_none_by : {T : Type 0} (option : Option T) → is_some option ≡ false → option ≡ None
is_none_by None says = refl
is_none_by (Some t) says = absurd (cc says)

pub some_apart : {T : Type 0} {t : T} → None ≡ Some t → ⊥
some_apart is = absurd (cc is)

pub err_same : {T E : Type 0} {a b : E} → ◌≡◌ {A = Result T E} (Err a) (Err b) → a ≡ b
err_same is = cc is

pub not_true : false ≡ true → ⊥
not_true is = absurd (cc is)

pub not_other : {T E : Type 0} (result : Result T E) (why other : E) → (why ≡ other → ⊥) → IsErrAnd result (λ e. e ≡ why) → result ≡ Err other → ⊥
not_other (Ok t) why other apart is failed = absurd is
not_other (Err e) why other apart is failed = apart (sym is ∙ err_same failed)

pub is_err_of : {T E : Type 0} (result : Result T E) (why : E) → IsErrAnd result (λ e. e ≡ why) → result ≡ Err why
is_err_of (Ok t) why is = absurd is
is_err_of (Err e) why is = ap Err is
