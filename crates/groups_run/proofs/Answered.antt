-- Of an answer that is passed on.
use Rattle.std.proofs.Common.{Result, Ok, Err, IfOk, IfErr, OnOk}

pub if_ok_weaker : {T E : Type 0} (P Q : T → Type 0) (r : Result T E) → ((x : T) → P x → Q x) → IfOk r P → IfOk r Q
if_ok_weaker P Q (Ok x) then is = then x is
if_ok_weaker P Q (Err e) then is = tt

pub if_err_weaker : {T E : Type 0} (P Q : E → Type 0) (r : Result T E) → ((e : E) → P e → Q e) → IfErr r P → IfErr r Q
if_err_weaker P Q (Ok x) then is = tt
if_err_weaker P Q (Err e) then is = then e is

pub on_ok_always : {T E : Type 0} (P : Type 0) (r : Result T E) → P → OnOk r P
on_ok_always P (Ok x) is = is
on_ok_always P (Err e) is = tt

pub if_err_both : {T E : Type 0} (P Q R : E → Type 0) (r : Result T E) → ((e : E) → P e → Q e → R e) → IfErr r P → IfErr r Q → IfErr r R
if_err_both P Q R (Ok x) then is so = tt
if_err_both P Q R (Err e) then is so = then e is so
