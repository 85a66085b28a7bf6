-- Replies to puts, one more.
use Rattle.std.proofs.Common.{◌≡◌, ℕ, zero, suc, ◌+◌, ◌-◌, Some, None, List, [], ◌∷◌, ◌++◌, sym, ap, ◌∙◌, arith, append_assoc, append-nil}
use Rattle.std.specs.List.{flat_map}
use Rattle.std.proofs.lemmas.Grind.{flat_map-append}
use Rattle.region_model.specs.Calls.{PutOk, PutFault}
use Rattle.script_model.specs.Report.{ReplyLine, reply_text, replies_text, end_line}
use Rattle.log_command.specs.Logged.{oks, faults, put_reply, stopped_replies}

oks_more : (n i m : ℕ) → m ≡ n + i → oks n (suc i) ≡ oks n i ++ put_reply m (PutOk m) ∷ []
oks_more n zero m is = let here : n ≡ m = omega (arith, is) in ap (λ (k : ℕ). put_reply k (PutOk k) ∷ []) here
oks_more n (suc i) m is = ap (λ (rs : List ReplyLine). put_reply n (PutOk n) ∷ rs) (oks_more (n + 1) i m (omega (arith, is)))

faults_more : (n i m : ℕ) → m ≡ n + i → faults n (suc i) ≡ faults n i ++ put_reply m (PutFault None) ∷ []
faults_more n zero m is = let here : n ≡ m = omega (arith, is) in ap (λ (k : ℕ). put_reply k (PutFault None) ∷ []) here
faults_more n (suc i) m is = ap (λ (rs : List ReplyLine). put_reply n (PutFault None) ∷ rs) (faults_more (n + 1) i m (omega (arith, is)))

added : (o o1 o2 : List ℕ) (rs new : List ReplyLine) (r : ReplyLine) → new ≡ rs ++ r ∷ [] → o1 ≡ o ++ flat_map reply_text rs → o2 ≡ o1 ++ reply_text r → o2 ≡ o ++ flat_map reply_text new
added o o1 o2 rs new r is e1 e2 =
    e2 ∙ ap (λ (t : List ℕ). t ++ reply_text r) e1 ∙ append_assoc o (flat_map reply_text rs) (reply_text r)
    ∙ ap (λ (t : List ℕ). o ++ t) (ap (λ (t : List ℕ). flat_map reply_text rs ++ t) (sym (append-nil (reply_text r))) ∙ sym (flat_map-append reply_text rs (r ∷ [])) ∙ ap (flat_map reply_text) (sym is))

pub ok_more : (o o1 o2 : List ℕ) (i : ℕ) → o1 ≡ o ++ flat_map reply_text (oks 1 i) → o2 ≡ o1 ++ reply_text (put_reply (i + 1) (PutOk (i + 1))) → o2 ≡ o ++ flat_map reply_text (oks 1 (i + 1))
ok_more o o1 o2 i e1 e2 =
    let next : i + 1 ≡ suc i = omega arith in
    added o o1 o2 (oks 1 i) (oks 1 (i + 1)) (put_reply (i + 1) (PutOk (i + 1))) (ap (oks 1) next ∙ oks_more 1 i (i + 1) (omega arith)) e1 e2

pub fault_more : (o o1 o2 : List ℕ) (n i : ℕ) → o1 ≡ o ++ flat_map reply_text (faults n i) → o2 ≡ o1 ++ reply_text (put_reply (n + i) (PutFault None)) → o2 ≡ o ++ flat_map reply_text (faults n (i + 1))
fault_more o o1 o2 n i e1 e2 =
    let next : i + 1 ≡ suc i = omega arith in
    added o o1 o2 (faults n i) (faults n (i + 1)) (put_reply (n + i) (PutFault None)) (ap (faults n) next ∙ faults_more n i (n + i) (omega arith)) e1 e2

regroup : (a b c d : List ℕ) → ((a ++ b) ++ c) ++ d ≡ (a ++ (b ++ c)) ++ d
regroup a b c d = simp append_assoc

pub stopped : (count done : ℕ) (o o1 o2 o3 o4 : List ℕ) {f : ℕ} → o ≡ [] → o1 ≡ o ++ flat_map reply_text (oks 1 done) → o2 ≡ o1 ++ reply_text (put_reply (done + 1) (PutFault (Some (done + 1)))) → f ≡ done + 2
    → o3 ≡ o2 ++ flat_map reply_text (faults f (count - (done + 1))) → o4 ≡ o3 ++ end_line 5 → o4 ≡ replies_text (stopped_replies count done) 5
stopped count done o o1 o2 o3 o4 {f} none e1 e2 at e3 e4 =
    let first : List ℕ = flat_map reply_text (oks 1 done) in
    let one : List ℕ = reply_text (put_reply (done + 1) (PutFault (Some (done + 1)))) in
    let rest : List ReplyLine = faults (done + 2) (count - (done + 1)) in
    e4 ∙ ap (λ (t : List ℕ). t ++ end_line 5) (e3 ∙ ap (λ (n : ℕ). o2 ++ flat_map reply_text (faults n (count - (done + 1)))) at ∙ ap (λ (t : List ℕ). t ++ flat_map reply_text rest) (e2 ∙ ap (λ (t : List ℕ). t ++ one) (e1 ∙ ap (λ (t : List ℕ). t ++ first) none)))
    ∙ regroup first one (flat_map reply_text rest) (end_line 5)
    ∙ ap (λ (t : List ℕ). t ++ end_line 5) (sym (flat_map-append reply_text (oks 1 done) (put_reply (done + 1) (PutFault (Some (done + 1))) ∷ rest)))
