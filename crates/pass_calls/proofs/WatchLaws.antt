-- What is counted of a put, step by step.
use Rattle.std.proofs.Common.{◌≡◌, ◌⊎◌, inl, inr, ℕ, suc, Bool, true, false, true≢false, List, Option, Some, None, Result, Ok, Err, IsErrAnd, refl, sym, ap, ◌∙◌, subst}
use Rattle.std.proofs.lemmas.Result.{err_from_is_err_and}
use Rattle.region_model.specs.Lawful.{number_of}
use Rattle.region_model.specs.Lines.{Line}
use Rattle.region_lock.specs.Answers.{put_answer}
use Rattle.region_lock.specs.log_service.declared.tally.Asked.{Asked}
use Rattle.region_lock.specs.log_service.declared.tally.Watch.{Watch}
use Rattle.region_lock.specs.log_service.Tallies.{found_full, watched, saw_fault, asked_for, HasWatched, HasAsked}
use Rattle.region_lock.proofs.log_service_laws.TallyLaws.{none_watched, full_watched, start_watched}
use Rattle.region_lock.specs.declared.answers.PutRefusal.{PutRefusal}
use Rattle.region_lock.specs.declared.answers.PutRefusal.TheVariants as put
use Rattle.region_lock.specs.declared.job.Job.{Job}
use Rattle.region_lock.specs.Puts.{IsDrawn, IsWatched, WasWatched, HasDrawn, HasLooked, IsAskedFor, AsksLog}

-- ---- while a number is drawn

-- nothing was tried yet
pub begun_watched : (w : Watch) → WasWatched w w
begun_watched w = record { count = 0; each = none_watched w; clear = λ e. e }

-- a try found the ring full, and the look after it found the fault word clear
pub again_watched : (first old new : Watch) → WasWatched first old → new ≡ watched false (found_full old) → WasWatched first new
again_watched first old new w is = subst (λ (x : Watch). WasWatched first x) (sym is) (record { count = suc w.count; each = full_watched w.count w.count false first old w.each; clear = λ e. refl })

-- the last try
pub drawn_watched : (result : Result ℕ PutRefusal) (first old new : Watch) → WasWatched first old → IsWatched (Ok result) old new → HasDrawn result first new
drawn_watched (Ok n) first old new w is =
    subst (λ (x : Watch). HasDrawn (Ok n) first x) (sym is) (record { count = w.count; each = w.each; set = λ number e. absurd (cc e); clear = λ other e. w.clear e })
drawn_watched (Err (put.Memory logged)) first old new w is =
    subst (λ (x : Watch). HasDrawn (Err (put.Memory logged)) first x) (sym is) (record { count = w.count; each = w.each; set = λ number e. absurd (cc e); clear = λ other e. w.clear e })
drawn_watched (Err (put.WriteFault number)) first old new w is =
    subst (λ (x : Watch). HasDrawn (Err (put.WriteFault number)) first x) (sym is)
    (record { count = suc w.count; each = full_watched w.count w.count true first old w.each; set = λ n e. refl; clear = λ other e. absurd (other number refl) })
drawn_watched (Err (put.NumbersSpent last)) first old new w is =
    subst (λ (x : Watch). HasDrawn (Err (put.NumbersSpent last)) first x) (sym is) (record { count = w.count; each = w.each; set = λ number e. absurd (cc e); clear = λ other e. w.clear e })

-- ---- of a put, whose look at its start came before

-- the word was set at its start
pub start_looked : (first new : Watch) → new ≡ watched true first → HasLooked (Err (put.WriteFault None)) first new
start_looked first new is =
    subst (λ (x : Watch). HasLooked (Err (put.WriteFault None)) first x) (sym is)
    (record { count = 0; each = start_watched 0 0 true first (watched true first) (none_watched (watched true first)); set = λ e. refl; clear = λ other. absurd (other refl) })

-- a number was drawn
pub number_looked : (n : ℕ) (result : Result ℕ PutRefusal) (first mid new : Watch) → mid ≡ watched false first → HasDrawn (Ok n) mid new → (result ≡ Err (put.WriteFault None) → ⊥) → HasLooked result first new
number_looked n result first mid new is d other = record {
  count = d.count;
  each = start_watched d.count d.count false first new (subst (λ (m : Watch). HasWatched d.count d.count m new) is d.each);
  set = λ e. absurd (other e);
  clear = λ o. d.clear (λ number e. absurd (cc e)) (ap saw_fault is);
}

-- none was drawn
pub refused_looked : (seen : ℕ) (job : Job) (own own' : List Line) (told told' : List ℕ) (broken : Bool) (refusal : PutRefusal) (first mid new : Watch) → mid ≡ watched false first
    → IsDrawn seen job own told (Err refusal) own' told' broken → HasDrawn (Err refusal) mid new → HasLooked (Err refusal) first new
refused_looked seen job own own' told told' broken (put.Memory logged) first mid new is drawn d = record {
  count = d.count;
  each = start_watched d.count d.count false first new (subst (λ (m : Watch). HasWatched d.count d.count m new) is d.each);
  set = λ e. absurd (cc e);
  clear = λ o. d.clear (λ number e. absurd (cc e)) (ap saw_fault is);
}
refused_looked seen job own own' told told' broken (put.WriteFault number) first mid new is drawn d = record {
  count = d.count;
  each = start_watched d.count d.count false first new (subst (λ (m : Watch). HasWatched d.count d.count m new) is d.each);
  set = λ e. d.set None e;
  clear = λ o. absurd (o (ap (λ (x : Option ℕ). Err (put.WriteFault x)) drawn.1));
}
refused_looked seen job own own' told told' broken (put.NumbersSpent last) first mid new is drawn d = record {
  count = d.count;
  each = start_watched d.count d.count false first new (subst (λ (m : Watch). HasWatched d.count d.count m new) is d.each);
  set = λ e. absurd (cc e);
  clear = λ o. d.clear (λ number e. absurd (cc e)) (ap saw_fault is);
}

-- the refusal handed on
pub handed_on : (P : Result ℕ PutRefusal → Type 0) (result : Result ℕ PutRefusal) (refusal : PutRefusal) → IsErrAnd result (λ y. y ≡ refusal) → P (Err refusal) → P result
handed_on P result refusal is so = let p = err_from_is_err_and result is in subst P (sym (p.1 ∙ ap (λ (y : PutRefusal). Err y) p.2)) so

-- a refusal before a number was drawn has none
pub none_drawn : (seen : ℕ) (job : Job) (own own' : List Line) (told told' : List ℕ) (broken : Bool) (refusal : PutRefusal) → IsDrawn seen job own told (Err refusal) own' told' broken → number_of (put_answer (Err refusal)) ≡ None
none_drawn seen job own own' told told' broken (put.Memory logged) drawn = drawn.1
none_drawn seen job own own' told told' broken (put.WriteFault number) drawn = drawn.1
none_drawn seen job own own' told told' broken (put.NumbersSpent last) drawn = refl

-- ---- what it asked of the log

-- no number was drawn
pub asks_none : (sync : Bool) (r : ℕ) (result : Result ℕ PutRefusal) (old new : Asked) (broken : Bool) → number_of (put_answer result) ≡ None → new ≡ old → AsksLog sync r result old new broken
asks_none sync r result old new broken none same = record { asks = λ n s some. absurd (cc (sym some ∙ none)); bare = λ e. same; unasked = λ e. same }

-- what was asked stands, once more is known of the fault
pub asked_same : (r n m : ℕ) (old new : Asked) (broken now : Bool) → n ≡ m → (broken ≡ true → now ≡ true) → HasAsked r n old new broken → HasAsked r m old new now
asked_same r n m old new broken now same stays (inl is) = inl (is ∙ ap (λ (k : ℕ). asked_for r k old) same)
asked_same r n m old new broken now same stays (inr left) = inr (left.0, stays left.1)

-- a number was drawn, and what was asked stands
pub asks_number : (sync : Bool) (r s n : ℕ) (result : Result ℕ PutRefusal) (old mid new : Asked) (broken now : Bool) → number_of (put_answer result) ≡ Some n → s ≡ r → mid ≡ old → (broken ≡ true → now ≡ true)
    → IsAskedFor sync s n mid new broken → AsksLog sync r result old new now
asks_number true r s n result old mid new broken now some region same stays asked =
    let here : HasAsked r n old new broken = subst (λ (a : Asked). HasAsked r n a new broken) same (subst (λ (k : ℕ). HasAsked k n mid new broken) region asked) in
    record {
      asks = λ m e is. asked_same r n m old new broken now (cc (sym some ∙ is)) stays here;
      bare = λ none. absurd (cc (sym some ∙ none));
      unasked = λ e. absurd (true≢false e);
    }
asks_number false r s n result old mid new broken now some region same stays asked = record {
  asks = λ m e is. absurd (true≢false (sym e));
  bare = λ none. absurd (cc (sym some ∙ none));
  unasked = λ e. asked ∙ same;
}
