-- Files that are like what is kept, and what they recover to.
use Rattle.std.proofs.Common.{◌≡◌, ◌⊎◌, inl, inr, ℕ, ◌<◌, ◌≤◌, List, [], ◌++◌, length, take, Contains, refl, sym, ap, subst, arith}
use Rattle.std.proofs.lemmas.Bool.{cases_lt, cases_eq}
use Rattle.std.proofs.lemmas.Bool.Decides.{nat_tests}
use Rattle.std.proofs.lemmas.List.{take_all}
use Rattle.std.proofs.lemmas.List.Elements.{Contains-append_left, Contains-append_right, Contains-append_cases}
use Rattle.cell_model.specs.Order.{VersionKey, Payload}
use Rattle.log_model.specs.Entry.{Entry}
use Rattle.log_model.specs.Files.{Files, IsLogged}
use Rattle.log_model.specs.Recovered.{IsFor, HasFamily, IsRecovered, FlushesTo, IsLast}
use Rattle.recovery_laws.specs.Change.{PutBy, RecoversWith, LastsWith, RecoversSome, Grown, IsFresh}
use Rattle.recovery_laws.specs.Kept.{Kept, lasts, AreRising, PutUpTo, IsLike, IsOrderly, committed, with_staged, flushed_to}
use Rattle.recovery_laws.proofs.Rising.{above_last, below_lasts, one_numbered, lasts_no_less, lasts-append, one_higher}
use Rattle.recovery_laws.proofs.Contents.{puts_family}
use Rattle.recovery_laws.proofs.Stores.{flushes_by, stored_by, flushed_by}
use Rattle.recovery_laws.proofs.Lists.{flush_cases, flushed_here, flushed_there}
use Rattle.recovery_laws.proofs.Logs.{counts_on, counted_before, recovers_with}
use Rattle.recovery_laws.proofs.Lasts.{lasts_with, like_last}

-- they recover to the base with the durable entries
pub like_recovers : (k : Kept) (J : Files) → IsLike k J → RecoversWith k.base k.durable J
like_recovers k J like r v p = (forth, back)
  where
    forth : IsRecovered J r v p → IsRecovered k.base r v p ⊎ PutBy k.durable r v p
    forth (inl stored) = elim ((like.stored r v p).0 stored) as (λ _. IsRecovered k.base r v p ⊎ PutBy k.durable r v p) [
      | inl old ↦ inl old
      | inr put ↦ inr (put.0, put.1, put.2, put.4)
    ]
    forth (inr u) = inr (u.entry, like.only u.entry v.key.family u.logged (puts_family u.entry v p u.puts) (λ n f. u.above n (subst (λ (q : ℕ). FlushesTo J q v.key.family n) u.region f)), u.region, u.puts)

    back : IsRecovered k.base r v p ⊎ PutBy k.durable r v p → IsRecovered J r v p
    back (inl old) = inl ((like.stored r v p).1 (inl old))
    back (inr put) = elim (cases_lt (k.flushed r v.key.family) put.0.number) as (λ _. IsRecovered J r v p) [
      | inl above ↦ inr (record {
        entry = put.0;
        logged = like.sure put.0 v.key.family put.1 (puts_family put.0 v p put.3) (let at : k.flushed put.0.region v.key.family ≡ k.flushed r v.key.family = ap (λ (q : ℕ). k.flushed q v.key.family) put.2 in omega (arith, above, at));
        region = put.2;
        above = λ n f. let le : n ≤ k.flushed r v.key.family = (like.flushed r v.key.family).bound n f in omega (arith, le, above);
        puts = put.3;
      })
      | inr low ↦ inl ((like.stored r v p).1 (inr (put.0, put.1, put.2, low, put.3)))
    ]

-- entries that rise from the last ones on are fresh
pub rising_fresh : (last : ℕ → ℕ) (I : Files) (more : List Entry) → ((r : ℕ) → IsLast I r (last r)) → AreRising last more → IsFresh I more
rising_fresh last I more are rise = record {
  apart = λ d e logged new region number.
      let at : last d.region ≡ last e.region = ap last region in
      omega (arith, (are d.region).bound d.number (inr (d, logged, refl, refl)), above_last last more e rise new, at, number);
  agree = λ d e hd he region number. one_numbered last more d e rise hd he region number;
  above = λ e g n new f. omega (arith, above_last last more e rise new, (are e.region).bound n (inl (f.0, f.1, f.2, f.4)));
}

-- staged entries are fresh to them
pub staged_fresh : (k : Kept) (I : Files) → IsLike k I → IsOrderly k → IsFresh I k.staged
staged_fresh k I like orderly = record {
  apart = λ d e logged staged region number.
      let at : lasts k.first k.durable d.region ≡ lasts k.first k.durable e.region = ap (lasts k.first k.durable) region in
      omega (arith, like.numbers d logged, above_last (lasts k.first k.durable) k.staged e orderly.rising staged, at, number);
  agree = λ d e hd he region number. one_numbered (lasts k.first k.durable) k.staged d e orderly.rising hd he region number;
  above = λ e g n staged f. omega (arith, above_last (lasts k.first k.durable) k.staged e orderly.rising staged, orderly.low e.region g, (like.flushed e.region g).bound n f);
}

pub none_fresh : (I : Files) → IsFresh I []
none_fresh I = record {
  apart = λ d e logged none region number. omega (arith, none.1);
  agree = λ d e none he region number. absurd (omega (arith, none.1));
  above = λ e g n none f. absurd (omega (arith, none.1));
}

-- files that log the staged entries beside files like these are like what is kept then
pub like_committed : (k : Kept) (I J : Files) → IsLike k I → IsOrderly k → Grown I J k.staged → IsLike (committed k) J
like_committed k I J like orderly g = record {
  fit = g.fit;
  flushed = λ r f. flushed_by I J (counts_on I J k.staged g) (counted_before I J k.staged g) r f (k.flushed r f) (like.flushed r f);
  stored = λ r v p. (
    λ h. more_put r v p ((like.stored r v p).0 (stored_by J I (counted_before I J k.staged g) (counts_on I J k.staged g) r v p h)),
    λ h. stored_by I J (counts_on I J k.staged g) (counted_before I J k.staged g) r v p ((like.stored r v p).1 (less_put r v p h)),
  );
  sure = λ e f member has above. (g.logged e).1 (elim (Contains-append_cases k.durable k.staged e member) as (λ _. IsLogged I e ⊎ Contains k.staged e) [ inl old ↦ inl (like.sure e f old has above) | inr new ↦ inr new ]);
  only = λ e f logged has above. elim ((g.logged e).0 logged) as (λ _. Contains (k.durable ++ k.staged) e) [
    | inl old ↦ Contains-append_left k.durable k.staged e (like.only e f old has (λ n h. above n (flushes_by I J (counts_on I J k.staged g) e.region f n h)))
    | inr new ↦ Contains-append_right k.durable k.staged e new
  ];
  numbers = λ e logged. subst (λ (n : ℕ). e.number ≤ n) (sym (lasts-append k.first k.durable k.staged e.region)) (elim ((g.logged e).0 logged) as (λ _. e.number ≤ lasts (lasts k.first k.durable) k.staged e.region) [
    | inl old ↦ omega (arith, like.numbers e old, lasts_no_less (lasts k.first k.durable) k.staged e.region orderly.rising)
    | inr new ↦ below_lasts (lasts k.first k.durable) k.staged e orderly.rising new
  ]);
}
  where
    more_put : (r : ℕ) (v : VersionKey) (p : Payload) → IsRecovered k.base r v p ⊎ PutUpTo k.durable (k.flushed r v.key.family) r v p → IsRecovered k.base r v p ⊎ PutUpTo (k.durable ++ k.staged) (k.flushed r v.key.family) r v p
    more_put r v p (inl old) = inl old
    more_put r v p (inr put) = inr (put.0, Contains-append_left k.durable k.staged put.0 put.1, put.2, put.3, put.4)

    less_put : (r : ℕ) (v : VersionKey) (p : Payload) → IsRecovered k.base r v p ⊎ PutUpTo (k.durable ++ k.staged) (k.flushed r v.key.family) r v p → IsRecovered k.base r v p ⊎ PutUpTo k.durable (k.flushed r v.key.family) r v p
    less_put r v p (inl old) = inl old
    less_put r v p (inr put) = elim (Contains-append_cases k.durable k.staged put.0 put.1) as (λ _. IsRecovered k.base r v p ⊎ PutUpTo k.durable (k.flushed r v.key.family) r v p) [
      | inl old ↦ inr (put.0, old, put.2, put.3, put.4)
      | inr new ↦
          let at : k.flushed put.0.region v.key.family ≡ k.flushed r v.key.family = ap (λ (q : ℕ). k.flushed q v.key.family) put.2 in
          absurd (omega (arith, above_last (lasts k.first k.durable) k.staged put.0 orderly.rising new, orderly.low put.0.region v.key.family, at, put.3))
    ]

-- what recovers with some entries to files that recover with others
pub with_both : (F I J : Files) (first more : List Entry) → RecoversWith F first I → RecoversWith I more J → RecoversWith F (first ++ more) J
with_both F I J first more one two r v p = (forth, back)
  where
    forth : IsRecovered J r v p → IsRecovered F r v p ⊎ PutBy (first ++ more) r v p
    forth h = elim ((two r v p).0 h) as (λ _. IsRecovered F r v p ⊎ PutBy (first ++ more) r v p) [
      | inl i ↦ elim ((one r v p).0 i) as (λ _. IsRecovered F r v p ⊎ PutBy (first ++ more) r v p) [
        | inl old ↦ inl old
        | inr put ↦ inr (put.0, Contains-append_left first more put.0 put.1, put.2, put.3)
      ]
      | inr put ↦ inr (put.0, Contains-append_right first more put.0 put.1, put.2, put.3)
    ]

    back : IsRecovered F r v p ⊎ PutBy (first ++ more) r v p → IsRecovered J r v p
    back (inl old) = (two r v p).1 (inl ((one r v p).1 (inl old)))
    back (inr put) = elim (Contains-append_cases first more put.0 put.1) as (λ _. IsRecovered J r v p) [
      | inl early ↦ (two r v p).1 (inl ((one r v p).1 (inr (put.0, early, put.2, put.3))))
      | inr late ↦ (two r v p).1 (inr (put.0, late, put.2, put.3))
    ]

-- two that are like the same recover alike
pub likes_alike : (k : Kept) (F I : Files) → IsLike k F → IsLike k I → RecoversWith F [] I
likes_alike k F I f i r v p = (λ h. inl ((like_recovers k F f r v p).1 ((like_recovers k I i r v p).0 h)), back)
  where
    back : IsRecovered F r v p ⊎ PutBy [] r v p → IsRecovered I r v p
    back (inl h) = (like_recovers k I i r v p).1 ((like_recovers k F f r v p).0 h)
    back (inr none) = absurd (omega (arith, none.1.1))

-- files that log no more are like what is kept too
pub like_same : (k : Kept) (I J : Files) → IsLike k I → Grown I J [] → IsLike k J
like_same k I J like g = record {
  fit = g.fit;
  flushed = λ r f. flushed_by I J (counts_on I J [] g) (counted_before I J [] g) r f (k.flushed r f) (like.flushed r f);
  stored = λ r v p. (
    λ h. (like.stored r v p).0 (stored_by J I (counted_before I J [] g) (counts_on I J [] g) r v p h),
    λ h. stored_by I J (counts_on I J [] g) (counted_before I J [] g) r v p ((like.stored r v p).1 h),
  );
  sure = λ e f member has above. (g.logged e).1 (inl (like.sure e f member has above));
  only = λ e f logged has above. like.only e f (was e logged) has (λ n h. above n (flushes_by I J (counts_on I J [] g) e.region f n h));
  numbers = λ e logged. like.numbers e (was e logged);
}
  where
    was : (e : Entry) → IsLogged J e → IsLogged I e
    was e h = elim ((g.logged e).0 h) as (λ _. IsLogged I e) [ inl old ↦ old | inr none ↦ absurd (omega (arith, none.1)) ]

-- what is kept stays in order when the staged entries are committed
pub orderly_committed : (k : Kept) → IsOrderly k → ((e : Entry) → Contains k.staged e → (f : List ℕ) × HasFamily e f) → IsOrderly (committed k)
orderly_committed k orderly given = record {
  begun = orderly.begun;
  rising = tt;
  given = λ e member. elim (Contains-append_cases k.durable k.staged e member) as (λ _. (f : List ℕ) × HasFamily e f) [ inl old ↦ orderly.given e old | inr new ↦ given e new ];
  from = orderly.from;
  low = λ r f. omega (arith, orderly.low r f, lasts_no_less (lasts k.first k.durable) k.staged r orderly.rising, lasts-append k.first k.durable k.staged r);
}

-- and when one more entry is staged
pub orderly_staged : (k : Kept) (e : Entry) → IsOrderly k → lasts (lasts k.first k.durable) k.staged e.region < e.number → IsOrderly (with_staged k e)
orderly_staged k e orderly above = record { begun = orderly.begun; rising = one_higher (lasts k.first k.durable) k.staged e orderly.rising above; given = orderly.given; from = orderly.from; low = orderly.low }

-- and when a family of a region, or all of them, is flushed further, up to its last durable entry at most
pub orderly_flushed : (k : Kept) (r : ℕ) (family : List ℕ) (n : ℕ) → IsOrderly k → ((f : List ℕ) → IsFor family f → k.flushed r f ≤ n) → n ≤ lasts k.first k.durable r → IsOrderly (flushed_to k r family n)
orderly_flushed k r family n orderly more logged = record { begun = orderly.begun; rising = orderly.rising; given = orderly.given; from = λ q f. from q f; low = λ q f. low q f }
  where
    from : (q : ℕ) (f : List ℕ) → k.first q ≤ (flushed_to k r family n).flushed q f
    from q f = elim (flush_cases r family q f) as (λ _. k.first q ≤ (flushed_to k r family n).flushed q f) [
      | inl hit ↦ let at : k.flushed r f ≡ k.flushed q f = ap (λ (x : ℕ). k.flushed x f) hit.0 in omega (arith, orderly.from q f, at, more f hit.1, flushed_here k r family n q f hit.0 hit.1)
      | inr other ↦ omega (arith, orderly.from q f, flushed_there k r family n q f other)
    ]

    low : (q : ℕ) (f : List ℕ) → (flushed_to k r family n).flushed q f ≤ lasts k.first k.durable q
    low q f = elim (flush_cases r family q f) as (λ _. (flushed_to k r family n).flushed q f ≤ lasts k.first k.durable q) [
      | inl hit ↦ let at : lasts k.first k.durable r ≡ lasts k.first k.durable q = ap (lasts k.first k.durable) hit.0 in omega (arith, logged, at, flushed_here k r family n q f hit.0 hit.1)
      | inr other ↦ omega (arith, orderly.low q f, flushed_there k r family n q f other)
    ]

-- two that are like the same go up to the same last ones
pub likes_lasts : (k : Kept) (F J : Files) → IsLike k F → IsLike k J → IsOrderly k → LastsWith F [] J
likes_lasts k F J f j orderly = lasts_with F J [] (lasts k.first k.durable) (like_last k F f orderly) (like_last k J j orderly)

-- two like the same recover alike, whatever is staged
pub some_alike : (k : Kept) (F J : Files) → IsLike k F → IsLike k J → IsOrderly k → RecoversSome F [] J
some_alike k F J f j orderly = record { fit = j.fit; count = 0; recovered = likes_alike k F J f j; last = likes_lasts k F J f j orderly }

-- none of the staged entries, or all of them
pub some_none : (k : Kept) (F I J : Files) → IsLike k F → IsLike k I → IsOrderly k → Grown I J [] → RecoversSome F k.staged J
some_none k F I J f i orderly g = record {
  fit = g.fit;
  count = 0;
  recovered = with_both F I J [] [] (likes_alike k F I f i) (recovers_with I J [] g (none_fresh I));
  last = likes_lasts k F J f (like_same k I J i g) orderly;
}

pub some_all : (k : Kept) (F I J : Files) → IsLike k F → IsLike k I → IsOrderly k → ((e : Entry) → Contains k.staged e → (f : List ℕ) × HasFamily e f) → Grown I J k.staged → RecoversSome F k.staged J
some_all k F I J f i orderly given g =
    let all : k.staged ≡ take (length k.staged) k.staged = sym (take_all (length k.staged) k.staged (omega arith)) in
    let after : (r : ℕ) → IsLast J r (lasts (lasts k.first k.durable) k.staged r) = λ r. subst (λ (n : ℕ). IsLast J r n) (lasts-append k.first k.durable k.staged r) (like_last (committed k) J (like_committed k I J i orderly g) (orderly_committed k orderly given) r) in
    record {
      fit = g.fit;
      count = length k.staged;
      recovered = subst (λ (l : List Entry). RecoversWith F l J) all (with_both F I J [] k.staged (likes_alike k F I f i) (recovers_with I J k.staged g (staged_fresh k I i orderly)));
      last = subst (λ (l : List Entry). LastsWith F l J) all (lasts_with F J k.staged (lasts k.first k.durable) (like_last k F f orderly) after);
    }

-- what recovers to one base with the same entries recovers alike
pub alike : (base F J : Files) (es : List Entry) → RecoversWith base es F → RecoversWith base es J → RecoversWith F [] J
alike base F J es f j r v p = (λ h. inl ((f r v p).1 ((j r v p).0 h)), back)
  where
    back : IsRecovered F r v p ⊎ PutBy [] r v p → IsRecovered J r v p
    back (inl h) = (j r v p).1 ((f r v p).0 h)
    back (inr none) = absurd (omega (arith, none.1.1))

-- files with a region flushed further recover alike
pub flushed_alike : (k : Kept) (r : ℕ) (family : List ℕ) (n : ℕ) (F J : Files) → IsLike k F → IsOrderly k → IsLike (flushed_to k r family n) J → IsOrderly (flushed_to k r family n) → RecoversSome F [] J
flushed_alike k r family n F J f orderly j after = record {
  fit = j.fit;
  count = 0;
  recovered = alike k.base F J k.durable (like_recovers k F f) (like_recovers (flushed_to k r family n) J j);
  last = lasts_with F J [] (lasts k.first k.durable) (like_last k F f orderly) (like_last (flushed_to k r family n) J j after);
}
