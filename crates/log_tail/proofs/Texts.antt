-- The entries of all logs that are texts, in one list.
use Rattle.std.proofs.Common.{◌≡◌, ◌⊎◌, inl, inr, ◌↔◌, ℕ, zero, suc, ◌<◌, ◌+◌, List, [], ◌∷◌, ◌++◌, Contains, Option, Some, None, refl, sym, ap, subst, arith}
use Rattle.std.specs.Prelude.{slice_get}
use Rattle.std.specs.FinMap.{keys}
use Rattle.std.proofs.lemmas.Bool.{cases_lt}
use Rattle.std.proofs.lemmas.List.Elements.{Contains-append_left, Contains-append_right, Contains-append_cases}
use Rattle.log_model.specs.declared.name.Name.{Name}
use Rattle.log_model.specs.Entry.{Entry}
use Rattle.log_model.specs.Files.{Files, content, IsFit}
use Rattle.disk_images.proofs.Settled.{among_names}
use Rattle.chronicle_model.specs.Chronicle.{log_name, old_name, bytes_of, LogIsThere, HasLog, Placed, StandsIn, IsOrdered}
use Rattle.chronicle_model.proofs.Grown.{one_log, not_there}
use Rattle.chronicle_model.proofs.Order.{no_member}
use Rattle.log_tail.specs.Reads.{placed_behind}
use Rattle.log_tail.specs.Texts.{AreLogTexts, AreOldTexts, TextsHaveAChronicle, FitFilesHaveAChronicle}
use Rattle.log_tail.proofs.Found.{some_or, one_of_both, some_there}
use Rattle.log_tail.proofs.Behind.{placed_at, at_place, in_order, ordered_both}

-- ---- a number above those of all files

above : List Name → ℕ
above [] = 0
above (m ∷ ms) = m.number + 1 + above ms

below_it : (ms : List Name) (m : Name) → Contains ms m → m.number < above ms
unfolding above
below_it [] m has = omega (arith, has.1)
below_it (n ∷ ms) m (zero, lt, is) = let same : n.number ≡ m.number = ap (λ (x : Name). x.number) is in omega (arith, same)
below_it (n ∷ ms) m (suc k, lt, is) = let low : m.number < above ms = below_it ms m (k, omega (arith, lt), is) in omega (arith, low)

is_below : (files : Files) (n : ℕ) → LogIsThere files n → n < above (keys files)
is_below files n (bytes, is) = elim (one_of_both (content files (log_name n)) (content files (old_name n)) bytes is) as (λ _. n < above (keys files)) [
  | inl log ↦ below_it (keys files) (log_name n) (among_names files (log_name n) (some_there files (log_name n) bytes log))
  | inr old ↦ below_it (keys files) (old_name n) (among_names files (old_name n) (some_there files (old_name n) bytes old))
]

-- ---- the logs below a number

record IsUpTo (files : Files) (n : ℕ) (c : List Placed) : Type 0 where
  pub order : IsOrdered c
  pub exact : (x : Placed) → Contains c x ↔ ((x.file < n) × StandsIn files x)

some_or_none : (o : Option (List ℕ)) → (o ≡ None) ⊎ ((bytes : List ℕ) × (o ≡ Some bytes))
some_or_none None = inl refl
some_or_none (Some bytes) = inr (bytes, refl)

module _ (files : Files) where
  -- one log more, which isn't there
  none_more : (n : ℕ) (c : List Placed) → IsUpTo files n c → bytes_of files n ≡ None → IsUpTo files (suc n) c
  none_more n c is none = record {
    order = is.order;
    exact = λ x. (
      (λ has. let its = (is.exact x).0 has in (omega (arith, its.0), its.1)),
      (λ both. elim (cases_lt x.file n) as (λ _. Contains c x) [
        | inl lt ↦ (is.exact x).1 (lt, both.1)
        | inr le ↦
            let same : n ≡ x.file = omega (arith, le, both.0) in
            absurd (not_there (bytes_of files x.file) both.1.log.0 (subst (λ (k : ℕ). bytes_of files k ≡ None) same none) both.1.log.1)
      ]),
    );
  }

  module _ (n : ℕ) (c : List Placed) (is : IsUpTo files n c) (es : List Entry) (ended : Option ℕ) (log : HasLog files n es ended) where
    stands_there : (x : Placed) → Contains (placed_behind n 0 es) x → (x.file < suc n) × StandsIn files x
    stands_there x has =
        let s = placed_at n 0 es x has in (
          omega (arith, s.file),
          record {
            entries = es;
            ended = ended;
            log = subst (λ (k : ℕ). HasLog files k es ended) (sym s.file) log;
            at = s.at;
            place = omega (arith, s.place);
            is = s.is;
          },
        )

    is_there : (x : Placed) → n ≡ x.file → StandsIn files x → Contains (placed_behind n 0 es) x
    is_there x same s =
        let its : s.entries ≡ es = one_log files x.file s.entries es s.ended ended s.log (subst (λ (k : ℕ). HasLog files k es ended) same log) in
        at_place n 0 es x s.at (sym same) (omega (arith, s.place)) (subst (λ (l : List Entry). slice_get l s.at ≡ Some x.entry) its s.is)

    -- one log more
    one_more : IsUpTo files (suc n) (c ++ placed_behind n 0 es)
    one_more = record {
      order = ordered_both c (placed_behind n 0 es) is.order (in_order n 0 es) (λ x y first later. inl (let s = placed_at n 0 es y later in omega (arith, s.file, ((is.exact x).0 first).0)));
      exact = λ x. (
        (λ has. elim (Contains-append_cases c (placed_behind n 0 es) x has) as (λ _. (x.file < suc n) × StandsIn files x) [
          | inl front ↦ (let its = (is.exact x).0 front in (omega (arith, its.0), its.1))
          | inr later ↦ stands_there x later
        ]),
        (λ both. elim (cases_lt x.file n) as (λ _. Contains (c ++ placed_behind n 0 es) x) [
          | inl lt ↦ Contains-append_left c (placed_behind n 0 es) x ((is.exact x).1 (lt, both.1))
          | inr le ↦ Contains-append_right c (placed_behind n 0 es) x (is_there x (omega (arith, le, both.0)) both.1)
        ]),
      );
    }

  module _ (texts : AreLogTexts files) where
    up_to : (n : ℕ) → (c : List Placed) × IsUpTo files n c
    up_to zero = ([], record { order = tt; exact = λ x. ((λ has. absurd (no_member x has)), (λ both. absurd (omega (arith, both.0)))) })
    up_to (suc n) =
        let before = up_to n in
        elim (some_or_none (bytes_of files n)) as (λ _. (c : List Placed) × IsUpTo files (suc n) c) [
          | inl none ↦ (before.0, none_more n before.0 before.1 none)
          | inr some ↦ (let log = texts n some in (before.0 ++ placed_behind n 0 log.0, one_more n before.0 before.1 log.0 log.1 log.2))
        ]

pub texts_have_one : TextsHaveAChronicle
texts_have_one files texts =
    let all = up_to files texts (above (keys files)) in (
      all.0,
      record {
        order = all.1.order;
        exact = λ x. ((λ has. ((all.1.exact x).0 has).1), (λ s. (all.1.exact x).1 (is_below files x.file (s.log.0, s.log.1), s)));
      },
    )

-- ---- the files of a sound store

are_texts : (files : Files) → IsFit files → AreOldTexts files → AreLogTexts files
are_texts files fit olds n (bytes, is) =
    elim (one_of_both (content files (log_name n)) (content files (old_name n)) bytes is) as (λ _. (entries : List Entry) × (ended : Option ℕ) × HasLog files n entries ended) [
      | inl log ↦ (let f = fit.logs (log_name n) bytes (inl refl) log in (f.0, f.1.ended, (f.1.bytes, some_or (content files (log_name n)) (content files (old_name n)) f.1.bytes f.1.there, f.1.text)))
      | inr old ↦ (let t = olds n bytes old in (t.0, t.1, (bytes, is, t.2)))
    ]

pub fit_have_one : FitFilesHaveAChronicle
fit_have_one files fit olds = texts_have_one files (are_texts files fit olds)
