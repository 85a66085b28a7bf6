-- Each call takes files that a crash may leave to such files, whether it is done, undone or torn.
use Rattle.std.proofs.Common.{◌≡◌, ◌≢◌, ◌⊎◌, inl, inr, ℕ, ◌+◌, ◌≤◌, ◌-◌, List, [], ◌∷◌, length, Option, Some, None, is_some, drop, refl, sym, ◌∙◌, ap, subst, arith}
use Rattle.std.proofs.lemmas.Bool.{cases_lt}
use Rattle.std.proofs.lemmas.List.{drop-drop}
use Rattle.std.specs.FinMap as map
use Rattle.log_model.specs.declared.name.Name.{Name}
use Rattle.log_model.specs.Files.{Files, content, IsAbsent, Reads, SameBut, IsName}
use Rattle.disk_images.specs.Crash.{DiskView, overwritten, Torn, TornFile}
use Rattle.disk_images.specs.Calls.{IsTrueDisk}
use Rattle.disk_fakes.specs.declared.op.Op.{Op}
use Rattle.disk_fakes.specs.declared.op.Op.TheVariants.{Create, Sync, Rename, Remove, Settle}
use Rattle.disk_fakes.specs.History.{written, renamed, step, IsThere}
use Rattle.disk_fakes.specs.Candidate.{IsPinned, IsSettled, IsCandidate, WritesWithin}
use Rattle.disk_fakes.specs.Order.{name_cases, insert_here, insert_other, remove_here, remove_other}
use Rattle.disk_fakes.specs.Laws.{not_both, there_still, torn_over, torn_not, former_absent, former_other}

-- the file that is there after a put under a name that was free
in_files : (files J : Files) (name m : Name) (c : List ℕ) → Reads J name c → m ≡ name → content J m ≡ content (map.insert files name c) m
in_files files J name m c reads same = ap (content J) same ∙ reads ∙ sym (insert_here files name c) ∙ ap (content (map.insert files name c)) (sym same)

there_put : (J K : Files) (name m : Name) → SameBut name J K → IsThere K m → (m ≡ name) ⊎ IsThere J m
there_put J K name m others there = elim (name_cases m name) as (λ _. (m ≡ name) ⊎ IsThere J m) [
  | inl same ↦ inl same
  | inr other ↦ inr (ap is_some (sym (others m other)) ∙ there)
]

torn_more : (at k n : ℕ) (c d : List ℕ) → k ≤ n → Torn at k c d → Torn at n c d
torn_more at k n c d le torn =
    let sum : at + n ≡ (at + k) + (n - k) = omega (arith, le) in
    let later : (l : List ℕ) → drop (at + n) l ≡ drop (n - k) (drop (at + k) l) = λ l. ap (λ (m : ℕ). drop m l) sum ∙ sym (drop-drop (n - k) (at + k) l) in
    record {
      before = torn.before;
      after = later d ∙ ap (drop (n - k)) torn.after ∙ sym (later c);
      no_shorter = torn.no_shorter;
      no_longer = omega (arith, torn.no_longer, le);
    }

torn_some : (at n : ℕ) (old new : Option (List ℕ)) → TornFile at n old new → is_some new ≡ is_some old
torn_some at n None new torn = ap is_some torn
torn_some at n (Some c) new torn = ap is_some torn.1

-- a part of a write, where the file reaches so far
pub within_torn : (name : Name) (at n : ℕ) (piece : List ℕ) (old new : Files) → length piece ≤ n → WritesWithin name at piece old new → (o : Option (List ℕ)) → content old name ≡ o → TornFile at n o (content new name)
within_torn name at n piece old new le wrote None was = wrote.absent was
within_torn name at n piece old new le wrote (Some c) was = elim (cases_lt (length c) at) as (λ _. TornFile at n (Some c) (content new name)) [
  | inl short ↦ subst (TornFile at n (Some c)) (sym (wrote.short c was short)) (torn_not at n (Some c))
  | inr reaches ↦ (overwritten c at piece, wrote.written c was reaches, torn_more at (length piece) n c (overwritten c at piece) le (torn_over at c piece reaches))
]

module _ (v : DiskView) (fair : IsTrueDisk v) (rest : List Op) (J : Files) where
  -- a file that is there has no former name that is free
  no_former : (n m : Name) → ¬ v.gone m → ¬ v.formerly n m
  no_former n m not_gone former = not_gone (fair.former_gone n m former)

  module _ (name : Name) (free : IsAbsent v.files name) (not_gone : ¬ v.gone name) (is_name : IsName name) (was : IsCandidate v (Create name ∷ rest) J) where
    pub create_done : (K : Files) → Reads K name [] → SameBut name J K → IsCandidate (step v (Create name)) rest K
    create_done K reads others = record {
      now = inr (refl, (J, was.now, record { elsewhere = others; here = inr reads }));
      pinned = λ n there pin. elim (name_cases n name) as (λ _. (content K n ≡ content (map.insert v.files name []) n) × ((m : Name) → v.formerly n m → IsAbsent K m)) [
        | inl same ↦ (in_files v.files K name n [] reads same, λ m former. not_both (content v.files n) (fair.former_there n m former) (ap (content v.files) same ∙ free))
        | inr other ↦
            let old = was.pinned n (ap is_some (sym (insert_other v.files name n [] other)) ∙ there) (inr pin) in
            (others n other ∙ old.0 ∙ sym (insert_other v.files name n [] other), λ m former. others m (λ same. no_former n name not_gone (subst (v.formerly n) same former)) ∙ old.1 m former)
      ];
      settled = λ settled m. elim (name_cases m name) as (λ _. is_some (content K m) ≡ is_some (content (map.insert v.files name []) m)) [
        | inl same ↦ ap is_some (in_files v.files K name m [] reads same)
        | inr other ↦ ap is_some (others m other) ∙ was.settled (inr settled) m ∙ sym (ap is_some (insert_other v.files name m [] other))
      ];
      named = λ m there. elim (there_put J K name m others there) as (λ _. IsName m) [ inl same ↦ subst IsName (sym same) is_name | inr old ↦ was.named m old ];
    }

    pub create_lost : ¬ IsPinned rest name → ¬ IsSettled rest → IsCandidate (step v (Create name)) rest J
    create_lost not_pinned not_settled = record {
      now = inr (refl, (J, was.now, record { elsewhere = λ m other. refl; here = inl refl }));
      pinned = λ n there pin. elim (name_cases n name) as (λ _. (content J n ≡ content (map.insert v.files name []) n) × ((m : Name) → v.formerly n m → IsAbsent J m)) [
        | inl same ↦ absurd (not_pinned (subst (IsPinned rest) same pin))
        | inr other ↦
            let old = was.pinned n (ap is_some (sym (insert_other v.files name n [] other)) ∙ there) (inr pin) in
            (old.0 ∙ sym (insert_other v.files name n [] other), old.1)
      ];
      settled = λ settled m. absurd (not_settled settled);
      named = was.named;
    }

  module _ (name : Name) (at : ℕ) (bytes : List ℕ) (c : List ℕ) (there_now : Reads v.files name c) (K : Files) (others : SameBut name J K) where
    pub write_any : (op : Op) → IsCandidate v (op ∷ rest) J → TornFile at (length bytes) (content J name) (content K name) → (IsPinned rest name → Reads K name (overwritten c at bytes)) → IsCandidate (written v name at bytes (Some c)) rest K
    write_any op was torn exact =
        let there : IsThere v.files name = ap is_some there_now in
        let other_files : (n : Name) → n ≢ name → content (map.insert v.files name (overwritten c at bytes)) n ≡ content v.files n = λ n other. insert_other v.files name n (overwritten c at bytes) other in
        record {
          now = inr (
            refl,
            (
              J,
              was.now,
              record {
                elsewhere = λ m other not_former. others m other;
                here = torn;
                formerly = λ m former. subst (TornFile at (length bytes) (content J m)) (sym (others m (former_other v fair name m former))) (torn_not at (length bytes) (content J m));
              },
            ),
          );
          pinned = λ n there_new pin. elim (name_cases n name) as (λ _. (content K n ≡ content (map.insert v.files name (overwritten c at bytes)) n) × ((m : Name) → v.formerly n m → IsAbsent K m)) [
            | inl same ↦
                let pin_here = subst (IsPinned rest) same pin in (
                  in_files v.files K name n (overwritten c at bytes) (exact pin_here) same,
                  λ m former. let here = subst (λ (k : Name). v.formerly k m) same former in others m (former_other v fair name m here) ∙ (was.pinned name there (inr pin_here)).1 m here,
                )
            | inr other ↦
                let old = was.pinned n (ap is_some (sym (other_files n other)) ∙ there_new) (inr pin) in (
                  others n other ∙ old.0 ∙ sym (other_files n other),
                  λ m former. others m (λ same. not_both (content v.files m) (ap is_some (ap (content v.files) same) ∙ there) (former_absent v fair n m former)) ∙ old.1 m former,
                )
          ];
          settled = λ settled m. elim (name_cases m name) as (λ _. is_some (content K m) ≡ is_some (content (map.insert v.files name (overwritten c at bytes)) m)) [
            | inl same ↦ ap (λ (k : Name). is_some (content K k)) same ∙ torn_some at (length bytes) (content J name) (content K name) torn ∙ was.settled (inr settled) name ∙ there ∙ sym (ap is_some (ap (content (map.insert v.files name (overwritten c at bytes))) same ∙ insert_here v.files name (overwritten c at bytes)))
            | inr other ↦ ap is_some (others m other) ∙ was.settled (inr settled) m ∙ sym (ap is_some (other_files m other))
          ];
          named = λ m there_new. elim (there_put J K name m others there_new) as (λ _. IsName m) [
            | inl same ↦ fair.named m (ap is_some (ap (content v.files) same) ∙ there)
            | inr old ↦ was.named m old
          ];
        }

  pub sync_any : (name : Name) → IsThere v.files name → IsCandidate v (Sync name ∷ rest) J → IsCandidate (step v (Sync name)) rest J
  sync_any name there was =
      let here = was.pinned name there (inl refl) in
      record {
        now = inr (refl, (was.now, here.0, here.1));
        pinned = λ n there_now pin. let old = was.pinned n there_now (inr pin) in (old.0, λ m former. old.1 m former.1);
        settled = λ settled. was.settled (inr settled);
        named = was.named;
      }

  pub settle_any : IsCandidate v (Settle ∷ rest) J → IsCandidate (step v Settle) rest J
  settle_any was =
      let names = was.settled (inl tt) in
      record {
        now = inr (refl, (was.now, names));
        pinned = λ n there pin. ((was.pinned n there (inr pin)).0, λ m former. absurd former);
        settled = λ settled. names;
        named = was.named;
      }

  module _ (from to : Name) (c : List ℕ) (there_now : Reads v.files from c) (free : IsAbsent v.files to) (not_gone : ¬ v.gone to) (is_name : IsName to) (was : IsCandidate v (Rename from to ∷ rest) J) where
    pub apart : from ≢ to
    apart same = let none : content v.files from ≡ None = ap (content v.files) same ∙ free in absurd (cc (none, there_now))

    rename_text : (n : Name) → n ≢ from → n ≢ to → content (map.insert (map.remove v.files from) to c) n ≡ content v.files n
    rename_text n not_from not_to = insert_other (map.remove v.files from) to n c not_to ∙ remove_other v.files from n not_from

    left_files : content (map.insert (map.remove v.files from) to c) from ≡ None
    left_files = insert_other (map.remove v.files from) to from c apart ∙ remove_here v.files from

    -- a file other than the new one was there before, under its name
    not_from_name : (n : Name) → IsThere (map.insert (map.remove v.files from) to c) n → n ≢ from
    not_from_name n there same = not_both (content (map.insert (map.remove v.files from) to c) n) there (ap (content (map.insert (map.remove v.files from) to c)) same ∙ left_files)

    pub in_image : Reads J from c
    in_image = (was.pinned from (ap is_some there_now) (inl refl)).0 ∙ there_now

    pub rename_done : (K : Files) → Reads K to c → IsAbsent K from → ((m : Name) → m ≢ from → m ≢ to → content K m ≡ content J m) → IsCandidate (renamed v from to (Some c)) rest K
    rename_done K reads left others =
        let here = was.pinned from (ap is_some there_now) (inl refl) in
        let stays : (m : Name) → ¬ (m ≡ to) → IsAbsent J m → IsAbsent K m = λ m not_to absent. elim (name_cases m from) as (λ _. IsAbsent K m) [
          | inl same ↦ ap (content K) same ∙ left
          | inr not_from ↦ others m not_from not_to ∙ absent
        ] in
        let not_to_former : (n m : Name) → v.formerly n m → m ≢ to = λ n m former same. no_former n to not_gone (subst (v.formerly n) same former) in
        record {
          now = inr (refl, (J, was.now, inr (record { name = from; borne = inl refl; there = reads ∙ sym in_image; left = left; elsewhere = others })));
          pinned = λ n there pin. elim (name_cases n to) as (λ _. (content K n ≡ content (map.insert (map.remove v.files from) to c) n) × ((m : Name) → ((n ≢ from) × v.formerly n m) ⊎ ((n ≡ to) × ((m ≡ from) ⊎ v.formerly from m)) → IsAbsent K m)) [
            | inl same ↦ (
              in_files (map.remove v.files from) K to n c reads same,
              λ m former. elim former as (λ _. IsAbsent K m) [
                | inl old ↦ not_both (content v.files n) (fair.former_there n m old.1) (ap (content v.files) same ∙ free)
                | inr new ↦ elim new.1 as (λ _. IsAbsent K m) [
                  | inl is ↦ ap (content K) is ∙ left
                  | inr older ↦ stays m (not_to_former from m older) (here.1 m older)
                ]
              ],
            )
            | inr not_to ↦
                let not_from = not_from_name n there in
                let old = was.pinned n (ap is_some (sym (rename_text n not_from not_to)) ∙ there) (inr pin) in (
                  others n not_from not_to ∙ old.0 ∙ sym (rename_text n not_from not_to),
                  λ m former. elim former as (λ _. IsAbsent K m) [
                    | inl older ↦ stays m (not_to_former n m older.1) (old.1 m older.1)
                    | inr new ↦ absurd (not_to new.0)
                  ],
                )
          ];
          settled = λ settled m. elim (name_cases m to) as (λ _. is_some (content K m) ≡ is_some (content (map.insert (map.remove v.files from) to c) m)) [
            | inl same ↦ ap is_some (in_files (map.remove v.files from) K to m c reads same)
            | inr not_to ↦ elim (name_cases m from) as (λ _. is_some (content K m) ≡ is_some (content (map.insert (map.remove v.files from) to c) m)) [
              | inl same ↦ ap is_some (ap (content K) same ∙ left ∙ sym left_files ∙ ap (content (map.insert (map.remove v.files from) to c)) (sym same))
              | inr not_from ↦ ap is_some (others m not_from not_to) ∙ was.settled (inr settled) m ∙ sym (ap is_some (rename_text m not_from not_to))
            ]
          ];
          named = λ m there. elim (name_cases m to) as (λ _. IsName m) [
            | inl same ↦ subst IsName (sym same) is_name
            | inr not_to ↦ elim (name_cases m from) as (λ _. IsName m) [
              | inl same ↦ not_both (content K m) there (ap (content K) same ∙ left)
              | inr not_from ↦ was.named m (ap is_some (sym (others m not_from not_to)) ∙ there)
            ]
          ];
        }

    pub rename_lost : ¬ IsPinned rest to → ¬ IsSettled rest → IsCandidate (renamed v from to (Some c)) rest J
    rename_lost not_pinned not_settled = record {
      now = inr (refl, (J, was.now, inl (λ m. refl)));
      pinned = λ n there pin.
          let not_to : n ≢ to = λ same. not_pinned (subst (IsPinned rest) same pin) in
          let not_from = not_from_name n there in
          let old = was.pinned n (ap is_some (sym (rename_text n not_from not_to)) ∙ there) (inr pin) in
          (old.0 ∙ sym (rename_text n not_from not_to), λ m former. elim former as (λ _. IsAbsent J m) [ inl older ↦ old.1 m older.1 | inr new ↦ absurd (not_to new.0) ]);
      settled = λ settled m. absurd (not_settled settled);
      named = was.named;
    }

  module _ (name : Name) (there_now : IsThere v.files name) (was : IsCandidate v (Remove name ∷ rest) J) where
    not_removed : (n : Name) → IsThere (map.remove v.files name) n → n ≢ name
    not_removed n there same = not_both (content (map.remove v.files name) n) there (ap (content (map.remove v.files name)) same ∙ remove_here v.files name)

    pub remove_done : (K : Files) → IsAbsent K name → SameBut name J K → IsCandidate (step v (Remove name)) rest K
    remove_done K absent others =
        let here = was.pinned name there_now (inl refl) in
        let stays : (m : Name) → IsAbsent J m → IsAbsent K m = λ m none. elim (name_cases m name) as (λ _. IsAbsent K m) [
          | inl same ↦ ap (content K) same ∙ absent
          | inr other ↦ others m other ∙ none
        ] in
        record {
          now = inr (refl, (J, was.now, inr (record { here = absent; formerly = λ m former. stays m (here.1 m former); elsewhere = λ m other not_former. others m other })));
          pinned = λ n there pin.
              let other = not_removed n there in
              let old = was.pinned n (there_still v.files name n there) (inr pin) in
              (others n other ∙ old.0 ∙ sym (remove_other v.files name n other), λ m former. stays m (old.1 m former.1));
          settled = λ settled m. elim (name_cases m name) as (λ _. is_some (content K m) ≡ is_some (content (map.remove v.files name) m)) [
            | inl same ↦ ap is_some (ap (content K) same ∙ absent ∙ sym (remove_here v.files name) ∙ ap (content (map.remove v.files name)) (sym same))
            | inr other ↦ ap is_some (others m other) ∙ was.settled (inr settled) m ∙ sym (ap is_some (remove_other v.files name m other))
          ];
          named = λ m there. elim (there_put J K name m others there) as (λ _. IsName m) [
            | inl same ↦ not_both (content K m) there (ap (content K) same ∙ absent)
            | inr old ↦ was.named m old
          ];
        }

    pub remove_lost : ¬ IsSettled rest → IsCandidate (step v (Remove name)) rest J
    remove_lost not_settled = record {
      now = inr (refl, (J, was.now, inl (λ m. refl)));
      pinned = λ n there pin.
          let other = not_removed n there in
          let old = was.pinned n (there_still v.files name n there) (inr pin) in
          (old.0 ∙ sym (remove_other v.files name n other), λ m former. old.1 m former.1);
      settled = λ settled m. absurd (not_settled settled);
      named = was.named;
    }
