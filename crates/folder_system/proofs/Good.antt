-- What the adapter keeps from call to call.
use Rattle.std.proofs.Common.{◌≡◌, ◌≢◌, inl, inr, ℕ, List, Some, None, Result, Ok, Err, OnOk, sym, ap, subst, ◌∙◌}
use Rattle.std.specs.FinMap.{get, remove}
use Rattle.log_model.specs.declared.name.Name.{Name}
use Rattle.folder_system.specs.System.{Folder, Bytes, SystemView, IsImage, IsTrueSystem}
use Rattle.folder_system.specs.Calls as sys
use Rattle.folder_system.specs.View.{MayLead, IsGone, IsGood, Keeps}
use Rattle.folder_system.proofs.Folders.{name_cases, insert_here, insert_other, remove_here, remove_other, one_inode, not_none}
use Rattle.folder_system.proofs.Watched.{Calm, Watched, watched_calm, watched_tick, calm_then, calm_none}
use Rattle.folder_system.proofs.Begun.{Begun, image_cases}
use Rattle.folder_system.proofs.Remove.{led_before}

-- the names lead where they led, in fewer images
module _ (old new : SystemView) (folder : new.folder ≡ old.folder) (sure : sys.NoneNewlyDoubtful old new)
    (lead : (m : Name) (i : ℕ) → MayLead new m i → MayLead old m i)
    (names : (D : Folder) (B : Bytes) → IsImage new D B → (C : Bytes) × IsImage old D C) where
  at : (m : Name) (i : ℕ) → get new.folder m ≡ Some i → get old.folder m ≡ Some i
  at m i is = ap (λ (D : Folder). get D m) (sym folder) ∙ is

  pub keeps_names : Keeps old new
  keeps_names = record {
    sure = λ good m i is doubt. good m i (at m i is) (sure i doubt);
    plain = λ good m i j a b. good m i j (lead m i a) (lead m j b);
    pinned = λ pinned. record {
      there = λ D B m i image is. let c = names D B image in pinned.there D c.0 m i c.1 (at m i is);
      alone = λ m n i l is. ap (λ (D : Folder). get D n) folder ∙ pinned.alone m n i (lead n i l) (at m i is);
    };
  }

pub keeps_watched : (old new : SystemView) → Watched old new → sys.NoneNewlyDoubtful old new → Keeps old new
keeps_watched old new w sure = keeps_names old new w.folder sure
    (λ m i l. record { folder = l.folder; bytes = l.bytes; image = w.shrinks l.folder l.bytes l.image; leads = l.leads })
    (λ D B image. (B, w.shrinks D B image))

-- calls that only looked
pub keeps_still : (old new : SystemView) → Calm old new → sys.NoneNewlyDoubtful old new → Keeps old new
keeps_still old new calm sure = keeps_watched old new (watched_calm old new calm) sure

-- looks, with a tick after them
pub keeps_look : (old mid new : SystemView) → IsTrueSystem old → sys.Looks old mid → sys.Ticks mid new → Keeps old new
keeps_look old mid new fair look tick =
    keeps_watched old new (watched_tick old mid new fair (calm_then old old mid fair (calm_none old) (λ j doubt. doubt) look.observes) tick)
    (λ j doubt. look.sure j (tick.doubtful j doubt))

-- a good write
pub keeps_write : (i at : ℕ) (bytes : List ℕ) {T E : Type 0} (result : Result T E) (old mid new : SystemView) → IsTrueSystem old → Begun old mid
    → sys.Writes i at bytes result mid new → sys.NoneNewlyDoubtful mid new → Keeps old new
keeps_write i at bytes result old mid new fair b w certain =
    let was : (D : Folder) (B : Bytes) → IsImage new D B → (C : Bytes) × IsImage old D C = λ D B image.
    elim (image_cases old mid new fair b w.within D B image) as (λ _. (C : Bytes) × IsImage old D C) [
      | inl early ↦ (B, fair.within D B (b.begins D B early))
      | inr after ↦ let s = w.now D B after in (s.0, fair.within D s.0 (b.now D s.0 s.1))
    ] in
    keeps_names old new (w.folder ∙ b.folder) (λ j doubt. b.sure j (certain j doubt))
    (λ m j l. let s = was l.folder l.bytes l.image in record { folder = l.folder; bytes = s.0; image = s.1; leads = l.leads })
    was

-- a good create
pub good_created : (name : Name) (i : ℕ) (old mid new : SystemView) → IsTrueSystem old → IsTrueSystem mid → Begun old mid → get old.folder name ≡ None → ¬ IsGone old name
    → sys.Made name i mid new → IsGood old → IsGood new
good_created name i old mid new fair fair_mid b absent not_gone made good =
    let none_led : (D : Folder) (B : Bytes) (j : ℕ) → old.now D B → get D name ≢ Some j = λ D B j now to_j.
    not_gone (absent, (j, record { folder = D; bytes = B; image = fair.within D B now; leads = to_j })) in
    let here : get new.folder name ≡ Some i = ap (λ (D : Folder). get D name) made.folder ∙ insert_here mid.folder name i in
    let elsewhere : (m : Name) → m ≢ name → get new.folder m ≡ get old.folder m = λ m other.
    ap (λ (D : Folder). get D m) made.folder ∙ insert_other mid.folder name m i other ∙ ap (λ (D : Folder). get D m) b.folder in
    let lead_was : (m : Name) (j : ℕ) → m ≢ name → MayLead new m j → MayLead old m j = λ m j other lead.
    elim (image_cases old mid new fair b made.within lead.folder lead.bytes lead.image) as (λ _. MayLead old m j) [
      | inl early ↦ record { folder = lead.folder; bytes = lead.bytes; image = fair.within lead.folder lead.bytes (b.begins lead.folder lead.bytes early); leads = lead.leads }
      | inr after ↦
          let s = made.now lead.folder lead.bytes after in
          record {
            folder = s.0;
            bytes = s.1;
            image = fair.within s.0 s.1 (b.now s.0 s.1 s.2);
            leads = elim s.4 as (λ _. get s.0 m ≡ Some j) [
              | inl not_done ↦ ap (λ (D : Folder). get D m) (sym not_done) ∙ lead.leads
              | inr done ↦ sym (ap (λ (D : Folder). get D m) done.0 ∙ insert_other s.0 name m i other) ∙ lead.leads
            ];
          }
    ] in
    let lead_here : (j : ℕ) → MayLead new name j → j ≡ i = λ j lead.
    elim (image_cases old mid new fair b made.within lead.folder lead.bytes lead.image) as (λ _. j ≡ i) [
      | inl early ↦ absurd (none_led lead.folder lead.bytes j (b.begins lead.folder lead.bytes early) lead.leads)
      | inr after ↦
          let s = made.now lead.folder lead.bytes after in
          elim s.4 as (λ _. j ≡ i) [
            | inl not_done ↦ absurd (none_led s.0 s.1 j (b.now s.0 s.1 s.2) (ap (λ (D : Folder). get D name) (sym not_done) ∙ lead.leads))
            | inr done ↦ one_inode (get lead.folder name) j i lead.leads (ap (λ (D : Folder). get D name) done.0 ∙ insert_here s.0 name i)
          ]
    ] in
    record {
      sure = λ m j is doubt. elim (name_cases m name) as (λ _. ⊥) [
        | inl same ↦ made.certain (subst (λ (k : ℕ). new.doubtful k) (one_inode (get new.folder name) j i (ap (λ (k : Name). get new.folder k) (sym same) ∙ is) here) doubt)
        | inr other ↦
            let was : get old.folder m ≡ Some j = sym (elsewhere m other) ∙ is in
            let apart : j ≢ i = λ e. made.fresh mid.folder mid.bytes m (fair_mid.within mid.folder mid.bytes fair_mid.reads) (ap (λ (D : Folder). get D m) b.folder ∙ was ∙ ap (λ (k : ℕ). Some k) e) in
            good.sure m j was (b.sure j (made.sure j apart doubt))
      ];
      plain = λ m j k a c. elim (name_cases m name) as (λ _. j ≡ k) [
        | inl same ↦ lead_here j (subst (λ (n : Name). MayLead new n j) same a) ∙ sym (lead_here k (subst (λ (n : Name). MayLead new n k) same c))
        | inr other ↦ good.plain m j k (lead_was m j other a) (lead_was m k other c)
      ];
    }

-- a good rename
pub good_moved : (from to : Name) (i : ℕ) (old mid new : SystemView) → IsTrueSystem old → Begun old mid → get old.folder to ≡ None → ¬ IsGone old to
    → sys.Moved i from to mid new → IsGood old → IsGood new
good_moved from to i old mid new fair b absent not_gone moved good =
    let none_led : (D : Folder) (B : Bytes) (j : ℕ) → old.now D B → get D to ≢ Some j = λ D B j now to_j.
    not_gone (absent, (j, record { folder = D; bytes = B; image = fair.within D B now; leads = to_j })) in
    let was_from : get old.folder from ≡ Some i = ap (λ (D : Folder). get D from) (sym b.folder) ∙ moved.was in
    let at_to : get new.folder to ≡ Some i = ap (λ (D : Folder). get D to) moved.folder ∙ insert_here (remove mid.folder from) to i in
    let apart : from ≢ to = λ same. not_none (get old.folder to) i absent (ap (λ (k : Name). get old.folder k) (sym same) ∙ was_from) in
    let at_from : get new.folder from ≡ None =
    ap (λ (D : Folder). get D from) moved.folder ∙ insert_other (remove mid.folder from) to from i apart ∙ remove_here mid.folder from in
    let elsewhere : (m : Name) → m ≢ from → m ≢ to → get new.folder m ≡ get old.folder m = λ m not_from not_to.
    ap (λ (D : Folder). get D m) moved.folder ∙ insert_other (remove mid.folder from) to m i not_to ∙ remove_other mid.folder from m not_from ∙ ap (λ (D : Folder). get D m) b.folder in
    let lead_was : (m : Name) (j : ℕ) → m ≢ to → MayLead new m j → MayLead old m j = λ m j not_to lead.
    elim (image_cases old mid new fair b moved.within lead.folder lead.bytes lead.image) as (λ _. MayLead old m j) [
      | inl early ↦ record { folder = lead.folder; bytes = lead.bytes; image = fair.within lead.folder lead.bytes (b.begins lead.folder lead.bytes early); leads = lead.leads }
      | inr after ↦
          let s = moved.now lead.folder lead.bytes after in
          record {
            folder = s.0;
            bytes = lead.bytes;
            image = fair.within s.0 lead.bytes (b.now s.0 lead.bytes s.1);
            leads = elim s.2 as (λ _. get s.0 m ≡ Some j) [
              | inl not_done ↦ ap (λ (D : Folder). get D m) (sym not_done) ∙ lead.leads
              | inr done ↦
                  let there : get (remove s.0 done.0) m ≡ Some j = sym (ap (λ (D : Folder). get D m) done.2 ∙ insert_other (remove s.0 done.0) to m i not_to) ∙ lead.leads in
                  elim (name_cases m done.0) as (λ _. get s.0 m ≡ Some j) [
                    | inl same ↦ not_none (get (remove s.0 done.0) m) j (ap (λ (k : Name). get (remove s.0 done.0) k) same ∙ remove_here s.0 done.0) there
                    | inr other ↦ sym (remove_other s.0 done.0 m other) ∙ there
                  ]
            ];
          }
    ] in
    let lead_here : (j : ℕ) → MayLead new to j → j ≡ i = λ j lead.
    elim (image_cases old mid new fair b moved.within lead.folder lead.bytes lead.image) as (λ _. j ≡ i) [
      | inl early ↦ absurd (none_led lead.folder lead.bytes j (b.begins lead.folder lead.bytes early) lead.leads)
      | inr after ↦
          let s = moved.now lead.folder lead.bytes after in
          elim s.2 as (λ _. j ≡ i) [
            | inl not_done ↦ absurd (none_led s.0 lead.bytes j (b.now s.0 lead.bytes s.1) (ap (λ (D : Folder). get D to) (sym not_done) ∙ lead.leads))
            | inr done ↦ one_inode (get lead.folder to) j i lead.leads (ap (λ (D : Folder). get D to) done.2 ∙ insert_here (remove s.0 done.0) to i)
          ]
    ] in
    record {
      sure = λ m j is doubt. elim (name_cases m to) as (λ _. ⊥) [
        | inl same ↦
            let one : j ≡ i = one_inode (get new.folder to) j i (ap (λ (k : Name). get new.folder k) (sym same) ∙ is) at_to in
            good.sure from i was_from (b.sure i (moved.sure i (subst (λ (k : ℕ). new.doubtful k) one doubt)))
        | inr not_to ↦
            let not_from : m ≢ from = λ same. not_none (get new.folder from) j at_from (ap (λ (k : Name). get new.folder k) (sym same) ∙ is) in
            good.sure m j (sym (elsewhere m not_from not_to) ∙ is) (b.sure j (moved.sure j doubt))
      ];
      plain = λ m j k a c. elim (name_cases m to) as (λ _. j ≡ k) [
        | inl same ↦ lead_here j (subst (λ (n : Name). MayLead new n j) same a) ∙ sym (lead_here k (subst (λ (n : Name). MayLead new n k) same c))
        | inr other ↦ good.plain m j k (lead_was m j other a) (lead_was m k other c)
      ];
    }

-- a good removal: names that were durable stay so
pub keeps_unlinked : (name : Name) (i : ℕ) (old mid new : SystemView) → IsTrueSystem old → Begun old mid → sys.Unlinked i name mid new → Keeps old new
keeps_unlinked name i old mid new fair b gone =
    let was_i : get old.folder name ≡ Some i = ap (λ (D : Folder). get D name) (sym b.folder) ∙ gone.was in
    let here : get new.folder name ≡ None = ap (λ (D : Folder). get D name) gone.folder ∙ remove_here mid.folder name in
    let before : (m : Name) (j : ℕ) → get new.folder m ≡ Some j → (m ≢ name) × (get old.folder m ≡ Some j) = λ m j is.
    let other : m ≢ name = λ same. not_none (get new.folder name) j here (ap (λ (k : Name). get new.folder k) (sym same) ∙ is) in
    (other, sym (ap (λ (D : Folder). get D m) gone.folder ∙ remove_other mid.folder name m other ∙ ap (λ (D : Folder). get D m) b.folder) ∙ is) in
    let lead_was : (m : Name) (j : ℕ) → MayLead new m j → MayLead old m j = λ m j lead.
    elim (image_cases old mid new fair b gone.within lead.folder lead.bytes lead.image) as (λ _. MayLead old m j) [
      | inl early ↦ record { folder = lead.folder; bytes = lead.bytes; image = fair.within lead.folder lead.bytes (b.begins lead.folder lead.bytes early); leads = lead.leads }
      | inr after ↦
          let s = gone.now lead.folder lead.bytes after in
          record {
            folder = s.0;
            bytes = lead.bytes;
            image = fair.within s.0 lead.bytes (b.now s.0 lead.bytes s.1);
            leads = elim s.2 as (λ _. get s.0 m ≡ Some j) [
              | inl not_done ↦ ap (λ (D : Folder). get D m) (sym not_done) ∙ lead.leads
              | inr done ↦ led_before i s.0 lead.folder m j done lead.leads
            ];
          }
    ] in
    record {
      sure = λ good m j is doubt. good m j (before m j is).1 (b.sure j (gone.sure j doubt));
      plain = λ good m j k a c. good m j k (lead_was m j a) (lead_was m k c);
      pinned = λ pinned. record {
        there = λ D B m j image is.
            let was = before m j is in
            elim (image_cases old mid new fair b gone.within D B image) as (λ _. get D m ≡ Some j) [
              | inl early ↦ pinned.there D B m j (fair.within D B (b.begins D B early)) was.1
              | inr after ↦
                  let s = gone.now D B after in
                  let there : get s.0 m ≡ Some j = pinned.there s.0 B m j (fair.within s.0 B (b.now s.0 B s.1)) was.1 in
                  elim s.2 as (λ _. get D m ≡ Some j) [
                    | inl not_done ↦ ap (λ (E : Folder). get E m) not_done ∙ there
                    | inr done ↦
                        let apart : get s.0 m ≢ Some i = λ to_i. was.0 (fair.single m name i (was.1 ∙ ap (λ (k : ℕ). Some k) (one_inode (get s.0 m) j i there to_i)) was_i) in
                        done.others m apart ∙ there
                  ]
            ];
        alone = λ m n j l is.
            let same : n ≡ m = fair.single n m j (pinned.alone m n j (lead_was n j l) (before m j is).1) (before m j is).1 in
            ap (λ (k : Name). get new.folder k) same ∙ is;
      };
    }

-- calls that only looked, some of which pinned, with a tick after them
pub keeps_calm : (old mid new : SystemView) → IsTrueSystem old → Calm old mid → sys.NoneNewlyDoubtful old mid → sys.Ticks mid new → Keeps old new
keeps_calm old mid new fair calm sure tick = keeps_watched old new (watched_tick old mid new fair calm tick) (λ j doubt. sure j (tick.doubtful j doubt))

pub good_rename : {T E : Type 0} (from to : Name) (result : Result T E) (old mid new : SystemView) → IsTrueSystem old → Begun old mid
    → get old.folder to ≡ None → ¬ IsGone old to → sys.Renames from to result mid new → OnOk result (IsGood old → IsGood new)
good_rename from to (Ok x) old mid new fair b absent not_gone r = good_moved from to r.moved.0 old mid new fair b absent not_gone r.moved.1
good_rename from to (Err e) old mid new fair b absent not_gone r = tt

pub keeps_remove : {T E : Type 0} (name : Name) (result : Result T E) (old mid new : SystemView) → IsTrueSystem old → Begun old mid
    → sys.Unlinks name result mid new → OnOk result (Keeps old new)
keeps_remove name (Ok x) old mid new fair b r = keeps_unlinked name r.unlinked.0 old mid new fair b r.unlinked.1
keeps_remove name (Err e) old mid new fair b r = tt

pub keeps_writes : (i at : ℕ) (bytes : List ℕ) {T E : Type 0} (result : Result T E) (old mid new : SystemView) → IsTrueSystem old → Begun old mid
    → sys.Writes i at bytes result mid new → OnOk result (Keeps old new)
keeps_writes i at bytes (Ok x) old mid new fair b w = keeps_write i at bytes (Ok x) old mid new fair b w w.certain
keeps_writes i at bytes (Err e) old mid new fair b w = tt
