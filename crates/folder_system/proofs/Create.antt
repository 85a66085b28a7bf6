-- A file is made.
use Rattle.std.proofs.Common.{◌≡◌, ◌≢◌, ◌⊎◌, inl, inr, ℕ, List, [], Some, None, Result, Err, OnOk, refl, sym, ap, subst, ◌∙◌}
use Rattle.std.specs.FinMap.{get, insert}
use Rattle.log_model.specs.declared.name.Name.{Name}
use Rattle.log_model.specs.Files.{content, Reads, SameBut}
use Rattle.disk_images.specs.Crash.{Follows}
use Rattle.disk_images.specs.Calls.{CreatedIn, Creates}
use Rattle.std.proofs.lemmas.Result.{on_ok_weaker}
use Rattle.folder_system.specs.System.{Folder, Bytes, SystemView, IsTrueSystem}
use Rattle.folder_system.specs.Calls as sys
use Rattle.folder_system.specs.View.{files_of, disk_view, IsSure, MayLead, IsGone, IsFormerly}
use Rattle.folder_system.specs.Laws.{file_in, not_in}
use Rattle.folder_system.proofs.Folders.{name_cases, insert_here, insert_other, same_content, one_inode, not_none, always_ok}
use Rattle.folder_system.proofs.Begun.{Begun, begun_look, begun_time, change_time, image_cases, follows}

module _ (name : Name) (i : ℕ) (old mid new : SystemView) (fair : IsTrueSystem old) (fair_mid : IsTrueSystem mid) (sure : IsSure old)
    (b : Begun old mid) (made : sys.Made name i mid new) where
  -- the name leads to the new inode, each other where it led
  here : get new.folder name ≡ Some i
  here = ap (λ (D : Folder). get D name) made.folder ∙ insert_here mid.folder name i

  elsewhere : (m : Name) → m ≢ name → get new.folder m ≡ get old.folder m
  elsewhere m other = ap (λ (D : Folder). get D m) made.folder ∙ insert_other mid.folder name m i other ∙ ap (λ (D : Folder). get D m) b.folder

  not_old : (m : Name) → get old.folder m ≢ Some i
  not_old m is = made.fresh mid.folder mid.bytes m (fair_mid.within mid.folder mid.bytes fair_mid.reads) (ap (λ (D : Folder). get D m) b.folder ∙ is)

  other_inode : (m : Name) (j : ℕ) → get old.folder m ≡ Some j → j ≢ i
  other_inode m j is same = not_old m (is ∙ ap (λ (k : ℕ). Some k) same)

  pub reads_empty : Reads (files_of new.folder new.bytes) name []
  reads_empty = file_in new.folder new.bytes name i here ∙ ap (λ (c : List ℕ). Some c) made.empty

  pub create_others : SameBut name (files_of old.folder old.bytes) (files_of new.folder new.bytes)
  create_others m other = same_content new.folder old.folder new.bytes old.bytes m (elsewhere m other)
      (λ j is. made.bytes j (other_inode m j is) (λ doubt. sure m j is (b.sure j doubt)) ∙ b.bytes j (sure m j is))

  -- in an image after the call each other name leads where one of before has it
  lead_was : (m : Name) (j : ℕ) → m ≢ name → MayLead new m j → MayLead old m j
  lead_was m j other lead = elim (image_cases old mid new fair b made.within lead.folder lead.bytes lead.image) as (λ _. MayLead old m j) [
    | inl before ↦ record { folder = lead.folder; bytes = lead.bytes; image = fair.within lead.folder lead.bytes (b.begins lead.folder lead.bytes before); leads = lead.leads }
    | inr after ↦
        let s = made.now lead.folder lead.bytes after in
        record {
          folder = s.0;
          bytes = s.1;
          image = fair.within s.0 s.1 (b.now s.0 s.1 s.2);
          leads = elim s.4 as (λ _. get s.0 m ≡ Some j) [
            | inl not_done ↦ ap (λ (D : Folder). get D m) (sym not_done) ∙ lead.leads
            | inr done ↦ sym (ap (λ (D : Folder). get D m) done.0 ∙ insert_other s.0 name m i other) ∙ lead.leads
          ];
        }
  ]

  pub create_gone : (m : Name) → IsGone new m → IsGone old m
  create_gone m gone =
      let other : m ≢ name = λ same. not_none (get new.folder name) i (ap (λ (k : Name). get new.folder k) (sym same) ∙ gone.0) here in
      (sym (elsewhere m other) ∙ gone.0, (gone.1.0, lead_was m gone.1.0 other gone.1.1))

  -- no image of before has the new inode
  not_led : (m : Name) → m ≢ name → MayLead new m i → ⊥
  not_led m other lead = elim (image_cases old mid new fair b made.within lead.folder lead.bytes lead.image) as (λ _. ⊥) [
    | inl before ↦ made.fresh lead.folder lead.bytes m before lead.leads
    | inr after ↦
        let s = made.now lead.folder lead.bytes after in
        made.fresh s.0 s.1 m (fair_mid.within s.0 s.1 s.2) (elim s.4 as (λ _. get s.0 m ≡ Some i) [
          | inl not_done ↦ ap (λ (D : Folder). get D m) (sym not_done) ∙ lead.leads
          | inr done ↦ sym (ap (λ (D : Folder). get D m) done.0 ∙ insert_other s.0 name m i other) ∙ lead.leads
        ])
  ]

  pub create_formerly : (n m : Name) → IsFormerly new n m → IsFormerly old n m
  create_formerly n m former =
      let other : m ≢ name = λ same. not_none (get new.folder name) i (ap (λ (k : Name). get new.folder k) (sym same) ∙ former.2) here in
      elim (name_cases n name) as (λ _. IsFormerly old n m) [
        | inl same ↦
            let new_one : former.0 ≡ i = one_inode (get new.folder name) former.0 i (ap (λ (k : Name). get new.folder k) (sym same) ∙ former.1) here in
            absurd (not_led m other (subst (λ (j : ℕ). MayLead new m j) new_one former.3))
        | inr apart ↦ (former.0, sym (elsewhere n apart) ∙ former.1, sym (elsewhere m other) ∙ former.2, lead_was m former.0 other former.3)
      ]

  step_of : (D : Folder) (B : Bytes) (E : Folder) (C : Bytes) → mid.now E C → ((j : ℕ) → j ≢ i → B j ≡ C j) → (D ≡ E) ⊎ ((D ≡ insert E name i) × (B i ≡ []))
      → CreatedIn name (files_of E C) (files_of D B)
  step_of D B E C was same (inl not_done) =
      let each : (m : Name) → content (files_of D B) m ≡ content (files_of E C) m = λ m.
      same_content D E B C m (ap (λ (F : Folder). get F m) not_done) (λ j is. same j (λ e. made.fresh E C m (fair_mid.within E C was) (is ∙ ap (λ (k : ℕ). Some k) e))) in
      record { elsewhere = λ m other. each m; here = inl (each name) }
  step_of D B E C was same (inr done) = record {
    elsewhere = λ m other. same_content D E B C m (ap (λ (F : Folder). get F m) done.0 ∙ insert_other E name m i other)
        (λ j is. same j (λ e. made.fresh E C m (fair_mid.within E C was) (is ∙ ap (λ (k : ℕ). Some k) e)));
    here = inr (file_in D B name i (ap (λ (F : Folder). get F name) done.0 ∙ insert_here E name i) ∙ ap (λ (c : List ℕ). Some c) done.1);
  }

  pub create_crash : Follows (CreatedIn name) (disk_view old) (disk_view new)
  create_crash = follows old mid new fair b made.within (CreatedIn name) (λ J. record { elsewhere = λ m other. refl; here = inl refl }) (λ D B after.
      let s = made.now D B after in
      (s.0, s.1, b.now s.0 s.1 s.2, step_of D B s.0 s.1 s.2 s.3 s.4))

-- no file was made
pub none_created : {T E : Type 0} (name : Name) (result : Result T E) (old mid : SystemView) → IsTrueSystem old → IsSure old → Begun old mid
    → get old.folder name ≡ None → OnOk result ⊥ → Creates name result (disk_view old) (disk_view mid)
none_created name result old mid fair sure b absent failed =
    let names : (m : Name) → get mid.folder m ≡ get old.folder m = λ m. ap (λ (D : Folder). get D m) b.folder in
    let same : (m : Name) → content (files_of mid.folder mid.bytes) m ≡ content (files_of old.folder old.bytes) m = λ m.
    same_content mid.folder old.folder mid.bytes old.bytes m (names m) (λ j to. b.bytes j (sure m j to)) in
    let lead : (m : Name) (j : ℕ) → MayLead mid m j → MayLead old m j = λ m j l.
    record { folder = l.folder; bytes = l.bytes; image = fair.within l.folder l.bytes (b.begins l.folder l.bytes l.image); leads = l.leads } in
    record {
      created = on_ok_weaker result (λ no. absurd no) failed;
      either = inl (not_in mid.folder mid.bytes name (names name ∙ absent));
      others = λ m other. same m;
      gone = λ m gone. (sym (names m) ∙ gone.0, (gone.1.0, lead m gone.1.0 gone.1.1));
      formerly = λ n m former. (former.0, sym (names n) ∙ former.1, sym (names m) ∙ former.2, lead m former.0 former.3);
      crash = λ J image. (
        J,
        (image.0, image.1, fair.within image.0 image.1 (b.begins image.0 image.1 image.2), image.3),
        record { elsewhere = λ m other. refl; here = inl refl },
      );
      time = begun_time old mid b;
    }

pub creating : {T E : Type 0} (name : Name) (result : Result T E) (i : ℕ) (old mid new : SystemView) → IsTrueSystem old → IsTrueSystem mid → IsSure old → Begun old mid
    → sys.Made name i mid new → Creates name result (disk_view old) (disk_view new)
creating name result i old mid new fair fair_mid sure b made =
    let empty = reads_empty name i old mid new fair fair_mid sure b made in
    record {
      created = always_ok result empty;
      either = inr empty;
      others = create_others name i old mid new fair fair_mid sure b made;
      gone = create_gone name i old mid new fair fair_mid sure b made;
      formerly = create_formerly name i old mid new fair fair_mid sure b made;
      crash = create_crash name i old mid new fair fair_mid sure b made;
      time = change_time old mid new fair b made.within;
    }

pub create_failed : {T E : Type 0} (name : Name) (e : E) (old mid new : SystemView) → IsTrueSystem old → IsTrueSystem mid → IsSure old → Begun old mid
    → get old.folder name ≡ None → sys.Looks mid new ⊎ ((i : ℕ) × sys.Made name i mid new) → Creates {T = T} name (Err e) (disk_view old) (disk_view new)
create_failed {T} name e old mid new fair fair_mid sure b absent failed = elim failed as (λ _. Creates {T = T} name (Err e) (disk_view old) (disk_view new)) [
  | inl look ↦ none_created name (Err e) old new fair sure (begun_look old mid new b look) absent tt
  | inr made ↦ creating name (Err e) made.0 old mid new fair fair_mid sure b made.1
]
